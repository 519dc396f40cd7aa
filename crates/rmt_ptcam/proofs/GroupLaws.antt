-- Rows of a parser by state.
use Rattle.std.proofs.Common.{◌≡◌, ◌≢◌, cond, eqb, Bool, true, false, ℕ, zero, suc, ◌+◌, ◌<◌, ◌≤◌, List, [], ◌∷◌, ◌++◌, get_or, length, map, find, take, Option, Some, None, refl, sym, ap, subst, ◌∙◌, append_assoc, arith, inl, inr}
use Rattle.std.specs.Prelude.{All, nat_le, slice_get, slice_set}
use Rattle.std.specs.List.{filter}
use Rattle.std.specs.List.Sorted.{IsNonDecreasingBy}
use Rattle.std.proofs.lemmas.Bool.{and_from, and_parts, cases_lt, eq-eqb, ne_eqb, eqb-true, eqb-false, le-leb, lt-leb, leb-true, leb-false}
use Rattle.std.proofs.lemmas.List.{append-nil, map-append, take_all}
use Rattle.std.proofs.lemmas.Grind.{flat_map-append}
use Rattle.std.proofs.lemmas.List.Elements.{All-append, All-nil, All-cons, All-head, All-tail, All-weaker, filter-append}
use Rattle.std.proofs.lemmas.Option.{same_Some, slice_get_within}
use Rattle.rmt_bits.proofs.AllLaws.{All-slice_get}
use Rattle.rmt_bits.proofs.ListLaws.{take-slice_get}
use Rattle.rmt_bits.proofs.AlikeLaws.{filter_all, filter_none}
use Rattle.rmt_config.specs.Order.{rises_from}
use Rattle.rmt_config.specs.Parser.{tail_of}
use Rattle.rmt_config.specs.ParserForm.{entry_is_formed}
use Rattle.rmt_config.specs.TailForm.{is_tail_of}
use Rattle.rmt_ptcam.specs.Types.{ParserConfig, ParserState, ParserEntry, TailOf}
use Rattle.rmt_ptcam.specs.declared.joining.rows.StateRows.{StateRows}
use Rattle.rmt_ptcam.specs.Adding.{Adds}
use Rattle.rmt_ptcam.specs.Grouping.{AreOwn, Stand, all_rows, by_state, groups_from, parser_in, state_in}
use Rattle.rmt_ptcam.specs.Joining.{KeepsForm, Row, numbered, parser_of, rows_from, rows_in, rows_of, tails_in}
use Rattle.rmt_ptcam.proofs.FormedRows.{IsRow, entries_of_rows, formed_parts, rows_are}
use Rattle.rmt_ptcam.proofs.JoinedKeeps.{sorted_rows}

-- ---- rows that are grouped one after another

without_own : (s : ℕ) (x : Row) (rows : List Row) (n : ℕ) (ss : List ParserState) → x.entry.state < n → groups_from (rows ++ x ∷ []) n ss ≡ groups_from rows n ss
without_own s x rows n [] lt = refl
without_own s x rows n (t ∷ ts) lt =
    let none : rows_in n (rows ++ x ∷ []) ≡ rows_in n rows =
    filter-append (λ (y : Row). eqb y.entry.state n) rows (x ∷ [])
    ∙ ap (λ (b : Bool). rows_in n rows ++ cond b (x ∷ []) []) (ne_eqb x.entry.state n (λ e. omega (arith, e, lt))) ∙ append-nil (rows_in n rows) in
    ap (λ (ys : List Row). record { lookups = t.lookups; rows = ys } ∷ groups_from (rows ++ x ∷ []) (n + 1) ts) none
    ∙ ap (λ (g : List StateRows). record { lookups = t.lookups; rows = rows_in n rows } ∷ g) (without_own s x rows (n + 1) ts (omega (arith, lt)))

-- a row that is added to those of its state
with_own : (x : Row) (rows : List Row) (n i : ℕ) (ss : List ParserState) (g : StateRows) → n + i ≡ x.entry.state → slice_get (groups_from rows n ss) i ≡ Some g
    → slice_set (groups_from rows n ss) i (record g { rows = g.rows ++ x ∷ [] }) ≡ groups_from (rows ++ x ∷ []) n ss
with_own x rows n i [] g at there = absurd cc
with_own x rows n zero (t ∷ ts) g at there =
    let same : record { lookups = t.lookups; rows = rows_in n rows } ≡ g = same_Some _ g there in
    let more : rows_in n (rows ++ x ∷ []) ≡ rows_in n rows ++ x ∷ [] =
    filter-append (λ (y : Row). eqb y.entry.state n) rows (x ∷ []) ∙ ap (λ (b : Bool). rows_in n rows ++ cond b (x ∷ []) []) (eq-eqb x.entry.state n (omega (arith, at))) in
    ap (λ (h : StateRows). record h { rows = h.rows ++ x ∷ [] } ∷ groups_from rows (n + 1) ts) (sym same)
    ∙ ap (λ (ys : List Row). record { lookups = t.lookups; rows = ys } ∷ groups_from rows (n + 1) ts) (sym more)
    ∙ ap (λ (gs : List StateRows). record { lookups = t.lookups; rows = rows_in n (rows ++ x ∷ []) } ∷ gs) (sym (without_own n x rows (n + 1) ts (omega (arith, at))))
with_own x rows n (suc i) (t ∷ ts) g at there =
    let none : rows_in n (rows ++ x ∷ []) ≡ rows_in n rows =
    filter-append (λ (y : Row). eqb y.entry.state n) rows (x ∷ [])
    ∙ ap (λ (b : Bool). rows_in n rows ++ cond b (x ∷ []) []) (ne_eqb x.entry.state n (λ e. omega (arith, e, at))) ∙ append-nil (rows_in n rows) in
    ap (λ (gs : List StateRows). record { lookups = t.lookups; rows = rows_in n rows } ∷ gs) (with_own x rows (n + 1) i ts g (omega (arith, at)) there)
    ∙ ap (λ (ys : List Row). record { lookups = t.lookups; rows = ys } ∷ groups_from (rows ++ x ∷ []) (n + 1) ts) (sym none)

pub groups_more : (rows : List Row) (number : ℕ) (x : Row) (ss : List ParserState) (g : StateRows) → slice_get rows number ≡ Some x → slice_get (groups_from (take number rows) 0 ss) x.entry.state ≡ Some g
    → slice_set (groups_from (take number rows) 0 ss) x.entry.state (record g { rows = g.rows ++ x ∷ [] }) ≡ groups_from (take (number + 1) rows) 0 ss
groups_more rows number x ss g there at =
    with_own x (take number rows) 0 x.entry.state ss g (omega arith) at ∙ ap (λ (ys : List Row). groups_from ys 0 ss) (sym (take-slice_get rows number x there))

pub groups_push : (n : ℕ) (ss : List ParserState) (s : ParserState) → groups_from [] n (ss ++ s ∷ []) ≡ groups_from [] n ss ++ record { lookups = s.lookups; rows = [] } ∷ []
groups_push n [] s = refl
groups_push n (t ∷ ts) s = ap (λ (gs : List StateRows). record { lookups = t.lookups; rows = [] } ∷ gs) (groups_push (n + 1) ts s)

pub length_groups : (rows : List Row) (n : ℕ) (ss : List ParserState) → length (groups_from rows n ss) ≡ length ss
length_groups rows n [] = refl
length_groups rows n (s ∷ ss) = ap suc (length_groups rows (n + 1) ss)

pub states_groups : (rows : List Row) (n : ℕ) (ss : List ParserState) → map state_in (groups_from rows n ss) ≡ ss
states_groups rows n [] = refl
states_groups rows n (s ∷ ss) = ap (λ (ts : List ParserState). s ∷ ts) (states_groups rows (n + 1) ss)

own_in : (n : ℕ) (xs : List Row) → All (λ (x : Row). x.entry.state ≡ n) (rows_in n xs)
own_in n [] = All-nil (λ (x : Row). x.entry.state ≡ n)
own_in n (x ∷ xs) = by (eqb x.entry.state n) refl (own_in n xs)
  where
    by : (b : Bool) → eqb x.entry.state n ≡ b → All (λ (y : Row). y.entry.state ≡ n) (rows_in n xs) → All (λ (y : Row). y.entry.state ≡ n) (cond b (x ∷ rows_in n xs) (rows_in n xs))
    by true own rest = All-cons (λ (y : Row). y.entry.state ≡ n) x (rows_in n xs) (eqb-true x.entry.state n own) rest
    by false other rest = rest

pub own_groups : (rows : List Row) (n : ℕ) (ss : List ParserState) → AreOwn n (groups_from rows n ss)
own_groups rows n [] = tt
own_groups rows n (s ∷ ss) = (own_in n rows, own_groups rows (n + 1) ss)

-- ---- all rows again

abbrev state_of : Row → ℕ
state_of x = x.entry.state

-- the rows from a state on
abbrev from_on : ℕ → List Row → List Row
from_on n xs = filter (λ (x : Row). nat_le n x.entry.state) xs

later_rows : (n : ℕ) (xs : List Row) → All (λ (x : Row). n < x.entry.state) xs → rows_in n xs ++ from_on (n + 1) xs ≡ from_on n xs
later_rows n xs later =
    ap (λ (ys : List Row). ys ++ from_on (n + 1) xs) (filter_none (λ (x : Row). eqb x.entry.state n) xs (All-weaker (λ (x : Row). n < x.entry.state) (λ (x : Row). eqb x.entry.state n ≡ false) (λ (x : Row) lt. ne_eqb x.entry.state n (λ e. omega (arith, e, lt))) xs later))
    ∙ filter_all (λ (x : Row). nat_le (n + 1) x.entry.state) xs (All-weaker (λ (x : Row). n < x.entry.state) (λ (x : Row). nat_le (n + 1) x.entry.state ≡ true) (λ (x : Row) lt. le-leb (n + 1) x.entry.state (omega (arith, lt))) xs later)
    ∙ sym (filter_all (λ (x : Row). nat_le n x.entry.state) xs (All-weaker (λ (x : Row). n < x.entry.state) (λ (x : Row). nat_le n x.entry.state ≡ true) (λ (x : Row) lt. le-leb n x.entry.state (omega (arith, lt))) xs later))

sorted_tail : (x : Row) (xs : List Row) → IsNonDecreasingBy state_of (x ∷ xs) → IsNonDecreasingBy state_of xs
sorted_tail x xs sorted i j d le lt = sorted (suc i) (suc j) d (omega (arith, le)) (omega (arith, lt))

sorted_head : (x : Row) (xs : List Row) (n : ℕ) → n < x.entry.state → IsNonDecreasingBy state_of (x ∷ xs) → All (λ (y : Row). n < y.entry.state) xs
sorted_head x xs n lt sorted k d inside = let le = sorted 0 (suc k) d (omega arith) (omega (arith, inside)) in omega (arith, le, lt)

one_state : (n : ℕ) (xs : List Row) → IsNonDecreasingBy state_of xs → rows_in n xs ++ from_on (n + 1) xs ≡ from_on n xs
one_state n [] sorted = refl
one_state n (x ∷ xs) sorted = by (eqb x.entry.state n) (nat_le (n + 1) x.entry.state) refl refl (one_state n xs (sorted_tail x xs sorted))
  where
    by : (a b : Bool) → eqb x.entry.state n ≡ a → nat_le (n + 1) x.entry.state ≡ b → rows_in n xs ++ from_on (n + 1) xs ≡ from_on n xs
        → cond a (x ∷ rows_in n xs) (rows_in n xs) ++ cond b (x ∷ from_on (n + 1) xs) (from_on (n + 1) xs) ≡ from_on n (x ∷ xs)
    by true true own later rest = let e = eqb-true x.entry.state n own in let f = leb-true (n + 1) x.entry.state later in absurd (omega (arith, e, f))
    by true false own later rest =
        let e = eqb-true x.entry.state n own in
        ap (λ (ys : List Row). x ∷ ys) rest ∙ sym (ap (λ (b : Bool). cond b (x ∷ from_on n xs) (from_on n xs)) (le-leb n x.entry.state (omega (arith, e))))
    by false true own later rest =
        let f = leb-true (n + 1) x.entry.state later in
        let high : All (λ (y : Row). n < y.entry.state) xs = sorted_head x xs n (omega (arith, f)) sorted in
        let all : All (λ (y : Row). n < y.entry.state) (x ∷ xs) = All-cons (λ (y : Row). n < y.entry.state) x xs (omega (arith, f)) high in
        let whole : cond (eqb x.entry.state n) (x ∷ rows_in n xs) (rows_in n xs) ++ cond (nat_le (n + 1) x.entry.state) (x ∷ from_on (n + 1) xs) (from_on (n + 1) xs) ≡ from_on n (x ∷ xs) = later_rows n (x ∷ xs) all in
        sym (ap (λ (b : Bool). cond b (x ∷ rows_in n xs) (rows_in n xs) ++ cond (nat_le (n + 1) x.entry.state) (x ∷ from_on (n + 1) xs) (from_on (n + 1) xs)) own
        ∙ ap (λ (b : Bool). rows_in n xs ++ cond b (x ∷ from_on (n + 1) xs) (from_on (n + 1) xs)) later)
        ∙ whole
    by false false own later rest =
        let differ : x.entry.state ≢ n = eqb-false x.entry.state n own in
        let low = leb-false (n + 1) x.entry.state later in
        rest ∙ sym (ap (λ (b : Bool). cond b (x ∷ from_on n xs) (from_on n xs))
        (elim (cases_lt x.entry.state n) [ inl lt ↦ lt-leb n x.entry.state lt | inr ge ↦ absurd (differ (omega (arith, low, ge))) ]))

rows_all : (rows : List Row) (n : ℕ) (ss : List ParserState) → IsNonDecreasingBy state_of rows → All (λ (x : Row). x.entry.state < n + length ss) rows → all_rows (groups_from rows n ss) ≡ from_on n rows
rows_all rows n [] sorted low =
    sym (filter_none (λ (x : Row). nat_le n x.entry.state) rows (All-weaker (λ (x : Row). x.entry.state < n + 0) (λ (x : Row). nat_le n x.entry.state ≡ false) (λ (x : Row) lt. lt-leb n x.entry.state (omega (arith, lt))) rows low))
rows_all rows n (s ∷ ss) sorted low =
    ap (λ (ys : List Row). rows_in n rows ++ ys) (rows_all rows (n + 1) ss sorted (All-weaker (λ (x : Row). x.entry.state < n + suc (length ss)) (λ (x : Row). x.entry.state < n + 1 + length ss) (λ (x : Row) lt. omega (arith, lt)) rows low))
    ∙ one_state n rows sorted

-- ---- the tails again

abbrev of_entry : ℕ → TailOf → Bool
of_entry n t = eqb t.entry n

abbrev entry_in : TailOf → ℕ
entry_in t = t.entry

find_past : (n : ℕ) (front back : List TailOf) → All (λ (t : TailOf). t.entry < n) front → find (of_entry n) (front ++ back) ≡ find (of_entry n) back
find_past n [] back low = refl
find_past n (t ∷ ts) back low =
    let lt = All-head (λ (u : TailOf). u.entry < n) t ts low in
    ap (λ (b : Bool). cond b (Some t) (find (of_entry n) (ts ++ back))) (ne_eqb t.entry n (λ e. omega (arith, e, lt))) ∙ find_past n ts back (All-tail (λ (u : TailOf). u.entry < n) t ts low)

find_behind : (n least : ℕ) (back : List TailOf) → n < least → rises_from least (map entry_in back) ≡ true → find (of_entry n) back ≡ None
find_behind n least [] lt rises = refl
find_behind n least (t ∷ ts) lt rises =
    let parts = and_parts (nat_le least t.entry) (rises_from (t.entry + 1) (map entry_in ts)) rises in
    let le = leb-true least t.entry parts.0 in
    ap (λ (b : Bool). cond b (Some t) (find (of_entry n) ts)) (ne_eqb t.entry n (λ e. omega (arith, e, le, lt))) ∙ find_behind n (t.entry + 1) ts (omega (arith, le, lt)) parts.1

low_more : (n : ℕ) (ts : List TailOf) → All (λ (t : TailOf). t.entry < n) ts → All (λ (t : TailOf). t.entry < n + 1) ts
low_more n ts low = All-weaker (λ (t : TailOf). t.entry < n) (λ (t : TailOf). t.entry < n + 1) (λ (t : TailOf) lt. omega (arith, lt)) ts low

inside_more : (n k : ℕ) (ts : List TailOf) → All (λ (t : TailOf). t.entry < n + suc k) ts → All (λ (t : TailOf). t.entry < n + 1 + k) ts
inside_more n k ts low = All-weaker (λ (t : TailOf). t.entry < n + suc k) (λ (t : TailOf). t.entry < n + 1 + k) (λ (t : TailOf) lt. omega (arith, lt)) ts low

tails_again : (parser : ParserConfig) (es : List ParserEntry) (n : ℕ) (front back : List TailOf) → parser.tails ≡ front ++ back → All (λ (t : TailOf). t.entry < n) front
    → rises_from n (map entry_in back) ≡ true → All (λ (t : TailOf). t.entry < n + length es) back → tails_in n (rows_from parser n es) ≡ back
tails_again parser [] n front [] all low rises inside = refl
tails_again parser [] n front (t ∷ ts) all low rises inside =
    let parts = and_parts (nat_le n t.entry) (rises_from (t.entry + 1) (map entry_in ts)) rises in
    let le = leb-true n t.entry parts.0 in
    let lt = All-head (λ (u : TailOf). u.entry < n + 0) t ts inside in
    absurd (omega (arith, le, lt))
tails_again parser (e ∷ es) n front [] all low rises inside =
    let none : tail_of parser n ≡ None = ap (find (of_entry n)) all ∙ find_past n front [] low in
    ap (λ (o : Option TailOf). numbered n o ++ tails_in (n + 1) (rows_from parser (n + 1) es)) none
    ∙ tails_again parser es (n + 1) front [] all (low_more n front low) refl (All-nil (λ (t : TailOf). t.entry < n + 1 + length es))
tails_again parser (e ∷ es) n front (t ∷ ts) all low rises inside =
    let parts = and_parts (nat_le n t.entry) (rises_from (t.entry + 1) (map entry_in ts)) rises in
    by (eqb t.entry n) refl (leb-true n t.entry parts.0) parts.1
    (λ same. tails_again parser es (n + 1) (front ++ t ∷ []) ts (all ∙ sym (append_assoc front (t ∷ []) ts))
    (All-append (λ (u : TailOf). u.entry < n + 1) front (t ∷ []) (low_more n front low) (All-cons (λ (u : TailOf). u.entry < n + 1) t [] (omega (arith, same)) (All-nil (λ (u : TailOf). u.entry < n + 1))))
    (subst (λ k. rises_from (k + 1) (map entry_in ts) ≡ true) same parts.1) (inside_more n (length es) ts (All-tail (λ (u : TailOf). u.entry < n + suc (length es)) t ts inside)))
    (λ lt. tails_again parser es (n + 1) front (t ∷ ts) all (low_more n front low)
    (and_from (nat_le (n + 1) t.entry) (rises_from (t.entry + 1) (map entry_in ts)) (le-leb (n + 1) t.entry (omega (arith, lt))) parts.1) (inside_more n (length es) (t ∷ ts) inside))
  where
    by : (b : Bool) → eqb t.entry n ≡ b → n ≤ t.entry → rises_from (t.entry + 1) (map entry_in ts) ≡ true
        → (t.entry ≡ n → tails_in (n + 1) (rows_from parser (n + 1) es) ≡ ts) → (n < t.entry → tails_in (n + 1) (rows_from parser (n + 1) es) ≡ t ∷ ts)
        → numbered n (tail_of parser n) ++ tails_in (n + 1) (rows_from parser (n + 1) es) ≡ t ∷ ts
    by true own le later here behind =
        let same : t.entry ≡ n = eqb-true t.entry n own in
        let found : tail_of parser n ≡ Some t = ap (find (of_entry n)) all ∙ find_past n front (t ∷ ts) low ∙ ap (λ (b : Bool). cond b (Some t) (find (of_entry n) ts)) own in
        ap (λ (o : Option TailOf). numbered n o ++ tails_in (n + 1) (rows_from parser (n + 1) es)) found
        ∙ ap (λ k. record t { entry = k } ∷ tails_in (n + 1) (rows_from parser (n + 1) es)) (sym same)
        ∙ ap (λ (us : List TailOf). t ∷ us) (here same)
    by false other le later here behind =
        let differ : t.entry ≢ n = eqb-false t.entry n other in
        let lt : n < t.entry = elim (cases_lt n t.entry) [ inl lt ↦ lt | inr ge ↦ absurd (differ (omega (arith, le, ge))) ] in
        let none : tail_of parser n ≡ None =
        ap (find (of_entry n)) all ∙ find_past n front (t ∷ ts) low ∙ ap (λ (b : Bool). cond b (Some t) (find (of_entry n) ts)) other
        ∙ find_behind n (t.entry + 1) ts (omega (arith, lt)) later in
        ap (λ (o : Option TailOf). numbered n o ++ tails_in (n + 1) (rows_from parser (n + 1) es)) none ∙ behind lt

-- ---- a parser by state, and again

pub rows_again : (parser : ParserConfig) → KeepsForm parser → all_rows (by_state parser) ≡ rows_of parser
rows_again parser keeps =
    rows_all (rows_of parser) 0 parser.states (sorted_rows parser keeps) (All-weaker (IsRow parser.states) (λ (x : Row). x.entry.state < 0 + length parser.states) (λ (x : Row) is. let lt = is.entry.state_there in omega (arith, lt)) (rows_of parser) (rows_are parser keeps))
    ∙ filter_all (λ (x : Row). nat_le 0 x.entry.state) (rows_of parser) (λ k d lt. le-leb 0 (get_or (rows_of parser) k d).entry.state (omega arith))

tail_within : (es : List ParserEntry) (t : TailOf) (o : Option ParserEntry) → slice_get es t.entry ≡ o → is_tail_of t o ≡ true → t.entry < length es
tail_within es t None there is = absurd cc
tail_within es t (Some e) there is = slice_get_within es t.entry e there

abbrev pub made_by : List ParserState → List ParserEntry → List TailOf → ParserConfig
made_by ss es ts = record { states = ss; entries = es; tails = ts }

pub parser_again : (parser : ParserConfig) → KeepsForm parser → parser_in (by_state parser) ≡ parser
parser_again parser keeps =
    ap (λ (ss : List ParserState). parser_of ss (all_rows (by_state parser))) (states_groups (rows_of parser) 0 parser.states)
    ∙ ap (parser_of parser.states) (rows_again parser keeps)
    ∙ ap (λ (es : List ParserEntry). made_by parser.states es (tails_in 0 (rows_of parser))) (entries_of_rows parser 0 parser.entries)
    ∙ ap (made_by parser.states parser.entries)
    (tails_again parser parser.entries 0 [] parser.tails refl (All-nil (λ (t : TailOf). t.entry < 0)) keeps.rises
    (All-weaker (λ (t : TailOf). is_tail_of t (slice_get parser.entries t.entry) ≡ true) (λ (t : TailOf). t.entry < 0 + length parser.entries)
    (λ (t : TailOf) is. let lt = tail_within parser.entries t (slice_get parser.entries t.entry) refl is in omega (arith, lt)) parser.tails keeps.tails))

pub stand_again : (parser : ParserConfig) → KeepsForm parser → Stand (by_state parser)
stand_again parser keeps = record { own = own_groups (rows_of parser) 0 parser.states; keeps = subst KeepsForm (sym (parser_again parser keeps)) keeps }

pub start_stands : (parser : ParserConfig) → KeepsForm parser → (start : List StateRows) → start ≡ by_state parser → Stand start
start_stands parser keeps start is = subst Stand (sym is) (stand_again parser keeps)

-- ---- loops over rows and states

-- the state of an entry is there
pub state_low : (parser : ParserConfig) → KeepsForm parser → (n : ℕ) (e : ParserEntry) → slice_get parser.entries n ≡ Some e → e.state < length parser.states
state_low parser keeps n e there = (formed_parts parser.states e (All-slice_get (λ (x : ParserEntry). entry_is_formed parser.states x ≡ true) parser.entries n e keeps.entries there)).state_there

-- a state's rows behind the others
pub rows_more : (g : List StateRows) (i : ℕ) (s : StateRows) → slice_get g i ≡ Some s → all_rows (take (i + 1) g) ≡ all_rows (take i g) ++ s.rows
rows_more g i s there =
    ap all_rows (take-slice_get g i s there) ∙ flat_map-append (λ (t : StateRows). t.rows) (take i g) (s ∷ []) ∙ ap (λ (ys : List Row). all_rows (take i g) ++ ys) (append-nil s.rows)

pub states_more : (g : List StateRows) (i : ℕ) (s : StateRows) → slice_get g i ≡ Some s → map state_in (take (i + 1) g) ≡ map state_in (take i g) ++ state_in s ∷ []
states_more g i s there = ap (map state_in) (take-slice_get g i s there) ∙ map-append state_in (take i g) (s ∷ [])

-- all groups are in the parser
pub all_flat : (g : List StateRows) (i : ℕ) (q : ParserConfig) → length g ≤ i → q.states ≡ map state_in (take i g) → Adds (all_rows (take i g)) [] q.entries [] q.tails → q ≡ parser_in g
all_flat g i q le states rows =
    let all : take i g ≡ g = take_all i g le in
    let one : q.states ≡ map state_in g = states ∙ ap (map state_in) all in
    let two : q.entries ≡ map (λ (x : Row). x.entry) (all_rows g) = rows.entries ∙ ap (λ (hs : List StateRows). map (λ (x : Row). x.entry) (all_rows hs)) all in
    let three : q.tails ≡ tails_in 0 (all_rows g) = rows.tails ∙ ap (λ (hs : List StateRows). tails_in 0 (all_rows hs)) all in
    ap (λ (l : List ParserState). record q { states = l }) one ∙ ap (λ (l : List ParserEntry). record q { states = map state_in g; entries = l }) two
    ∙ ap (λ (l : List TailOf). record { states = map state_in g; entries = map (λ (x : Row). x.entry) (all_rows g); tails = l }) three
