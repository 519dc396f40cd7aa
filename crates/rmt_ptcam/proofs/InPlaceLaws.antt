-- A join that is made in place is a join of the parser.
use Rattle.std.proofs.Common.{◌≡◌, ◌≢◌, ◌&&◌, cond, eqb, nat_lt, Bool, true, false, ℕ, zero, suc, ◌+◌, ◌*◌, ◌<◌, ◌≤◌, List, [], ◌∷◌, ◌++◌, get_or, length, map, find, take, drop, Option, Some, None, refl, sym, ap, subst, ◌∙◌, append_assoc, arith, inl, inr}
use Rattle.std.specs.Prelude.{◌==◌, All, IfSome, is_none, nat_le, option_map, slice_get, slice_set, unwrap_or}
use Rattle.std.specs.List.{filter, list_all}
use Rattle.std.specs.Option.{option_and_then}
use Rattle.std.proofs.lemmas.Bool.{and_parts, cases_lt, eq-eqb, eqb-true, leb-true, ne_eqb, lt-ltb, le-ltb, ltb-true}
use Rattle.std.proofs.lemmas.List.{append-nil, length-append, length-map, length-take-le, map-append, map-set, take-append-drop}
use Rattle.std.proofs.lemmas.List.Elements.{All-append, All-cons, All-nil, All-head, All-map, All-tail, All-take, All-drop, All-weaker, filter-append}
use Rattle.std.proofs.lemmas.Option.{same_Some, slice_get-map, slice_get_read, slice_get_within, get_or_from_slice_get}
use Rattle.std.proofs.Math.Seq.{drop-append_seam, drop-cons, take-append_seam}
use Rattle.std.specs.List.{take-map, drop-map}
use Rattle.rmt_bits.proofs.AllLaws.{All-from_test, All-parts, All-slice_get, All-unmap}
use Rattle.rmt_bits.proofs.ListLaws.{slice_get-end, slice_get-item, take-slice_get}
use Rattle.rmt_bits.proofs.AlikeLaws.{filter_all, filter_none}
use Rattle.rmt_config.specs.Order.{rises_from}
use Rattle.rmt_config.specs.Parser.{tail_of}
use Rattle.rmt_config.specs.ParserForm.{next_is_formed}
use Rattle.rmt_config.specs.declared.config.Next.TheVariants as next
use Rattle.rmt_ptcam.specs.Types.{ParserConfig, ParserState, ParserEntry, Next, TailOf}
use Rattle.rmt_ptcam.specs.declared.joining.rows.StateRows.{StateRows}
use Rattle.rmt_ptcam.specs.declared.joins.Join.{Join}
use Rattle.rmt_ptcam.specs.Grouping.{AreOwn, CanFollow, Stand, all_rows, by_state, entries_of, joined_in, may_stand, parser_in, put_at, put_in, stand_in, stand_in_at, stand_in_for, stand_in_of, stand_in_to, stand_in_with, state_in, widened_row}
use Rattle.rmt_ptcam.specs.Joining.{IsGood, KeepsForm, Row, are_few, can_join, compares_before, ends_open, entries_in, is_light, join_at, join_named, join_of, join_to, joined, joined_row, lookups_at, number_of_entry, numbered, parser_of, rows_in, rows_of, tails_in, together, widened, widened_entry}
use Rattle.rmt_ptcam.specs.Words.{spread}
use Rattle.rmt_ptcam.proofs.TestLaws.{widened_is}
use Rattle.rmt_ptcam.specs.Joins.{behind_joins}
use Rattle.rmt_ptcam.proofs.ClusteringLaws.{AsMany, good_same, many_stays}
use Rattle.rmt_ptcam.proofs.BusyLaws.{filter_map}
use Rattle.rmt_ptcam.proofs.FormedRows.{IsRow, rows_are}
use Rattle.rmt_ptcam.proofs.GroupLaws.{made_by, parser_again, stand_again}
use Rattle.rmt_ptcam.proofs.TailForms.{IsRowTail, other_tail}
use Rattle.rmt_ptcam.proofs.JoinFacts.{RiseLow, ends_push, entry_compares, lookups_formed}
use Rattle.rmt_ptcam.proofs.JoinedForm.{formed_entry}
use Rattle.rmt_ptcam.proofs.JoinsHold.{named_holds}
use Rattle.rmt_ptcam.proofs.LookupLaws.{Compares, word_is}
use Rattle.rmt_ptcam.proofs.ReplayLaws.{join_stays, list_holds}
use Rattle.rmt_ptcam.proofs.RowLaws.{renumbered, rows_made, tail_found, with_number}

-- ---- where the rows of a state stand

pub record Parts (n : ℕ) (g : List StateRows) (i : ℕ) (s : StateRows) : Type 0 where
  pub whole : all_rows g ≡ all_rows (take i g) ++ (s.rows ++ all_rows (drop (i + 1) g))
  pub low : All (λ (x : Row). x.entry.state < n + i) (all_rows (take i g))
  pub own : All (λ (x : Row). x.entry.state ≡ n + i) s.rows
  pub high : All (λ (x : Row). n + i < x.entry.state) (all_rows (drop (i + 1) g))

high_from : (n m : ℕ) (g : List StateRows) → AreOwn n g → m < n → All (λ (x : Row). m < x.entry.state) (all_rows g)
high_from n m [] own lt = All-nil (λ (x : Row). m < x.entry.state)
high_from n m (s ∷ ss) own lt =
    All-append (λ (x : Row). m < x.entry.state) s.rows (all_rows ss)
    (All-weaker (λ (x : Row). x.entry.state ≡ n) (λ (x : Row). m < x.entry.state) (λ (x : Row) e. omega (arith, e, lt)) s.rows own.0) (high_from (n + 1) m ss own.1 (omega (arith, lt)))

low_all : (n : ℕ) (g : List StateRows) → AreOwn n g → All (λ (x : Row). x.entry.state < n + length g) (all_rows g)
low_all n [] own = All-nil (λ (x : Row). x.entry.state < n + 0)
low_all n (s ∷ ss) own =
    All-append (λ (x : Row). x.entry.state < n + suc (length ss)) s.rows (all_rows ss)
    (All-weaker (λ (x : Row). x.entry.state ≡ n) (λ (x : Row). x.entry.state < n + suc (length ss)) (λ (x : Row) e. omega (arith, e)) s.rows own.0)
    (All-weaker (λ (x : Row). x.entry.state < n + 1 + length ss) (λ (x : Row). x.entry.state < n + suc (length ss)) (λ (x : Row) lt. omega (arith, lt)) (all_rows ss) (low_all (n + 1) ss own.1))

drop_more : {X : Type 0} (i : ℕ) (x : X) (xs : List X) → drop (suc i + 1) (x ∷ xs) ≡ drop (i + 1) xs
drop_more i x xs = let e : suc i + 1 ≡ suc (i + 1) = omega arith in ap (λ k. drop k (x ∷ xs)) e

pub parts : (n i : ℕ) (g : List StateRows) (s : StateRows) → AreOwn n g → slice_get g i ≡ Some s → Parts n g i s
parts n i [] s own there = absurd cc
parts n zero (t ∷ ts) s own there =
    let same : t ≡ s = same_Some t s there in
    record {
      whole = ap (λ (u : StateRows). u.rows ++ all_rows ts) same;
      low = All-nil (λ (x : Row). x.entry.state < n + 0);
      own = subst (λ (u : StateRows). All (λ (x : Row). x.entry.state ≡ n + 0) u.rows) same (All-weaker (λ (x : Row). x.entry.state ≡ n) (λ (x : Row). x.entry.state ≡ n + 0) (λ (x : Row) e. omega (arith, e)) t.rows own.0);
      high = high_from (n + 1) (n + 0) ts own.1 (omega arith);
    }
parts n (suc i) (t ∷ ts) s own there =
    let rest : Parts (n + 1) ts i s = parts (n + 1) i ts s own.1 there in
    let front : List Row = all_rows (take i ts) in
    let back : all_rows (drop (suc i + 1) (t ∷ ts)) ≡ all_rows (drop (i + 1) ts) = ap all_rows (drop_more i t ts) in
    record {
      whole =
          ap (λ (ys : List Row). t.rows ++ ys) rest.whole ∙ sym (append_assoc t.rows front (s.rows ++ all_rows (drop (i + 1) ts)))
          ∙ ap (λ (ys : List Row). (t.rows ++ front) ++ (s.rows ++ ys)) (sym back);
      low = All-append (λ (x : Row). x.entry.state < n + suc i) t.rows front
          (All-weaker (λ (x : Row). x.entry.state ≡ n) (λ (x : Row). x.entry.state < n + suc i) (λ (x : Row) e. omega (arith, e)) t.rows own.0)
          (All-weaker (λ (x : Row). x.entry.state < n + 1 + i) (λ (x : Row). x.entry.state < n + suc i) (λ (x : Row) lt. omega (arith, lt)) front rest.low);
      own = All-weaker (λ (x : Row). x.entry.state ≡ n + 1 + i) (λ (x : Row). x.entry.state ≡ n + suc i) (λ (x : Row) e. omega (arith, e)) s.rows rest.own;
      high = subst (λ (ys : List Row). All (λ (x : Row). n + suc i < x.entry.state) ys) (sym back)
          (All-weaker (λ (x : Row). n + 1 + i < x.entry.state) (λ (x : Row). n + suc i < x.entry.state) (λ (x : Row) lt. omega (arith, lt)) (all_rows (drop (i + 1) ts)) rest.high);
    }

set_rows : (i : ℕ) (g : List StateRows) (s t : StateRows) → slice_get g i ≡ Some s → all_rows (slice_set g i t) ≡ all_rows (take i g) ++ (t.rows ++ all_rows (drop (i + 1) g))
set_rows i [] s t there = absurd cc
set_rows zero (u ∷ us) s t there = refl
set_rows (suc i) (u ∷ us) s t there =
    ap (λ (ys : List Row). u.rows ++ ys) (set_rows i us s t there)
    ∙ sym (append_assoc u.rows (all_rows (take i us)) (t.rows ++ all_rows (drop (i + 1) us)))
    ∙ ap (λ (ys : List Row). (u.rows ++ all_rows (take i us)) ++ (t.rows ++ ys)) (sym (ap all_rows (drop_more i u us)))

own_set : (n i : ℕ) (g : List StateRows) (t : StateRows) → AreOwn n g → All (λ (x : Row). x.entry.state ≡ n + i) t.rows → AreOwn n (slice_set g i t)
own_set n i [] t own rows = tt
own_set n zero (u ∷ us) t own rows = (All-weaker (λ (x : Row). x.entry.state ≡ n + 0) (λ (x : Row). x.entry.state ≡ n) (λ (x : Row) e. omega (arith, e)) t.rows rows, own.1)
own_set n (suc i) (u ∷ us) t own rows =
    (own.0, own_set (n + 1) i us t own.1 (All-weaker (λ (x : Row). x.entry.state ≡ n + suc i) (λ (x : Row). x.entry.state ≡ n + 1 + i) (λ (x : Row) e. omega (arith, e)) t.rows rows))

-- ---- rows whose tails have other numbers

abbrev clear : Row → Row
clear x = record x { tail = with_number 0 x.tail }

clear_entries : (xs : List Row) → entries_of xs ≡ entries_of (map clear xs)
clear_entries [] = refl
clear_entries (x ∷ xs) = ap (λ (es : List ParserEntry). x.entry ∷ es) (clear_entries xs)

clear_tails : (n : ℕ) (xs : List Row) → tails_in n xs ≡ tails_in n (map clear xs)
clear_tails n [] = refl
clear_tails n (x ∷ xs) = ap (λ (ts : List TailOf). numbered n x.tail ++ ts) (clear_tails (n + 1) xs) ∙ ap (λ (ts : List TailOf). ts ++ tails_in (n + 1) (map clear xs)) (by x.tail)
  where
    by : (o : Option TailOf) → numbered n o ≡ numbered n (with_number 0 o)
    by None = refl
    by (Some t) = refl

parser_clear : (ss : List ParserState) (xs : List Row) → parser_of ss xs ≡ parser_of ss (map clear xs)
parser_clear ss xs = ap (λ (es : List ParserEntry). made_by ss es (tails_in 0 xs)) (clear_entries xs) ∙ ap (made_by ss (entries_of (map clear xs))) (clear_tails 0 xs)

parser_alike : (ss : List ParserState) (xs ys : List Row) → map clear xs ≡ map clear ys → parser_of ss xs ≡ parser_of ss ys
parser_alike ss xs ys same = parser_clear ss xs ∙ ap (parser_of ss) same ∙ sym (parser_clear ss ys)

clear_numbered : (n : ℕ) (xs : List Row) → map clear (renumbered n xs) ≡ map clear xs
clear_numbered n [] = refl
clear_numbered n (x ∷ xs) = ap (λ (o : Option TailOf). record x { tail = o } ∷ map clear (renumbered (n + 1) xs)) (by x.tail) ∙ ap (λ (ys : List Row). clear x ∷ ys) (clear_numbered (n + 1) xs)
  where
    by : (o : Option TailOf) → with_number 0 (with_number n o) ≡ with_number 0 o
    by None = refl
    by (Some t) = refl

map_alike : (f : Row → Row) → ((x : Row) → clear (f x) ≡ f (clear x)) → (xs : List Row) → map clear (map f xs) ≡ map f (map clear xs)
map_alike f each [] = refl
map_alike f each (x ∷ xs) = ap (λ (y : Row). y ∷ map clear (map f xs)) (each x) ∙ ap (λ (ys : List Row). f (clear x) ∷ ys) (map_alike f each xs)

-- what a joined parser is made of
module _ (here there : List ℕ) (e : ParserEntry) (state m at : ℕ) where
  abbrev widen : Row → Row
  widen = widened here (together here e.advance there) state

  abbrev join_row : Row → Row
  join_row = joined_row here there e

  abbrev pub shape : List Row → List Row
  shape rows = map widen (take at rows) ++ (map join_row (rows_in m rows) ++ map widen (drop (at + 1) rows))

  widen_clear : (x : Row) → clear (widen x) ≡ widen (clear x)
  widen_clear x = by (eqb x.entry.state state)
    where
      by : (b : Bool) → clear (cond b (record x { entry = widened_entry here (together here e.advance there) x.entry }) x) ≡ cond b (record (clear x) { entry = widened_entry here (together here e.advance there) x.entry }) (clear x)
      by true = refl
      by false = refl

  join_clear : (x : Row) → clear (join_row x) ≡ join_row (clear x)
  join_clear x = ap (λ (o : Option TailOf). record (join_row x) { tail = o }) (by x.tail)
    where
      by : (o : Option TailOf) → with_number 0 (option_map (λ (t : TailOf). record t { from = t.from + 8 * e.advance }) o) ≡ option_map (λ (t : TailOf). record t { from = t.from + 8 * e.advance }) (with_number 0 o)
      by None = refl
      by (Some t) = refl

  shape_clear : (rows : List Row) → map clear (shape rows) ≡ shape (map clear rows)
  shape_clear rows =
      map-append clear (map widen (take at rows)) (map join_row (rows_in m rows) ++ map widen (drop (at + 1) rows))
      ∙ ap (λ (ys : List Row). ys ++ map clear (map join_row (rows_in m rows) ++ map widen (drop (at + 1) rows))) (map_alike widen widen_clear (take at rows) ∙ ap (map widen) (sym (take-map clear at rows)))
      ∙ ap (λ (ys : List Row). map widen (take at (map clear rows)) ++ ys)
      (map-append clear (map join_row (rows_in m rows)) (map widen (drop (at + 1) rows))
      ∙ ap (λ (ys : List Row). ys ++ map clear (map widen (drop (at + 1) rows))) (map_alike join_row join_clear (rows_in m rows) ∙ ap (map join_row) (sym (filter_map (λ (x : Row). eqb x.entry.state m) clear rows)))
      ∙ ap (λ (ys : List Row). map join_row (rows_in m (map clear rows)) ++ ys) (map_alike widen widen_clear (drop (at + 1) rows) ∙ ap (map widen) (sym (drop-map clear (at + 1) rows))))

  -- it doesn't hang on the numbers in tails
  pub shape_made : (ss states : List ParserState) (rows : List Row) → parser_of ss (shape (rows_of (parser_of states rows))) ≡ parser_of ss (shape rows)
  shape_made ss states rows =
      parser_alike ss (shape (rows_of (parser_of states rows))) (shape rows)
      (shape_clear (rows_of (parser_of states rows)) ∙ ap shape (ap (map clear) (rows_made states rows) ∙ clear_numbered 0 rows) ∙ sym (shape_clear rows))

  widen_others : (xs : List Row) → All (λ (x : Row). x.entry.state ≢ state) xs → map widen xs ≡ xs
  widen_others [] others = refl
  widen_others (x ∷ xs) others =
      ap (λ (b : Bool). cond b (record x { entry = widened_entry here (together here e.advance there) x.entry }) x ∷ map widen xs) (ne_eqb x.entry.state state (All-head (λ (y : Row). y.entry.state ≢ state) x xs others))
      ∙ ap (λ (ys : List Row). x ∷ ys) (widen_others xs (All-tail (λ (y : Row). y.entry.state ≢ state) x xs others))

  widen_own : (xs : List Row) → All (λ (x : Row). x.entry.state ≡ state) xs → map widen xs ≡ map (widened_row here (together here e.advance there)) xs
  widen_own [] own = refl
  widen_own (x ∷ xs) own =
      ap (λ (b : Bool). cond b (record x { entry = widened_entry here (together here e.advance there) x.entry }) x ∷ map widen xs) (eq-eqb x.entry.state state (All-head (λ (y : Row). y.entry.state ≡ state) x xs own))
      ∙ ap (λ (ys : List Row). widened_row here (together here e.advance there) x ∷ ys) (widen_own xs (All-tail (λ (y : Row). y.entry.state ≡ state) x xs own))

-- ---- a row of a state, and the state that it goes to

pub lookups_in : (g : List StateRows) (n : ℕ) (s : StateRows) → slice_get g n ≡ Some s → lookups_at (map state_in g) n ≡ s.lookups
lookups_in g n s there = ap (λ (o : Option ParserState). unwrap_or (option_map (λ (x : ParserState). x.lookups) o) []) (slice_get-map state_in g n ∙ ap (option_map state_in) there)

pub rows_in_state : (g : List StateRows) (n : ℕ) (s : StateRows) → AreOwn 0 g → slice_get g n ≡ Some s → rows_in n (all_rows g) ≡ s.rows
rows_in_state g n s own there =
    let p : Parts 0 g n s = parts 0 n g s own there in
    let front : List Row = all_rows (take n g) in
    let back : List Row = all_rows (drop (n + 1) g) in
    let is : Row → Bool = λ x. eqb x.entry.state n in
    ap (rows_in n) p.whole ∙ filter-append is front (s.rows ++ back)
    ∙ ap (λ (ys : List Row). ys ++ rows_in n (s.rows ++ back)) (filter_none is front (All-weaker (λ (x : Row). x.entry.state < 0 + n) (λ (x : Row). is x ≡ false) (λ (x : Row) lt. ne_eqb x.entry.state n (λ e. omega (arith, e, lt))) front p.low))
    ∙ filter-append is s.rows back
    ∙ ap (λ (ys : List Row). rows_in n s.rows ++ ys) (filter_none is back (All-weaker (λ (x : Row). 0 + n < x.entry.state) (λ (x : Row). is x ≡ false) (λ (x : Row) lt. ne_eqb x.entry.state n (λ e. omega (arith, e, lt))) back p.high))
    ∙ append-nil (rows_in n s.rows)
    ∙ filter_all is s.rows (All-weaker (λ (x : Row). x.entry.state ≡ 0 + n) (λ (x : Row). is x ≡ true) (λ (x : Row) e. eq-eqb x.entry.state n (omega (arith, e))) s.rows p.own)

pub entries_in_state : (g : List StateRows) (n : ℕ) (s : StateRows) → AreOwn 0 g → slice_get g n ≡ Some s → entries_in n (entries_of (all_rows g)) ≡ entries_of s.rows
entries_in_state g n s own there = filter_map (λ (e : ParserEntry). eqb e.state n) (λ (x : Row). x.entry) (all_rows g) ∙ ap entries_of (rows_in_state g n s own there)

module _ (g : List StateRows) (own : AreOwn 0 g) (n j : ℕ) (s : StateRows) (x : Row) (at_n : slice_get g n ≡ Some s) (at_j : slice_get s.rows j ≡ Some x) where
  abbrev parser : ParserConfig
  parser = parser_in g

  abbrev rows : List Row
  rows = all_rows g

  abbrev front : List Row
  front = all_rows (take n g)

  abbrev back : List Row
  back = all_rows (drop (n + 1) g)

  abbrev before : List Row
  before = front ++ take j s.rows

  abbrev after : List Row
  after = drop (j + 1) s.rows ++ back

  abbrev at : ℕ
  at = number_of_entry parser.entries n j

  p : Parts 0 g n s
  p = parts 0 n g s own at_n

  j_low : j < length s.rows
  j_low = slice_get_within s.rows j x at_j

  own_split : s.rows ≡ take j s.rows ++ x ∷ drop (j + 1) s.rows
  own_split =
      let one : suc j ≡ j + 1 = omega arith in
      sym (take-append-drop j s.rows)
      ∙ ap (λ (ys : List Row). take j s.rows ++ ys) (drop-cons s.rows j x j_low ∙ ap (λ (y : Row). y ∷ drop (suc j) s.rows) (get_or_from_slice_get s.rows j x x at_j) ∙ ap (λ k. x ∷ drop k s.rows) one)

  rows_split : rows ≡ before ++ x ∷ after
  rows_split =
      p.whole ∙ ap (λ (ys : List Row). front ++ (ys ++ back)) own_split
      ∙ ap (λ (ys : List Row). front ++ ys) (append_assoc (take j s.rows) (x ∷ drop (j + 1) s.rows) back)
      ∙ sym (append_assoc front (take j s.rows) (x ∷ after))

  at_is : at ≡ length before
  at_is =
      let is : Row → Bool = λ y. nat_lt y.entry.state n in
      let own_high : All (λ (y : Row). is y ≡ false) s.rows = All-weaker (λ (y : Row). y.entry.state ≡ 0 + n) (λ (y : Row). is y ≡ false) (λ (y : Row) e. le-ltb y.entry.state n (omega (arith, e))) s.rows p.own in
      let back_high : All (λ (y : Row). is y ≡ false) back = All-weaker (λ (y : Row). 0 + n < y.entry.state) (λ (y : Row). is y ≡ false) (λ (y : Row) lt. le-ltb y.entry.state n (omega (arith, lt))) back p.high in
      let low : filter is rows ≡ front =
      ap (filter is) p.whole ∙ filter-append is front (s.rows ++ back)
      ∙ ap (λ (ys : List Row). filter is front ++ ys) (filter_none is (s.rows ++ back) (All-append (λ (y : Row). is y ≡ false) s.rows back own_high back_high))
      ∙ append-nil (filter is front)
      ∙ filter_all is front (All-weaker (λ (y : Row). y.entry.state < 0 + n) (λ (y : Row). is y ≡ true) (λ (y : Row) lt. lt-ltb y.entry.state n (omega (arith, lt))) front p.low) in
      let count : length (filter (λ (e : ParserEntry). nat_lt e.state n) (entries_of rows)) ≡ length front =
      ap length (filter_map (λ (e : ParserEntry). nat_lt e.state n) (λ (y : Row). y.entry) rows) ∙ length-map (filter is rows) (λ (y : Row). y.entry) ∙ ap length low in
      let long = length-append front (take j s.rows) in
      let short = length-take-le j s.rows (let lt = j_low in omega (arith, lt)) in
      omega (arith, count, long, short)

  take_at : take at rows ≡ before
  take_at = ap (λ k. take k rows) at_is ∙ ap (take (length before)) rows_split ∙ take-append_seam before (x ∷ after)

  drop_at : drop (at + 1) rows ≡ after
  drop_at =
      let long = length-append before (x ∷ []) in
      let count : at + 1 ≡ length (before ++ x ∷ []) = omega (arith, long, at_is) in
      ap (λ k. drop k rows) count ∙ ap (drop (length (before ++ x ∷ []))) (rows_split ∙ sym (append_assoc before (x ∷ []) after)) ∙ drop-append_seam (before ++ x ∷ []) after

  pub entry_at : slice_get parser.entries at ≡ Some x.entry
  entry_at =
      let zero_more : at ≡ length before + 0 = omega (arith, at_is) in
      slice_get-map (λ (y : Row). y.entry) rows at
      ∙ ap (option_map (λ (y : Row). y.entry)) (ap (slice_get rows) zero_more ∙ ap (λ (ys : List Row). slice_get ys (length before + 0)) rows_split ∙ slice_get-end before (x ∷ after) 0)

  tail_at : is_none (tail_of parser at) ≡ is_none x.tail
  tail_at =
      ap is_none (ap (λ (ys : List Row). find (λ (t : TailOf). eqb t.entry at) (tails_in 0 ys)) rows_split ∙ tail_found before after x 0 at (let e = at_is in omega (arith, e)))
      ∙ by x.tail
    where
      by : (o : Option TailOf) → is_none (with_number at o) ≡ is_none o
      by None = refl
      by (Some t) = refl

  own_state : x.entry.state ≡ n
  own_state = let e = All-slice_get (λ (y : Row). y.entry.state ≡ 0 + n) s.rows j x p.own at_j in omega (arith, e)

  -- the state that the row goes to
  module _ (m : ℕ) (t : StateRows) (at_m : slice_get g m ≡ Some t) where
    abbrev e : ParserEntry
    e = x.entry

    here_is : lookups_at parser.states e.state ≡ s.lookups
    here_is = ap (lookups_at parser.states) own_state ∙ lookups_in g n s at_n

    there_is : lookups_at parser.states m ≡ t.lookups
    there_is = lookups_in g m t at_m

    abbrev can_by : Bool → List ℕ → List ℕ → List ParserEntry → ℕ → ℕ → Bool
    can_by untailed here there fs count more =
        untailed && (e.need == e.advance) && compares_before here e && ends_open fs && are_few here e.advance there && list_all (is_light e) fs && nat_le (count + more) 16385

    pub can_is : can_join parser at e m ≡ may_stand (length rows) s.lookups x t
    can_is =
        let fs = entries_in m parser.entries in
        let here = lookups_at parser.states e.state in
        let there = lookups_at parser.states m in
        ap (λ b. can_by b here there fs (length parser.entries) (length fs)) tail_at
        ∙ ap (λ ls. can_by (is_none x.tail) ls there fs (length parser.entries) (length fs)) here_is
        ∙ ap (λ ls. can_by (is_none x.tail) s.lookups ls fs (length parser.entries) (length fs)) there_is
        ∙ ap (λ (es : List ParserEntry). can_by (is_none x.tail) s.lookups t.lookups es (length parser.entries) (length es)) (entries_in_state g m t own at_m)
        ∙ ap (λ k. can_by (is_none x.tail) s.lookups t.lookups (entries_of t.rows) k (length (entries_of t.rows))) (length-map rows (λ (y : Row). y.entry))
        ∙ ap (can_by (is_none x.tail) s.lookups t.lookups (entries_of t.rows) (length rows)) (length-map t.rows (λ (y : Row). y.entry))

    abbrev to : List ℕ
    to = together s.lookups e.advance t.lookups

    abbrev new : StateRows
    new = put_in s j (stand_in s.lookups x t)

    abbrev wide : Row → Row
    wide = widened_row s.lookups to

    abbrev widen_n : Row → Row
    widen_n = widened s.lookups to n

    widen_before : map widen_n before ≡ front ++ map wide (take j s.rows)
    widen_before =
        map-append widen_n front (take j s.rows)
        ∙ ap (λ (ys : List Row). ys ++ map widen_n (take j s.rows)) (widen_others s.lookups t.lookups e n m at front (All-weaker (λ (y : Row). y.entry.state < 0 + n) (λ (y : Row). y.entry.state ≢ n) (λ (y : Row) lt same. omega (arith, same, lt)) front p.low))
        ∙ ap (λ (ys : List Row). front ++ ys) (widen_own s.lookups t.lookups e n m at (take j s.rows) (All-weaker (λ (y : Row). y.entry.state ≡ 0 + n) (λ (y : Row). y.entry.state ≡ n) (λ (y : Row) is. omega (arith, is)) (take j s.rows) (All-take (λ (y : Row). y.entry.state ≡ 0 + n) j s.rows p.own)))

    widen_after : map widen_n after ≡ map wide (drop (j + 1) s.rows) ++ back
    widen_after =
        map-append widen_n (drop (j + 1) s.rows) back
        ∙ ap (λ (ys : List Row). ys ++ map widen_n back) (widen_own s.lookups t.lookups e n m at (drop (j + 1) s.rows) (All-weaker (λ (y : Row). y.entry.state ≡ 0 + n) (λ (y : Row). y.entry.state ≡ n) (λ (y : Row) is. omega (arith, is)) (drop (j + 1) s.rows) (All-drop (λ (y : Row). y.entry.state ≡ 0 + n) (j + 1) s.rows p.own)))
        ∙ ap (λ (ys : List Row). map wide (drop (j + 1) s.rows) ++ ys) (widen_others s.lookups t.lookups e n m at back (All-weaker (λ (y : Row). 0 + n < y.entry.state) (λ (y : Row). y.entry.state ≢ n) (λ (y : Row) lt same. omega (arith, same, lt)) back p.high))

    rows_shape : shape s.lookups t.lookups e n m at rows ≡ all_rows (slice_set g n new)
    rows_shape =
        let A : List Row = map wide (take j s.rows) in
        let J : List Row = map (joined_row s.lookups t.lookups e) t.rows in
        let Q : List Row = map wide (drop (j + 1) s.rows) in
        ap (λ (ys : List Row). map widen_n ys ++ (map (joined_row s.lookups t.lookups e) (rows_in m rows) ++ map widen_n (drop (at + 1) rows))) take_at
        ∙ ap (λ (ys : List Row). ys ++ (map (joined_row s.lookups t.lookups e) (rows_in m rows) ++ map widen_n (drop (at + 1) rows))) widen_before
        ∙ ap (λ (ys : List Row). (front ++ A) ++ (map (joined_row s.lookups t.lookups e) ys ++ map widen_n (drop (at + 1) rows))) (rows_in_state g m t own at_m)
        ∙ ap (λ (ys : List Row). (front ++ A) ++ (J ++ map widen_n ys)) drop_at
        ∙ ap (λ (ys : List Row). (front ++ A) ++ (J ++ ys)) widen_after
        ∙ append_assoc front A (J ++ (Q ++ back))
        ∙ ap (λ (ys : List Row). front ++ ys) (ap (λ (ys : List Row). A ++ ys) (sym (append_assoc J Q back)) ∙ sym (append_assoc A (J ++ Q) back))
        ∙ sym (set_rows n g s new at_n)

    pub joined_is : joined parser at e m ≡ parser_in (slice_set g n new)
    joined_is =
        let by : List ℕ → List ℕ → ℕ → ParserConfig = λ here there k. parser_of (slice_set parser.states k (record { lookups = together here e.advance there })) (shape here there e k m at (rows_of parser)) in
        let set : List ParserState = slice_set parser.states n (record { lookups = to }) in
        ap (λ here. by here (lookups_at parser.states m) e.state) here_is
        ∙ ap (λ there. by s.lookups there e.state) there_is
        ∙ ap (by s.lookups t.lookups) own_state
        ∙ shape_made s.lookups t.lookups e n m at set (map state_in g) rows
        ∙ ap (parser_of set) rows_shape
        ∙ ap (λ (ss : List ParserState). parser_of ss (all_rows (slice_set g n new))) (sym (map-set state_in g n new))

    pub own_new : All (λ (y : Row). y.entry.state ≡ n) new.rows
    own_new =
        let own_rows : All (λ (y : Row). y.entry.state ≡ n) s.rows = All-weaker (λ (y : Row). y.entry.state ≡ 0 + n) (λ (y : Row). y.entry.state ≡ n) (λ (y : Row) is. omega (arith, is)) s.rows p.own in
        All-append (λ (y : Row). y.entry.state ≡ n) (map wide (take j s.rows)) (map (joined_row s.lookups t.lookups e) t.rows ++ map wide (drop (j + 1) s.rows))
        (All-map (λ (y : Row). y.entry.state ≡ n) wide (take j s.rows) (All-take (λ (y : Row). y.entry.state ≡ n) j s.rows own_rows))
        (All-append (λ (y : Row). y.entry.state ≡ n) (map (joined_row s.lookups t.lookups e) t.rows) (map wide (drop (j + 1) s.rows))
        (All-map (λ (y : Row). y.entry.state ≡ n) (joined_row s.lookups t.lookups e) t.rows (λ k d lt. own_state))
        (All-map (λ (y : Row). y.entry.state ≡ n) wide (drop (j + 1) s.rows) (All-drop (λ (y : Row). y.entry.state ≡ n) (j + 1) s.rows own_rows)))

-- ---- the rows of a state keep the rules of form

none_is : {X : Type 0} (o : Option X) (x : X) → o ≡ None → o ≡ Some x → ⊥
none_is o x none some = cc

slice_get_none : {X : Type 0} (xs : List X) (i : ℕ) → slice_get xs i ≡ None → length xs ≤ i
slice_get_none xs i none = elim (cases_lt i (length xs)) [ inl lt ↦ (let found = slice_get-item xs i lt in absurd (none_is (slice_get xs i) found.0 none found.1)) | inr ge ↦ ge ]

formed_again : (ss : List ParserState) (n : ℕ) (xs : List Row) → All (IsRow ss) (renumbered n xs) → All (IsRow ss) xs
formed_again ss n [] formed = All-nil (IsRow ss)
formed_again ss n (x ∷ xs) formed =
    let first : IsRow ss (record x { tail = with_number n x.tail }) = All-head (IsRow ss) (record x { tail = with_number n x.tail }) (renumbered (n + 1) xs) formed in
    All-cons (IsRow ss) x xs (record { entry = first.entry; tail = by x.tail first.tail }) (formed_again ss (n + 1) xs (All-tail (IsRow ss) (record x { tail = with_number n x.tail }) (renumbered (n + 1) xs) formed))
  where
    by : (o : Option TailOf) → IfSome (with_number n o) (IsRowTail x.entry) → IfSome o (IsRowTail x.entry)
    by None fits = tt
    by (Some t) fits = other_tail x.entry x.entry (record t { entry = n }) t.entry t.from fits.within fits.moves fits

pub rows_formed_in : (g : List StateRows) → Stand g → (n : ℕ) (s : StateRows) → slice_get g n ≡ Some s → All (IsRow (map state_in g)) s.rows
rows_formed_in g stand n s there =
    All-slice_get (λ (t : StateRows). All (IsRow (map state_in g)) t.rows) g n s
    (All-parts (IsRow (map state_in g)) (λ (t : StateRows). t.rows) g
    (formed_again (map state_in g) 0 (all_rows g) (subst (λ (xs : List Row). All (IsRow (map state_in g)) xs) (rows_made (map state_in g) (all_rows g)) (rows_are (parser_in g) stand.keeps)))) there

-- a state that isn't there has no entries
pub absent_in : (g : List StateRows) (n : ℕ) → AreOwn 0 g → slice_get g n ≡ None → entries_in n (parser_in g).entries ≡ []
absent_in g n own none =
    let high : length g ≤ n = slice_get_none g n none in
    let low = low_all 0 g own in
    let empty : rows_in n (all_rows g) ≡ [] =
    filter_none (λ (x : Row). eqb x.entry.state n) (all_rows g) (All-weaker (λ (x : Row). x.entry.state < 0 + length g) (λ (x : Row). eqb x.entry.state n ≡ false) (λ (x : Row) lt. ne_eqb x.entry.state n (λ e. omega (arith, e, lt, high))) (all_rows g) low) in
    filter_map (λ (e : ParserEntry). eqb e.state n) (λ (x : Row). x.entry) (all_rows g) ∙ ap entries_of empty

pub count_in_state : (g : List StateRows) (n : ℕ) (s : StateRows) → AreOwn 0 g → slice_get g n ≡ Some s → length (entries_in n (parser_in g).entries) ≡ length s.rows
count_in_state g n s own there = ap length (entries_in_state g n s own there) ∙ length-map s.rows (λ (x : Row). x.entry)

-- ---- a join in place is the join

-- what stands behind a join in place, as a parser
abbrev pub parser_behind : Option (List StateRows) → Option ParserConfig
parser_behind o = option_map parser_in o

module _ (g : List StateRows) (stand : Stand g) (j : Join) where
  abbrev whole : ParserConfig
  whole = parser_in g

  abbrev n : ℕ
  n = j.state

  abbrev number : ℕ
  number = number_of_entry whole.entries j.state j.entry

  abbrev put : Option StateRows → Option (List StateRows)
  put o = option_map (put_at g j (slice_get g n)) o

  named_absent : slice_get g n ≡ None → join_named whole j ≡ None
  named_absent none = let count = ap length (absent_in g n stand.own none) in ap (λ b. cond b (join_of whole n j.entry) None) (le-ltb j.entry (length (entries_in n whole.entries)) (omega (arith, count)))

  module _ (s : StateRows) (at_n : slice_get g n ≡ Some s) where
    count_own : length (entries_in n whole.entries) ≡ length s.rows
    count_own = count_in_state g n s stand.own at_n

    named_none : slice_get s.rows j.entry ≡ None → join_named whole j ≡ None
    named_none none =
        let high : length s.rows ≤ j.entry = slice_get_none s.rows j.entry none in
        ap (λ b. cond b (join_of whole n j.entry) None) (le-ltb j.entry (length (entries_in n whole.entries)) (omega (arith, high, count_own)))

    module _ (x : Row) (at_j : slice_get s.rows j.entry ≡ Some x) where
      named_some : join_named whole j ≡ join_to whole number x.entry x.entry.next
      named_some =
          let low = slice_get_within s.rows j.entry x at_j in
          ap (λ b. cond b (join_of whole n j.entry) None) (lt-ltb j.entry (length (entries_in n whole.entries)) (omega (arith, low, count_own)))
          ∙ ap (join_at whole number) (entry_at g stand.own n j.entry s x at_n at_j)

      row_formed : IsRow (map state_in g) x
      row_formed = All-slice_get (IsRow (map state_in g)) s.rows j.entry x (rows_formed_in g stand n s at_n) at_j

      -- the state that it goes to is there
      next_state : (m : ℕ) → x.entry.next ≡ next.State m → m < length g
      next_state m on =
          let formed : next_is_formed (length (map state_in g)) x.entry.state (next.State m) ≡ true = subst (λ (o : Next). next_is_formed (length (map state_in g)) x.entry.state o ≡ true) on row_formed.entry.next in
          let a = and_parts (nat_lt m (length (map state_in g)) && nat_lt m 256) (nat_lt x.entry.state m) formed in
          let b = and_parts (nat_lt m (length (map state_in g))) (nat_lt m 256) a.0 in
          let lt = ltb-true m (length (map state_in g)) b.0 in
          let long = length-map g state_in in
          omega (arith, lt, long)

      to_state : (m : ℕ) (o : Option StateRows) → slice_get g m ≡ o → m < length g → parser_behind (put (stand_in_with g s x o)) ≡ join_to whole number x.entry (next.State m)
      to_state m None there lt = let high = slice_get_none g m there in absurd (omega (arith, high, lt))
      to_state m (Some t) there lt = by (may_stand (length (all_rows g)) s.lookups x t) (can_is g stand.own n j.entry s x at_n at_j m t there)
        where
          by : (b : Bool) → can_join whole number x.entry m ≡ b
              → parser_behind (put (cond b (Some (stand_in s.lookups x t)) None)) ≡ cond (can_join whole number x.entry m) (Some (joined whole number x.entry m)) None
          by true can =
              ap (λ (o : Option StateRows). Some (parser_in (put_at g j o (stand_in s.lookups x t)))) at_n
              ∙ ap Some (sym (joined_is g stand.own n j.entry s x at_n at_j m t there))
              ∙ sym (ap (λ b. cond b (Some (joined whole number x.entry m)) None) can)
          by false can = sym (ap (λ b. cond b (Some (joined whole number x.entry m)) None) can)

      to_next : (to : Next) → x.entry.next ≡ to → parser_behind (put (stand_in_to g s x to)) ≡ join_to whole number x.entry to
      to_next next.Accept on = refl
      to_next next.Reject on = refl
      to_next (next.State m) on = to_state m (slice_get g m) refl (next_state m on)

    of_row : (o : Option Row) → slice_get s.rows j.entry ≡ o → parser_behind (put (stand_in_of g s o)) ≡ join_named whole j
    of_row None there = sym (named_none there)
    of_row (Some x) there = to_next x there x.entry.next refl ∙ sym (named_some x there)

  of_state : (o : Option StateRows) → slice_get g n ≡ o → parser_behind (put (stand_in_at g j.entry o)) ≡ join_named whole j
  of_state None there = sym (named_absent there)
  of_state (Some s) there = of_row s there (slice_get s.rows j.entry) refl

  pub named_is : parser_behind (joined_in g j) ≡ join_named whole j
  named_is = of_state (slice_get g n) refl

-- ---- what stands in place of a row

pub record IsMade (g : List StateRows) (j : Join) (new : StateRows) : Type 0 where
  pub s : StateRows
  pub x : Row
  pub m : ℕ
  pub t : StateRows
  pub at_n : slice_get g j.state ≡ Some s
  pub at_j : slice_get s.rows j.entry ≡ Some x
  pub on : x.entry.next ≡ next.State m
  pub at_m : slice_get g m ≡ Some t
  pub may : may_stand (length (all_rows g)) s.lookups x t ≡ true
  pub is : new ≡ stand_in s.lookups x t

pub made : (g : List StateRows) (j : Join) (new : StateRows) → stand_in_for g j ≡ Some new → IsMade g j new
made g j new some = of_state (slice_get g j.state) refl some
  where
    of_room : (s : StateRows) (x : Row) (m : ℕ) (t : StateRows) (b : Bool) → slice_get g j.state ≡ Some s → slice_get s.rows j.entry ≡ Some x → x.entry.next ≡ next.State m → slice_get g m ≡ Some t
        → may_stand (length (all_rows g)) s.lookups x t ≡ b → cond b (Some (stand_in s.lookups x t)) None ≡ Some new → IsMade g j new
    of_room s x m t true at_n at_j on at_m may some = record { s = s; x = x; m = m; t = t; at_n = at_n; at_j = at_j; on = on; at_m = at_m; may = may; is = sym (same_Some (stand_in s.lookups x t) new some) }
    of_room s x m t false at_n at_j on at_m may some = absurd cc

    of_target : (s : StateRows) (x : Row) (m : ℕ) (o : Option StateRows) → slice_get g j.state ≡ Some s → slice_get s.rows j.entry ≡ Some x → x.entry.next ≡ next.State m → slice_get g m ≡ o → stand_in_with g s x o ≡ Some new → IsMade g j new
    of_target s x m None at_n at_j on at_m some = absurd cc
    of_target s x m (Some t) at_n at_j on at_m some = of_room s x m t (may_stand (length (all_rows g)) s.lookups x t) at_n at_j on at_m refl some

    of_next : (s : StateRows) (x : Row) (to : Next) → slice_get g j.state ≡ Some s → slice_get s.rows j.entry ≡ Some x → x.entry.next ≡ to → stand_in_to g s x to ≡ Some new → IsMade g j new
    of_next s x next.Accept at_n at_j on some = absurd cc
    of_next s x next.Reject at_n at_j on some = absurd cc
    of_next s x (next.State m) at_n at_j on some = of_target s x m (slice_get g m) at_n at_j on refl some

    of_row : (s : StateRows) (o : Option Row) → slice_get g j.state ≡ Some s → slice_get s.rows j.entry ≡ o → stand_in_of g s o ≡ Some new → IsMade g j new
    of_row s None at_n at_j some = absurd cc
    of_row s (Some x) at_n at_j some = of_next s x x.entry.next at_n at_j refl some

    of_state : (o : Option StateRows) → slice_get g j.state ≡ o → stand_in_at g j.entry o ≡ Some new → IsMade g j new
    of_state None at_n some = absurd cc
    of_state (Some s) at_n some = of_row s (slice_get s.rows j.entry) at_n refl some

pub record Room (count : ℕ) (here : List ℕ) (x : Row) (t : StateRows) : Type 0 where
  pub whole : x.entry.need ≡ x.entry.advance
  pub ends : ends_open (entries_of t.rows) ≡ true
  pub few : length (together here x.entry.advance t.lookups) ≤ 4
  pub light : list_all (is_light x.entry) (entries_of t.rows) ≡ true

pub room_of : (count : ℕ) (here : List ℕ) (x : Row) (t : StateRows) → may_stand count here x t ≡ true → Room count here x t
room_of count here x t may =
    let e : ParserEntry = x.entry in
    let fs : List ParserEntry = entries_of t.rows in
    let low : Bool = list_all (λ o. nat_lt (o + e.advance) 128) t.lookups in
    let short : Bool = nat_le (length (together here e.advance t.lookups)) 4 in
    let room : Bool = nat_le (count + length t.rows) 16385 in
    let a = and_parts (is_none x.tail && (e.need == e.advance) && compares_before here e && ends_open fs && (low && short) && list_all (is_light e) fs) room may in
    let b = and_parts (is_none x.tail && (e.need == e.advance) && compares_before here e && ends_open fs && (low && short)) (list_all (is_light e) fs) a.0 in
    let c = and_parts (is_none x.tail && (e.need == e.advance) && compares_before here e && ends_open fs) (low && short) b.0 in
    let d = and_parts (is_none x.tail && (e.need == e.advance) && compares_before here e) (ends_open fs) c.0 in
    let f = and_parts (is_none x.tail && (e.need == e.advance)) (compares_before here e) d.0 in
    let h = and_parts (is_none x.tail) (e.need == e.advance) f.0 in
    let k = and_parts low short c.1 in
    record { whole = eqb-true e.need e.advance h.1; ends = d.1; few = leb-true (length (together here e.advance t.lookups)) 4 k.1; light = b.1 }

-- each row can be joined to
pub can_follow : (g : List StateRows) → Stand g → (count m : ℕ) (here : List ℕ) (x : Row) (t : StateRows) → slice_get g m ≡ Some t → may_stand count here x t ≡ true → All (CanFollow x.entry) t.rows
can_follow g stand count m here x t at_m may k d lt =
    let e : ParserEntry = x.entry in
    let y : Row = get_or t.rows k d in
    let room : Room count here x t = room_of count here x t may in
    let is : IsRow (map state_in g) y = rows_formed_in g stand m t at_m k d lt in
    let light : is_light e y.entry ≡ true = All-unmap (λ (f : ParserEntry). is_light e f ≡ true) (λ (z : Row). z.entry) t.rows (All-from_test (λ (f : ParserEntry). is_light e f ≡ true) (is_light e) (λ (f : ParserEntry) h. h) (entries_of t.rows) room.light) k d lt in
    let need : e.need + y.entry.need ≤ 128 = leb-true (e.need + y.entry.need) 128 (and_parts (nat_le (e.need + y.entry.need) 128) (nat_le (length e.extracts + length y.entry.extracts) 64) light).0 in
    record { entry = formed_entry (map state_in g) y.entry is.entry; light = light; tail = near e y.entry y.tail need room.whole is.tail }
  where
    near : (e f : ParserEntry) (o : Option TailOf) → e.need + f.need ≤ 128 → e.need ≡ e.advance → IfSome o (IsRowTail f) → IfSome o (λ (t : TailOf). t.from + 8 * e.advance < 65536)
    near e f None need same fits = tt
    near e f (Some t) need same fits = let a = fits.within in omega (arith, a, need, same)

-- words over the lookups that they are over are as they were
same_words : (ls : List ℕ) (xs : List Row) → rises_from 0 ls ≡ true → length ls ≤ 4 → All (λ (x : Row). Compares ls x.entry.mask x.entry.value) xs → map (widened_row ls ls) xs ≡ xs
same_words ls [] rises few each = refl
same_words ls (x ∷ xs) rises few each =
    let own : Compares ls x.entry.mask x.entry.value = All-head (λ (y : Row). Compares ls y.entry.mask y.entry.value) x xs each in
    ap (λ (f : ParserEntry). record x { entry = f } ∷ map (widened_row ls ls) xs) (widened_is ls ls x.entry)
    ∙ ap (λ v. record x { entry = record x.entry { value = v; mask = spread ls ls x.entry.mask } } ∷ map (widened_row ls ls) xs) (word_is 0 ls x.entry.value rises few own.value)
    ∙ ap (λ k. record x { entry = record x.entry { mask = k } } ∷ map (widened_row ls ls) xs) (word_is 0 ls x.entry.mask rises few own.mask)
    ∙ ap (λ (ys : List Row). x ∷ ys) (same_words ls xs rises few (All-tail (λ (y : Row). Compares ls y.entry.mask y.entry.value) x xs each))

module _ (g : List StateRows) (stand : Stand g) (j : Join) (new : StateRows) (some : stand_in_for g j ≡ Some new) where
  abbrev pub is : IsMade g j new
  is = made g j new some

  pub made_low : j.entry < length is.s.rows
  made_low = slice_get_within is.s.rows j.entry is.x is.at_j

  pub made_some : 0 < length new.rows
  made_some =
      let room = room_of (length (all_rows g)) is.s.lookups is.x is.t is.may in
      let long = length-map is.t.rows (joined_row is.s.lookups is.t.lookups is.x.entry) in
      let same : length new.rows ≡ length (map (joined_row is.s.lookups is.t.lookups is.x.entry) is.t.rows) = ap (λ (u : StateRows). length u.rows) is.is in
      let some = some_open is.t.rows room.ends in
      omega (arith, long, same, some)
    where
      some_open : (xs : List Row) → ends_open (entries_of xs) ≡ true → 0 < length xs
      some_open [] ends = absurd cc
      some_open (x ∷ xs) ends = omega arith

  pub made_same : new.lookups ≡ is.s.lookups → map (widened_row is.s.lookups is.s.lookups) is.s.rows ≡ is.s.rows
  made_same same =
      let room = room_of (length (all_rows g)) is.s.lookups is.x is.t is.may in
      let count : length is.s.lookups ≡ length (together is.s.lookups is.x.entry.advance is.t.lookups) = ap length (sym same ∙ ap (λ (u : StateRows). u.lookups) is.is) in
      let few = room.few in
      let look : lookups_at (map state_in g) j.state ≡ is.s.lookups = lookups_in g j.state is.s is.at_n in
      let low : RiseLow (lookups_at (map state_in g) j.state) = lookups_formed (map state_in g) j.state stand.keeps.states in
      let rises : rises_from 0 is.s.lookups ≡ true = ap (rises_from 0) (sym look) ∙ low.rises in
      let p : Parts 0 g j.state is.s = parts 0 j.state g is.s stand.own is.at_n in
      let formed = rows_formed_in g stand j.state is.s is.at_n in
      same_words is.s.lookups is.s.rows rises (omega (arith, count, few))
      (λ k d lt. subst (λ ls. Compares ls (get_or is.s.rows k d).entry.mask (get_or is.s.rows k d).entry.value) look
      (entry_compares (map state_in g) (get_or is.s.rows k d).entry j.state (formed k d lt).entry (let e = p.own k d lt in omega (arith, e))))

  pub made_in : joined_in g j ≡ Some (slice_set g j.state (put_in is.s j.entry new))
  made_in = ap (option_map (put_at g j (slice_get g j.state))) some ∙ ap (λ (o : Option StateRows). Some (put_at g j o new)) is.at_n

  pub made_stand : Stand (slice_set g j.state (put_in is.s j.entry new))
  made_stand =
      let named : join_named (parser_in g) j ≡ Some (parser_in (slice_set g j.state (put_in is.s j.entry new))) = sym (named_is g stand j) ∙ ap parser_behind made_in in
      let good : IsGood (parser_in g) (parser_in (slice_set g j.state (put_in is.s j.entry new))) =
      subst (λ (o : Option ParserConfig). IfSome o (IsGood (parser_in g))) named (named_holds (IsGood (parser_in g)) (join_stays (parser_in g)) (parser_in g) j (good_same (parser_in g) stand.keeps)) in
      let rows : All (λ (y : Row). y.entry.state ≡ j.state) (put_in is.s j.entry new).rows =
      subst (λ (u : StateRows). All (λ (y : Row). y.entry.state ≡ j.state) (put_in is.s j.entry u).rows) (sym is.is) (own_new g stand.own j.state j.entry is.s is.x is.at_n is.at_j is.m is.t is.at_m) in
      record {
        own = own_set 0 j.state g (put_in is.s j.entry new) stand.own (All-weaker (λ (y : Row). y.entry.state ≡ j.state) (λ (y : Row). y.entry.state ≡ 0 + j.state) (λ (y : Row) e. omega (arith, e)) (put_in is.s j.entry new).rows rows);
        keeps = good.keeps;
      }

-- a join that is made in place
pub joined_stand : (g h : List StateRows) → Stand g → (j : Join) → joined_in g j ≡ Some h → (join_named (parser_in g) j ≡ Some (parser_in h)) × Stand h
joined_stand g h stand j joined = (sym (named_is g stand j) ∙ ap parser_behind joined, by (stand_in_for g j) refl joined)
  where
    by : (o : Option StateRows) → stand_in_for g j ≡ o → option_map (put_at g j (slice_get g j.state)) o ≡ Some h → Stand h
    by None none given = absurd cc
    by (Some new) some given =
        let is : IsMade g j new = made g j new some in
        let same : slice_set g j.state (put_in is.s j.entry new) ≡ h = same_Some _ h (ap (λ (o : Option StateRows). Some (put_at g j o new)) (sym is.at_n) ∙ given) in
        subst Stand same (made_stand g stand j new some)

pub joined_none : (g : List StateRows) → Stand g → (j : Join) → joined_in g j ≡ None → join_named (parser_in g) j ≡ None
joined_none g stand j none = sym (named_is g stand j) ∙ ap parser_behind none

-- ---- a list of joins

pub list_step : (g h : List StateRows) → Stand g → (j : Join) (js : List Join) → joined_in g j ≡ Some h → behind_joins (parser_in g) (j ∷ js) ≡ behind_joins (parser_in h) js
list_step g h stand j js joined = ap (λ (o : Option ParserConfig). option_and_then (λ (q : ParserConfig). behind_joins q js) o) (joined_stand g h stand j joined).0

pub list_ends : (g : List StateRows) → Stand g → (j : Join) (js : List Join) → joined_in g j ≡ None → behind_joins (parser_in g) (j ∷ js) ≡ None
list_ends g stand j js none = ap (λ (o : Option ParserConfig). option_and_then (λ (q : ParserConfig). behind_joins q js) o) (joined_none g stand j none)

-- ---- loops

pub open_more : (rows : List Row) (i : ℕ) (x : Row) → i < length rows → x ≡ get_or rows i x → eqb x.entry.mask 0 ≡ ends_open (entries_of (take (i + 1) rows))
open_more rows i x lt read =
    sym (ap (λ (ys : List Row). ends_open (entries_of ys)) (take-slice_get rows i x (slice_get_read rows (length rows) i x refl lt read))
    ∙ ap ends_open (map-append (λ (y : Row). y.entry) (take i rows) (x ∷ [])) ∙ ends_push (entries_of (take i rows)) x.entry)

-- a row that is set
pub set_split : (rows : List Row) (i : ℕ) (x : Row) → i < length rows → slice_set rows i x ≡ take i rows ++ x ∷ drop (i + 1) rows
set_split [] i x lt = absurd (omega (arith, lt))
set_split (y ∷ ys) zero x lt = refl
set_split (y ∷ ys) (suc i) x lt = ap (λ (zs : List Row). y ∷ zs) (set_split ys i x (omega (arith, lt))) ∙ ap (λ (zs : List Row). y ∷ (take i ys ++ x ∷ zs)) (sym (drop_more i y ys))

-- rows that are put in
pub put_is : (s new : StateRows) (at : ℕ) (wide : List Row) → wide ≡ map (widened_row s.lookups new.lookups) s.rows
    → take at wide ++ (new.rows ++ drop (at + 1) wide) ≡ (put_in s at new).rows
put_is s new at wide is =
    ap (λ (ys : List Row). take at ys ++ (new.rows ++ drop (at + 1) ys)) is
    ∙ ap (λ (ys : List Row). ys ++ (new.rows ++ drop (at + 1) (map (widened_row s.lookups new.lookups) s.rows))) (take-map (widened_row s.lookups new.lookups) at s.rows)
    ∙ ap (λ (ys : List Row). map (widened_row s.lookups new.lookups) (take at s.rows) ++ (new.rows ++ ys)) (drop-map (widened_row s.lookups new.lookups) (at + 1) s.rows)

-- what stands in place of a row, once it is made
pub stand_is : (g : List StateRows) (own : StateRows) (x : Row) (m : ℕ) (t : StateRows) (count : ℕ) (here : List ℕ) (made : StateRows) → x.entry.next ≡ next.State m → slice_get g m ≡ Some t
    → count ≡ length (all_rows g) → here ≡ own.lookups → may_stand count here x t ≡ true → made ≡ stand_in here x t → Some made ≡ stand_in_to g own x x.entry.next
stand_is g own x m t count here it on there whole same may is =
    let can : may_stand (length (all_rows g)) own.lookups x t ≡ true = sym (ap (λ k. may_stand k here x t) whole ∙ ap (λ ls. may_stand (length (all_rows g)) ls x t) same) ∙ may in
    ap Some (is ∙ ap (λ ls. stand_in ls x t) same)
    ∙ sym (ap (stand_in_to g own x) on ∙ ap (stand_in_with g own x) there ∙ ap (λ b. cond b (Some (stand_in own.lookups x t)) None) can)

pub list_more : (js : List Join) (i : ℕ) (d : Join) → i < length js → drop i js ≡ get_or js i d ∷ drop (i + 1) js
list_more js i d lt = let one : suc i ≡ i + 1 = omega arith in drop-cons js i d lt ∙ ap (λ k. get_or js i d ∷ drop k js) one

-- what a list of joins gives is good, and has as many states
pub list_good : (parser : ParserConfig) (js : List Join) (q : ParserConfig) → KeepsForm parser → Some q ≡ behind_joins parser js → IsGood parser q × (length q.states ≡ length parser.states)
list_good parser js q keeps is = (
  subst (λ (o : Option ParserConfig). IfSome o (IsGood parser)) (sym is) (list_holds (IsGood parser) (join_stays parser) parser js (good_same parser keeps)),
  subst (λ (o : Option ParserConfig). IfSome o (AsMany parser)) (sym is) (list_holds (AsMany parser) (many_stays parser) parser js refl),
)

-- ---- joins that are all made

pub record AllMade (parser : ParserConfig) (js : List Join) (now : List StateRows) : Type 0 where
  pub some : Some (parser_in now) ≡ behind_joins parser js
  pub good : IsGood parser (parser_in now)
  pub states : length (parser_in now).states ≡ length parser.states

pub all_made : (parser : ParserConfig) → KeepsForm parser → (js : List Join) (start now : List StateRows) (b : Bool) → start ≡ by_state parser → b ≡ true → cond b (Some (parser_in now)) None ≡ behind_joins (parser_in start) js
    → AllMade parser js now
all_made parser keeps js start now b first was given =
    let some : Some (parser_in now) ≡ behind_joins parser js = sym (ap (λ t. cond t (Some (parser_in now)) None) was) ∙ given ∙ ap (λ q. behind_joins q js) (ap parser_in first ∙ parser_again parser keeps) in
    let good = list_good parser js (parser_in now) keeps some in
    record { some = some; good = good.0; states = good.1 }

pub none_made : (parser : ParserConfig) → KeepsForm parser → (js : List Join) (start now : List StateRows) (b : Bool) → start ≡ by_state parser → b ≡ false → cond b (Some (parser_in now)) None ≡ behind_joins (parser_in start) js
    → None ≡ behind_joins parser js
none_made parser keeps js start now b first was given = sym (ap (λ t. cond t (Some (parser_in now)) None) was) ∙ given ∙ ap (λ q. behind_joins q js) (ap parser_in first ∙ parser_again parser keeps)

-- a vector whose items were all written
pub written : (len : ℕ) (now items seen : List StateRows) → seen ≡ take len (now ++ drop (length now) items) → length now ≡ len → seen ≡ now
written len now items seen is long = is ∙ ap (λ k. take k (now ++ drop (length now) items)) (sym long) ∙ take-append_seam now (drop (length now) items)

-- it stands as it was
pub stand_seen : (len : ℕ) (now items seen : List StateRows) → seen ≡ take len (now ++ drop (length now) items) → length now ≡ len → Stand now → Stand seen
stand_seen len now items seen is long stand = subst Stand (sym (written len now items seen is long)) stand

-- all joins, seen again
pub all_seen : (parser : ParserConfig) → KeepsForm parser → (js : List Join) (start now items seen : List StateRows) (len : ℕ) (b : Bool) → start ≡ by_state parser → b ≡ true
    → cond b (Some (parser_in now)) None ≡ behind_joins (parser_in start) js → seen ≡ take len (now ++ drop (length now) items) → length now ≡ len → AllMade parser js seen
all_seen parser keeps js start now items seen len b first was given is long = subst (AllMade parser js) (sym (written len now items seen is long)) (all_made parser keeps js start now b first was given)

-- ---- one join

pub record OneMade (parser : ParserConfig) (j : Join) (now : List StateRows) : Type 0 where
  pub some : Some (parser_in now) ≡ join_named parser j
  pub good : IsGood parser (parser_in now)

pub one_made : (parser : ParserConfig) → KeepsForm parser → (j : Join) (start now : List StateRows) (b : Bool) → start ≡ by_state parser → b ≡ true → cond b (Some now) None ≡ joined_in start j → OneMade parser j now
one_made parser keeps j start now b first was given =
    let stand : Stand start = subst Stand (sym first) (stand_again parser keeps) in
    let again : parser_in start ≡ parser = ap parser_in first ∙ parser_again parser keeps in
    let behind = (joined_stand start now stand j (sym given ∙ ap (λ t. cond t (Some now) None) was)).0 in
    let some : Some (parser_in now) ≡ join_named parser j = sym behind ∙ ap (λ q. join_named q j) again in
    record { some = some; good = subst (λ (o : Option ParserConfig). IfSome o (IsGood parser)) (sym some) (named_holds (IsGood parser) (join_stays parser) parser j (good_same parser keeps)) }

pub one_seen : (parser : ParserConfig) → KeepsForm parser → (j : Join) (start now items seen : List StateRows) (len : ℕ) (b : Bool) → start ≡ by_state parser → b ≡ true
    → cond b (Some now) None ≡ joined_in start j → seen ≡ take len (now ++ drop (length now) items) → length now ≡ len → OneMade parser j seen
one_seen parser keeps j start now items seen len b first was given is long = subst (OneMade parser j) (sym (written len now items seen is long)) (one_made parser keeps j start now b first was given)

pub none_joined : (parser : ParserConfig) → KeepsForm parser → (j : Join) (start now : List StateRows) (b : Bool) → start ≡ by_state parser → b ≡ false → cond b (Some now) None ≡ joined_in start j → None ≡ join_named parser j
none_joined parser keeps j start now b first was given =
    let stand : Stand start = subst Stand (sym first) (stand_again parser keeps) in
    let again : parser_in start ≡ parser = ap parser_in first ∙ parser_again parser keeps in
    sym (joined_none start stand j (sym given ∙ ap (λ t. cond t (Some now) None) was)) ∙ ap (λ q. join_named q j) again
