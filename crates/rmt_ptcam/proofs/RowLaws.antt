-- The parse by rows: an entry that is found with its tail.
use Rattle.std.proofs.Common.{◌≡◌, ◌&&◌, not, cond, eqb, nat_lt, Bool, true, false, ℕ, suc, ◌+◌, ◌-◌, ◌<◌, List, [], ◌∷◌, ◌++◌, length, map, find, take, drop, Option, Some, None, refl, sym, ap, subst, ◌∙◌, append_assoc, inl, inr, arith}
use Rattle.std.specs.Prelude.{option_map, position, slice_get}
use Rattle.std.specs.List.{position_or_len}
use Rattle.std.proofs.lemmas.Bool.{cases_lt, eq-eqb, lt-ltb, le-ltb, ltb-true, and_parts, ne_eqb}
use Rattle.std.proofs.lemmas.List.{length-append}
use Rattle.rmt_bits.proofs.FunctionLaws.{funext}
use Rattle.rmt_bits.proofs.ListLaws.{slice_get-end}
use Rattle.rmt_ptcam.specs.Types.{ParserConfig, ParserState, ParserEntry, Next, TailOf}
use Rattle.rmt_config.specs.Parser.{Parse, Reached, Reject, Short, behind, entry_of, follow, past_tail, step, tail_of, taken}
use Rattle.rmt_ptcam.specs.Joining.{Row, rows_from, rows_of, parser_of, tails_in, numbered}
use Rattle.rmt_config.specs.declared.config.Next.TheVariants as next
use Rattle.rmt_config.specs.ParserForm.{next_is_formed}
use Rattle.rmt_ptcam.proofs.EntryLaws.{agrees}

-- a row is of the state, and agrees with what is looked up
abbrev pub hits : ℕ → ℕ → Row → Bool
hits state value x = agrees state value x.entry

-- the step of a row; without one the frame is rejected
abbrev pub row_step : (ℕ → Reached → Parse) → List ℕ → Option Row → Reached → Parse
row_step goes frame None r = Reject
row_step goes frame (Some x) r = step goes frame x.tail (Some x.entry) r

-- ---- the entry that is taken is the row that is found

module _ {X : Type 0} (p : X → Bool) where
  position_cons : (x : X) (xs : List X) (b : Bool) → p x ≡ b → position p (x ∷ xs) ≡ cond b (Some 0) (option_map suc (position p xs))
  position_cons x xs true is =
      ap (λ (b : Bool). cond (nat_lt (cond (not b) (1 + position_or_len p xs) 0) (suc (length xs))) (Some (cond (not b) (1 + position_or_len p xs) 0)) None) is
      ∙ ap (λ (b : Bool). cond b (Some 0) None) (lt-ltb 0 (suc (length xs)) (omega arith))
  position_cons x xs false is =
      ap (λ (b : Bool). cond (nat_lt (cond (not b) (1 + position_or_len p xs) 0) (suc (length xs))) (Some (cond (not b) (1 + position_or_len p xs) 0)) None) is
      ∙ later (position_or_len p xs) (length xs)
    where
      later : (at size : ℕ) → cond (nat_lt (1 + at) (suc size)) (Some (1 + at)) None ≡ option_map suc (cond (nat_lt at size) (Some at) None)
      later at size = elim (cases_lt at size) [
        | inl lt ↦
            let one : 1 + at ≡ suc at = omega arith in
            ap (λ (b : Bool). cond b (Some (1 + at)) None) (lt-ltb (1 + at) (suc size) (omega (arith, lt))) ∙ ap Some one
            ∙ sym (ap (λ (b : Bool). option_map suc (cond b (Some at) None)) (lt-ltb at size lt))
        | inr le ↦
            ap (λ (b : Bool). cond b (Some (1 + at)) None) (le-ltb (1 + at) (suc size) (omega (arith, le)))
            ∙ sym (ap (λ (b : Bool). option_map suc (cond b (Some at) None)) (le-ltb at size le))
      ]

module _ (parser : ParserConfig) (goes : ℕ → Reached → Parse) (frame : List ℕ) (state value : ℕ) (r : Reached) where
  abbrev at_place : ℕ → Option ℕ → Parse
  at_place n o = taken goes parser frame (option_map (λ k. n + k) o) r

  abbrev at_row : Option Row → Parse
  at_row o = row_step goes frame o r

  here_row : (front es : List ParserEntry) (e : ParserEntry) (n : ℕ) → parser.entries ≡ front ++ e ∷ es → length front ≡ n
      → at_place n (Some 0) ≡ at_row (Some (record { entry = e; tail = tail_of parser n }))
  here_row front es e n all long =
      let zero_more : n + 0 ≡ n = omega arith in
      let at : n ≡ length front + 0 = omega (arith, long) in
      let here : slice_get parser.entries n ≡ Some e = ap (slice_get parser.entries) at ∙ ap (λ (xs : List ParserEntry). slice_get xs (length front + 0)) all ∙ slice_get-end front (e ∷ es) 0 in
      ap (λ k. step goes frame (tail_of parser k) (slice_get parser.entries k) r) zero_more ∙ ap (λ (o : Option ParserEntry). step goes frame (tail_of parser n) o r) here

  one_more : (n : ℕ) (o : Option ℕ) → at_place n (option_map suc o) ≡ at_place (n + 1) o
  one_more n None = refl
  one_more n (Some k) = let e : n + suc k ≡ n + 1 + k = omega arith in ap (λ m. step goes frame (tail_of parser m) (slice_get parser.entries m) r) e

  choose : (e : ParserEntry) (es : List ParserEntry) (n : ℕ) (b : Bool) → agrees state value e ≡ b → at_place n (Some 0) ≡ at_row (Some (record { entry = e; tail = tail_of parser n }))
      → at_place (n + 1) (position (agrees state value) es) ≡ at_row (find (hits state value) (rows_from parser (n + 1) es))
      → at_place n (position (agrees state value) (e ∷ es)) ≡ at_row (cond b (Some (record { entry = e; tail = tail_of parser n })) (find (hits state value) (rows_from parser (n + 1) es)))
  choose e es n true is first later = ap (at_place n) (position_cons (agrees state value) e es true is) ∙ first
  choose e es n false is first later = ap (at_place n) (position_cons (agrees state value) e es false is) ∙ one_more n (position (agrees state value) es) ∙ later

  taken_from : (front es : List ParserEntry) (n : ℕ) → parser.entries ≡ front ++ es → length front ≡ n
      → at_place n (position (agrees state value) es) ≡ at_row (find (hits state value) (rows_from parser n es))
  taken_from front [] n all long = refl
  taken_from front (e ∷ es) n all long =
      let more = length-append front (e ∷ []) in
      choose e es n (agrees state value e) refl (here_row front es e n all long)
      (taken_from (front ++ e ∷ []) es (n + 1) (all ∙ sym (append_assoc front (e ∷ []) es)) (omega (arith, more, long)))

  pub taken_row : taken goes parser frame (entry_of parser state value) r ≡ row_step goes frame (find (hits state value) (rows_of parser)) r
  taken_row = ap (λ (o : Option ℕ). taken goes parser frame o r) (same (entry_of parser state value)) ∙ taken_from [] parser.entries 0 refl refl
    where
      same : (o : Option ℕ) → o ≡ option_map (λ k. 0 + k) o
      same None = refl
      same (Some k) = let e : k ≡ 0 + k = omega arith in ap Some e

-- ---- a parser that is made of rows

-- rows whose tails have their numbers, from n on
abbrev pub renumbered : ℕ → List Row → List Row
renumbered n [] = []
renumbered n (x ∷ xs) = record x { tail = option_map (λ (t : TailOf). record t { entry = n }) x.tail } ∷ renumbered (n + 1) xs

abbrev of_entry : ℕ → TailOf → Bool
of_entry m t = eqb t.entry m

-- no tail has a number before the first
no_tail_before : (rows : List Row) (n m : ℕ) → m < n → find (of_entry m) (tails_in n rows) ≡ None
no_tail_before [] n m lt = refl
no_tail_before (x ∷ xs) n m lt = by x.tail (no_tail_before xs (n + 1) m (omega (arith, lt)))
  where
    by : (o : Option TailOf) → find (of_entry m) (tails_in (n + 1) xs) ≡ None → find (of_entry m) (numbered n o ++ tails_in (n + 1) xs) ≡ None
    by None rest = rest
    by (Some t) rest = ap (λ (b : Bool). cond b (Some (record t { entry = n })) (find (of_entry m) (tails_in (n + 1) xs))) (ne_eqb n m (λ e. omega (arith, lt, e))) ∙ rest

abbrev pub with_number : ℕ → Option TailOf → Option TailOf
with_number n o = option_map (λ (t : TailOf). record t { entry = n }) o

tail_here : (n : ℕ) (o : Option TailOf) (xs : List Row) → find (of_entry n) (numbered n o ++ tails_in (n + 1) xs) ≡ with_number n o
tail_here n None xs = no_tail_before xs (n + 1) n (omega arith)
tail_here n (Some t) xs = ap (λ (b : Bool). cond b (Some (record t { entry = n })) (find (of_entry n) (tails_in (n + 1) xs))) (eq-eqb n n refl)

tail_past : (n m : ℕ) (o : Option TailOf) (xs : List Row) → n < m → find (of_entry m) (numbered n o ++ tails_in (n + 1) xs) ≡ find (of_entry m) (tails_in (n + 1) xs)
tail_past n m None xs lt = refl
tail_past n m (Some t) xs lt = ap (λ (b : Bool). cond b (Some (record t { entry = n })) (find (of_entry m) (tails_in (n + 1) xs))) (ne_eqb n m (λ e. omega (arith, lt, e)))

-- the tail of each row, by its number
pub tail_found : (front back : List Row) (x : Row) (n m : ℕ) → n + length front ≡ m → find (of_entry m) (tails_in n (front ++ x ∷ back)) ≡ with_number m x.tail
tail_found [] back x n m at =
    let same : n ≡ m = omega (arith, at) in
    subst (λ k. find (of_entry k) (tails_in n (x ∷ back)) ≡ with_number k x.tail) same (tail_here n x.tail back)
tail_found (y ∷ front) back x n m at =
    tail_past n m y.tail (front ++ x ∷ back) (omega (arith, at)) ∙ tail_found front back x (n + 1) m (omega (arith, at))

module _ (states : List ParserState) (rows : List Row) where
  made_from : (front back : List Row) (n : ℕ) → rows ≡ front ++ back → length front ≡ n → rows_from (parser_of states rows) n (map (λ (x : Row). x.entry) back) ≡ renumbered n back
  made_from front [] n all long = refl
  made_from front (x ∷ back) n all long =
      let more = length-append front (x ∷ []) in
      let tail : tail_of (parser_of states rows) n ≡ with_number n x.tail = ap (λ (xs : List Row). find (of_entry n) (tails_in 0 xs)) all ∙ tail_found front back x 0 n (omega (arith, long)) in
      ap (λ (o : Option TailOf). record { entry = x.entry; tail = o } ∷ rows_from (parser_of states rows) (n + 1) (map (λ (y : Row). y.entry) back)) tail
      ∙ ap (λ (xs : List Row). record x { tail = with_number n x.tail } ∷ xs) (made_from (front ++ x ∷ []) back (n + 1) (all ∙ sym (append_assoc front (x ∷ []) back)) (omega (arith, more, long)))

  pub rows_made : rows_of (parser_of states rows) ≡ renumbered 0 rows
  rows_made = made_from [] rows 0 refl refl

module _ (goes : ℕ → Reached → Parse) (frame : List ℕ) (state value : ℕ) (r : Reached) where
  same_tail : (n : ℕ) (e : ParserEntry) (o : Option TailOf) → step goes frame (with_number n o) (Some e) r ≡ step goes frame o (Some e) r
  same_tail n e None = refl
  same_tail n e (Some t) = refl

  choose_row : (n : ℕ) (x : Row) (found rest : Option Row) (b : Bool) → row_step goes frame found r ≡ row_step goes frame rest r
      → row_step goes frame (cond b (Some (record x { tail = with_number n x.tail })) found) r ≡ row_step goes frame (cond b (Some x) rest) r
  choose_row n x found rest true later = same_tail n x.entry x.tail
  choose_row n x found rest false later = later

  same_found : (rows : List Row) (n : ℕ) → row_step goes frame (find (hits state value) (renumbered n rows)) r ≡ row_step goes frame (find (hits state value) rows) r
  same_found [] n = refl
  same_found (x ∷ xs) n = choose_row n x (find (hits state value) (renumbered (n + 1) xs)) (find (hits state value) xs) (hits state value x) (same_found xs (n + 1))

  -- the step of a parser that is made of rows
  pub taken_made : (states : List ParserState) (rows : List Row)
      → taken goes (parser_of states rows) frame (entry_of (parser_of states rows) state value) r ≡ row_step goes frame (find (hits state value) rows) r
  taken_made states rows =
      taken_row (parser_of states rows) goes frame state value r ∙ ap (λ (xs : List Row). row_step goes frame (find (hits state value) xs) r) (rows_made states rows) ∙ same_found rows 0

-- ---- steps that go on alike

-- the same entry, where what comes behind it is the same
pub step_same : (goes others : ℕ → Reached → Parse) (frame : List ℕ) (tail : Option TailOf) (e : ParserEntry) (r : Reached) → follow goes e.next ≡ follow others e.next
    → step goes frame tail (Some e) r ≡ step others frame tail (Some e) r
step_same goes others frame tail e r same =
    let window : List ℕ = take e.need (drop r.at frame) in
    ap (λ (g : Reached → Parse). cond (nat_lt (length frame) (r.at + e.need)) Short (past_tail g window (length frame - (r.at + e.need)) tail (behind window e r))) same

-- a next state that is behind, and there
pub follow_later : (goes others : ℕ → Reached → Parse) (states state : ℕ) (to : Next) → next_is_formed states state to ≡ true
    → ((s : ℕ) (r : Reached) → state < s → s < states → goes s r ≡ others s r) → follow goes to ≡ follow others to
follow_later goes others states state next.Accept formed later = refl
follow_later goes others states state next.Reject formed later = refl
follow_later goes others states state (next.State s) formed later =
    let parts : ((nat_lt s states && nat_lt s 256) ≡ true) × (nat_lt state s ≡ true) = and_parts (nat_lt s states && nat_lt s 256) (nat_lt state s) formed in
    let there : nat_lt s states ≡ true = (and_parts (nat_lt s states) (nat_lt s 256) parts.0).0 in
    funext (goes s) (others s) (λ r. later s r (ltb-true state s parts.1) (ltb-true s states there))
