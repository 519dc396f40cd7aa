-- Rows of a parser that keeps the rules of form.
use Rattle.std.proofs.Common.{◌≡◌, ◌&&◌, nat_lt, eqb, Bool, true, ℕ, zero, suc, ◌+◌, ◌-◌, ◌*◌, ◌%◌, ◌^◌, ◌<◌, ◌≤◌, List, [], ◌∷◌, ◌++◌, length, map, take, drop, Option, Some, None, refl, sym, ap, subst, ◌∙◌, append_assoc, arith}
use Rattle.std.specs.Prelude.{All, IfSome, bit_and, nat_le, slice_get, ◌==◌}
use Rattle.std.specs.List.{list_all}
use Rattle.std.proofs.lemmas.Bool.{and_parts, and_from, ltb-true, leb-true, lt-ltb, le-leb, eqb-true, eq-eqb}
use Rattle.std.proofs.lemmas.List.{length-append}
use Rattle.std.proofs.lemmas.List.Elements.{All-nil, All-cons, All-head, All-tail}
use Rattle.std.proofs.lemmas.Option.{same_Some}
use Rattle.rmt_bits.proofs.AllLaws.{All-find}
use Rattle.rmt_bits.proofs.ListLaws.{slice_get-end, find-passes}
use Rattle.rmt_ptcam.specs.Types.{ParserConfig, ParserState, ParserEntry, TailOf}
use Rattle.rmt_config.specs.Parser.{tail_of}
use Rattle.rmt_config.specs.ParserForm.{entry_is_formed, extract_is_formed, lookups_of, match_is_formed, next_is_formed}
use Rattle.rmt_ptcam.specs.Joining.{Row, KeepsForm, rows_from, rows_of}
use Rattle.rmt_config.specs.TailForm.{is_tail_of}
use Rattle.rmt_ptcam.proofs.TailForms.{IsRowTail, tail_parts}

-- the rules of form of an entry
pub record IsFormed (states : List ParserState) (e : ParserEntry) : Type 0 where
  pub state_there : e.state < length states
  pub state_small : e.state < 256
  pub mask_small : e.mask < 2 ^ 32
  pub masked : bit_and e.value e.mask ≡ e.value
  pub mask_within : e.mask % 2 ^ (8 * (4 - lookups_of states e.state)) ≡ 0
  pub need_small : e.need < 256
  pub advance : e.advance ≤ e.need
  pub next : next_is_formed (length states) e.state e.next ≡ true
  pub few : length e.extracts < 256
  pub extracts : list_all (extract_is_formed e.need) e.extracts ≡ true

module _ (states : List ParserState) (e : ParserEntry) where
  abbrev matches : Bool
  matches = match_is_formed (lookups_of states e.state) e

  abbrev goes_on : Bool
  goes_on = next_is_formed (length states) e.state e.next

  abbrev takes : Bool
  takes = list_all (extract_is_formed e.need) e.extracts

  pub formed_parts : entry_is_formed states e ≡ true → IsFormed states e
  formed_parts formed =
      let a = and_parts (nat_lt e.state (length states) && nat_lt e.state 256 && matches && nat_lt e.need 256 && nat_le e.advance e.need && goes_on && nat_lt (length e.extracts) 256) takes formed in
      let b = and_parts (nat_lt e.state (length states) && nat_lt e.state 256 && matches && nat_lt e.need 256 && nat_le e.advance e.need && goes_on) (nat_lt (length e.extracts) 256) a.0 in
      let c = and_parts (nat_lt e.state (length states) && nat_lt e.state 256 && matches && nat_lt e.need 256 && nat_le e.advance e.need) goes_on b.0 in
      let d = and_parts (nat_lt e.state (length states) && nat_lt e.state 256 && matches && nat_lt e.need 256) (nat_le e.advance e.need) c.0 in
      let f = and_parts (nat_lt e.state (length states) && nat_lt e.state 256 && matches) (nat_lt e.need 256) d.0 in
      let g = and_parts (nat_lt e.state (length states) && nat_lt e.state 256) matches f.0 in
      let h = and_parts (nat_lt e.state (length states)) (nat_lt e.state 256) g.0 in
      let within : Bool = (e.mask % 2 ^ (8 * (4 - lookups_of states e.state)) == 0) in
      let i = and_parts (nat_lt e.mask (2 ^ 32) && (bit_and e.value e.mask == e.value)) within g.1 in
      let j = and_parts (nat_lt e.mask (2 ^ 32)) (bit_and e.value e.mask == e.value) i.0 in
      record {
        state_there = ltb-true e.state (length states) h.0;
        state_small = ltb-true e.state 256 h.1;
        mask_small = ltb-true e.mask (2 ^ 32) j.0;
        masked = eqb-true (bit_and e.value e.mask) e.value j.1;
        mask_within = eqb-true (e.mask % 2 ^ (8 * (4 - lookups_of states e.state))) 0 i.1;
        need_small = ltb-true e.need 256 f.1;
        advance = leb-true e.advance e.need d.1;
        next = c.1;
        few = ltb-true (length e.extracts) 256 b.1;
        extracts = a.1;
      }

  pub formed_from : IsFormed states e → entry_is_formed states e ≡ true
  formed_from is =
      let matched : matches ≡ true =
      and_from _ _ (and_from _ _ (lt-ltb e.mask (2 ^ 32) is.mask_small) (eq-eqb (bit_and e.value e.mask) e.value is.masked)) (eq-eqb (e.mask % 2 ^ (8 * (4 - lookups_of states e.state))) 0 is.mask_within) in
      and_from _ _ (and_from _ _ (and_from _ _ (and_from _ _ (and_from _ _ (and_from _ _ (and_from _ _ (lt-ltb e.state (length states) is.state_there) (lt-ltb e.state 256 is.state_small)) matched)
      (lt-ltb e.need 256 is.need_small)) (le-leb e.advance e.need is.advance)) is.next) (lt-ltb (length e.extracts) 256 is.few)) is.extracts

-- a row that keeps the rules of form
pub record IsRow (states : List ParserState) (x : Row) : Type 0 where
  pub entry : IsFormed states x.entry
  pub tail : IfSome x.tail (IsRowTail x.entry)

module _ (parser : ParserConfig) (keeps : KeepsForm parser) where
  pub row_tail : (n : ℕ) (e : ParserEntry) (o : Option TailOf) → slice_get parser.entries n ≡ Some e → tail_of parser n ≡ o → IfSome o (IsRowTail e)
  row_tail n e None there is = tt
  row_tail n e (Some t) there is =
      let own : t.entry ≡ n = eqb-true t.entry n (find-passes (λ (x : TailOf). eqb x.entry n) parser.tails t is) in
      let formed : is_tail_of t (slice_get parser.entries t.entry) ≡ true =
      All-find (λ (x : TailOf). is_tail_of x (slice_get parser.entries x.entry) ≡ true) (λ (x : TailOf). eqb x.entry n) parser.tails t keeps.tails is in
      tail_parts e t (subst (λ (o : Option ParserEntry). is_tail_of t o ≡ true) (ap (slice_get parser.entries) own ∙ there) formed)

  rows_are_from : (front es : List ParserEntry) (n : ℕ) → parser.entries ≡ front ++ es → length front ≡ n → All (λ e. entry_is_formed parser.states e ≡ true) es → All (IsRow parser.states) (rows_from parser n es)
  rows_are_from front [] n all long formed = All-nil (IsRow parser.states)
  rows_are_from front (e ∷ es) n all long formed =
      let more = length-append front (e ∷ []) in
      let at : n ≡ length front + 0 = omega (arith, long) in
      let there : slice_get parser.entries n ≡ Some e = ap (slice_get parser.entries) at ∙ ap (λ (xs : List ParserEntry). slice_get xs (length front + 0)) all ∙ slice_get-end front (e ∷ es) 0 in
      All-cons (IsRow parser.states) (record { entry = e; tail = tail_of parser n }) (rows_from parser (n + 1) es)
      (record {
        entry = formed_parts parser.states e (All-head (λ x. entry_is_formed parser.states x ≡ true) e es formed);
        tail = row_tail n e (tail_of parser n) there refl;
      })
      (rows_are_from (front ++ e ∷ []) es (n + 1) (all ∙ sym (append_assoc front (e ∷ []) es)) (omega (arith, more, long)) (All-tail (λ x. entry_is_formed parser.states x ≡ true) e es formed))

  pub rows_are : All (IsRow parser.states) (rows_of parser)
  rows_are = rows_are_from [] parser.entries 0 refl refl keeps.entries

-- rows of entries
pub entries_of_rows : (parser : ParserConfig) (n : ℕ) (es : List ParserEntry) → map (λ (x : Row). x.entry) (rows_from parser n es) ≡ es
entries_of_rows parser n [] = refl
entries_of_rows parser n (e ∷ es) = ap (λ (xs : List ParserEntry). e ∷ xs) (entries_of_rows parser (n + 1) es)

pub row_at : (parser : ParserConfig) (n k : ℕ) (es : List ParserEntry) (e : ParserEntry) → slice_get es k ≡ Some e → slice_get (rows_from parser n es) k ≡ Some (record { entry = e; tail = tail_of parser (n + k) })
row_at parser n k [] e is = absurd cc
row_at parser n zero (f ∷ es) e is =
    let zero_more : n ≡ n + 0 = omega arith in
    ap (λ (x : ParserEntry). Some (record { entry = x; tail = tail_of parser n })) (same_Some f e is) ∙ ap (λ m. Some (record { entry = e; tail = tail_of parser m })) zero_more
row_at parser n (suc k) (f ∷ es) e is =
    let one_more : n + 1 + k ≡ n + suc k = omega arith in
    row_at parser (n + 1) k es e is ∙ ap (λ m. Some (record { entry = e; tail = tail_of parser m })) one_more

pub split_at : {X : Type 0} (xs : List X) (i : ℕ) (x : X) → slice_get xs i ≡ Some x → xs ≡ take i xs ++ x ∷ drop (i + 1) xs
split_at [] i x is = absurd cc
split_at (y ∷ ys) zero x is = ap (λ z. z ∷ ys) (same_Some y x is)
split_at (y ∷ ys) (suc i) x is = let e : suc (i + 1) ≡ suc i + 1 = omega arith in ap (λ zs. y ∷ zs) (split_at ys i x is) ∙ ap (λ n. y ∷ (take i ys ++ x ∷ drop n (y ∷ ys))) e
