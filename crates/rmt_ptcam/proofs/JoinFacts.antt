-- What is known where an entry can be joined.
use Rattle.std.proofs.Common.{◌≡◌, ◌⊎◌, ◌&&◌, cond, eqb, nat_lt, Bool, true, false, ℕ, ◌+◌, ◌-◌, ◌*◌, ◌%◌, ◌^◌, ◌<◌, ◌≤◌, List, [], ◌∷◌, ◌++◌, length, map, find, Option, Some, None, refl, sym, ap, subst, ◌∙◌, inl, inr}
use Rattle.std.specs.Prelude.{◌||◌, ◌==◌, All, bit_and, is_none, nat_le, option_map, slice_get, slice_index, unwrap_or}
use Rattle.std.specs.List.{list_all}
use Rattle.std.proofs.lemmas.Bool.{and_parts, or_cases, ltb-true, leb-true, eqb-true, eq-eqb}
use Rattle.std.proofs.lemmas.List.Elements.{All-head, All-tail, All-nil}
use Rattle.std.specs.Int.Bits.{and_zero_r}
use Rattle.rmt_bits.proofs.AllLaws.{All-from_test, All-slice_get}
use Rattle.rmt_ptcam.specs.Types.{ParserConfig, ParserState, ParserEntry}
use Rattle.rmt_config.specs.Order.{rises_from}
use Rattle.rmt_config.specs.Parser.{tail_of, value_at}
use Rattle.rmt_config.specs.ParserForm.{lookups_of, state_is_formed}
use Rattle.rmt_ptcam.specs.Joining.{Row, KeepsForm, can_join, compares_before, ends_open, entries_in, is_light, lookups_at, rows_from, rows_in, together}
use Rattle.rmt_ptcam.specs.Words.{byte_at}
use Rattle.rmt_ptcam.proofs.TestLaws.{compares_is}
use Rattle.rmt_ptcam.proofs.FormedRows.{IsFormed, IsRow}
use Rattle.rmt_ptcam.proofs.LookupLaws.{Compares, compares_of, looked_at}
use Rattle.rmt_ptcam.proofs.RowLaws.{hits}
use Rattle.rmt_ptcam.proofs.TogetherLaws.{AreJoined, few_here, few_there}
use Rattle.rmt_bits.proofs.OptionLaws.{None-from_is_none}

-- ---- lookups of a state

lookups_of_option : (o : Option ParserState) → unwrap_or (option_map (λ (s : ParserState). length s.lookups) o) 0 ≡ length (unwrap_or (option_map (λ (s : ParserState). s.lookups) o) [])
lookups_of_option None = refl
lookups_of_option (Some s) = refl

pub count_lookups : (states : List ParserState) (state : ℕ) → lookups_of states state ≡ length (lookups_at states state)
count_lookups states state = lookups_of_option (slice_get states state)

value_of_option : (frame : List ℕ) (at : ℕ) (o : Option ParserState) → value_at frame at o ≡ looked_at (λ k. slice_index frame (at + k)) (unwrap_or (option_map (λ (s : ParserState). s.lookups) o) [])
value_of_option frame at None = refl
value_of_option frame at (Some s) = refl

-- what a state looks up
pub value_is : (frame : List ℕ) (at : ℕ) (states : List ParserState) (state : ℕ) → value_at frame at (slice_get states state) ≡ looked_at (λ k. slice_index frame (at + k)) (lookups_at states state)
value_is frame at states state = value_of_option frame at (slice_get states state)

pub record RiseLow (ls : List ℕ) : Type 0 where
  pub rises : rises_from 0 ls ≡ true
  pub low : All (λ o. o < 128) ls

pub lookups_formed : (states : List ParserState) (state : ℕ) → All (λ s. state_is_formed s ≡ true) states → RiseLow (lookups_at states state)
lookups_formed states state formed = by (slice_get states state) refl
  where
    by : (o : Option ParserState) → slice_get states state ≡ o → RiseLow (unwrap_or (option_map (λ (s : ParserState). s.lookups) o) [])
    by None is = record { rises = refl; low = All-nil (λ o. o < 128) }
    by (Some s) is =
        let parts : (rises_from 0 s.lookups ≡ true) × (list_all (λ o. nat_lt o 128) s.lookups ≡ true) =
        and_parts (rises_from 0 s.lookups) (list_all (λ o. nat_lt o 128) s.lookups) (All-slice_get (λ x. state_is_formed x ≡ true) states state s formed is) in
        record { rises = parts.0; low = All-from_test (λ o. o < 128) (λ o. nat_lt o 128) (λ o lt. ltb-true o 128 lt) s.lookups parts.1 }

-- what a formed entry compares
pub entry_compares : (states : List ParserState) (e : ParserEntry) (state : ℕ) → IsFormed states e → e.state ≡ state → Compares (lookups_at states state) e.mask e.value
entry_compares states e state is same =
    let own : Compares (lookups_at states e.state) e.mask e.value =
    compares_of (lookups_at states e.state) e.mask e.value is.mask_small is.masked (ap (λ n. e.mask % 2 ^ (8 * (4 - n))) (sym (count_lookups states e.state)) ∙ is.mask_within) in
    subst (λ s. Compares (lookups_at states s) e.mask e.value) same own

-- ---- an entry that can be joined

pub record MayJoin (parser : ParserConfig) (at : ℕ) (e : ParserEntry) (state : ℕ) : Type 0 where
  pub untailed : tail_of parser at ≡ None
  pub whole : e.need ≡ e.advance
  pub before : All (λ o. (o < e.advance) ⊎ (byte_at (lookups_at parser.states e.state) e.mask o ≡ 0)) (lookups_at parser.states e.state)
  pub ends : ends_open (entries_in state parser.entries) ≡ true
  pub low_there : All (λ o. o + e.advance < 128) (lookups_at parser.states state)
  pub few : length (together (lookups_at parser.states e.state) e.advance (lookups_at parser.states state)) ≤ 4
  pub light : All (λ (f : ParserEntry). (e.need + f.need ≤ 128) × (length e.extracts + length f.extracts ≤ 64)) (entries_in state parser.entries)
  pub lights : All (λ (f : ParserEntry). is_light e f ≡ true) (entries_in state parser.entries)
  pub room : length parser.entries + length (entries_in state parser.entries) ≤ 16385

pub may_join : (parser : ParserConfig) (at : ℕ) (e : ParserEntry) (state : ℕ) → can_join parser at e state ≡ true → MayJoin parser at e state
may_join parser at e state can =
    let here : List ℕ = lookups_at parser.states e.state in
    let there : List ℕ = lookups_at parser.states state in
    let fs : List ParserEntry = entries_in state parser.entries in
    let low : Bool = list_all (λ o. nat_lt (o + e.advance) 128) there in
    let count : Bool = nat_le (length (together here e.advance there)) 4 in
    let room : Bool = nat_le (length parser.entries + length fs) 16385 in
    let a = and_parts (is_none (tail_of parser at) && (e.need == e.advance) && compares_before here e && ends_open fs && (low && count) && list_all (is_light e) fs) room can in
    let b = and_parts (is_none (tail_of parser at) && (e.need == e.advance) && compares_before here e && ends_open fs && (low && count)) (list_all (is_light e) fs) a.0 in
    let c = and_parts (is_none (tail_of parser at) && (e.need == e.advance) && compares_before here e && ends_open fs) (low && count) b.0 in
    let d = and_parts (is_none (tail_of parser at) && (e.need == e.advance) && compares_before here e) (ends_open fs) c.0 in
    let f = and_parts (is_none (tail_of parser at) && (e.need == e.advance)) (compares_before here e) d.0 in
    let g = and_parts (is_none (tail_of parser at)) (e.need == e.advance) f.0 in
    let h = and_parts low count c.1 in
    record {
      untailed = None-from_is_none (tail_of parser at) g.0;
      whole = eqb-true e.need e.advance g.1;
      before = All-from_test (λ o. (o < e.advance) ⊎ (byte_at here e.mask o ≡ 0)) (λ o. nat_lt o e.advance || (byte_at here e.mask o == 0))
          (λ o is. elim (or_cases (nat_lt o e.advance) (byte_at here e.mask o == 0) is) [ inl lt ↦ inl (ltb-true o e.advance lt) | inr none ↦ inr (eqb-true (byte_at here e.mask o) 0 none) ]) here (sym (compares_is here e) ∙ f.1);
      ends = d.1;
      low_there = All-from_test (λ o. o + e.advance < 128) (λ o. nat_lt (o + e.advance) 128) (λ o lt. ltb-true (o + e.advance) 128 lt) there h.0;
      few = leb-true (length (together here e.advance there)) 4 h.1;
      light = All-from_test (λ (y : ParserEntry). (e.need + y.need ≤ 128) × (length e.extracts + length y.extracts ≤ 64)) (is_light e)
          (λ (y : ParserEntry) is. (let p = and_parts (nat_le (e.need + y.need) 128) (nat_le (length e.extracts + length y.extracts) 64) is in
          (leb-true (e.need + y.need) 128 p.0, leb-true (length e.extracts + length y.extracts) 64 p.1))) fs b.1;
      lights = All-from_test (λ (y : ParserEntry). is_light e y ≡ true) (is_light e) (λ (y : ParserEntry) is. is) fs b.1;
      room = leb-true (length parser.entries + length fs) 16385 a.1;
    }

-- its words and those of an entry that it is joined to
pub are_joined : (parser : ParserConfig) (at : ℕ) (e f : ParserEntry) (state : ℕ) → KeepsForm parser → MayJoin parser at e state → IsFormed parser.states e → IsFormed parser.states f → f.state ≡ state
    → AreJoined (lookups_at parser.states e.state) e.advance (lookups_at parser.states state) e.mask e.value f.mask f.value
are_joined parser at e f state keeps may formed_e formed_f own =
    let here = lookups_formed parser.states e.state keeps.states in
    let there = lookups_formed parser.states state keeps.states in
    record {
      rises_here = here.rises;
      rises_there = there.rises;
      few_here = few_here (lookups_at parser.states e.state) e.advance (lookups_at parser.states state) here.rises here.low may.few;
      few_there = few_there (lookups_at parser.states e.state) e.advance (lookups_at parser.states state) there.rises may.low_there may.few;
      few = may.few;
      low_here = here.low;
      low_there = may.low_there;
      first = entry_compares parser.states e e.state formed_e refl;
      second = entry_compares parser.states f state formed_f own;
      before = may.before;
    }

-- ---- the rows of a state

-- the rows of a state are its entries with their tails
pub rows_in_entries : (parser : ParserConfig) (state n : ℕ) (es : List ParserEntry) → map (λ (x : Row). x.entry) (rows_in state (rows_from parser n es)) ≡ entries_in state es
rows_in_entries parser state n [] = refl
rows_in_entries parser state n (e ∷ es) = by (eqb e.state state) (rows_in_entries parser state (n + 1) es)
  where
    by : (b : Bool) → map (λ (x : Row). x.entry) (rows_in state (rows_from parser (n + 1) es)) ≡ entries_in state es
        → map (λ (x : Row). x.entry) (cond b (record { entry = e; tail = tail_of parser n } ∷ rows_in state (rows_from parser (n + 1) es)) (rows_in state (rows_from parser (n + 1) es))) ≡ cond b (e ∷ entries_in state es) (entries_in state es)
    by true rest = ap (λ (xs : List ParserEntry). e ∷ xs) rest
    by false rest = rest

-- a search among them is one among all
pub find_in : (state value : ℕ) (rows : List Row) → find (hits state value) (rows_in state rows) ≡ find (hits state value) rows
find_in state value [] = refl
find_in state value (x ∷ xs) = by (eqb x.entry.state state) refl (find_in state value xs)
  where
    by : (b : Bool) → eqb x.entry.state state ≡ b → find (hits state value) (rows_in state xs) ≡ find (hits state value) xs
        → find (hits state value) (cond b (x ∷ rows_in state xs) (rows_in state xs)) ≡ cond (hits state value x) (Some x) (find (hits state value) xs)
    by true is rest = ap (λ (o : Option Row). cond (hits state value x) (Some x) o) rest
    by false is rest = rest ∙ sym (ap (λ (b : Bool). cond (b && eqb (bit_and value x.entry.mask) x.entry.value) (Some x) (find (hits state value) xs)) is)

-- no frame falls through
pub found_open : (states : List ParserState) (state value : ℕ) (ys : List Row) → ends_open (map (λ (x : Row). x.entry) ys) ≡ true → All (IsRow states) ys → All (λ (x : Row). x.entry.state ≡ state) ys
    → (y : Row) × (find (hits state value) ys ≡ Some y)
found_open states state value [] ends formed own = absurd cc
found_open states state value (x ∷ []) ends formed own =
    let is : IsRow states x = All-head (IsRow states) x [] formed in
    let open_mask : x.entry.mask ≡ 0 = eqb-true x.entry.mask 0 ends in
    let open_value : x.entry.value ≡ 0 = sym is.entry.masked ∙ ap (bit_and x.entry.value) open_mask ∙ and_zero_r x.entry.value in
    let same : eqb (bit_and value x.entry.mask) x.entry.value ≡ true = eq-eqb (bit_and value x.entry.mask) x.entry.value (ap (bit_and value) open_mask ∙ and_zero_r value ∙ sym open_value) in (
      x,
      ap (λ (b : Bool). cond (b && eqb (bit_and value x.entry.mask) x.entry.value) (Some x) None) (eq-eqb x.entry.state state (All-head (λ (y : Row). y.entry.state ≡ state) x [] own))
          ∙ ap (λ (b : Bool). cond b (Some x) None) same,
    )
found_open states state value (x ∷ y ∷ ys) ends formed own =
    by (hits state value x) (found_open states state value (y ∷ ys) ends (All-tail (IsRow states) x (y ∷ ys) formed) (All-tail (λ (z : Row). z.entry.state ≡ state) x (y ∷ ys) own))
  where
    by : (b : Bool) → (z : Row) × (find (hits state value) (y ∷ ys) ≡ Some z) → (z : Row) × (cond b (Some x) (find (hits state value) (y ∷ ys)) ≡ Some z)
    by true rest = (x, refl)
    by false rest = rest

-- the last entry of all
pub ends_push : (es : List ParserEntry) (e : ParserEntry) → ends_open (es ++ e ∷ []) ≡ eqb e.mask 0
ends_push [] e = refl
ends_push (f ∷ []) e = refl
ends_push (f ∷ g ∷ es) e = ends_push (g ∷ es) e
