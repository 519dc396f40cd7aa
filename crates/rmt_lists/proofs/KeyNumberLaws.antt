-- What a change at one key does to numbers by keys.
use Rattle.std.proofs.Common.{◌≡◌, ◌≢◌, ◌<◌, ◌≤◌, ℕ, ◌+◌, ◌-◌, ◌==◌, Bool, true, false, not, cond, List, [], ◌∷◌, ◌++◌, Option, Some, None, Vec, length, slice_set, get_or, drop, refl, sym, ap, ◌∙◌, inl, inr, arith}
use Rattle.std.specs.Global.{Global}
use Rattle.std.specs.Str.{bytes_eq}
use Rattle.std.proofs.lemmas.Bool.{and_parts, cases_Bool, cases_eq, false≢true}
use Rattle.std.proofs.lemmas.Bool.Decides.{nat_tests}
use Rattle.std.proofs.lemmas.List.{append-nil, get_or_append_left, get_or-set_same, get_or-set_other, get_or_default, length-append, length-set}
use Rattle.std.proofs.lemmas.Slice.Eq.{bytes_eq-Decides}
use Rattle.std.proofs.Math.Seq.{get_or-append_seam}
use Rattle.rmt_bits.proofs.FunctionLaws.{bytes_eq-sym, bytes_eq-true}
use Rattle.rmt_entries.specs.KeySets.{is_at, list_at, place_of}
use Rattle.rmt_entries.proofs.KeySetLaws.{is_at_kept, list_at_end}
use Rattle.rmt_lists.specs.KeyNumbers.{Stand, all_at, first_at, listed, paired, placed, slot_of}

-- a number and the numbers behind one at a key
abbrev pub with_number : List ℕ → ℕ → List ℕ → List ℕ
with_number key number q = cond (bytes_eq key q) (number ∷ []) []

abbrev pub without_first : List ℕ → List ℕ → List ℕ → List ℕ
without_first key q numbers = cond (bytes_eq key q) (drop 1 numbers) numbers

-- a key's place that was looked up, and its slot
pub record Looked (slots key : List ℕ) (place slot : ℕ) : Type 0 where
  pub slot_is : slot ≡ slot_of slots key
  pub place_is : place ≡ place_of (length slots) key
  pub within : place < length slots

pub looked : (slots key numbers : List ℕ) (count place slot : ℕ) → count ≡ length slots → numbers ≡ key → place ≡ place_of count numbers → place < count → slot ≡ get_or slots place slot → Looked slots key place slot
looked slots key numbers count place slot all same own within at =
    let inside : place < length slots = rw (← all) within in
    let of : place ≡ place_of (length slots) key = own ∙ ap (λ (n : ℕ). place_of n numbers) all ∙ ap (place_of (length slots)) same in
    record {
      slot_is = at ∙ get_or_default slots place slot 0 inside ∙ ap (λ (p : ℕ). get_or slots p 0) of;
      place_is = of;
      within = inside;
    }

-- no two keys are at one place
one_key : (keys : List ℕ) (slot : ℕ) (a b : List ℕ) → is_at keys slot a ≡ true → is_at keys slot b ≡ true → a ≡ b
one_key keys slot a b s t =
    let l = list_at keys (slot - 1) in
    bytes_eq-true a l ((and_parts (not (slot == 0)) (bytes_eq a l) s).1) ∙ sym (bytes_eq-true b l ((and_parts (not (slot == 0)) (bytes_eq b l) t).1))

-- a key that was found at its place is there
pub there_seen : (slots keys key ks : List ℕ) (slot : ℕ) → ks ≡ keys → slot ≡ slot_of slots key → is_at ks slot key ≡ true → is_at keys (slot_of slots key) key ≡ true
there_seen slots keys key ks slot same at found = ap (λ (k : List ℕ). is_at k (slot_of slots key) key) (sym same) ∙ ap (λ (n : ℕ). is_at ks n key) (sym at) ∙ found

-- the first number of a place that was looked up
pub first_seen : (firsts : List (Option ℕ)) (place : ℕ) (first : Option ℕ) → first ≡ get_or firsts place first → place < length firsts → first_at firsts place ≡ first
first_seen firsts place first is within = sym (is ∙ get_or_default firsts place first None within)

module _ (slots : List ℕ) (firsts : List (Option ℕ)) (keys : List ℕ) (crowded : List (List ℕ × List ℕ)) (s : Stand slots firsts keys crowded) where
  placed_free : (key : List ℕ) → slot_of slots key ≡ 0 → placed slots firsts keys key ≡ []
  placed_free key free = rw free refl

  pub absent : (q : Vec ℕ Global) → slot_of slots q.items ≡ 0 → all_at slots firsts keys crowded q.items ≡ []
  absent q free = rw (placed_free q.items free, s.taken q free) refl

  -- ---- a key in a free place
  module _ (key : List ℕ) (number : ℕ) (free : slot_of slots key ≡ 0) (within : place_of (length slots) key < length slots) where
    abbrev pub own : ℕ
    own = place_of (length slots) key

    abbrev pub filled : List ℕ
    filled = slice_set slots own (length keys + 1)

    abbrev pub numbered : List (Option ℕ)
    numbered = slice_set firsts own (Some number)

    abbrev pub more : List ℕ
    more = keys ++ length key ∷ key

    -- the place of a key with one more
    new_place : (q : List ℕ) → place_of (length filled) q ≡ place_of (length slots) q
    new_place q = ap (λ (n : ℕ). place_of n q) (length-set slots own (length keys + 1))

    new_slot : (q : List ℕ) → slot_of filled q ≡ get_or filled (place_of (length slots) q) 0
    new_slot q = ap (λ (p : ℕ). get_or filled p 0) (new_place q)

    new_first : (q : List ℕ) → first_at numbered (place_of (length filled) q) ≡ first_at numbered (place_of (length slots) q)
    new_first q = ap (first_at numbered) (new_place q)

    own_key : (q : List ℕ) → is_at more (length keys + 1) q ≡ bytes_eq key q
    own_key q =
        let some : (length keys + 1 == 0) ≡ false = grind (arith, nat_tests) in
        let begin : length keys + 1 - 1 ≡ length keys = omega arith in
        rw (some, begin, list_at_end keys key) (bytes_eq-sym q key)

    own_first : first_at numbered own ≡ Some number
    own_first = let inside : own < length firsts = rw s.count within in get_or-set_same firsts own (Some number) None inside

    placed_own : (q : List ℕ) → place_of (length slots) q ≡ own → placed filled numbered more q ≡ with_number key number q
    placed_own q same =
        let slot : slot_of filled q ≡ length keys + 1 = new_slot q ∙ ap (λ (p : ℕ). get_or filled p 0) same ∙ get_or-set_same slots own (length keys + 1) 0 within in
        let first : first_at numbered (place_of (length filled) q) ≡ Some number = new_first q ∙ ap (first_at numbered) same ∙ own_first in
        ap (λ (n : ℕ). cond (is_at more n q) (listed (first_at numbered (place_of (length filled) q))) []) slot
        ∙ ap (λ (b : Bool). cond b (listed (first_at numbered (place_of (length filled) q))) []) (own_key q)
        ∙ ap (λ (f : Option ℕ). cond (bytes_eq key q) (listed f) []) first

    placed_other : (q : List ℕ) → place_of (length slots) q ≢ own → placed filled numbered more q ≡ placed slots firsts keys q
    placed_other q other =
        let slot : slot_of filled q ≡ slot_of slots q = new_slot q ∙ get_or-set_other slots own (place_of (length slots) q) (length keys + 1) 0 other in
        let first : first_at numbered (place_of (length filled) q) ≡ first_at firsts (place_of (length slots) q) = new_first q ∙ get_or-set_other firsts own (place_of (length slots) q) (Some number) None other in
        ap (λ (n : ℕ). cond (is_at more n q) (listed (first_at numbered (place_of (length filled) q))) []) slot
        ∙ ap (λ (b : Bool). cond b (listed (first_at numbered (place_of (length filled) q))) []) (is_at_kept keys (length key ∷ key) (slot_of slots q) q (s.whole (place_of (length slots) q)))
        ∙ ap (λ (f : Option ℕ). cond (is_at keys (slot_of slots q) q) (listed f) []) first

    pub put_all : (q : Vec ℕ Global) → all_at filled numbered more crowded q.items ≡ all_at slots firsts keys crowded q.items ++ with_number key number q.items
    put_all q = elim (cases_eq (place_of (length slots) q.items) own) [
      | inl same ↦
          let none : slot_of slots q.items ≡ 0 = ap (λ (p : ℕ). get_or slots p 0) same ∙ free in
          rw (placed_own q.items same, placed_free q.items none, s.taken q none) (append-nil (with_number key number q.items))
      | inr other ↦
          let apart : bytes_eq key q.items ≡ false = by other in
          rw (placed_other q.items other, apart) (sym (append-nil (all_at slots firsts keys crowded q.items)))
    ]
      where
        by : place_of (length slots) q.items ≢ own → bytes_eq key q.items ≡ false
        by other = elim (cases_Bool (bytes_eq key q.items)) [
          | inl t ↦ absurd (other (ap (place_of (length slots)) (sym (bytes_eq-true key q.items t))))
          | inr f ↦ f
        ]

    put_whole : (p : ℕ) → get_or filled p 0 ≢ 0 → get_or filled p 0 + get_or more (get_or filled p 0 - 1) 0 ≤ length more
    put_whole p some = elim (cases_eq p own) [
      | inl same ↦
          let slot : get_or filled p 0 ≡ length keys + 1 = ap (λ (n : ℕ). get_or filled n 0) same ∙ get_or-set_same slots own (length keys + 1) 0 within in
          let begin : length keys + 1 - 1 ≡ length keys = omega arith in
          rw (slot, begin, get_or-append_seam keys (length key) key 0) (omega (arith, length-append keys (length key ∷ key)))
      | inr other ↦
          let slot : get_or filled p 0 ≡ get_or slots p 0 = get_or-set_other slots own p (length keys + 1) 0 other in
          let was : get_or slots p 0 ≢ 0 = λ e. some (slot ∙ e) in
          let old : get_or slots p 0 + get_or keys (get_or slots p 0 - 1) 0 ≤ length keys = s.whole p was in
          let inside : get_or slots p 0 - 1 < length keys = omega (arith, old, was) in
          rw (slot, get_or_append_left keys (length key ∷ key) 0 (get_or slots p 0 - 1) inside) (omega (arith, old, length-append keys (length key ∷ key)))
    ]

    put_taken : (q : Vec ℕ Global) → slot_of filled q.items ≡ 0 → paired crowded q.items ≡ []
    put_taken q none = elim (cases_eq (place_of (length slots) q.items) own) [
      | inl same ↦
          let slot : slot_of filled q.items ≡ length keys + 1 = new_slot q.items ∙ ap (λ (p : ℕ). get_or filled p 0) same ∙ get_or-set_same slots own (length keys + 1) 0 within in
          absurd (omega (arith, slot, none))
      | inr other ↦ s.taken q (sym (new_slot q.items ∙ get_or-set_other slots own (place_of (length slots) q.items) (length keys + 1) 0 other) ∙ none)
    ]

    pub put_stands : Stand filled numbered more crowded
    put_stands = record {
      some = let all = length-set slots own (length keys + 1) in omega (arith, all, s.some);
      count = length-set firsts own (Some number) ∙ s.count ∙ sym (length-set slots own (length keys + 1));
      whole = put_whole;
      taken = put_taken;
    }

  -- the same, by the numbers that a call has
  module _ (key : List ℕ) (number place begin : ℕ) (new : List ℕ) (free : slot_of slots key ≡ 0) (at : place ≡ place_of (length slots) key) (inside : place < length slots) (end : begin ≡ length keys) (behind : new ≡ keys ++ length key ∷ key) where
    within_own : place_of (length slots) key < length slots
    within_own = rw (← at) inside

    pub put_seen : (q : Vec ℕ Global) → all_at (slice_set slots place (begin + 1)) (slice_set firsts place (Some number)) new crowded q.items ≡ all_at slots firsts keys crowded q.items ++ with_number key number q.items
    put_seen q = rw (at, end, behind) (put_all key number free within_own q)

    pub put_stands_seen : Stand (slice_set slots place (begin + 1)) (slice_set firsts place (Some number)) new crowded
    put_stands_seen = rw (at, end, behind) (put_stands key number free within_own)

  -- ---- keys behind which something begins
  pub kept_all : (rest : List ℕ) (q : List ℕ) → all_at slots firsts (keys ++ rest) crowded q ≡ all_at slots firsts keys crowded q
  kept_all rest q =
      ap (λ (b : Bool). cond b (listed (first_at firsts (place_of (length slots) q))) [] ++ paired crowded q) (is_at_kept keys rest (slot_of slots q) q (s.whole (place_of (length slots) q)))

  -- ---- a number behind the others in the ordered map
  module _ (key : List ℕ) (number : ℕ) (next : List (List ℕ × List ℕ)) (put : (q : Vec ℕ Global) → paired next q.items ≡ paired crowded q.items ++ with_number key number q.items) where
    pub crowd_stands : slot_of slots key ≢ 0 → Stand slots firsts keys next
    crowd_stands some = record {
      some = s.some;
      count = s.count;
      whole = s.whole;
      taken = λ q free. elim (cases_Bool (bytes_eq key q.items)) [
        | inl t ↦ absurd (some (ap (slot_of slots) (bytes_eq-true key q.items t) ∙ free))
        | inr f ↦ put q ∙ rw (s.taken q free, f) refl
      ];
    }

  pub same_all : (next : List (List ℕ × List ℕ)) → ((q : Vec ℕ Global) → paired next q.items ≡ paired crowded q.items) → (q : Vec ℕ Global) → all_at slots firsts keys next q.items ≡ all_at slots firsts keys crowded q.items
  same_all next same q = ap (λ (ns : List ℕ). placed slots firsts keys q.items ++ ns) (same q)

  pub same_stands : (next : List (List ℕ × List ℕ)) → ((q : Vec ℕ Global) → paired next q.items ≡ paired crowded q.items) → Stand slots firsts keys next
  same_stands next same = record { some = s.some; count = s.count; whole = s.whole; taken = λ q free. same q ∙ s.taken q free }

  -- ---- what a key's place has is replaced
  module _ (key : List ℕ) (next : Option ℕ) (there : is_at keys (slot_of slots key) key ≡ true) (within : place_of (length slots) key < length slots) where
    abbrev key_place : ℕ
    key_place = place_of (length slots) key

    abbrev replaced : List (Option ℕ)
    replaced = slice_set firsts key_place next

    not_there : (q : List ℕ) → place_of (length slots) q ≡ key_place → bytes_eq key q ≡ false → is_at keys (slot_of slots q) q ≡ false
    not_there q same apart = elim (cases_Bool (is_at keys (slot_of slots q) q)) [
      | inl t ↦
          let here : is_at keys (slot_of slots key) q ≡ true = ap (λ (p : ℕ). is_at keys (get_or slots p 0) q) (sym same) ∙ t in
          absurd (false≢true (sym apart ∙ (bytes_eq-Decides key q).1 (one_key keys (slot_of slots key) key q there here)))
      | inr f ↦ f
    ]

    placed_others : (q : List ℕ) → bytes_eq key q ≡ false → placed slots replaced keys q ≡ placed slots firsts keys q
    placed_others q apart = elim (cases_eq (place_of (length slots) q) key_place) [
      | inl same ↦
          let other = not_there q same apart in
          ap (λ (b : Bool). cond b (listed (first_at replaced (place_of (length slots) q))) []) other ∙ sym (ap (λ (b : Bool). cond b (listed (first_at firsts (place_of (length slots) q))) []) other)
      | inr other ↦ ap (λ (f : Option ℕ). cond (is_at keys (slot_of slots q) q) (listed f) []) (get_or-set_other firsts key_place (place_of (length slots) q) next None other)
    ]

    placed_next : (q : List ℕ) → bytes_eq key q ≡ true → placed slots replaced keys q ≡ listed next
    placed_next q same =
        let inside : key_place < length firsts = rw s.count within in
        ap (placed slots replaced keys) (sym (bytes_eq-true key q same)) ∙ ap (λ (b : Bool). cond b (listed (first_at replaced key_place)) []) there ∙ ap listed (get_or-set_same firsts key_place next None inside)

  -- the number at a key's place goes
  pub pop_seen : (key : List ℕ) (number place : ℕ) → listed (Some number) ≡ placed slots firsts keys key → place ≡ place_of (length slots) key → place < length slots
      → (q : Vec ℕ Global) → all_at slots (slice_set firsts place None) keys crowded q.items ≡ without_first key q.items (all_at slots firsts keys crowded q.items)
  pop_seen key number place own_number at inside q =
      let within : place_of (length slots) key < length slots = rw (← at) inside in
      rw at (elim (cases_Bool (bytes_eq key q.items)) [
        | inl t ↦
            let now : placed slots (slice_set firsts (place_of (length slots) key) None) keys q.items ≡ [] = placed_next key None is_there within q.items t in
            let was : placed slots firsts keys q.items ≡ number ∷ [] = ap (placed slots firsts keys) (sym (bytes_eq-true key q.items t)) ∙ sym own_number in
            rw (t, now, was) refl
        | inr f ↦ rw f (ap (λ (ns : List ℕ). ns ++ paired crowded q.items) (placed_others key None is_there within q.items f))
      ])
    where
      by : (b : Bool) → (number ∷ []) ≡ cond b (listed (first_at firsts (place_of (length slots) key))) [] → b ≡ true
      by true e = refl
      by false e = cc

      is_there : is_at keys (slot_of slots key) key ≡ true
      is_there = by (is_at keys (slot_of slots key) key) own_number

  -- a number comes to the place of a key that has none
  pub refill_seen : (key : List ℕ) (number place : ℕ) → is_at keys (slot_of slots key) key ≡ true → first_at firsts place ≡ None → paired crowded key ≡ [] → place ≡ place_of (length slots) key → place < length slots
      → (q : Vec ℕ Global) → all_at slots (slice_set firsts place (Some number)) keys crowded q.items ≡ all_at slots firsts keys crowded q.items ++ with_number key number q.items
  refill_seen key number place there empty none at inside q =
      let within : place_of (length slots) key < length slots = rw (← at) inside in
      rw at (elim (cases_Bool (bytes_eq key q.items)) [
        | inl t ↦
            let same : q.items ≡ key = sym (bytes_eq-true key q.items t) in
            let now : placed slots (slice_set firsts (place_of (length slots) key) (Some number)) keys q.items ≡ number ∷ [] = placed_next key (Some number) there within q.items t in
            let was : placed slots firsts keys q.items ≡ [] =
            ap (placed slots firsts keys) same ∙ ap (λ (b : Bool). cond b (listed (first_at firsts (place_of (length slots) key))) []) there ∙ ap (λ (p : ℕ). listed (first_at firsts p)) (sym at) ∙ ap listed empty in
            let behind : paired crowded q.items ≡ [] = ap (paired crowded) same ∙ none in
            rw (t, now, was, behind) refl
        | inr f ↦ rw f (ap (λ (ns : List ℕ). ns ++ paired crowded q.items) (placed_others key (Some number) there within q.items f) ∙ sym (append-nil (all_at slots firsts keys crowded q.items)))
      ])

  -- ---- the first number in the ordered map goes
  module _ (key : List ℕ) (next : List (List ℕ × List ℕ)) (pop : (q : Vec ℕ Global) → paired next q.items ≡ without_first key q.items (paired crowded q.items)) where
    pub pop_crowded_stands : Stand slots firsts keys next
    pop_crowded_stands = record { some = s.some; count = s.count; whole = s.whole; taken = λ q free. pop q ∙ dropped (bytes_eq key q.items) (paired crowded q.items) (s.taken q free) }
      where
        dropped : (b : Bool) (ns : List ℕ) → ns ≡ [] → cond b (drop 1 ns) ns ≡ []
        dropped true ns e = ap (drop 1) e
        dropped false ns e = e
