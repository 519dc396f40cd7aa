-- What one more list changes in a set of lists of numbers.
use Rattle.std.proofs.Common.{◌≡◌, ◌≢◌, ◌<◌, ◌≤◌, ℕ, zero, suc, ◌+◌, ◌-◌, ◌*◌, ◌==◌, ◌&&◌, ◌||◌, Bool, true, false, not, cond, List, [], ◌∷◌, ◌++◌, Vec, length, drop, get_or, replicate, slice_set, refl, sym, ap, subst, ◌∙◌, inl, inr, arith}
use Rattle.std.specs.Global.{Global}
use Rattle.std.specs.Str.{bytes_eq}
use Rattle.std.specs.BTreeSet.{BTreeSet, Updates, contains}
use Rattle.std.proofs.lemmas.Bool.{cases_Bool, eqb-true, eq-eqb, false≢true}
use Rattle.std.proofs.lemmas.Bool.Decides.{nat_tests}
use Rattle.std.proofs.lemmas.Map.Text.{is_eq-slice_cmp}
use Rattle.std.proofs.lemmas.List.{drop-append-le, get_or_append_left, get_or-set_same, get_or-set_other, length-append, length-drop, length-set, take-append-le}
use Rattle.std.proofs.lemmas.Slice.Eq.{bytes_eq-Decides}
use Rattle.std.proofs.Math.Nat.{mod-lt}
use Rattle.std.proofs.Math.Seq.{drop-append-add, get_or-append_seam, take-length}
use Rattle.rmt_bits.proofs.FunctionLaws.{bytes_eq-sym}
use Rattle.rmt_bits.specs.Members.{by_numbers}
use Rattle.rmt_entries.specs.declared.key_set.Spot.{Spot}
use Rattle.rmt_entries.specs.declared.key_set.Spot.TheVariants.{Free, Held, Crowded}
use Rattle.rmt_entries.specs.KeySets.{IsWhole, KeySet, Stands, apart, holds, home, is_at, is_near, is_there, list_at, near, place_of, spot_in, spot_of}

-- ---- lists behind their lengths

pub list_at_kept : (held rest : List ℕ) (at : ℕ) → at + 1 + get_or held at 0 ≤ length held → list_at (held ++ rest) at ≡ list_at held at
list_at_kept held rest at h =
    let within : at < length held = omega (arith, h) in
    let more : at + 1 ≤ length held = omega (arith, h) in
    let fits : get_or held at 0 ≤ length (drop (at + 1) held) = omega (arith, h, length-drop (at + 1) held) in
    rw (get_or_append_left held rest 0 at within, drop-append-le (at + 1) held rest more) (take-append-le (get_or held at 0) (drop (at + 1) held) rest fits)

pub list_at_end : (held key : List ℕ) → list_at (held ++ length key ∷ key) (length held) ≡ key
list_at_end held key = rw (get_or-append_seam held (length key) key 0, drop-append-add held (length key ∷ key) 1) (take-length key)

above : (n : ℕ) → (n == 0) ≡ false → n ≢ 0
above n f e = false≢true (sym f ∙ eq-eqb n 0 e)

pub is_at_kept : (held rest : List ℕ) (slot : ℕ) (key : List ℕ) → (slot ≢ 0 → slot + get_or held (slot - 1) 0 ≤ length held) → is_at (held ++ rest) slot key ≡ is_at held slot key
is_at_kept held rest slot key h = elim (cases_Bool (slot == 0)) [
  | inl t ↦ rw t refl
  | inr f ↦
      let some = above slot f in
      ap (λ (l : List ℕ). not (slot == 0) && bytes_eq key l) (list_at_kept held rest (slot - 1) (omega (arith, h some, some)))
]

-- ---- where a list belongs

below : {n : ℕ} → n ≢ 0 → (n == 0) ≡ false
below {n} h = elim (cases_Bool (n == 0)) [
  | inl t ↦ absurd (h (eqb-true n 0 t))
  | inr f ↦ f
]

pub spot_free : (slots held : List ℕ) (count place : ℕ) (key : List ℕ) → (get_or slots place 0 == 0) ≡ true → spot_of slots held (suc count) place key ≡ Free place
unfolding spot_of
spot_free slots held count place key t = rw t refl

pub spot_held : (slots held : List ℕ) (count place : ℕ) (key : List ℕ) → (get_or slots place 0 == 0) ≡ false → bytes_eq key (list_at held (get_or slots place 0 - 1)) ≡ true → spot_of slots held (suc count) place key ≡ Held
unfolding spot_of
spot_held slots held count place key f t = rw (f, t) refl

pub spot_next : (slots held : List ℕ) (count place : ℕ) (key : List ℕ) → (get_or slots place 0 == 0) ≡ false → bytes_eq key (list_at held (get_or slots place 0 - 1)) ≡ false → spot_of slots held (suc count) place key ≡ spot_of slots held count (place + apart) key
unfolding spot_of
spot_next slots held count place key f g = rw (f, g) refl

-- the same by the places that are left
pub free_here : (slots held : List ℕ) (left place : ℕ) (key : List ℕ) → 0 < left → get_or slots place 0 ≡ 0 → spot_of slots held left place key ≡ Free place
free_here slots held zero place key some e = absurd (omega (arith, some))
free_here slots held (suc n) place key some e = spot_free slots held n place key (rw e refl)

pub held_here : (slots held : List ℕ) (left place : ℕ) (key : List ℕ) → 0 < left → get_or slots place 0 ≢ 0 → bytes_eq key (list_at held (get_or slots place 0 - 1)) ≡ true → spot_of slots held left place key ≡ Held
held_here slots held zero place key some h t = absurd (omega (arith, some))
held_here slots held (suc n) place key some h t = spot_held slots held n place key (below h) t

pub not_here : (slots held : List ℕ) (left place : ℕ) (key : List ℕ) → 0 < left → get_or slots place 0 ≢ 0 → bytes_eq key (list_at held (get_or slots place 0 - 1)) ≡ false → spot_of slots held left place key ≡ spot_of slots held (left - 1) (place + apart) key
not_here slots held zero place key some h f = absurd (omega (arith, some))
not_here slots held (suc n) place key some h f =
    let left : suc n - 1 ≡ n = omega arith in
    rw left (spot_next slots held n place key (below h) f)

pub crowded_here : (slots held : List ℕ) (left place : ℕ) (key : List ℕ) → left ≡ 0 → spot_of slots held left place key ≡ Crowded
unfolding spot_of
crowded_here slots held left place key none = rw none refl

-- which of the three a spot is
abbrev is_free : Spot → Bool
is_free (Free place) = true
is_free Held = false
is_free Crowded = false

abbrev is_held : Spot → Bool
is_held (Free place) = false
is_held Held = true
is_held Crowded = false

abbrev place_in : Spot → ℕ
place_in (Free place) = place
place_in Held = 0
place_in Crowded = 0

-- a list that is held stands near
pub held_near : (slots held : List ℕ) (count place : ℕ) (key : List ℕ) → spot_of slots held count place key ≡ Held → is_near slots held count place key ≡ true
unfolding spot_of is_near
held_near slots held zero place key e = absurd (false≢true (ap is_held e))
held_near slots held (suc n) place key e = elim (cases_Bool (get_or slots place 0 == 0)) [
  | inl t ↦ absurd (false≢true (ap is_held (sym (spot_free slots held n place key t) ∙ e)))
  | inr f ↦ elim (cases_Bool (bytes_eq key (list_at held (get_or slots place 0 - 1)))) [
    | inl u ↦ rw (f, u) refl
    | inr g ↦ rw (f, g) (held_near slots held n (place + apart) key (sym (spot_next slots held n place key f g) ∙ e))
  ]
]

-- a list whose places others took does not
pub crowded_near : (slots held : List ℕ) (count place : ℕ) (key : List ℕ) → spot_of slots held count place key ≡ Crowded → is_near slots held count place key ≡ false
unfolding spot_of is_near
crowded_near slots held zero place key e = refl
crowded_near slots held (suc n) place key e = elim (cases_Bool (get_or slots place 0 == 0)) [
  | inl t ↦ absurd (false≢true (sym (ap is_free (sym (spot_free slots held n place key t) ∙ e))))
  | inr f ↦ elim (cases_Bool (bytes_eq key (list_at held (get_or slots place 0 - 1)))) [
    | inl u ↦ absurd (false≢true (sym (ap is_held (sym (spot_held slots held n place key f u) ∙ e))))
    | inr g ↦ rw (f, g) (crowded_near slots held n (place + apart) key (sym (spot_next slots held n place key f g) ∙ e))
  ]
]

-- a free place is one of those
pub free_place : (slots held : List ℕ) (count place : ℕ) (key : List ℕ) (at : ℕ) → spot_of slots held count place key ≡ Free at → (get_or slots at 0 ≡ 0) × (at < place + apart * count)
unfolding spot_of
free_place slots held zero place key at e = absurd (false≢true (ap is_free e))
free_place slots held (suc n) place key at e = elim (cases_Bool (get_or slots place 0 == 0)) [
  | inl t ↦
      let same : place ≡ at = ap place_in (sym (spot_free slots held n place key t) ∙ e) in
      (ap (λ (p : ℕ). get_or slots p 0) (sym same) ∙ eqb-true (get_or slots place 0) 0 t, omega (arith, same))
  | inr f ↦ elim (cases_Bool (bytes_eq key (list_at held (get_or slots place 0 - 1)))) [
    | inl u ↦ absurd (false≢true (ap is_free (sym (spot_held slots held n place key f u) ∙ e)))
    | inr g ↦
        let rest = free_place slots held n (place + apart) key at (sym (spot_next slots held n place key f g) ∙ e) in
        (rest.0, omega (arith, rest.1))
  ]
]

-- all places of a list are there
pub home_room : (slots key : List ℕ) → near * apart < length slots → home slots key + near * apart ≤ length slots
home_room slots key some =
    let places : 0 < length slots - near * apart = omega (arith, some) in
    let within : home slots key < length slots - near * apart = mod-lt _ places in
    omega (arith, within, some)

-- the free place of a list is there
pub free_home : (slots held key : List ℕ) (place : ℕ) → spot_of slots held near (home slots key) key ≡ Free place → near * apart < length slots
    → (get_or slots place 0 ≡ 0) × (place < length slots)
free_home slots held key place e some =
    let free = free_place slots held near (home slots key) key place e in
    let room = home_room slots key some in
    (free.0, omega (arith, free.1, room))

-- where a list belongs, as a call sees it
pub spot_seen : (slots held key : List ℕ) (crowded : BTreeSet (Vec ℕ Global)) (set : KeySet) (seen : List ℕ) (spot : Spot) → (slots, (held, crowded)) ≡ set → seen ≡ key → spot ≡ spot_in set seen
    → spot_of slots held near (home slots key) key ≡ spot
spot_seen slots held key crowded set seen spot v a is = sym (is ∙ ap (spot_in set) a ∙ ap (λ (k : KeySet). spot_in k key) (sym v))

-- ---- more lists behind the others

module _ (slots held rest : List ℕ) (whole : IsWhole slots held) where
  pub near_more : (count p : ℕ) (q : List ℕ) → is_near slots (held ++ rest) count p q ≡ is_near slots held count p q
  unfolding is_near
  near_more zero p q = refl
  near_more (suc n) p q =
      ap (λ (b : Bool). b || is_near slots (held ++ rest) n (p + apart) q) (is_at_kept held rest (get_or slots p 0) q (whole p))
      ∙ ap (λ (b : Bool). is_at held (get_or slots p 0) q || b) (near_more n (p + apart) q)

  pub spot_more : (count p : ℕ) (q : List ℕ) → spot_of slots (held ++ rest) count p q ≡ spot_of slots held count p q
  unfolding spot_of
  spot_more zero p q = refl
  spot_more (suc n) p q = elim (cases_Bool (get_or slots p 0 == 0)) [
    | inl t ↦ rw t refl
    | inr f ↦
        let some = above (get_or slots p 0) f in
        let list : list_at (held ++ rest) (get_or slots p 0 - 1) ≡ list_at held (get_or slots p 0 - 1) = list_at_kept held rest (get_or slots p 0 - 1) (omega (arith, whole p some, some)) in
        rw (list, spot_more n (p + apart) q) refl
  ]

pub stands_more : (slots held rest : List ℕ) (crowded : BTreeSet (Vec ℕ Global)) → Stands slots held crowded → Stands slots (held ++ rest) crowded
stands_more slots held rest crowded s = record {
  some = s.some;
  whole = λ p some.
      let fits = s.whole p some in
      let before : get_or slots p 0 - 1 < length held = omega (arith, fits, some) in
      rw (get_or_append_left held rest 0 (get_or slots p 0 - 1) before, length-append held rest) (omega (arith, fits));
  found = λ q there.
      let before : holds slots held crowded q ≡ true = ap (λ (b : Bool). b || contains by_numbers crowded q) (sym (near_more slots held rest s.whole near (home slots q.items) q.items)) ∙ there in
      rw (spot_more slots held rest s.whole near (home slots q.items) q.items) (s.found q before);
}

-- ---- a list in a free place

abbrev pub with_slot : List ℕ → List ℕ → ℕ → List ℕ
with_slot slots held place = slice_set slots place (length held + 1)

abbrev pub with_list : List ℕ → List ℕ → List ℕ
with_list held key = held ++ length key ∷ key

module _ (slots held : List ℕ) (whole : IsWhole slots held) (key : List ℕ) (place : ℕ) (free : get_or slots place 0 ≡ 0) (within : place < length slots) where
  abbrev filled : List ℕ
  filled = with_slot slots held place

  abbrev more : List ℕ
  more = with_list held key

  own_slot : get_or filled place 0 ≡ length held + 1
  own_slot = get_or-set_same slots place (length held + 1) 0 within

  other_slot : (p : ℕ) → p ≢ place → get_or filled p 0 ≡ get_or slots p 0
  other_slot p h = get_or-set_other slots place p (length held + 1) 0 h

  own_list : (q : List ℕ) → is_at more (length held + 1) q ≡ bytes_eq key q
  own_list q =
      let some : (length held + 1 == 0) ≡ false = grind (arith, nat_tests) in
      let begin : length held + 1 - 1 ≡ length held = omega arith in
      rw (some, begin, list_at_end held key) (bytes_eq-sym q key)

  -- a place that is taken is another one
  taken : (p : ℕ) → (get_or slots p 0 == 0) ≡ false → p ≢ place
  taken p f e = above (get_or slots p 0) f (ap (λ (n : ℕ). get_or slots n 0) e ∙ free)

  other_list : (p : ℕ) → (get_or slots p 0 == 0) ≡ false → list_at more (get_or slots p 0 - 1) ≡ list_at held (get_or slots p 0 - 1)
  other_list p f =
      let some = above (get_or slots p 0) f in
      list_at_kept held (length key ∷ key) (get_or slots p 0 - 1) (omega (arith, whole p some, some))

  slot_kept : (p : ℕ) (q : List ℕ) → bytes_eq key q ≡ false → is_at more (get_or filled p 0) q ≡ is_at held (get_or slots p 0) q
  slot_kept p q h = elim (cases_Bool (p == place)) [
    | inl t ↦
        let same : p ≡ place = eqb-true p place t in
        let new : get_or filled p 0 ≡ length held + 1 = ap (λ (n : ℕ). get_or filled n 0) same ∙ own_slot in
        let old : get_or slots p 0 ≡ 0 = ap (λ (n : ℕ). get_or slots n 0) same ∙ free in
        rw (new, own_list q, h, old) refl
    | inr f ↦
        let other : p ≢ place = λ e. false≢true (sym f ∙ eq-eqb p place e) in
        rw (other_slot p other) (is_at_kept held (length key ∷ key) (get_or slots p 0) q (whole p))
  ]

  -- another list is as near as before
  pub near_kept : (count p : ℕ) (q : List ℕ) → bytes_eq key q ≡ false → is_near filled more count p q ≡ is_near slots held count p q
  unfolding is_near
  near_kept zero p q h = refl
  near_kept (suc n) p q h =
      ap (λ (b : Bool). b || is_near filled more n (p + apart) q) (slot_kept p q h)
      ∙ ap (λ (b : Bool). is_at held (get_or slots p 0) q || b) (near_kept n (p + apart) q h)

  spot_at : (n : ℕ) → spot_of filled more (suc n) place key ≡ Held
  spot_at n =
      let some : (get_or filled place 0 == 0) ≡ false = rw own_slot (grind (arith, nat_tests)) in
      let begin : length held + 1 - 1 ≡ length held = omega arith in
      let same : bytes_eq key (list_at more (get_or filled place 0 - 1)) ≡ true = rw (own_slot, begin, list_at_end held key) ((bytes_eq-Decides key key).1 refl) in
      spot_held filled more n place key some same

  -- the list is where it belongs
  pub spot_put : (count p : ℕ) → spot_of slots held count p key ≡ Free place → spot_of filled more count p key ≡ Held
  unfolding spot_of
  spot_put zero p e = absurd (false≢true (ap is_free e))
  spot_put (suc n) p e = elim (cases_Bool (get_or slots p 0 == 0)) [
    | inl t ↦
        let same : place ≡ p = sym (ap place_in (sym (spot_free slots held n p key t) ∙ e)) in
        subst (λ (x : ℕ). spot_of filled more (suc n) x key ≡ Held) same (spot_at n)
    | inr f ↦
        let slot = other_slot p (taken p f) in
        let some : (get_or filled p 0 == 0) ≡ false = rw slot f in
        let list : list_at more (get_or filled p 0 - 1) ≡ list_at held (get_or slots p 0 - 1) = rw slot (other_list p f) in
        elim (cases_Bool (bytes_eq key (list_at held (get_or slots p 0 - 1)))) [
          | inl u ↦ absurd (false≢true (ap is_free (sym (spot_held slots held n p key f u) ∙ e)))
          | inr g ↦
              spot_next filled more n p key some (ap (bytes_eq key) list ∙ g)
              ∙ spot_put n (p + apart) (sym (spot_next slots held n p key f g) ∙ e)
        ]
  ]

  -- and each list that was where it belongs is so still
  pub there_kept : (others : Bool) (count p : ℕ) (q : List ℕ) → is_there others (spot_of slots held count p q) ≡ true → is_there others (spot_of filled more count p q) ≡ true
  unfolding spot_of
  there_kept others zero p q h = h
  there_kept others (suc n) p q h = elim (cases_Bool (get_or slots p 0 == 0)) [
    | inl t ↦ absurd (false≢true (ap (is_there others) (sym (spot_free slots held n p q t)) ∙ h))
    | inr f ↦
        let slot = other_slot p (taken p f) in
        let some : (get_or filled p 0 == 0) ≡ false = rw slot f in
        let list : list_at more (get_or filled p 0 - 1) ≡ list_at held (get_or slots p 0 - 1) = rw slot (other_list p f) in
        elim (cases_Bool (bytes_eq q (list_at held (get_or slots p 0 - 1)))) [
          | inl u ↦ ap (is_there others) (spot_held filled more n p q some (ap (bytes_eq q) list ∙ u))
          | inr g ↦
              ap (is_there others) (spot_next filled more n p q some (ap (bytes_eq q) list ∙ g))
              ∙ there_kept others n (p + apart) q (ap (is_there others) (sym (spot_next slots held n p q f g)) ∙ h)
        ]
  ]

  pub whole_put : IsWhole filled more
  whole_put p some = elim (cases_Bool (p == place)) [
    | inl t ↦
        let same : p ≡ place = eqb-true p place t in
        let new : get_or filled p 0 ≡ length held + 1 = ap (λ (n : ℕ). get_or filled n 0) same ∙ own_slot in
        let begin : length held + 1 - 1 ≡ length held = omega arith in
        rw (new, begin, get_or-append_seam held (length key) key 0, length-append held (length key ∷ key)) (omega arith)
    | inr f ↦
        let other : p ≢ place = λ e. false≢true (sym f ∙ eq-eqb p place e) in
        let slot = other_slot p other in
        let old : get_or slots p 0 ≢ 0 = λ e. some (slot ∙ e) in
        let fits = whole p old in
        let before : get_or slots p 0 - 1 < length held = omega (arith, fits, old) in
        rw (slot, get_or_append_left held (length key ∷ key) 0 (get_or slots p 0 - 1) before, length-append held (length key ∷ key)) (omega (arith, fits))
  ]

module _ (slots held : List ℕ) (crowded : BTreeSet (Vec ℕ Global)) (s : Stands slots held crowded) (key : Vec ℕ Global) where
  abbrev pub own : Spot
  own = spot_of slots held near (home slots key.items) key.items

  same_key : (q : Vec ℕ Global) → bytes_eq key.items q.items ≡ true → key.items ≡ q.items
  same_key q t = (bytes_eq-Decides key.items q.items).0 t

  -- a list with a free place is new
  pub absent : (place : ℕ) → own ≡ Free place → holds slots held crowded key ≡ false
  absent place free = elim (cases_Bool (holds slots held crowded key)) [
    | inl t ↦ absurd (false≢true (ap (is_there (contains by_numbers crowded key)) (sym free) ∙ s.found key t))
    | inr f ↦ f
  ]

  -- one that is held is not
  pub present : own ≡ Held → holds slots held crowded key ≡ true
  present e = ap (λ (b : Bool). b || contains by_numbers crowded key) (held_near slots held near (home slots key.items) key.items e)

  -- one whose places are taken is, where the others have it
  pub among_others : own ≡ Crowded → holds slots held crowded key ≡ contains by_numbers crowded key
  among_others e = ap (λ (b : Bool). b || contains by_numbers crowded key) (crowded_near slots held near (home slots key.items) key.items e)

  pub present_kept : own ≡ Held → (q : Vec ℕ Global) → holds slots held crowded q ≡ cond (bytes_eq key.items q.items) true (holds slots held crowded q)
  present_kept e q = elim (cases_Bool (bytes_eq key.items q.items)) [
    | inl t ↦
        let same = same_key q t in
        let near_too : is_near slots held near (home slots q.items) q.items ≡ true =
        subst (λ (xs : List ℕ). is_near slots held near (home slots xs) xs ≡ true) same (held_near slots held near (home slots key.items) key.items e) in
        rw (t, near_too) refl
    | inr f ↦ rw f refl
  ]

  -- ---- a list in a free place
  module _ (place : ℕ) (e : own ≡ Free place) (free : get_or slots place 0 ≡ 0) (within : place < length slots) where
    abbrev slots_put : List ℕ
    slots_put = with_slot slots held place

    abbrev held_put : List ℕ
    held_put = with_list held key.items

    same_home : (q : List ℕ) → home slots_put q ≡ home slots q
    same_home q = ap (λ (n : ℕ). place_of (n - near * apart) q) (length-set slots place (length held + 1))

    is_put : (q : List ℕ) → key.items ≡ q → spot_of slots_put held_put near (home slots_put q) q ≡ Held
    is_put q same =
        let put : spot_of slots_put held_put near (home slots_put key.items) key.items ≡ Held = rw (same_home key.items) (spot_put slots held s.whole key.items place free within near (home slots key.items) e) in
        subst (λ (xs : List ℕ). spot_of slots_put held_put near (home slots_put xs) xs ≡ Held) same put

    pub put_holds : (q : Vec ℕ Global) → holds slots_put held_put crowded q ≡ cond (bytes_eq key.items q.items) true (holds slots held crowded q)
    put_holds q = elim (cases_Bool (bytes_eq key.items q.items)) [
      | inl t ↦
          let there : is_near slots_put held_put near (home slots_put q.items) q.items ≡ true = held_near slots_put held_put near (home slots_put q.items) q.items (is_put q.items (same_key q t)) in
          rw (t, there) refl
      | inr f ↦
          let kept : is_near slots_put held_put near (home slots_put q.items) q.items ≡ is_near slots held near (home slots q.items) q.items = rw (same_home q.items) (near_kept slots held s.whole key.items place free within near (home slots q.items) q.items f) in
          rw (f, kept) refl
    ]

    pub put_stands : Stands slots_put held_put crowded
    put_stands = record {
      some = rw (length-set slots place (length held + 1)) s.some;
      whole = whole_put slots held s.whole key.items place free within;
      found = λ q there. elim (cases_Bool (bytes_eq key.items q.items)) [
        | inl t ↦ ap (is_there (contains by_numbers crowded q)) (is_put q.items (same_key q t))
        | inr f ↦
            let before : holds slots held crowded q ≡ true = sym (put_holds q ∙ ap (λ (b : Bool). cond b true (holds slots held crowded q)) f) ∙ there in
            rw (same_home q.items) (there_kept slots held s.whole key.items place free within (contains by_numbers crowded q) near (home slots q.items) q.items (s.found q before))
      ];
    }

  -- what is put there stands, where the end of the lists and the lists then are as a call has them
  pub put_whole : (place begin : ℕ) (after : List ℕ) → own ≡ Free place → begin ≡ length held → after ≡ with_list held key.items
      → Stands (slice_set slots place (begin + 1)) after crowded
      × ((q : Vec ℕ Global) → holds (slice_set slots place (begin + 1)) after crowded q ≡ cond (bytes_eq key.items q.items) true (holds slots held crowded q))
  put_whole place begin after e at more =
      let free = free_home slots held key.items place e s.some in
      rw (at, more) (put_stands place e free.0 free.1, put_holds place e free.0 free.1)

  -- ---- a list whose places are taken
  module _ (more : BTreeSet (Vec ℕ Global)) (up : Updates by_numbers crowded more key true) where
    updated : (q : Vec ℕ Global) → contains by_numbers more q ≡ cond (bytes_eq key.items q.items) true (contains by_numbers crowded q)
    updated q = up.0 q ∙ ap (λ (b : Bool). cond b true (contains by_numbers crowded q)) (is_eq-slice_cmp key.items q.items)

    pub crowd_holds : (q : Vec ℕ Global) → holds slots held more q ≡ cond (bytes_eq key.items q.items) true (holds slots held crowded q)
    crowd_holds q = rw (updated q) (by (is_near slots held near (home slots q.items) q.items) (bytes_eq key.items q.items) (contains by_numbers crowded q))
      where
        by : (a b c : Bool) → (a || cond b true c) ≡ cond b true (a || c)
        by true true c = refl
        by true false c = refl
        by false true c = refl
        by false false c = refl

    pub crowd_stands : own ≡ Crowded → Stands slots held more
    crowd_stands e = record {
      some = s.some;
      whole = s.whole;
      found = λ q there. elim (cases_Bool (bytes_eq key.items q.items)) [
        | inl t ↦
            let spot : spot_of slots held near (home slots q.items) q.items ≡ Crowded = subst (λ (xs : List ℕ). spot_of slots held near (home slots xs) xs ≡ Crowded) (same_key q t) e in
            ap (is_there (contains by_numbers more q)) spot ∙ updated q ∙ ap (λ (b : Bool). cond b true (contains by_numbers crowded q)) t
        | inr f ↦
            let before : holds slots held crowded q ≡ true = sym (crowd_holds q ∙ ap (λ (b : Bool). cond b true (holds slots held crowded q)) f) ∙ there in
            let same : contains by_numbers more q ≡ contains by_numbers crowded q = updated q ∙ ap (λ (b : Bool). cond b true (contains by_numbers crowded q)) f in
            rw same (s.found q before)
      ];
    }

-- ---- the set without lists

abbrev zeros : ℕ → List ℕ
zeros count = replicate count 0

pub all_free : (count place : ℕ) → get_or (zeros count) place 0 ≡ 0
all_free zero place = refl
all_free (suc n) zero = refl
all_free (suc n) (suc p) = all_free n p

module _ (slots : List ℕ) (free : (p : ℕ) → get_or slots p 0 ≡ 0) where
  none_near : (count place : ℕ) (key : List ℕ) → is_near slots [] count place key ≡ false
  unfolding is_near
  none_near zero place key = refl
  none_near (suc n) place key = rw (free place) (none_near n (place + apart) key)

  module _ (crowded : BTreeSet (Vec ℕ Global)) (none : (q : Vec ℕ Global) → contains by_numbers crowded q ≡ false) where
    pub holds_none : (q : Vec ℕ Global) → holds slots [] crowded q ≡ false
    holds_none q = rw (none_near near (home slots q.items) q.items) (none q)

    pub stands_empty : near * apart < length slots → Stands slots [] crowded
    stands_empty some = record {
      some = some;
      whole = λ p taken. absurd (taken (free p));
      found = λ q there. absurd (false≢true (sym (holds_none q) ∙ there));
    }
