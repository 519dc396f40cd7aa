-- A pass over the stages in the ring of places.
use Rattle.std.proofs.Common.{◌≡◌, ◌≢◌, ℕ, zero, suc, ◌+◌, ◌-◌, ◌<◌, ◌≤◌, Bool, false, cond, eqb, ◌⊎◌, inl, inr, List, Option, length, get_or, set, refl, sym, ap, ◌∙◌, subst, ⊎_elim, arith}
use Rattle.std.proofs.lemmas.List.{get_or-set_same, get_or-set_other, length-set}
use Rattle.std.proofs.lemmas.Bool.{cases_lt, cases_eq}
use Rattle.std.proofs.lemmas.Bool.Decides.{nat_tests}
use Rattle.rmt_chip.specs.Types.{Config, Stage}
use Rattle.rmt_chip.specs.declared.packet_slot.PacketSlot.{PacketSlot}
use Rattle.rmt_chip.specs.Runnable.{start_of}
use Rattle.rmt_chip.specs.Held.{Entered, HoldsIf}
use Rattle.rmt_chip.specs.Ring.{ring_at, ring_after, partly, partly_next, done_before, now, next, AllHold}
use Rattle.rmt_chip.proofs.LifeLaws.{Rise}
use Rattle.rmt_chip.proofs.HeldLaws.{NoneAt}

-- ---- places

ring_at-front : (size newest age : ℕ) → age ≤ newest → ring_at size newest age ≡ newest - age
ring_at-front size newest age h = grind (arith, nat_tests)

ring_at-back : (size newest age : ℕ) → newest < age → ring_at size newest age ≡ size - (age - newest)
ring_at-back size newest age h = grind (arith, nat_tests)

-- the place of an age, by which side of the newest it is on
ring_at-is : (size newest age : ℕ) → ((age ≤ newest) × (ring_at size newest age ≡ newest - age)) ⊎ ((newest < age) × (ring_at size newest age ≡ size - (age - newest)))
ring_at-is size newest age = ⊎_elim (λ (h : newest < age). inr (h, ring_at-back size newest age h)) (λ (h : age ≤ newest). inl (h, ring_at-front size newest age h)) (cases_lt newest age)

pub ring_at-lt : (size newest age : ℕ) → newest < size → age < size → ring_at size newest age < size
ring_at-lt size newest age hn h = let is = ring_at-is size newest age in omega (arith, is)

-- two ages are not in one place
pub ring_at-apart : (size newest a b : ℕ) → newest < size → a < size → b < size → a ≢ b → ring_at size newest a ≢ ring_at size newest b
ring_at-apart size newest a b hn ha hb apart e =
    let at_a = ring_at-is size newest a in
    let at_b = ring_at-is size newest b in
    absurd (omega (arith, at_a, at_b, e))

pub ring_at-newest : (size newest : ℕ) → ring_at size newest 0 ≡ newest
ring_at-newest size newest = ring_at-front size newest 0 (omega arith) ∙ (let e : newest - 0 ≡ newest = omega arith in e)

ring_after-is : (size newest : ℕ) → ((newest + 1 < size) × (ring_after size newest ≡ newest + 1)) ⊎ ((size ≤ newest + 1) × (ring_after size newest ≡ 0))
ring_after-is size newest = ⊎_elim (λ (h : newest + 1 < size). inl (h, grind (arith, nat_tests))) (λ (h : size ≤ newest + 1). inr (h, grind (arith, nat_tests))) (cases_lt (newest + 1) size)

pub ring_after-lt : (size newest : ℕ) → newest < size → ring_after size newest < size
ring_after-lt size newest h = let is = ring_after-is size newest in omega (arith, is)

-- one cycle later an age is one more
pub ring_at-older : (size newest age : ℕ) → newest < size → age + 1 < size → ring_at size (ring_after size newest) (age + 1) ≡ ring_at size newest age
ring_at-older size newest age hn h =
    let after = ring_after-is size newest in
    let later = ring_at-is size (ring_after size newest) (age + 1) in
    let was = ring_at-is size newest age in
    omega (arith, after, later, was)

-- ---- bounds of a pass

pub partly-below : (bound t : ℕ) → t < bound → partly bound t ≡ t
partly-below bound t h = grind (arith, nat_tests)

pub partly-from : (bound t : ℕ) → bound ≤ t → partly bound t ≡ t - 1
partly-from bound t h = grind (arith, nat_tests)

pub next-below : (bound t : ℕ) → t < bound → partly_next bound t ≡ t + 1
next-below bound t h = grind (arith, nat_tests)

pub next-from : (bound t : ℕ) → bound ≤ t → partly_next bound t ≡ t
next-from bound t h = grind (arith, nat_tests)

pub done_none : (stages : List Stage) (after : ℕ) → done_before stages after 0 ≡ 0
done_none stages after = refl

pub done_more : (stages : List Stage) (after k : ℕ) → done_before stages after (k + 1) ≡ start_of stages k + after + 1
done_more stages after k =
    let back : k + 1 - 1 ≡ k = omega arith in
    let test : eqb (k + 1) 0 ≡ false = grind (arith, nat_tests) in
    ap (λ (b : Bool). cond b 0 (start_of stages (k + 1 - 1) + after + 1)) test ∙ ap (λ n. start_of stages n + after + 1) back

pub done_le : (stages : List Stage) (after k : ℕ) → Rise stages → k < length stages → done_before stages after k ≤ start_of stages k + after
done_le stages after zero rise h = omega (arith, done_none stages after)
done_le stages after (suc k) rise h =
    let next : suc k ≡ k + 1 = omega arith in
    let less : start_of stages k < start_of stages (suc k) = rise k (suc k) (omega arith) h in
    let d = ap (done_before stages after) next ∙ done_more stages after k in
    omega (arith, d)

-- no stage acts at the ages between the last one that acted and the next
quiet : (stages : List Stage) (after k t : ℕ) → Rise stages → k ≤ length stages → done_before stages after k ≤ t → (k < length stages → t < start_of stages k + after) → NoneAt stages after t
quiet stages after k t rise within from until j hj e =
    ⊎_elim
    (λ (h : j < k). absurd (early k j h within hj from e))
    (λ (h : k ≤ j).
    let bound : t < start_of stages k + after = until (omega arith) in
    let grown : start_of stages k ≤ start_of stages j = grow k j h hj in
    absurd (omega arith))
    (cases_lt j k)
  where
    grow : (a b : ℕ) → a ≤ b → b < length stages → start_of stages a ≤ start_of stages b
    grow a b h hb =
        ⊎_elim
        (λ (l : a < b). let less : start_of stages a < start_of stages b = rise a b l hb in omega arith)
        (λ (l : b ≤ a). let same : a ≡ b = omega arith in subst (λ n. start_of stages a ≤ start_of stages n) same (omega arith))
        (cases_lt a b)

    early : (k j : ℕ) → j < k → k ≤ length stages → j < length stages → done_before stages after k ≤ t → start_of stages j + after ≡ t → ⊥
    early zero j h w hj' f e = omega (arith, h)
    early (suc k) j h w hj' f e =
        let next : suc k ≡ k + 1 = omega arith in
        let d : done_before stages after (suc k) ≡ start_of stages k + after + 1 = ap (done_before stages after) next ∙ done_more stages after k in
        let grown : start_of stages j ≤ start_of stages k = grow j k (omega arith) (omega arith) in
        omega arith

-- ---- a pass: what it has done at ages below a bound, and not yet from there on

module _ (Q : ℕ → ℕ → PacketSlot → Type 0) (age : ℕ → ℕ → ℕ) (done due : ℕ → ℕ) (below : (bound t : ℕ) → t < bound → age bound t ≡ done t) (above : (bound t : ℕ) → bound ≤ t → age bound t ≡ due t)
    (stages : List Stage) (after newest : ℕ) (rise : Rise stages) (rests : (t : ℕ) (place : PacketSlot) → NoneAt stages after t → Q t (due t) place → Q t (done t) place) where
  -- each place keeps a fact of its age
  abbrev Upto : ℕ → ℕ → List PacketSlot → Type 0
  Upto size bound places = (t : ℕ) (d : PacketSlot) → t < size → Q t (age bound t) (get_or places (ring_at size newest t) d)

  one_of : (size k : ℕ) (places : List PacketSlot) (new : PacketSlot) → k < length stages → start_of stages k + after < size → newest < size → length places ≡ size
      → Upto size (done_before stages after k) places → Q (start_of stages k + after) (done (start_of stages k + after)) new
      → Upto size (start_of stages k + after + 1) (set places (ring_at size newest (start_of stages k + after)) new)
  one_of size k places new inside small ring full was now t d h =
      let a = start_of stages k + after in
      let b = done_before stages after k in
      let le : b ≤ a = done_le stages after k rise inside in
      ⊎_elim
      (λ (e : t ≡ a).
      let place : get_or (set places (ring_at size newest a) new) (ring_at size newest t) d ≡ new =
      ap (λ n. get_or (set places (ring_at size newest a) new) (ring_at size newest n) d) e ∙ get_or-set_same places (ring_at size newest a) new d (omega (arith, ring_at-lt size newest a ring small, full)) in
      subst (Q t (age (a + 1) t)) (sym place) (subst (λ u. Q t u new) (sym (below (a + 1) t (omega arith))) (subst (λ u. Q u (done u) new) (sym e) now)))
      (λ (apart : t ≢ a).
      let other : ring_at size newest t ≢ ring_at size newest a = ring_at-apart size newest t a ring h small apart in
      let place : get_or (set places (ring_at size newest a) new) (ring_at size newest t) d ≡ get_or places (ring_at size newest t) d = get_or-set_other places (ring_at size newest a) (ring_at size newest t) new d other in
      let old = get_or places (ring_at size newest t) d in
      subst (Q t (age (a + 1) t)) (sym place)
      (⊎_elim
      (λ (l : t < a).
      subst (λ u. Q t u old) (sym (below (a + 1) t (omega arith)))
      (⊎_elim
      (λ (f : t < b). subst (λ u. Q t u old) (below b t f) (was t d h))
      (λ (f : b ≤ t). rests t old (quiet stages after k t rise (omega arith) f (λ _. l)) (subst (λ u. Q t u old) (above b t f) (was t d h)))
      (cases_lt t b)))
      (λ (l : a ≤ t). subst (λ u. Q t u old) (sym (above (a + 1) t (omega arith))) (subst (λ u. Q t u old) (above b t (omega arith)) (was t d h)))
      (cases_lt t a)))
      (cases_eq t a)

  one_step : (k : ℕ) (places : List PacketSlot) (new : PacketSlot) → k < length stages → start_of stages k + after < length places → newest < length places
      → Upto (length places) (done_before stages after k) places → Q (start_of stages k + after) (done (start_of stages k + after)) new
      → let turned = set places (ring_at (length places) newest (start_of stages k + after)) new in Upto (length turned) (start_of stages k + after + 1) turned
  one_step k places new inside small ring was now =
      let at = ring_at (length places) newest (start_of stages k + after) in
      subst (λ size. Upto size (start_of stages k + after + 1) (set places at new)) (sym (length-set places at new)) (one_of (length places) k places new inside small ring refl was now)

  at_end : (places : List PacketSlot) → Upto (length places) (done_before stages after (length stages)) places → (t : ℕ) (d : PacketSlot) → t < length places → Q t (done t) (get_or places (ring_at (length places) newest t) d)
  at_end places was t d h =
      let b = done_before stages after (length stages) in
      let old = get_or places (ring_at (length places) newest t) d in
      ⊎_elim
      (λ (f : t < b). subst (λ u. Q t u old) (below b t f) (was t d h))
      (λ (f : b ≤ t). rests t old (quiet stages after (length stages) t rise (omega arith) f (λ l. absurd (omega arith))) (subst (λ u. Q t u old) (above b t f) (was t d h)))
      (cases_lt t b)

-- what is as of one cycle ago, and does not change at the ages at which no stage acts
at_rest : (Q : ℕ → ℕ → PacketSlot → Type 0) (stages : List Stage) (after : ℕ) → ((t : ℕ) (place : PacketSlot) → NoneAt stages after (t + 1) → Q (t + 1) t place → Q (t + 1) (t + 1) place)
    → (u : ℕ) (place : PacketSlot) → NoneAt stages after u → Q u (u - 1) place → Q u u place
at_rest Q stages after none zero place n q = subst (λ v. Q 0 v place) (let e : 0 - 1 ≡ 0 = omega arith in e) q
at_rest Q stages after none (suc u) place n q =
    let next : suc u ≡ u + 1 = omega arith in
    let back : suc u - 1 ≡ u = omega arith in
    subst (λ v. Q v v place) (sym next) (none u place (subst (NoneAt stages after) next n) (subst (λ v. Q v u place) next (subst (λ v. Q (suc u) v place) back q)))

abbrev pub AllPlaces : (ℕ → ℕ → PacketSlot → Type 0) → ℕ → ℕ → List PacketSlot → Type 0
AllPlaces Q bound newest places = (t : ℕ) (d : PacketSlot) → t < length places → Q t (partly bound t) (get_or places (ring_at (length places) newest t) d)

pub pass_step : (Q : ℕ → ℕ → PacketSlot → Type 0) (stages : List Stage) (after k newest : ℕ) (places : List PacketSlot) (new : PacketSlot) → Rise stages → k < length stages
    → start_of stages k + after < length places → newest < length places
    → ((t : ℕ) (place : PacketSlot) → NoneAt stages after (t + 1) → Q (t + 1) t place → Q (t + 1) (t + 1) place)
    → AllPlaces Q (done_before stages after k) newest places
    → Q (start_of stages k + after) (start_of stages k + after) new
    → AllPlaces Q (start_of stages k + after + 1) newest (set places (ring_at (length places) newest (start_of stages k + after)) new)
pass_step Q stages after k newest places new rise inside small ring none was now =
    one_step Q partly (λ t. t) (λ t. t - 1) partly-below partly-from stages after newest rise (at_rest Q stages after none) k places new inside small ring was now

pub pass_end : (Q : ℕ → ℕ → PacketSlot → Type 0) (stages : List Stage) (after newest : ℕ) (places : List PacketSlot) → Rise stages
    → ((t : ℕ) (place : PacketSlot) → NoneAt stages after (t + 1) → Q (t + 1) t place → Q (t + 1) (t + 1) place)
    → AllPlaces Q (done_before stages after (length stages)) newest places
    → (t : ℕ) (d : PacketSlot) → t < length places → Q t t (get_or places (ring_at (length places) newest t) d)
pass_end Q stages after newest places rise none was =
    at_end Q partly (λ t. t) (λ t. t - 1) partly-below partly-from stages after newest rise (at_rest Q stages after none) places was

-- ---- a pass that may begin at age 0

abbrev pub AllNext : (ℕ → ℕ → PacketSlot → Type 0) → ℕ → ℕ → List PacketSlot → Type 0
AllNext Q bound newest places = (t : ℕ) (d : PacketSlot) → t < length places → Q t (partly_next bound t) (get_or places (ring_at (length places) newest t) d)

pub next_step : (Q : ℕ → ℕ → PacketSlot → Type 0) (stages : List Stage) (after k newest : ℕ) (places : List PacketSlot) (new : PacketSlot) → Rise stages → k < length stages
    → start_of stages k + after < length places → newest < length places → ((t : ℕ) (place : PacketSlot) → NoneAt stages after t → Q t t place → Q t (t + 1) place)
    → AllNext Q (done_before stages after k) newest places → Q (start_of stages k + after) (start_of stages k + after + 1) new
    → AllNext Q (start_of stages k + after + 1) newest (set places (ring_at (length places) newest (start_of stages k + after)) new)
next_step Q stages after k newest places new rise inside small ring none was now =
    one_step Q partly_next (λ t. t + 1) (λ t. t) next-below next-from stages after newest rise none k places new inside small ring was now

pub next_end : (Q : ℕ → ℕ → PacketSlot → Type 0) (stages : List Stage) (after newest : ℕ) (places : List PacketSlot) → Rise stages → ((t : ℕ) (place : PacketSlot) → NoneAt stages after t → Q t t place → Q t (t + 1) place)
    → AllNext Q (done_before stages after (length stages)) newest places → (t : ℕ) (d : PacketSlot) → t < length places → Q t (t + 1) (get_or places (ring_at (length places) newest t) d)
next_end Q stages after newest places rise none was =
    at_end Q partly_next (λ t. t + 1) (λ t. t) next-below next-from stages after newest rise none places was

-- what the packet slot of an age holds, by its place in the list
pub held_at : (c : Config) (item : ℕ → Option Entered) (newest age at : ℕ) (places : List PacketSlot) (place : PacketSlot) → age < length places → at ≡ ring_at (length places) newest age → place ≡ get_or places at place
    → AllHold c item now now now next newest places → HoldsIf c (item age) age age age (age + 1) place
held_at c item newest age at places place h e is all =
    subst (HoldsIf c (item age) age age age (age + 1)) (ap (λ n. get_or places n place) (sym e) ∙ sym is) (all age place h)
