-- The lookup bytes of a header agree with a case exactly where its tests pass.
use Rattle.std.proofs.Common.{◌≡◌, ◌≢◌, ◌⊎◌, true, eqb, ℕ, ◌+◌, ◌-◌, ◌*◌, ◌/◌, ◌^◌, ◌<◌, ◌≤◌, List, [], ◌∷◌, get_or, length, map, refl, sym, ap, ◌∙◌, inl, inr, arith}
use Rattle.std.specs.Prelude.{All, Contains, bit_and, slice_index}
use Rattle.std.specs.List.{AllZip, range_with_len}
use Rattle.std.proofs.lemmas.Bool.{eq-eqb, eqb-true, lt-ltb, and_parts, and_from}
use Rattle.std.proofs.lemmas.Bool.Decides.{eqb_tells}
use Rattle.std.proofs.lemmas.List.{length-map}
use Rattle.std.proofs.lemmas.List.Elements.{All-nil, All-cons, All-head, All-tail, All-filter, All-contains}
use Rattle.std.proofs.lemmas.List.Folds.{list_any-from_Any}
use Rattle.std.proofs.lemmas.List.FromFn.{length-range_with_len, get_or-range_with_len}
use Rattle.rmt_bits.specs.Bits.{slice, bytes_of}
use Rattle.rmt_bits.proofs.AllLaws.{All-range}
use Rattle.rmt_bits.proofs.BitLaws.{slice-and, slice-lt}
use Rattle.rmt_ptcam.specs.Types.{Program, Header, Test}
use Rattle.rmt_ast.specs.State.{width_of, passes}
use Rattle.rmt_ast.specs.Walk.{all_pass}
use Rattle.rmt_ast.specs.WellFormed.{IsHeader, AreTests}
use Rattle.rmt_config.specs.Parser.{high_bytes}
use Rattle.rmt_ptcam.specs.Needs.{place_in, touches, is_looked_up, lookups_of}
use Rattle.rmt_ptcam.specs.Plain.{looked_up}
use Rattle.rmt_ptcam.proofs.PlainLaws.{place_within, contains_tail}
use Rattle.rmt_ptcam.proofs.BitRunLaws.{bit_from_slice, filled, AreRuns, AllFit, HasBit, filled_reads, same_on_runs}
use Rattle.rmt_ptcam.proofs.ByteRunLaws.{bytes_of-at, map_same, high_and, high_apart}
use Rattle.rmt_bits.proofs.OptionLaws.{same_Bool}
use Rattle.rmt_bits.proofs.MemberLaws.{Contains-filter}

-- ---- the fields of a header among its bits

-- the lowest bit of a field in the number of the header's bytes
abbrev pub low_of : Program → Header → ℕ → ℕ
low_of p h f = 8 * h.bytes - (place_in p h.fields f + width_of p f)

-- two fields of a header stand apart
places_apart : (p : Program) (fs : List ℕ) (f g : ℕ) → f ≢ g → Contains fs f → Contains fs g
    → (place_in p fs f + width_of p f ≤ place_in p fs g) ⊎ (place_in p fs g + width_of p g ≤ place_in p fs f)
places_apart p [] f g other in_f in_g = absurd (omega (arith, in_f.1))
places_apart p (k ∷ ks) f g other in_f in_g = elim (eqb_tells k f) [
  | inl (is_f, same_f) ↦ elim (eqb_tells k g) [
    | inl (is_g, same_g) ↦ absurd (other (sym same_f ∙ same_g))
    | inr (is_g, other_g) ↦ inl (rw (is_f, is_g) (let w : width_of p k ≡ width_of p f = ap (width_of p) same_f in omega (arith, w)))
  ]
  | inr (is_f, other_f) ↦ elim (eqb_tells k g) [
    | inl (is_g, same_g) ↦ inr (rw (is_f, is_g) (let w : width_of p k ≡ width_of p g = ap (width_of p) same_g in omega (arith, w)))
    | inr (is_g, other_g) ↦ elim (places_apart p ks f g other (contains_tail k ks f in_f.0 other_f in_f.1 in_f.2) (contains_tail k ks g in_g.0 other_g in_g.1 in_g.2)) [
      | inl before ↦ inl (rw (is_f, is_g) (omega (arith, before)))
      | inr behind ↦ inr (rw (is_f, is_g) (omega (arith, behind)))
    ]
  ]
]

-- the runs of the fields that a header selects by
pub select_apart : (p : Program) (n : ℕ) (h : Header) → IsHeader p n h → AreRuns (low_of p h) (width_of p) h.select
select_apart p n h is i j d lt below =
    let f : ℕ = get_or h.select i d in
    let g : ℕ = get_or h.select j d in
    let own_f : Contains h.fields f = is.selects_own i d (omega (arith, lt, below)) in
    let own_g : Contains h.fields g = is.selects_own j d below in
    let in_f = place_within p h.fields f own_f in
    let in_g = place_within p h.fields g own_g in
    let whole = is.whole_bytes in
    elim (places_apart p h.fields f g (is.selects_once i j d lt below) own_f own_g) [
      | inl before ↦ inr (omega (arith, before, in_f, in_g, whole))
      | inr behind ↦ inl (omega (arith, behind, in_f, in_g, whole))
    ]

-- ---- lookup bytes

-- the byte of a number of so many bytes
abbrev pub byte_of : ℕ → ℕ → ℕ → ℕ
byte_of count n o = slice n (8 * (count - 1 - o)) 8

-- the lookup bytes of the header whose bytes have this number
abbrev pub shown : Program → Header → ℕ → ℕ
shown p h n = high_bytes (map (byte_of h.bytes n) (lookups_of p h))

-- the number of a header in which the fields that it selects by have these values
abbrev pub number_with : Program → Header → List ℕ → ℕ
number_with p h xs = filled (low_of p h) (width_of p) 0 h.select xs

pub lookups_within : (p : Program) (h : Header) → All (λ o. o < h.bytes) (lookups_of p h)
lookups_within p h = All-filter (is_looked_up p h) (λ o. o < h.bytes) (range_with_len 0 h.bytes) (All-range (λ o. o < h.bytes) 0 h.bytes (λ o lt. omega (arith, lt)))

-- what is read at the lookup bytes, from anywhere
pub shown_from : (p : Program) (h : Header) (n : ℕ) (read : ℕ → ℕ) → ((o : ℕ) → o < h.bytes → read o ≡ byte_of h.bytes n o) → high_bytes (map read (lookups_of p h)) ≡ shown p h n
shown_from p h n read each =
    ap high_bytes (map_same read (byte_of h.bytes n) (lookups_of p h) (λ k d lt. each (get_or (lookups_of p h) k d) (lookups_within p h k d lt)))

pub looked_up_shown : (p : Program) (h : Header) (xs : List ℕ) → looked_up p h xs ≡ shown p h (number_with p h xs)
looked_up_shown p h xs =
    shown_from p h (number_with p h xs) (λ o. slice_index (bytes_of h.bytes (number_with p h xs)) (0 + o))
    (λ o lt. let at : 0 + o ≡ o = omega arith in ap (slice_index (bytes_of h.bytes (number_with p h xs))) at ∙ bytes_of-at h.bytes (number_with p h xs) o lt)

-- a byte in which a selected field has a bit is looked up
bit_looked_up : (p : Program) (n : ℕ) (h : Header) (i f : ℕ) → IsHeader p n h → HasBit (low_of p h) (width_of p) h.select i f
    → Contains (lookups_of p h) (h.bytes - 1 - i / 8)
bit_looked_up p n h i f is bit =
    let own : Contains h.fields f = All-contains (Contains h.fields) h.select f is.selects_own bit.own in
    let within = place_within p h.fields f own in
    let whole = is.whole_bytes in
    let o : ℕ = h.bytes - 1 - i / 8 in
    let from = bit.from in
    let below = bit.below in
    let inside : o < h.bytes = omega (arith, is.is_not_empty) in
    let left : place_in p h.fields f < 8 * o + 8 = omega (arith, within, whole, from, below) in
    let right : 8 * o < place_in p h.fields f + width_of p f = omega (arith, within, whole, from, below) in
    let touched : touches p h o f ≡ true = and_from _ _ (lt-ltb _ _ left) (lt-ltb _ _ right) in
    let some : is_looked_up p h o ≡ true = list_any-from_Any (touches p h o) h.select (bit.own.0, f, bit.own.1, bit.own.2, touched) in
    let long = length-range_with_len 0 h.bytes in
    Contains-filter (is_looked_up p h) (range_with_len 0 h.bytes) o
    (o, omega (arith, long, inside), get_or-range_with_len 0 h.bytes o o inside ∙ (let e : 0 + o ≡ o = omega arith in e)) some

-- ---- cases

pub masks_fit : (p : Program) (fs : List ℕ) (ts : List Test) → AreTests p fs ts → AllZip (λ f x. x < 2 ^ width_of p f) fs (map (λ (t : Test). t.mask) ts)
masks_fit p [] [] h = tt
masks_fit p [] (t ∷ ts) h = absurd h
masks_fit p (f ∷ fs) [] h = absurd h
masks_fit p (f ∷ fs) (t ∷ ts) h = (h.0.mask_fits, masks_fit p fs ts h.1)

pub values_fit : (p : Program) (fs : List ℕ) (ts : List Test) → AreTests p fs ts → AllZip (λ f x. x < 2 ^ width_of p f) fs (map (λ (t : Test). t.value) ts)
values_fit p [] [] h = tt
values_fit p [] (t ∷ ts) h = absurd h
values_fit p (f ∷ fs) [] h = absurd h
values_fit p (f ∷ fs) (t ∷ ts) h = (h.0.value_fits, values_fit p fs ts h.1)

-- tests of fields whose values stand in a number, and masks and values in two others
module _ (p : Program) (low : ℕ → ℕ) (n mask value : ℕ) (s : List ℕ) where
  abbrev Reads : ℕ → List ℕ → List ℕ → Type 0
  Reads m fs xs = AllZip (λ f x. slice m (low f) (width_of p f) ≡ x) fs xs

  abbrev HoldsOf : List ℕ → Type 0
  HoldsOf fs = All (λ f. slice_index s f ≡ slice n (low f) (width_of p f)) fs

  -- where the numbers agree on the mask, every test passes
  all_pass_from : (fs : List ℕ) (ts : List Test) → AreTests p fs ts → HoldsOf fs → Reads mask fs (map (λ (t : Test). t.mask) ts) → Reads value fs (map (λ (t : Test). t.value) ts)
      → bit_and n mask ≡ value → all_pass ts fs s ≡ true
  all_pass_from fs [] tests holds masks values same = refl
  all_pass_from [] (t ∷ ts) tests holds masks values same = refl
  all_pass_from (f ∷ fs) (t ∷ ts) tests holds masks values same =
      and_from (passes t (slice_index s f)) (all_pass ts fs s)
      (eq-eqb (bit_and (slice_index s f) t.mask) (bit_and t.value t.mask)
      (ap (λ x. bit_and x t.mask) (All-head (λ g. slice_index s g ≡ slice n (low g) (width_of p g)) f fs holds)
      ∙ ap (bit_and (slice n (low f) (width_of p f))) (sym masks.0) ∙ sym (slice-and n mask (low f) (width_of p f))
      ∙ ap (λ m. slice m (low f) (width_of p f)) same ∙ values.0 ∙ sym tests.0.value_is_masked))
      (all_pass_from fs ts tests.1 (All-tail (λ g. slice_index s g ≡ slice n (low g) (width_of p g)) f fs holds) masks.1 values.1 same)

  -- and where every test passes, they agree on the run of each field
  runs_from_pass : (fs : List ℕ) (ts : List Test) → AreTests p fs ts → HoldsOf fs → Reads mask fs (map (λ (t : Test). t.mask) ts) → Reads value fs (map (λ (t : Test). t.value) ts)
      → all_pass ts fs s ≡ true → All (λ f. slice (bit_and n mask) (low f) (width_of p f) ≡ slice value (low f) (width_of p f)) fs
  runs_from_pass [] ts tests holds masks values pass = All-nil (λ f. slice (bit_and n mask) (low f) (width_of p f) ≡ slice value (low f) (width_of p f))
  runs_from_pass (f ∷ fs) [] tests holds masks values pass = absurd tests
  runs_from_pass (f ∷ fs) (t ∷ ts) tests holds masks values pass =
      let parts = and_parts (passes t (slice_index s f)) (all_pass ts fs s) pass in
      let here : bit_and (slice_index s f) t.mask ≡ bit_and t.value t.mask = eqb-true (bit_and (slice_index s f) t.mask) (bit_and t.value t.mask) parts.0 in
      All-cons (λ g. slice (bit_and n mask) (low g) (width_of p g) ≡ slice value (low g) (width_of p g)) f fs
      (slice-and n mask (low f) (width_of p f) ∙ ap (bit_and (slice n (low f) (width_of p f))) masks.0
      ∙ ap (λ x. bit_and x t.mask) (sym (All-head (λ g. slice_index s g ≡ slice n (low g) (width_of p g)) f fs holds))
      ∙ here ∙ tests.0.value_is_masked ∙ sym values.0)
      (runs_from_pass fs ts tests.1 (All-tail (λ g. slice_index s g ≡ slice n (low g) (width_of p g)) f fs holds) masks.1 values.1 parts.1)

-- the masks and the values of a case's tests, also written into the bytes of its header, and where each field stands in them
pub record CaseParts : Type 0 where
  pub masks : List ℕ
  pub values : List ℕ
  pub mask : ℕ
  pub value : ℕ
  pub low : ℕ → ℕ

abbrev pub case_parts : Program → Header → List Test → CaseParts
case_parts p h ts =
    let masks = map (λ (t : Test). t.mask) ts in
    let values = map (λ (t : Test). t.value) ts in
    record { masks = masks; values = values; mask = number_with p h masks; value = number_with p h values; low = low_of p h }

-- each field is read back where values are written
pub case_reads : (p : Program) (n : ℕ) (h : Header) → IsHeader p n h → (xs : List ℕ) → AllFit (low_of p h) (width_of p) h.select xs → AllZip (λ f x. slice (number_with p h xs) (low_of p h f) (width_of p f) ≡ x) h.select xs
case_reads p n h is xs fit = filled_reads (low_of p h) (width_of p) 0 h.select xs fit (select_apart p n h is)

-- a state in which the fields that a header selects by have the values of the header with this number
abbrev pub HasSelected : Program → Header → ℕ → List ℕ → Type 0
HasSelected p h n s = All (λ f. slice_index s f ≡ slice n (low_of p h f) (width_of p f)) h.select

module _ (p : Program) (m : ℕ) (h : Header) (is : IsHeader p m h) (few : length (lookups_of p h) ≤ 4) (n : ℕ) (s : List ℕ) (holds : HasSelected p h n s) (ts : List Test) (tests : AreTests p h.select ts) where
  abbrev case : CaseParts
  case = case_parts p h ts

  fit_masks : AllFit case.low (width_of p) h.select case.masks
  fit_masks = masks_fit p h.select ts tests

  fit_values : AllFit case.low (width_of p) h.select case.values
  fit_values = values_fit p h.select ts tests

  read_masks : AllZip (λ f x. slice case.mask (case.low f) (width_of p f) ≡ x) h.select case.masks
  read_masks = filled_reads case.low (width_of p) 0 h.select case.masks fit_masks (select_apart p m h is)

  read_values : AllZip (λ f x. slice case.value (case.low f) (width_of p f) ≡ x) h.select case.values
  read_values = filled_reads case.low (width_of p) 0 h.select case.values fit_values (select_apart p m h is)

  small : (x o : ℕ) → byte_of h.bytes x o < 256
  small x o = slice-lt x (8 * (h.bytes - 1 - o)) 8

  -- the lookup bytes of what a number and the masks have in common
  shown_and : bit_and (shown p h n) (shown p h case.mask) ≡ shown p h (bit_and n case.mask)
  shown_and =
      high_and (byte_of h.bytes n) (byte_of h.bytes case.mask) (small n) (small case.mask) (lookups_of p h)
      (length-map (lookups_of p h) (byte_of h.bytes n)) (length-map (lookups_of p h) (byte_of h.bytes case.mask))
      (length-map (lookups_of p h) (λ o. bit_and (byte_of h.bytes n o) (byte_of h.bytes case.mask o))) few
      ∙ ap high_bytes (map_same (λ o. bit_and (byte_of h.bytes n o) (byte_of h.bytes case.mask o)) (byte_of h.bytes (bit_and n case.mask)) (lookups_of p h)
      (λ k d lt. sym (slice-and n case.mask (8 * (h.bytes - 1 - get_or (lookups_of p h) k d)) 8)))

  -- lookup bytes that agree show numbers that agree
  same_from_shown : shown p h (bit_and n case.mask) ≡ shown p h case.value → bit_and n case.mask ≡ case.value
  same_from_shown same =
      let each = high_apart (byte_of h.bytes (bit_and n case.mask)) (byte_of h.bytes case.value) (small (bit_and n case.mask)) (small case.value) (lookups_of p h)
      (length-map (lookups_of p h) (byte_of h.bytes (bit_and n case.mask))) (length-map (lookups_of p h) (byte_of h.bytes case.value)) few same in
      same_on_runs case.low (width_of p) n h.select case.masks case.values fit_masks fit_values (λ i f bit.
      let o : ℕ = h.bytes - 1 - i / 8 in
      let own : Contains h.fields f = All-contains (Contains h.fields) h.select f is.selects_own bit.own in
      let within = place_within p h.fields f own in
      let below = bit.below in
      let whole = is.whole_bytes in
      let run : byte_of h.bytes (bit_and n case.mask) o ≡ byte_of h.bytes case.value o =
      All-contains (λ k. byte_of h.bytes (bit_and n case.mask) k ≡ byte_of h.bytes case.value k) (lookups_of p h) o each (bit_looked_up p m h i f is bit) in
      bit_from_slice (bit_and n case.mask) case.value (8 * (h.bytes - 1 - o)) 8 i run (omega (arith, within, below, whole)) (omega (arith, within, below, whole)))

  -- tests that pass show the same
  same_from_pass : all_pass ts h.select s ≡ true → bit_and n case.mask ≡ case.value
  same_from_pass pass =
      let each = runs_from_pass p case.low n case.mask case.value s h.select ts tests holds read_masks read_values pass in
      same_on_runs case.low (width_of p) n h.select case.masks case.values fit_masks fit_values (λ i f bit.
      bit_from_slice (bit_and n case.mask) case.value (case.low f) (width_of p f) i
      (All-contains (λ g. slice (bit_and n case.mask) (case.low g) (width_of p g) ≡ slice case.value (case.low g) (width_of p g)) h.select f each bit.own) bit.from bit.below)

  -- so a case's entry agrees with the lookup bytes exactly where its tests pass
  pub case_passes : eqb (bit_and (shown p h n) (looked_up p h (map (λ (t : Test). t.mask) ts))) (looked_up p h (map (λ (t : Test). t.value) ts)) ≡ all_pass ts h.select s
  case_passes =
      let left : bit_and (shown p h n) (looked_up p h case.masks) ≡ shown p h (bit_and n case.mask) = ap (bit_and (shown p h n)) (looked_up_shown p h case.masks) ∙ shown_and in
      let right : looked_up p h case.values ≡ shown p h case.value = looked_up_shown p h case.values in
      ap (λ x. eqb x (looked_up p h case.values)) left ∙ ap (eqb (shown p h (bit_and n case.mask))) right
      ∙ same_Bool (eqb (shown p h (bit_and n case.mask)) (shown p h case.value)) (all_pass ts h.select s)
      (λ e. all_pass_from p case.low n case.mask case.value s h.select ts tests holds read_masks read_values (same_from_shown (eqb-true (shown p h (bit_and n case.mask)) (shown p h case.value) e)))
      (λ e. eq-eqb (shown p h (bit_and n case.mask)) (shown p h case.value) (ap (shown p h) (same_from_pass e)))
