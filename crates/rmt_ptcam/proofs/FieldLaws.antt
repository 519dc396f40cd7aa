-- The fields of a header in the state behind it.
use Rattle.std.proofs.Common.{◌≡◌, ◌≢◌, cond, Bool, ℕ, zero, suc, ◌+◌, ◌-◌, ◌<◌, ◌≤◌, List, [], ◌∷◌, ◌++◌, length, map, Some, refl, sym, ap, subst, ◌∙◌, inl, inr, arith}
use Rattle.std.specs.Prelude.{All, Contains, slice_get, slice_index, slice_set, sum}
use Rattle.std.specs.List.{flat_map, range_with_len}
use Rattle.std.proofs.lemmas.Bool.Decides.{eqb_tells}
use Rattle.std.proofs.lemmas.List.{length-append, length-set, get_or-set_same, get_or-set_other, set_comm}
use Rattle.std.proofs.lemmas.List.Elements.{All-head, All-tail}
use Rattle.std.proofs.lemmas.List.FromFn.{length-range_with_len, get_or-range_with_len}
use Rattle.std.proofs.lemmas.Option.{same_Some}
use Rattle.rmt_bits.specs.Bits.{slice}
use Rattle.rmt_ptcam.specs.Types.{Program, Header}
use Rattle.rmt_ast.specs.State.{width_of, set_fields}
use Rattle.rmt_ast.specs.WellFormed.{HasFields, AreDistinct, bits_of, header_fields}
use Rattle.rmt_ptcam.specs.Needs.{place_in}
use Rattle.rmt_ptcam.proofs.PlainLaws.{bits_of-cons, contains_tail, place_within}
use Rattle.rmt_bits.proofs.AllLaws.{All-between}

-- ---- the numbers of a header's fields

-- a range in two parts
range_parts : (xs ys : List ℕ) (a b : ℕ) → b ≡ a + length xs → xs ++ ys ≡ range_with_len a (length (xs ++ ys)) → (xs ≡ range_with_len a (length xs)) × (ys ≡ range_with_len b (length ys))
range_parts [] ys a b at is = let same : a ≡ b = omega (arith, at) in (refl, is ∙ ap (λ k. range_with_len k (length ys)) same)
range_parts (x ∷ xs) ys a b at is =
    let here : x ≡ a = cc in
    let rest : xs ++ ys ≡ range_with_len (a + 1) (length (xs ++ ys)) = cc in
    let parts : (xs ≡ range_with_len (a + 1) (length xs)) × (ys ≡ range_with_len b (length ys)) = range_parts xs ys (a + 1) b (omega (arith, at)) rest in
    (ap (λ y. y ∷ xs) here ∙ ap (λ (zs : List ℕ). a ∷ zs) parts.0, parts.1)

abbrev fields_in : List Header → List ℕ
fields_in hs = flat_map (λ (h : Header). h.valid ∷ h.fields) hs

-- a header's fields have the numbers behind its valid's
fields_of_header : (hs : List Header) (a i : ℕ) (h : Header) → fields_in hs ≡ range_with_len a (length (fields_in hs)) → slice_get hs i ≡ Some h
    → (b : ℕ) × (a ≤ b) × (b + length (h.valid ∷ h.fields) ≤ a + length (fields_in hs)) × (h.valid ∷ h.fields ≡ range_with_len b (length (h.valid ∷ h.fields)))
fields_of_header [] a i h are is = absurd cc
fields_of_header (g ∷ hs) a zero h are is =
    let this : g ≡ h = same_Some g h is in
    let parts = range_parts (g.valid ∷ g.fields) (fields_in hs) a (a + length (g.valid ∷ g.fields)) refl are in
    let long = length-append (g.valid ∷ g.fields) (fields_in hs) in
    let total : ℕ = a + length (fields_in (g ∷ hs)) in
    subst (λ (x : Header). (b : ℕ) × (a ≤ b) × (b + length (x.valid ∷ x.fields) ≤ total) × (x.valid ∷ x.fields ≡ range_with_len b (length (x.valid ∷ x.fields)))) this
    (a, omega arith, omega (arith, long), parts.0)
fields_of_header (g ∷ hs) a (suc i) h are is =
    let next : ℕ = a + length (g.valid ∷ g.fields) in
    let parts = range_parts (g.valid ∷ g.fields) (fields_in hs) a next refl are in
    let long = length-append (g.valid ∷ g.fields) (fields_in hs) in
    let rest : (b : ℕ) × (next ≤ b) × (b + length (h.valid ∷ h.fields) ≤ next + length (fields_in hs)) × (h.valid ∷ h.fields ≡ range_with_len b (length (h.valid ∷ h.fields))) =
    fields_of_header hs next i h parts.1 is in
    let from = rest.1 in
    let within = rest.2 in
    (rest.0, omega (arith, from), omega (arith, within, long), rest.3)

range_distinct : (a n : ℕ) → AreDistinct (range_with_len a n)
range_distinct a n i j d lt below same =
    let long = length-range_with_len a n in
    let one = get_or-range_with_len a n i d (omega (arith, lt, below, long)) in
    let two = get_or-range_with_len a n j d (omega (arith, below, long)) in
    omega (arith, lt, same, one, two)

-- the fields of a header are those of a state, differ from each other, from valid and from in_port, and so does valid
pub record OwnsFields (p : Program) (h : Header) : Type 0 where
  pub valid_low : 3 ≤ h.valid
  pub valid_in : h.valid < length p.fields
  pub low : All (λ f. h.valid < f) h.fields
  pub there : All (λ f. f < length p.fields) h.fields
  pub once : AreDistinct h.fields

pub owns_fields : (p : Program) (n : ℕ) (h : Header) → HasFields p → slice_get p.headers n ≡ Some h → OwnsFields p h
owns_fields p n h good is =
    let block : (b : ℕ) × (3 ≤ b) × (b + length (h.valid ∷ h.fields) ≤ 3 + length (header_fields p)) × (h.valid ∷ h.fields ≡ range_with_len b (length (h.valid ∷ h.fields))) =
    fields_of_header p.headers 3 n h good.in_order is in
    let b : ℕ = block.0 in
    let from : 3 ≤ b = block.1 in
    let within : b + length (h.valid ∷ h.fields) ≤ 3 + length (header_fields p) = block.2 in
    let all = good.all_there in
    let order : h.valid ∷ h.fields ≡ b ∷ range_with_len (b + 1) (length h.fields) = block.3 in
    let valid : h.valid ≡ b = cc in
    let fields : h.fields ≡ range_with_len (b + 1) (length h.fields) = cc in
    record {
      valid_low = omega (arith, from, valid);
      valid_in = omega (arith, within, all, valid);
      low = subst (λ (fs : List ℕ). All (λ f. h.valid < f) fs) (sym fields) (All-between (λ f. h.valid < f) (b + 1) (length h.fields) (λ w more lt. omega (arith, valid, more)));
      there = subst (λ (fs : List ℕ). All (λ f. f < length p.fields) fs) (sym fields) (All-between (λ f. f < length p.fields) (b + 1) (length h.fields) (λ w more lt. omega (arith, lt, within, all)));
      once = subst AreDistinct (sym fields) (range_distinct (b + 1) (length h.fields));
    }

-- ---- fields that are set from a number

pub length-set_fields : (p : Program) (fs : List ℕ) (n : ℕ) (s : List ℕ) → length (set_fields p fs n s) ≡ length s
length-set_fields p [] n s = refl
length-set_fields p (f ∷ fs) n s =
    length-set_fields p fs n (slice_set s f (slice n (sum (map (width_of p) fs)) (width_of p f))) ∙ length-set s f (slice n (sum (map (width_of p) fs)) (width_of p f))

-- another field that is set before is set after
pub set_fields_after : (p : Program) (fs : List ℕ) (n : ℕ) (s : List ℕ) (v x : ℕ) → All (λ f. v ≢ f) fs → set_fields p fs n (slice_set s v x) ≡ slice_set (set_fields p fs n s) v x
set_fields_after p [] n s v x other = refl
set_fields_after p (f ∷ fs) n s v x other =
    let y : ℕ = slice n (sum (map (width_of p) fs)) (width_of p f) in
    ap (set_fields p fs n) (set_comm s v f x y (All-head (λ g. v ≢ g) f fs other))
    ∙ set_fields_after p fs n (slice_set s f y) v x (All-tail (λ g. v ≢ g) f fs other)

-- other fields are kept
set_fields_other : (p : Program) (fs : List ℕ) (n : ℕ) (s : List ℕ) (g : ℕ) → All (λ f. g ≢ f) fs → slice_index (set_fields p fs n s) g ≡ slice_index s g
set_fields_other p [] n s g other = refl
set_fields_other p (f ∷ fs) n s g other =
    let y : ℕ = slice n (sum (map (width_of p) fs)) (width_of p f) in
    set_fields_other p fs n (slice_set s f y) g (All-tail (λ k. g ≢ k) f fs other) ∙ get_or-set_other s f g y 0 (All-head (λ k. g ≢ k) f fs other)

first_differs : (f : ℕ) (fs : List ℕ) → AreDistinct (f ∷ fs) → All (λ g. f ≢ g) fs
first_differs f fs once k d lt = once 0 (suc k) d (omega arith) (omega (arith, lt))

rest_differ : (f : ℕ) (fs : List ℕ) → AreDistinct (f ∷ fs) → AreDistinct fs
rest_differ f fs once i j d lt below = once (suc i) (suc j) d (omega (arith, lt)) (omega (arith, below))

-- each has its bits of the number
pub set_fields_reads : (p : Program) (fs : List ℕ) (n : ℕ) (s : List ℕ) (f : ℕ) → AreDistinct fs → All (λ g. g < length s) fs → Contains fs f
    → slice_index (set_fields p fs n s) f ≡ slice n (bits_of p fs - (place_in p fs f + width_of p f)) (width_of p f)
set_fields_reads p [] n s f once inside own = absurd (omega (arith, own.1))
set_fields_reads p (g ∷ gs) n s f once inside own =
    let all = bits_of-cons p g gs in
    let y : ℕ = slice n (bits_of p gs) (width_of p g) in
    elim (eqb_tells g f) [
      | inl (is, same) ↦
          let place : place_in p (g ∷ gs) f ≡ 0 = ap (λ (b : Bool). cond b 0 (width_of p g + place_in p gs f)) is in
          let width : width_of p g ≡ width_of p f = ap (width_of p) same in
          let low : bits_of p gs ≡ bits_of p (g ∷ gs) - (place_in p (g ∷ gs) f + width_of p f) = omega (arith, all, place, width) in
          subst (λ k. slice_index (set_fields p gs n (slice_set s g y)) k ≡ y) same
          (set_fields_other p gs n (slice_set s g y) g (first_differs g gs once) ∙ get_or-set_same s g y 0 (All-head (λ k. k < length s) g gs inside))
          ∙ ap (λ k. slice n k (width_of p g)) low ∙ ap (slice n (bits_of p (g ∷ gs) - (place_in p (g ∷ gs) f + width_of p f))) width
      | inr (is, other) ↦
          let place : place_in p (g ∷ gs) f ≡ width_of p g + place_in p gs f = ap (λ (b : Bool). cond b 0 (width_of p g + place_in p gs f)) is in
          let mine : Contains gs f = contains_tail g gs f own.0 other own.1 own.2 in
          let within = place_within p gs f mine in
          let low : bits_of p gs - (place_in p gs f + width_of p f) ≡ bits_of p (g ∷ gs) - (place_in p (g ∷ gs) f + width_of p f) = omega (arith, all, place, within) in
          set_fields_reads p gs n (slice_set s g y) f (rest_differ g gs once)
          (subst (λ k. All (λ e. e < k) gs) (sym (length-set s g y)) (All-tail (λ k. k < length s) g gs inside)) mine
          ∙ ap (λ k. slice n k (width_of p f)) low
    ]
