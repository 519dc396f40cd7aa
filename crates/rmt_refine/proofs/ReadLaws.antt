-- What is read from words that hold the fields of a state: keys and tests are those of the state.
use Rattle.std.proofs.Common.{◌≡◌, ℕ, ◌+◌, ◌*◌, ◌/◌, ◌^◌, ◌==◌, ◌<◌, Bool, ◌&&◌, List, [], ◌∷◌, length, map, reverse, sum, refl, sym, ap, ◌∙◌, subst, inl, inr, arith}
use Rattle.std.specs.Prelude.{Contains, bit_and, fold, option_map, slice_index, unwrap_or}
use Rattle.std.specs.List.{list_all, range_with_len}
use Rattle.std.specs.Int.Bits.{and_zero_l}
use Rattle.std.proofs.Math.Bool.{and_comm, and-true}
use Rattle.std.proofs.Math.Nat.{mod-one}
use Rattle.std.proofs.Math.ListN.{get_or-eq_default}
use Rattle.std.proofs.lemmas.Bool.{cases_lt}
use Rattle.std.proofs.lemmas.List.{reverse-append}
use Rattle.std.proofs.lemmas.List.FromFn.{get_or-map-range_with_len, length-map-range_with_len}
use Rattle.std.proofs.lemmas.List.Folds.{list_all-append}
use Rattle.std.proofs.lemmas.List.Sums.{fold-append, sum_by-cons}
use Rattle.std.proofs.lemmas.Nat.{and_block, and_le_l, mul-add-lt, pow-add}
use Rattle.std.proofs.lemmas.Option.{slice_get_past}
use Rattle.rmt_bits.proofs.BitLaws.{slice-add, slice-lt, slice-whole}
use Rattle.rmt_bits.specs.Bits.{slice}
use Rattle.rmt_bits.specs.declared.lane.Lane.{Lane}
use Rattle.rmt_refine.specs.Types.{Program, Field, Test, GateTest}
use Rattle.rmt_ast.specs.Places.{lanes_of}
use Rattle.rmt_ast.specs.State.{IsState, joined, passes, width_of}
use Rattle.rmt_ast.specs.WellFormed.{IsTest}
use Rattle.rmt_config.specs.LaneForm.{bits_of_lanes}
use Rattle.rmt_config.specs.Life.{Words, gate_passes, key_of, lane_of}
use Rattle.rmt_phv.specs.Packing.{pieces}
use Rattle.rmt_phv.specs.Places.{lengths_of, high_first}
use Rattle.rmt_config.specs.Effects.{held_by, Hold}
use Rattle.rmt_refine.specs.Units.{tests_from, tests_of}
use Rattle.rmt_refine.proofs.KeyLaws.{block_eq}
use Rattle.rmt_bits.proofs.MemberLaws.{Contains-first, Contains-later}
use Rattle.rmt_phv.proofs.LaneLaws.{lanes_width}
use Rattle.rmt_config.proofs.HeldLaws.{bits_of_lanes-cons}

-- ---- keys

abbrev read_more : Words → ℕ → Lane → ℕ
read_more words n lane = 2 ^ lane.len * n + lane_of words lane

joined_up : (n x h a b d : ℕ) → d ≡ a + b → 2 ^ a * (n * 2 ^ b + h) + x ≡ n * 2 ^ d + (x + 2 ^ a * h)
joined_up n x h a b d e = rw (e, pow-add 2 a b) (omega arith)

read_lanes : (words : Words) (ls : List Lane) (n : ℕ) → fold (read_more words) n (reverse ls) ≡ n * 2 ^ bits_of_lanes ls + held_by words ls
read_lanes words [] n = omega arith
read_lanes words (l ∷ ls) n =
    ap (fold (read_more words) n) (reverse-append (l ∷ []) ls)
    ∙ fold-append (read_more words) n (reverse ls) (l ∷ [])
    ∙ ap (λ m. read_more words m l) (read_lanes words ls n)
    ∙ joined_up n (lane_of words l) (held_by words ls) l.len (bits_of_lanes ls) (bits_of_lanes (l ∷ ls)) (bits_of_lanes-cons l ls)

joined_next : (n x j a b d : ℕ) → d ≡ a + b → (n * 2 ^ a + x) * 2 ^ b + j ≡ n * 2 ^ d + (x * 2 ^ b + j)
joined_next n x j a b d e = rw (e, pow-add 2 a b) (omega arith)

read_fields : (p : Program) (places : List (List Lane)) (words : Words) (s fields : List ℕ) (n : ℕ) → lengths_of places ≡ map (λ (x : Field). pieces x.width) p.fields
    → ((f : ℕ) → Contains fields f → held_by words (lanes_of places f) ≡ slice_index s f)
    → fold (read_more words) n (high_first places fields) ≡ n * 2 ^ sum (map (width_of p) fields) + joined p fields s
read_fields p places words s [] n cut holds = omega arith
read_fields p places words s (f ∷ fs) n cut holds =
    let ls = lanes_of places f in
    fold-append (read_more words) n (reverse ls) (high_first places fs)
    ∙ ap (λ m. fold (read_more words) m (high_first places fs))
    (read_lanes words ls n ∙ ap (λ w. n * 2 ^ w + held_by words ls) (lanes_width p places f cut) ∙ ap (λ x. n * 2 ^ width_of p f + x) (holds f (Contains-first f fs)))
    ∙ read_fields p places words s fs (n * 2 ^ width_of p f + slice_index s f) cut (λ g there. holds g (Contains-later f fs g there))
    ∙ joined_next n (slice_index s f) (joined p fs s) (width_of p f) (sum (map (width_of p) fs)) (sum (map (width_of p) (f ∷ fs)))
    (sum_by-cons (λ (m : ℕ). m) (width_of p f) (map (width_of p) fs))

-- a key that is read from lanes that hold its fields
pub key_reads : (p : Program) (places : List (List Lane)) (words : Words) (s fields : List ℕ) → lengths_of places ≡ map (λ (x : Field). pieces x.width) p.fields
    → ((f : ℕ) → Contains fields f → held_by words (lanes_of places f) ≡ slice_index s f) → key_of words (high_first places fields) ≡ joined p fields s
key_reads p places words s fields cut holds =
    read_fields p places words s fields 0 cut holds
    ∙ (let e : 0 * 2 ^ sum (map (width_of p) fields) + joined p fields s ≡ joined p fields s = omega arith in e)

-- ---- tests

abbrev passes_one : Words → GateTest → Bool
passes_one words t = bit_and (lane_of words t.lane) t.mask == t.value

all_reversed : {X : Type 0} (test : X → Bool) (xs : List X) → list_all test (reverse xs) ≡ list_all test xs
all_reversed test [] = refl
all_reversed test (x ∷ xs) =
    ap (list_all test) (reverse-append (x ∷ []) xs) ∙ list_all-append test (reverse xs) (x ∷ []) ∙ ap (λ b. b && list_all test (x ∷ [])) (all_reversed test xs)
    ∙ and_comm (list_all test xs) (list_all test (x ∷ [])) ∙ ap (λ b. b && list_all test xs) (and-true (test x))

and_less : (x m k : ℕ) → x < 2 ^ k → bit_and x m < 2 ^ k
and_less x m k lt = let less = and_le_l x m in omega (arith, less, lt)

-- tests of lanes pass where the number that they hold together agrees with the value on the mask
lanes_pass : (words : Words) (t : Test) (ls : List Lane) (low : ℕ) → list_all (passes_one words) (tests_from low t ls)
    ≡ (bit_and (held_by words ls) (slice t.mask low (bits_of_lanes ls)) == slice t.value low (bits_of_lanes ls))
lanes_pass words t [] low =
    sym (ap (λ n. n == slice t.value low 0) (and_zero_l (slice t.mask low 0)) ∙ ap (λ n. 0 == n) (mod-one (t.value / 2 ^ low)))
lanes_pass words t (l ∷ ls) low =
    let k = l.len in
    let rest = bits_of_lanes ls in
    let x = lane_of words l in
    let h = held_by words ls in
    let m = slice t.mask low k in
    let v = slice t.value low k in
    let high_m = slice t.mask (low + k) rest in
    let high_v = slice t.value (low + k) rest in
    let bits : bits_of_lanes (l ∷ ls) ≡ rest + k = let e = bits_of_lanes-cons l ls in omega (arith, e) in
    let held : h * 2 ^ k + x ≡ held_by words (l ∷ ls) = omega arith in
    let mask : high_m * 2 ^ k + m ≡ slice t.mask low (bits_of_lanes (l ∷ ls)) = sym (ap (slice t.mask low) bits ∙ slice-add t.mask low rest k) in
    let value : high_v * 2 ^ k + v ≡ slice t.value low (bits_of_lanes (l ∷ ls)) = sym (ap (slice t.value low) bits ∙ slice-add t.value low rest k) in
    let x-lt = slice-lt (words l.word) l.low k in
    ap (λ b. (bit_and x m == v) && b) (lanes_pass words t ls (low + k))
    ∙ and_comm (bit_and x m == v) (bit_and h high_m == high_v)
    ∙ sym (block_eq (bit_and h high_m) high_v (bit_and x m) v k (and_less x m k x-lt) (slice-lt t.value low k))
    ∙ ap (λ n. n == high_v * 2 ^ k + v) (sym (and_block k h high_m x m x-lt (slice-lt t.mask low k)))
    ∙ ap (λ n. bit_and n (high_m * 2 ^ k + m) == high_v * 2 ^ k + v) held
    ∙ ap (λ n. bit_and (held_by words (l ∷ ls)) n == high_v * 2 ^ k + v) mask
    ∙ ap (λ n. bit_and (held_by words (l ∷ ls)) (slice t.mask low (bits_of_lanes (l ∷ ls))) == n) value

-- a test of a field that its lanes hold
pub test_reads : (p : Program) (places : List (List Lane)) (words : Words) (s : List ℕ) (field : ℕ) (t : Test) → lengths_of places ≡ map (λ (x : Field). pieces x.width) p.fields
    → IsTest (width_of p field) t → held_by words (lanes_of places field) ≡ slice_index s field → gate_passes words (tests_of places field t) ≡ passes t (slice_index s field)
test_reads p places words s field t cut is holds =
    let ls = lanes_of places field in
    let wide = lanes_width p places field cut in
    let mask : slice t.mask 0 (bits_of_lanes ls) ≡ t.mask = ap (slice t.mask 0) wide ∙ slice-whole t.mask (width_of p field) is.mask_fits in
    let value : slice t.value 0 (bits_of_lanes ls) ≡ bit_and t.value t.mask = ap (slice t.value 0) wide ∙ slice-whole t.value (width_of p field) is.value_fits ∙ sym is.value_is_masked in
    all_reversed (passes_one words) (tests_from 0 t ls)
    ∙ lanes_pass words t ls 0
    ∙ ap (λ n. bit_and n (slice t.mask 0 (bits_of_lanes ls)) == slice t.value 0 (bits_of_lanes ls)) holds
    ∙ ap (λ n. bit_and (slice_index s field) n == slice t.value 0 (bits_of_lanes ls)) mask
    ∙ ap (λ n. bit_and (slice_index s field) t.mask == n) value

-- ---- the state that words hold

held-lt : (words : Words) (ls : List Lane) → held_by words ls < 2 ^ bits_of_lanes ls
held-lt words [] = omega arith
held-lt words (l ∷ ls) =
    let low = slice-lt (words l.word) l.low l.len in
    let lt = mul-add-lt (held_by words ls) (2 ^ l.len) (lane_of words l) (2 ^ bits_of_lanes ls) (held-lt words ls) low in
    let e : held_by words ls * 2 ^ l.len + lane_of words l ≡ held_by words (l ∷ ls) = omega arith in
    subst (λ n. held_by words (l ∷ ls) < n) (sym (pow-add 2 l.len (bits_of_lanes ls)) ∙ ap (λ b. 2 ^ b) (sym (bits_of_lanes-cons l ls)))
    (subst (λ n. n < 2 ^ l.len * 2 ^ bits_of_lanes ls) e lt)

-- what the lanes of each field hold
abbrev pub state_of_words : Program → List (List Lane) → Words → List ℕ
state_of_words p places words = map (λ f. held_by words (lanes_of places f)) (range_with_len 0 (length p.fields))

value_at : (p : Program) (places : List (List Lane)) (words : Words) (f : ℕ) → f < length p.fields → slice_index (state_of_words p places words) f ≡ held_by words (lanes_of places f)
value_at p places words f lt = get_or-map-range_with_len (λ g. held_by words (lanes_of places g)) 0 (length p.fields) f f 0 lt (omega arith)

-- it is a state
pub words_state : (p : Program) (places : List (List Lane)) (words : Words) → lengths_of places ≡ map (λ (x : Field). pieces x.width) p.fields → IsState p (state_of_words p places words)
words_state p places words cut = record {
  one_each = length-map-range_with_len (λ f. held_by words (lanes_of places f)) 0 (length p.fields);
  fits = λ f lt.
      subst (λ n. n < 2 ^ width_of p f) (sym (value_at p places words f lt))
      (subst (λ w. held_by words (lanes_of places f) < 2 ^ w) (lanes_width p places f cut) (held-lt words (lanes_of places f)));
}

-- which the words hold
pub words_hold : (p : Program) (places : List (List Lane)) (words : Words) → lengths_of places ≡ map (λ (x : Field). pieces x.width) p.fields → Hold places words (state_of_words p places words)
words_hold p places words cut f = elim (cases_lt f (length p.fields)) [
  | inl lt ↦ sym (value_at p places words f lt)
  | inr le ↦
      let none : width_of p f ≡ 0 = ap (λ o. unwrap_or (option_map (λ (x : Field). x.width) o) 0) (slice_get_past p.fields f le) in
      let small : held_by words (lanes_of places f) < 2 ^ 0 = subst (λ w. held_by words (lanes_of places f) < 2 ^ w) (lanes_width p places f cut ∙ none) (held-lt words (lanes_of places f)) in
      let past : slice_index (state_of_words p places words) f ≡ 0 =
      get_or-eq_default (state_of_words p places words) 0 (let long = length-map-range_with_len (λ g. held_by words (lanes_of places g)) 0 (length p.fields) in omega (arith, long, le)) in
      omega (arith, small, past)
]
