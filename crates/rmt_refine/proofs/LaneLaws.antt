-- Lanes of words: each holds its part of what they hold together, and one that is free of those that change stays.
use Rattle.std.proofs.Common.{◌≡◌, ℕ, zero, suc, ◌+◌, ◌*◌, ◌/◌, ◌%◌, ◌^◌, ◌<◌, ◌≤◌, List, [], ◌∷◌, sym, ap, ◌∙◌, ◌⊎◌, inl, inr, arith}
use Rattle.std.specs.Prelude.{All, AllPairs, Contains}
use Rattle.std.specs.List.{flat_map}
use Rattle.std.proofs.lemmas.List.Elements.{All-cons, All-head, All-nil, All-tail, All-contains}
use Rattle.std.proofs.Math.Nat.{mod-one}
use Rattle.std.proofs.lemmas.Nat.{div-mul-add, mod-mul-add}
use Rattle.rmt_bits.proofs.BitLaws.{slice-add, slice-lt}
use Rattle.rmt_bits.specs.Bits.{slice}
use Rattle.rmt_bits.specs.declared.lane.Lane.{Lane}
use Rattle.rmt_ast.specs.Places.{lanes_of}
use Rattle.rmt_refine.specs.Types.{Operation}
use Rattle.rmt_config.specs.Agreement.{IsFree}
use Rattle.rmt_config.specs.Life.{Words, lane_of}
use Rattle.rmt_phv.specs.Places.{AreApart}
use Rattle.rmt_config.specs.Effects.{held_by, words_after, ChangesOnly}
use Rattle.rmt_phv.proofs.LaneLaws.{fields_apart as all_apart}
use Rattle.rmt_config.proofs.HeldLaws.{SameIn}

-- ---- what lanes hold together

low_of : (a b k : ℕ) → a < 2 ^ k → (a + 2 ^ k * b) % 2 ^ k ≡ a
low_of a b k lt = let e : a + 2 ^ k * b ≡ b * 2 ^ k + a = omega arith in ap (λ n. n % 2 ^ k) e ∙ mod-mul-add b (2 ^ k) a lt

high_of : (a b k : ℕ) → a < 2 ^ k → (a + 2 ^ k * b) / 2 ^ k ≡ b
high_of a b k lt = let e : a + 2 ^ k * b ≡ b * 2 ^ k + a = omega arith in ap (λ n. n / 2 ^ k) e ∙ div-mul-add b (2 ^ k) a lt

pub lanes_same : (one two : Words) (ls : List Lane) → held_by one ls ≡ held_by two ls → All (SameIn one two) ls
lanes_same one two [] e = All-nil (SameIn one two)
lanes_same one two (l ∷ ls) e =
    let lt_one = slice-lt (one l.word) l.low l.len in
    let lt_two = slice-lt (two l.word) l.low l.len in
    All-cons (SameIn one two) l ls
    (sym (low_of (lane_of one l) (held_by one ls) l.len lt_one) ∙ ap (λ n. n % 2 ^ l.len) e ∙ low_of (lane_of two l) (held_by two ls) l.len lt_two)
    (lanes_same one two ls
    (sym (high_of (lane_of one l) (held_by one ls) l.len lt_one) ∙ ap (λ n. n / 2 ^ l.len) e ∙ high_of (lane_of two l) (held_by two ls) l.len lt_two))

-- ---- a lane that is free of those that change

pub slice_bits : (x y low len : ℕ) → ((i : ℕ) → i < len → slice x (low + i) 1 ≡ slice y (low + i) 1) → slice x low len ≡ slice y low len
slice_bits x y low zero same = mod-one (x / 2 ^ low) ∙ sym (mod-one (y / 2 ^ low))
slice_bits x y low (suc len) same =
    let e : suc len ≡ 1 + len = omega arith in
    let rest = slice_bits x y low len (λ i lt. same i (omega (arith, lt))) in
    ap (slice x low) e ∙ slice-add x low 1 len
    ∙ ap (λ n. n * 2 ^ len + slice x low len) (same len (omega arith)) ∙ ap (λ n. slice y (low + len) 1 * 2 ^ len + n) rest
    ∙ sym (ap (slice y low) e ∙ slice-add y low 1 len)

word_or_bit : (a b : Lane) (i : ℕ) → i < a.len → AreApart a b → ((b.word ≡ a.word) → ⊥) ⊎ ((a.low + i < b.low) ⊎ (b.low + b.len ≤ a.low + i))
word_or_bit a b i lt (inl other) = inl (λ e. other (sym e))
word_or_bit a b i lt (inr (inl below)) = inr (inl (omega (arith, lt, below)))
word_or_bit a b i lt (inr (inr above)) = inr (inr (omega (arith, above)))

free_of : (l : Lane) (ls : List Lane) (i : ℕ) → i < l.len → All (AreApart l) ls → IsFree ls l.word (l.low + i)
free_of l [] i lt h = All-nil (λ (x : Lane). ((x.word ≡ l.word) → ⊥) ⊎ ((l.low + i < x.low) ⊎ (x.low + x.len ≤ l.low + i)))
free_of l (x ∷ xs) i lt h =
    All-cons (λ (y : Lane). ((y.word ≡ l.word) → ⊥) ⊎ ((l.low + i < y.low) ⊎ (y.low + y.len ≤ l.low + i))) x xs
    (word_or_bit l x i lt (All-head (AreApart l) x xs h)) (free_of l xs i lt (All-tail (AreApart l) x xs h))

-- an instruction leaves a lane as it was that stands apart from those that it changes
pub lane_stays : (l : Lane) (ls : List Lane) (ops : List Operation) (held : ℕ) (words : Words) → All (AreApart l) ls → ChangesOnly ls ops → lane_of (words_after ops held words) l ≡ lane_of words l
lane_stays l ls ops held words apart only =
    slice_bits (words_after ops held words l.word) (words l.word) l.low l.len (λ i lt. only words held l.word (l.low + i) (free_of l ls i lt apart))

-- ---- lanes of different fields

-- lanes of two fields have no bit in common
pub fields_apart : (places : List (List Lane)) (f g : ℕ) (a b : Lane) → AllPairs AreApart (flat_map (λ (ls : List Lane). ls) places) → (f ≡ g → ⊥)
    → Contains (lanes_of places f) a → Contains (lanes_of places g) b → AreApart a b
fields_apart places f g a b pairs ne in_a in_b =
    All-contains (AreApart a) (lanes_of places g) b (All-contains (λ x. All (AreApart x) (lanes_of places g)) (lanes_of places f) a (all_apart places f g pairs ne) in_a) in_b
