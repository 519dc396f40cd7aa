-- Lines that are made one after another.
use Rattle.std.proofs.Common.{append-nil, ◌≡◌, ℕ, ◌+◌, List, [], ◌∷◌, ◌++◌, sym, ap, ◌∙◌, arith}
use Rattle.std.specs.List.{flat_map, range_with_len}
use Rattle.std.proofs.lemmas.Grind.{flat_map-append}
use Rattle.std.proofs.lemmas.List.{append_assoc}
use Rattle.rmt_bits.proofs.ListLaws.{range_more}

zero_left : (i : ℕ) → 0 + i ≡ i
zero_left i = omega arith

-- one line more
pub one_more : (line : ℕ → List ℕ) (i : ℕ) → flat_map line (range_with_len 0 (i + 1)) ≡ flat_map line (range_with_len 0 i) ++ line i
one_more line i =
    let e : range_with_len 0 (i + 1) ≡ range_with_len 0 i ++ i ∷ [] = range_more 0 i ∙ ap (λ k. range_with_len 0 i ++ k ∷ []) (zero_left i) in
    ap (λ (ns : List ℕ). flat_map line ns) e
    ∙ flat_map-append line (range_with_len 0 i) (i ∷ [])
    ∙ ap (λ (t : List ℕ). flat_map line (range_with_len 0 i) ++ t) (append-nil (line i))

-- a text of some lines with one line more
pub appended : (line : ℕ → List ℕ) (i : ℕ) (before text more : List ℕ) → text ≡ before ++ flat_map line (range_with_len 0 i) → more ≡ text ++ line i → more ≡ before ++ flat_map line (range_with_len 0 (i + 1))
appended line i before text more h m = m ∙ ap (λ (t : List ℕ). t ++ line i) h ∙ append_assoc before (flat_map line (range_with_len 0 i)) (line i) ∙ ap (λ (t : List ℕ). before ++ t) (sym (one_more line i))

-- three parts, the first two first
pub three : (before one two new last : List ℕ) → new ≡ before ++ one → last ≡ new ++ two → last ≡ before ++ (one ++ two)
three before one two new last h m = m ∙ ap (λ (t : List ℕ). t ++ two) h ∙ append_assoc before one two
