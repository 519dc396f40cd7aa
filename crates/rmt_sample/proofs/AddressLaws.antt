-- The addresses of different numbers below 2^32 differ: an odd factor has an inverse.
use Rattle.std.proofs.Common.{◌≡◌, ◌∙◌, sym, ap, arith, ℕ, ◌+◌, ◌*◌, ◌%◌, ◌^◌, ◌<◌}
use Rattle.std.proofs.Math.Nat.{mul_assoc}
use Rattle.std.proofs.lemmas.Nat.{mod-mul-add, mul-mod_first}
use Rattle.rmt_sample.specs.Texts.{host, station}

-- a number from its product, by the inverse of the factor
back : (i a b q : ℕ) → i < 2 ^ 32 → a * b ≡ q * 2 ^ 32 + 1 → i * a % 2 ^ 32 * b % 2 ^ 32 ≡ i
back i a b q lt inverse =
    let whole : i * a * b ≡ i * q * 2 ^ 32 + i = mul_assoc i a b ∙ ap (λ v. i * v) inverse ∙ omega (arith, mul_assoc i q (2 ^ 32)) in
    mul-mod_first (i * a) b (2 ^ 32) ∙ ap (λ v. v % 2 ^ 32) whole ∙ mod-mul-add (i * q) (2 ^ 32) i lt

same : (i j a b q : ℕ) → i < 2 ^ 32 → j < 2 ^ 32 → a * b ≡ q * 2 ^ 32 + 1 → i * a % 2 ^ 32 ≡ j * a % 2 ^ 32 → i ≡ j
same i j a b q low small inverse e = sym (back i a b q low inverse) ∙ ap (λ v. v * b % 2 ^ 32) e ∙ back j a b q small inverse

pub same_station : (i j : ℕ) → i < 2 ^ 32 → j < 2 ^ 32 → station i ≡ station j → i ≡ j
same_station i j low small e = same i j 2654435761 244002641 150801925 low small (omega arith) (omega arith)

pub same_host : (i j : ℕ) → i < 2 ^ 32 → j < 2 ^ 32 → host i ≡ host j → i ≡ j
same_host i j low small e = same i j 2246822519 3066638151 1604247758 low small (omega arith) e
