-- Laws of the words of a vector.
use Rattle.std.proofs.Common.{◌≡◌, ℕ, ◌^◌, ◌<◌, ◌≤◌, get_or, replicate, ⊎_elim, arith}
use Rattle.std.proofs.lemmas.Nat.{pow_pos}
use Rattle.std.proofs.lemmas.List.{get_or-replicate, get_or_past, length-replicate}
use Rattle.std.proofs.lemmas.Bool.{cases_lt}
use Rattle.std.proofs.lemmas.Bool.Decides.{nat_tests}
use Rattle.std.proofs.Math.Pow.{pow_mono}
use Rattle.rmt_bits.specs.Words.{word_size, AreWords}

-- each word is 0
pub get_or-same : {X : Type 0} (n w : ℕ) (d : X) → get_or (replicate n d) w d ≡ d
get_or-same {X} n w d =
    ⊎_elim (λ h. get_or-replicate n w d d h) (λ h. get_or_past (replicate n d) w d (omega (arith, length-replicate {A = X} n d))) (cases_lt w n)

pub get_or-zeros : (n w d : ℕ) → get_or (replicate n d) w d ≡ d
get_or-zeros n w d = get_or-same n w d

pub AreWords-zeros : AreWords (replicate 224 0)
AreWords-zeros = record {
  all_there = length-replicate {A = ℕ} 224 0;
  within_size = λ w. rw (get_or-zeros 224 w 0) (pow_pos (word_size w));
}

-- a word has at most 32 bits
pub word_size-le : (w : ℕ) → word_size w ≤ 32
word_size-le w = grind (arith, nat_tests)

pub word-lt : (v w : ℕ) → v < 2 ^ word_size w → v < 2 ^ 32
word-lt v w lt =
    let small : word_size w ≤ 32 = word_size-le w in
    let room : 2 ^ word_size w ≤ 2 ^ 32 = pow_mono small in
    omega arith
