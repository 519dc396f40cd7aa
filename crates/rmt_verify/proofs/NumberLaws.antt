-- Laws of numbers as bytes, the highest first.
use Rattle.std.proofs.Common.{◌≡◌, ℕ, ◌<◌, ◌^◌, [], ◌∷◌, ◌++◌, refl, arith}
use Rattle.std.specs.Int.{bytes_high_first}
use Rattle.rmt_config.specs.Spelling.{two_bytes, four_bytes}
use Rattle.rmt_verify.specs.Readers.{two_of_parts, four_of_parts}

-- bytes one by one
pub same_two : (a b c d : ℕ) → a ≡ c → b ≡ d → a ∷ b ∷ [] ≡ c ∷ d ∷ []
same_two a b c d e f = rw (e, f) refl

pub same_four : (a b c d a2 b2 c2 d2 : ℕ) → a ≡ a2 → b ≡ b2 → c ≡ c2 → d ≡ d2 → a ∷ b ∷ c ∷ d ∷ [] ≡ a2 ∷ b2 ∷ c2 ∷ d2 ∷ []
same_four a b c d a2 b2 c2 d2 e f g h = rw (e, f, g, h) refl

-- std's bytes of a number are the same
pub two_high_first : (n : ℕ) → bytes_high_first 2 n ≡ two_bytes n
two_high_first n = same_two _ _ _ _ (omega arith) (omega arith)

pub four_high_first : (n : ℕ) → bytes_high_first 4 n ≡ four_bytes n
four_high_first n = same_four _ _ _ _ _ _ _ _ (omega arith) (omega arith) (omega arith) (omega arith)

-- the bytes of a number that two parts make
pub two_text : (x : ℕ × ℕ) → x.0 < 256 → x.1 < 256 → x.0 ∷ x.1 ∷ [] ≡ two_bytes (two_of_parts x)
two_text x high low = same_two _ _ _ _ (omega (arith, high, low)) (omega (arith, high, low))

pub four_text : (x : ℕ × ℕ) → x.1 < 2 ^ 16 → two_bytes x.0 ++ two_bytes x.1 ≡ four_bytes (four_of_parts x)
four_text x low = same_four _ _ _ _ _ _ _ _ (omega (arith, low)) (omega (arith, low)) (omega (arith, low)) (omega (arith, low))
