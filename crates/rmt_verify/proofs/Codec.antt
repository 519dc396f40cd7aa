-- The readers of a map's numbers and their spellings: what is read is spelled so and fits, and what fits is read as it is spelled.
use Rattle.std.proofs.Common.{◌≡◌, ℕ, ◌+◌, ◌*◌, ◌^◌, ◌<◌, ◌/◌, ◌%◌, List, [], ◌∷◌, refl, ap, ◌∙◌, arith}
use Rattle.std.proofs.lemmas.Nat.{div_below, mul-add-lt}
use Rattle.rmt_config.specs.Spelling.{two_bytes, four_bytes}
use Rattle.rmt_verify.specs.declared.fault.MapFault.TheVariants.{Form}
use Rattle.rmt_verify.specs.Readers.{Reader, made, byte_at, two_of_parts, two_at, four_of_parts, four_at}
use Rattle.rmt_bits.proofs.CodecLaws as bits
use Rattle.rmt_bits.proofs.CodecLaws.{codec_as, codec_behind, codec_made_known}
use Rattle.rmt_verify.proofs.NumberLaws.{two_text, four_text}

-- what is read fits, and what fits is read
abbrev pub Codec : {A : Type 0} → Reader A → (A → List ℕ) → (A → Type 0) → Type 0
Codec read spell P = bits.Codec read spell P P

-- what is made of an item
pub codec_made : {A B : Type 0} (f : A → B) {read : Reader A} {s : A → List ℕ} {P : A → Type 0} → Codec read s P → (spell : B → List ℕ) (Q : B → Type 0)
    → ((a : A) → P a → (s a ≡ spell (f a)) × Q (f a)) → ((b : B) → Q b → (a : A) × (f a ≡ b) × P a) → Codec (made f read) spell Q
codec_made f c spell Q same back = codec_made_known f c spell Q Q same (λ b q. let a = back b q in (a.0, a.1, (same a.0 a.2).0 ∙ ap spell a.1, a.2))

pub byte_codec : Codec byte_at (λ n. n ∷ []) (λ n. n < 2 ^ 8)
unfolding byte_at
byte_codec = codec_as (bits.codec_byte Form) (λ n. n ∷ []) (λ n. n < 2 ^ 8) (λ n. n < 2 ^ 8) (λ _. refl) (λ _ _. tt) (λ _ lt. lt)

parts_fit : (base : ℕ) (x : ℕ × ℕ) → x.0 < base → x.1 < base → base * x.0 + x.1 < base * base
parts_fit base x high low =
    let all = mul-add-lt x.0 base x.1 base high low in
    omega (arith, all)

parts_back : (base n : ℕ) → 0 < base → n < base * base → (x : ℕ × ℕ) × (base * x.0 + x.1 ≡ n) × ((x.0 < base) × (x.1 < base))
parts_back base n some lt = ((n / base, n % base), omega (arith, some), (div_below n base base some lt, omega (arith, some)))

pub two_codec : Codec two_at two_bytes (λ n. n < 2 ^ 16)
unfolding two_at
two_codec =
    codec_made two_of_parts (codec_behind byte_codec (λ _. byte_codec)) two_bytes (λ n. n < 2 ^ 16) (λ x p. (two_text x p.0 p.1, parts_fit 256 x p.0 p.1)) (λ n lt. parts_back 256 n (omega arith) lt)

pub four_codec : Codec four_at four_bytes (λ n. n < 2 ^ 32)
unfolding four_at
four_codec =
    codec_made four_of_parts (codec_behind two_codec (λ _. two_codec)) four_bytes (λ n. n < 2 ^ 32) (λ x p. (four_text x p.1, parts_fit 65536 x p.0 p.1)) (λ n lt. parts_back 65536 n (omega arith) lt)
