-- Known values.
use Rattle.std.specs.Prelude.{◌≡◌, [], ◌∷◌, true, false, codes, map, refl}
use Rattle.std.proofs.Common.{arith}
use Rattle.std.proofs.lemmas.List.Elements.{All-cons, All-head, All-nil}
use Rattle.rmt_bits.specs.Counts.{counts, in_order}
use Rattle.rmt_bits.specs.Counting.{BeginsWith, counted, with_count, hits_among}
use Rattle.rmt_bits.specs.Bits.{slice, deposit, bits_of_bytes, bytes_of}
use Rattle.rmt_bits.specs.Digits.{is_digit, is_hex, is_hex_number, number_of_digits}
use Rattle.rmt_bits.specs.Hash.{fnv}
use Rattle.rmt_bits.specs.Lines.{numbered_lines}
use Rattle.rmt_bits.specs.Words.{word_size}

-- of the byte 61
pub fnv_known : fnv (0x61 ∷ []) ≡ 0xaf63dc4c8601ec8c
fnv_known = refl

pub slice_known : slice 0xabcd 4 8 ≡ 0xbc
slice_known = refl

pub deposit_known : deposit 0xabcd 4 8 0x12 ≡ 0xa12d
deposit_known = refl

pub bits_of_bytes_known : bits_of_bytes (0xab ∷ 0xcd ∷ 0xef ∷ []) 4 12 ≡ 0xbcd
bits_of_bytes_known = refl

pub bytes_of_known : bytes_of 3 0x0102 ≡ 0 ∷ 1 ∷ 2 ∷ []
bytes_of_known = refl

pub last_words : word_size 63 ∷ word_size 64 ∷ word_size 159 ∷ word_size 160 ∷ [] ≡ 8 ∷ 16 ∷ 16 ∷ 32 ∷ []
last_words = refl

pub decimal_number : number_of_digits 10 (codes "0120") ≡ 120
decimal_number = refl

pub either_case : number_of_digits 16 (codes "aF09") ≡ 0xaf09
either_case = refl

pub no_digits : number_of_digits 10 [] ≡ 0
no_digits = refl

pub beside_digits : map is_digit (codes "/09:") ≡ false ∷ true ∷ true ∷ false ∷ []
beside_digits = refl

pub beside_hex : map is_hex (codes "`afg@AFG") ≡ false ∷ true ∷ true ∷ false ∷ false ∷ true ∷ true ∷ false ∷ []
beside_hex = refl

pub small_x_alone : is_hex_number (codes "0x") ∷ is_hex_number (codes "0X1") ∷ is_hex_number (codes "0") ∷ [] ≡ true ∷ false ∷ false ∷ []
small_x_alone = refl

-- blank lines and comments are counted and passed over
pub numbered_known : numbered_lines 1 (codes "# a\nb\n  \n c") ≡ (2, codes "b") ∷ (4, codes " c") ∷ []
numbered_known = refl

pub no_lines : numbered_lines 1 [] ≡ []
no_lines = refl

-- both counters wrap, and the other stays
pub counted_wraps : counted 14 (record { entry = 3; packets = 1; bytes = 60 } ∷ record { entry = 5; packets = 281474976710655; bytes = 18446744073709551612 } ∷ []) 5
    ≡ record { entry = 3; packets = 1; bytes = 60 } ∷ record { entry = 5; packets = 0; bytes = 10 } ∷ []
counted_wraps = refl

-- numbers put in order, each once
pub in_their_order : in_order (4 ∷ 1 ∷ 4 ∷ 0 ∷ []) ≡ 0 ∷ 1 ∷ 4 ∷ []
in_their_order = refl

-- a number between two others, whose earlier hit doesn't count
pub between_two : with_count 4 (counts (9 ∷ 3 ∷ []) (record { number = 4; bytes = 60 } ∷ record { number = 9; bytes = 70 } ∷ []))
    ≡ record { entry = 3; packets = 0; bytes = 0 } ∷ record { entry = 4; packets = 0; bytes = 0 } ∷ record { entry = 9; packets = 1; bytes = 70 } ∷ []
between_two = refl

pub hits_before_it : hits_among (9 ∷ 3 ∷ []) (record { number = 4; bytes = 60 } ∷ record { number = 9; bytes = 70 } ∷ []) ≡ record { number = 9; bytes = 70 } ∷ []
hits_before_it = refl

-- counters begin with the number of the first, and none begin with any
pub begins_with_three : BeginsWith 3 (counts (9 ∷ 3 ∷ []) [])
begins_with_three = All-cons (λ first. 3 ≡ first.entry) _ [] refl (All-nil (λ first. 3 ≡ first.entry))

pub begins_with_nine : BeginsWith 9 (counts (9 ∷ 3 ∷ []) []) → ⊥
begins_with_nine begins = let three : 9 ≡ 3 = All-head (λ first. 9 ≡ first.entry) _ [] begins in omega (arith, three)

pub begins_with_any : BeginsWith 7 []
begins_with_any = All-nil (λ first. 7 ≡ first.entry)
