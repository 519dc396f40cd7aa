-- Cells and records of small parts, computed.
use Rattle.std.proofs.Common.{◌≡◌, ℕ, ◌*◌, ◌-◌, ◌^◌, [], true, cond, eqb, ltb, ◌&&◌, refl, arith}
use Rattle.std.specs.List.{range_with_len}
use Rattle.rmt_config.specs.Cells.{Blocks}
use Rattle.rmt_pack.specs.declared.shape.Shape.{Shape}
use Rattle.rmt_pack.specs.Head.{number_of_head, head_of}
use Rattle.rmt_pack.specs.Shape.{cells_in, IsShape}
use Rattle.rmt_pack.specs.Cells.{entry_of, record_of}
use Rattle.rmt_pack.proofs.ShapeLaws.{exact-is, ternary-is}

-- ---- heads

number_of_first : number_of_head (record { occupied = true; visible = 0; code = 0 }) ≡ 1
number_of_first = refl

number_of_last : number_of_head (record { occupied = true; visible = 3; code = 31 }) ≡ 255
number_of_last = refl

head_of_byte : head_of 173 ≡ record { occupied = true; visible = 2; code = 21 }
head_of_byte = refl

-- ---- rows in which one row of one block isn't 0

abbrev one : ℕ → ℕ → ℕ → Blocks
one block row x b r = cond (eqb b block && eqb r row) x 0

-- ---- a part with two entries of 56 bits a row, and two quanta

abbrev small : Shape
small = record { memory = 1; key = 48; width = 1; per = 2; quanta = 2; held = 16; keys = range_with_len 0 8; records = range_with_len 8 4 }

small-part : IsShape small
small-part =
    exact-is small 0 8 4 refl (omega arith) (omega arith) (omega arith) (omega arith) (omega arith) (omega arith) (omega arith) refl refl refl refl (omega arith)

small-cells : cells_in small ≡ 16384
small-cells = refl

-- the first and last position of a row, the last row of a quantum and the first of the next, the first of a way, and the last cell
small_first : entry_of (one 0 0 0x123456789abcde) small 0 ≡ 0x123456789abcde
small_first = refl

small_position : entry_of (one 0 0 (0x123456789abcde * 2 ^ 56)) small 1 ≡ 0x123456789abcde
small_position = refl

small_beside : entry_of (one 0 0 0x123456789abcde) small 1 ≡ 0
small_beside = refl

small_row : entry_of (one 0 1023 7) small 2046 ≡ 7
small_row = refl

small_quantum : entry_of (one 4 0 7) small 2048 ≡ 7
small_quantum = refl

small_way : entry_of (one 1 0 7) small 4096 ≡ 7
small_way = refl

small_last : entry_of (one 7 1023 (7 * 2 ^ 56)) small 16383 ≡ 7
small_last = refl

-- seven records a row, two record units a quantum
small_records : (record_of (one 8 0 0xbeef) small 0 ≡ 0xbeef) × (record_of (one 8 0 (0xbeef * 2 ^ 16)) small 1 ≡ 0xbeef)
    × (record_of (one 11 146 (0xbeef * 2 ^ 16)) small 16383 ≡ 0xbeef)
small_records = (refl, refl, refl)

-- ---- keys of other lengths, each in the last position of the first row

abbrev of_key : ℕ → ℕ → ℕ → Shape
of_key key width per = record { memory = 1; key = key; width = width; per = per; quanta = 1; held = 0; keys = range_with_len 0 (4 * width); records = [] }

key_of_1 : entry_of (one 0 0 (511 * 2 ^ 99)) (of_key 1 1 12) 11 ≡ 511
key_of_1 = refl

key_of_8 : entry_of (one 0 0 (0xffff * 2 ^ 96)) (of_key 8 1 7) 6 ≡ 0xffff
key_of_8 = refl

key_of_104 : entry_of (one 0 0 (2 ^ 112 - 1)) (of_key 104 1 1) 0 ≡ 2 ^ 112 - 1
key_of_104 = refl

-- the sixth of six entries of 113 bits in seven blocks: the bits from 5 on of block 5, and 6 bits of block 6
key_of_105 : entry_of (λ b r. cond (eqb b 5) (2 ^ 112 - 32) (cond (eqb b 6) 63 0)) (of_key 105 7 6) 5 ≡ 2 ^ 113 - 1
key_of_105 = refl

-- five whole blocks, and 88 bits of a sixth
key_of_640 : entry_of (λ b r. cond (ltb b 5) (2 ^ 112 - 1) (2 ^ 88 - 1)) (of_key 640 6 1) 0 ≡ 2 ^ 648 - 1
key_of_640 = refl

key_of_640_last : entry_of (one 23 1023 1) (of_key 640 6 1) 4095 ≡ 2 ^ 560
key_of_640_last = refl

-- ---- records of other lengths, each of the last cell

abbrev of_record : ℕ → ℕ → Shape
of_record held blocks = record { memory = 1; key = 48; width = 1; per = 1; quanta = 1; held = held; keys = range_with_len 0 4; records = range_with_len 4 blocks }

record_of_1 : record_of (one 4 36 (2 ^ 63)) (of_record 1 1) 4095 ≡ 1
record_of_1 = refl

record_of_111 : record_of (one 7 1023 (2 ^ 112 - 1)) (of_record 111 4) 4095 ≡ 2 ^ 111 - 1
record_of_111 = refl

record_of_112 : record_of (one 7 1023 (2 ^ 112 - 1)) (of_record 112 4) 4095 ≡ 2 ^ 112 - 1
record_of_112 = refl

record_of_113 : record_of (one 11 1023 1) (of_record 113 8) 4095 ≡ 2 ^ 112
record_of_113 = refl

record_of_2048 : record_of (one 79 1023 (2 ^ 31)) (of_record 2048 76) 4095 ≡ 2 ^ 2047
record_of_2048 = refl

record_of_none : record_of (one 0 0 1) (of_record 0 0) 0 ≡ 0
record_of_none = refl

-- ---- a ternary part of two quanta: four records of 24 bits a row

abbrev ternary : Shape
ternary = record { memory = 2; key = 40; width = 0; per = 0; quanta = 2; held = 24; keys = []; records = range_with_len 0 2 }

ternary-part : IsShape ternary
ternary-part = ternary-is ternary 0 2 refl (omega arith) (omega arith) (omega arith) (omega arith) refl refl (omega arith) refl refl refl (omega arith)

-- how many records, the first, and the last
ternary_records : (cells_in ternary ≡ 4096) × (record_of (one 0 0 0xabcdef) ternary 0 ≡ 0xabcdef)
    × (record_of (one 1 511 (0xabcdef * 2 ^ 72)) ternary 4095 ≡ 0xabcdef)
ternary_records = (refl, refl, refl)
