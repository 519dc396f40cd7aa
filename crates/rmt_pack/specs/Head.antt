-- The head of an entry as a number of 8 bits.
use Rattle.std.specs.Prelude.{ℕ, ◌+◌, ◌*◌, if◌then◌else◌}
use Rattle.rmt_config.specs.Cells.{is_occupied, visible_bits, code_of}
use Rattle.rmt_pack.specs.declared.head.Head.{Head}

-- the 8 bits: occupied lowest, then the visible bits, then the code
abbrev pub number_of_head : Head → ℕ
number_of_head h = (if h.occupied then 1 else 0) + 2 * h.visible + 8 * h.code

-- the head that 8 bits say
abbrev pub head_of : ℕ → Head
head_of bits = record { occupied = is_occupied bits; visible = visible_bits bits; code = code_of bits }
