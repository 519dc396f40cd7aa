-- How many blocks and cells the memory of a slot has, by its numbers.
use Rattle.std.specs.Prelude.{ℕ, ◌+◌, ◌*◌, ◌-◌, ◌/◌, Bool, if◌then◌else◌}
use Rattle.rmt_config.specs.declared.form.block_counts.BlockCounts.{BlockCounts}

-- the quotient, rounded up
abbrev pub divided_up : ℕ → ℕ → ℕ
divided_up a b = (a + b - 1) / b

-- how many SRAM blocks of 112 bits stand side by side for a record of n bits
abbrev pub record_width : ℕ → ℕ
record_width n = divided_up n 112

-- how many records of n bits such a row has; none where n is 0, for what is divided by 0 is 0
abbrev pub records_a_row : ℕ → ℕ
records_a_row n = 112 * record_width n / n

-- the record units of a quantum that has that many times 1,024 cells; none where a record has no bits
abbrev pub record_units : ℕ → ℕ → ℕ
record_units thousands n = divided_up thousands (records_a_row n)

-- d quanta, each with that many key blocks, times 1,024 cells and bits in a record
abbrev pub block_counts : ℕ → ℕ → ℕ → ℕ → Bool → BlockCounts
block_counts d key_blocks thousands n counted = record {
  keys = d * key_blocks;
  records = d * (record_units thousands n * record_width n);
  counters = d * (if counted then thousands else 0);
}

-- an exact part: four ways of units k blocks wide with p cells a row; a record is the data
abbrev pub exact_block_counts : ℕ → ℕ → ℕ → ℕ → Bool → BlockCounts
exact_block_counts k p d held counted = block_counts d (4 * k) (4 * p) held counted

-- a ternary part: a key of that many bits in TCAM blocks of 40 bits, 2,048 rows; a record is a head and the data
abbrev pub ternary_block_counts : ℕ → ℕ → ℕ → Bool → BlockCounts
ternary_block_counts bits d held counted = block_counts d (divided_up bits 40) 2 (held + 8) counted
