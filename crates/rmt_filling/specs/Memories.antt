-- The memory of a table's part, in the next blocks of its stage.
use Rattle.std.specs.Prelude.{ℕ, ◌+◌, ◌*◌, ◌≤◌}
use Rattle.std.specs.List.{range_with_len}
use Rattle.rmt_filling.specs.Types.{Kind, Memory}
use Rattle.rmt_ast.specs.declared.program.Kind.TheVariants.{Keyless, Exact, Prefix, Ternary}
use Rattle.rmt_config.specs.declared.config.Memory.TheVariants as memory
use Rattle.rmt_config.specs.declared.form.block_counts.BlockCounts.{BlockCounts}
use Rattle.rmt_config.specs.BlockCounts.{exact_block_counts, ternary_block_counts}
use Rattle.rmt_filling.specs.declared.memory.PartNeed.{PartNeed}
use Rattle.rmt_filling.specs.declared.memory.Taken.{Taken}

-- how many blocks a part lists
abbrev pub no_blocks : BlockCounts
no_blocks = record { keys = 0; records = 0; counters = 0 }

abbrev pub blocks_for : Kind → PartNeed → BlockCounts
blocks_for Keyless n = no_blocks
blocks_for Exact n = exact_block_counts n.format.width n.format.per n.quanta n.held n.counted
blocks_for Prefix n = ternary_block_counts n.key n.quanta n.held n.counted
blocks_for Ternary n = ternary_block_counts n.key n.quanta n.held n.counted

-- the SRAM blocks that it takes, and the TCAM blocks; the keys of an exact part stand in SRAM
abbrev pub sram_for : Kind → BlockCounts → ℕ
sram_for Keyless s = 0
sram_for Exact s = s.keys + s.records + s.counters
sram_for Prefix s = s.records + s.counters
sram_for Ternary s = s.records + s.counters

abbrev pub tcam_for : Kind → BlockCounts → ℕ
tcam_for Keyless s = 0
tcam_for Exact s = 0
tcam_for Prefix s = s.keys
tcam_for Ternary s = s.keys

-- blocks with the numbers from one on: of keys, then of records, then of counters
abbrev pub exact_from : PartNeed → BlockCounts → ℕ → Memory
exact_from n s sram =
    memory.Exact n.format.width n.format.per n.quanta (4 * n.before) (range_with_len sram s.keys) (range_with_len (sram + s.keys) s.records)
    (range_with_len (sram + s.keys + s.records) s.counters)

abbrev pub ternary_from : PartNeed → BlockCounts → ℕ → ℕ → Memory
ternary_from n s sram tcam =
    memory.Ternary n.quanta (range_with_len tcam s.keys) (range_with_len sram s.records) (range_with_len (sram + s.records) s.counters)

-- the memory of a part of a table, where so many blocks of the stage are taken
abbrev pub memory_for : Kind → PartNeed → Taken → Memory
memory_for Keyless n taken = memory.Without
memory_for Exact n taken = exact_from n (blocks_for Exact n) taken.sram
memory_for Prefix n taken = ternary_from n (blocks_for Prefix n) taken.sram taken.tcam
memory_for Ternary n taken = ternary_from n (blocks_for Ternary n) taken.sram taken.tcam

-- the blocks that are taken then
abbrev pub taken_behind : Kind → PartNeed → Taken → Taken
taken_behind kind n taken = record { sram = taken.sram + sram_for kind (blocks_for kind n); tcam = taken.tcam + tcam_for kind (blocks_for kind n) }

-- a part that the chip can hold: its numbers fit, and there are blocks enough in the stage
pub record HasRoom (kind : Kind) (n : PartNeed) (taken : Taken) : Type 0 where
  pub quanta : n.quanta ≤ 106
  pub before : n.before ≤ 63
  pub key : n.key ≤ 640
  pub per : n.format.per ≤ 65535
  pub sram : taken.sram + sram_for kind (blocks_for kind n) ≤ 106
  pub tcam : taken.tcam + tcam_for kind (blocks_for kind n) ≤ 16
