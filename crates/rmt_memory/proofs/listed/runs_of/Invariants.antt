use Rattle.std.proofs.Common.{◌≡◌, take}
use Rattle.rmt_bits.specs.Bits.{slice}
use Rattle.rmt_config.specs.BlockCounts.{divided_up}
use Rattle.rmt_config.specs.Cells.{sram_row}
use Rattle.rmt_memory.specs.Laying.{entry_of, runs_of}
use Rattle.rmt_memory.proofs.listed.runs_of.Given as goal

abbrev pub invariant-loop-number : goal.invariant-loop-number
invariant-loop-number l =
    l.bytes.items ≡ runs_of (divided_up l.len 8) (λ n. slice (entry_of l.layout (sram_row l.rows) l.blocks n) l.from l.len) (take l.number-index l.numbers)
