use Rattle.std.proofs.Common.{◌*◌, ◌==◌}
use Rattle.std.specs.Prelude.{bit_and}
use Rattle.rmt_memory.proofs.SliceLaws.{RowBits}
use Rattle.rmt_memory.proofs.row_bits.set_nibble.Given as goal

abbrev pub invariant-loop-x : goal.invariant-loop-x
invariant-loop-x l = RowBits l.width l.row (16 * l.at) 16 l.x (λ x. bit_and x l.mask == l.value) l.fn.bits l.bits
