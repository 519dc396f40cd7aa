use Rattle.std.proofs.Common.{◌*◌}
use Rattle.rmt_memory.specs.Sights.{seen_by}
use Rattle.rmt_memory.proofs.SliceLaws.{RowBits}
use Rattle.rmt_memory.proofs.row_bits.set_seen.Given as goal

abbrev pub invariant-loop-sight : goal.invariant-loop-sight
invariant-loop-sight l = RowBits l.width l.row (160 * l.words) 3 l.sight (λ sight. seen_by sight l.head) l.fn.bits l.bits
