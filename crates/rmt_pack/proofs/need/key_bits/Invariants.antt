use Rattle.std.proofs.Common.{◌≡◌, take}
use Rattle.std.specs.Prelude.{sum_by}
use Rattle.rmt_ast.specs.State.{width_of}
use Rattle.rmt_pack.proofs.need.key_bits.Given as goal

abbrev pub invariant-loop-field : goal.invariant-loop-field
invariant-loop-field l = l.bits ≡ sum_by (width_of l.program) (take l.field-index l.key)
