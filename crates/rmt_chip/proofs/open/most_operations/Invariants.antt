use Rattle.std.proofs.Common.{◌≡◌, drop}
use Rattle.std.specs.Prelude.{max}
use Rattle.rmt_chip.specs.Writes.{most_ops}
use Rattle.rmt_chip.proofs.open.most_operations.Given as goal

abbrev pub invariant-loop-instruction : goal.invariant-loop-instruction
invariant-loop-instruction l = max l.most (most_ops (drop l.instruction-index l.code)) ≡ most_ops l.code
