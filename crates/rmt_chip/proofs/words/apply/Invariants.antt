use Rattle.std.proofs.Common.{◌≡◌, take}
use Rattle.rmt_chip.specs.Writes.{applied}
use Rattle.rmt_chip.proofs.words.apply.Given as goal

abbrev pub invariant-loop-write : goal.invariant-loop-write
invariant-loop-write l = l.vector ≡ applied (take l.write-index l.writes) l.fn.vector
