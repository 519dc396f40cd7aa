use Rattle.std.proofs.Common.{◌≡◌, drop}
use Rattle.rmt_ptcam.specs.Words.{byte_at}
use Rattle.rmt_ptcam.proofs.joining.lookups.byte_at.Given as goal

abbrev pub invariant-loop-lookup : goal.invariant-loop-lookup
invariant-loop-lookup l = byte_at l.lookups l.word l.offset ≡ byte_at (drop l.lookup-index l.lookups) l.rest l.offset
