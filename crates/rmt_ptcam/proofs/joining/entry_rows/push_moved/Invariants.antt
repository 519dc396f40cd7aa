use Rattle.std.proofs.Common.{◌≡◌, ◌++◌, map, take}
use Rattle.rmt_ptcam.specs.Joining.{moved}
use Rattle.rmt_ptcam.proofs.joining.entry_rows.push_moved.Given as goal

abbrev pub invariant-loop-extract : goal.invariant-loop-extract
invariant-loop-extract l = l.extracts ≡ l.initial.extracts ++ map (moved l.bytes) (take l.extract-index l.others)
