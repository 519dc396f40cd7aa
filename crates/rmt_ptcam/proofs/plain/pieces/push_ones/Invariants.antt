use Rattle.std.proofs.Common.{◌≡◌, ◌++◌, map, take}
use Rattle.rmt_config.specs.declared.config.Extract.TheVariants.{One}
use Rattle.rmt_ptcam.proofs.plain.pieces.push_ones.Given as goal

abbrev pub invariant-loop-lane : goal.invariant-loop-lane
invariant-loop-lane l = l.extracts ≡ l.initial.extracts ++ map One (take l.lane-index l.lanes)
