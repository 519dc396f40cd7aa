use Rattle.std.proofs.Common.{ℕ, List, ◌++◌, take}
use Rattle.rmt_config.specs.Resources.{words_of}
use Rattle.rmt_config.specs.LimitSteps.{Marks}
use Rattle.rmt_config.proofs.limits.marks.mark_lanes.Given as goal

abbrev pub invariant-loop-lane : goal.invariant-loop-lane
invariant-loop-lane l = (ns : List ℕ) → Marks ns l.fn.marks → Marks (ns ++ words_of (take l.lane-index l.lanes)) l.marks
