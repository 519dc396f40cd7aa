use Rattle.std.proofs.Common.{◌≡◌, ◌≤◌, ◌*◌, take}
use Rattle.rmt_config.specs.LaneForm.{bits_of_lanes}
use Rattle.rmt_config.proofs.form.names.made.bits_of_lanes.Given as goal

abbrev pub invariant-loop-lane : goal.invariant-loop-lane
invariant-loop-lane l = record { value : l.total ≡ bits_of_lanes (take l.lane-index l.lanes); small : l.total ≤ 255 * l.lane-index }
