use Rattle.std.proofs.Common.{◌≡◌, ◌++◌, ◌+◌, drop}
use Rattle.rmt_config.specs.LaneForm.{bits_of_lanes}
use Rattle.rmt_vliw.specs.Operations.{operations_from}
use Rattle.rmt_vliw.proofs.operation.push_pieces.Given as goal

-- the operations so far, and those of the lanes that are left, are all
abbrev pub invariant-loop-number : goal.invariant-loop-number
invariant-loop-number l = record {
  bits : l.low + bits_of_lanes (drop l.number l.lanes) ≡ bits_of_lanes l.lanes;
  so_far : l.ops.items ++ operations_from l.places l.params l.expr l.number l.low (drop l.number l.lanes)
      ≡ l.initial.ops.items ++ operations_from l.places l.params l.expr 0 0 l.lanes;
}
