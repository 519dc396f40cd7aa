use Rattle.std.proofs.Common.{◌≡◌, ◌++◌, drop}
use Rattle.rmt_vliw.specs.Operations.{operations_of}
use Rattle.rmt_vliw.proofs.instructions.instruction.Given as goal

-- the operations so far, and those of the values that are left, are all
abbrev pub invariant-loop-value : goal.invariant-loop-value
invariant-loop-value l =
    l.ops.items ++ operations_of l.places l.folded.params (drop l.value-index l.folded.values) ≡ operations_of l.places l.folded.params l.folded.values
