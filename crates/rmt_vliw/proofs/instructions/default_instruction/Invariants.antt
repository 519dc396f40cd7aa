use Rattle.std.proofs.Common.{◌≡◌, ◌++◌, [], drop, map}
use Rattle.rmt_vliw.specs.Operations.{operations_of, given}
use Rattle.rmt_vliw.proofs.instructions.default_instruction.Given as goal

-- the operations so far, and those of the values that are left, are all
abbrev pub invariant-loop-value : goal.invariant-loop-value
invariant-loop-value l =
    l.ops.items ++ operations_of l.places [] (map (given l.args) (drop l.value-index l.folded.values)) ≡ operations_of l.places [] (map (given l.args) l.folded.values)
