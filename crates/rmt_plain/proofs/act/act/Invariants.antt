use Rattle.std.proofs.Common.{◌≡◌, take}
use Rattle.rmt_ast.specs.Actions.{acted}
use Rattle.rmt_plain.proofs.act.act.Given as goal

abbrev pub invariant-loop-one : goal.invariant-loop-one
invariant-loop-one l = l.state ≡ acted l.program (take l.one-index l.assigns) l.args l.initial.state
