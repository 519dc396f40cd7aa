use Rattle.std.proofs.Common.{◌≡◌, drop}
use Rattle.rmt_ast.specs.Walk as spec
use Rattle.rmt_plain.proofs.walk.all_pass.Given as goal

abbrev pub invariant-loop-i : goal.invariant-loop-i
invariant-loop-i l = spec.all_pass (drop l.i l.tests) (drop l.i l.fields) l.state ≡ spec.all_pass l.tests l.fields l.state
