use Rattle.std.proofs.Common.{◌≡◌, drop}
use Rattle.std.specs.Prelude.{find}
use Rattle.rmt_ast.specs.declared.program.Case.{Case}
use Rattle.rmt_ast.specs.Walk.{all_pass}
use Rattle.rmt_plain.proofs.walk.target.Given as goal

abbrev pub invariant-loop-case : goal.invariant-loop-case
invariant-loop-case l =
    find (λ (c : Case). all_pass c.tests l.header.select l.state) (drop l.case-index l.header.cases)
    ≡ find (λ (c : Case). all_pass c.tests l.header.select l.state) l.header.cases
