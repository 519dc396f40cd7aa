use Rattle.std.proofs.Common.{List, subst}
use Rattle.rmt_ast.specs.declared.deps.Edge.{Edge}
use Rattle.rmt_bounds.specs.Proofs.{Gives}
use Rattle.rmt_bounds.specs.Used.{taking_room}
use Rattle.rmt_bounds.proofs.ChainLaws.{legal-le}
use Rattle.rmt_bounds.proofs.UsedLaws.{legal_taking_room}
use Rattle.rmt_bounds.proofs.check.check_bound.Goals as goal

pub returns-clause-proved : goal.returns-clause-proved
returns-clause-proved c = λ yes placement legal.
    let p = c.args.program.now in
    let edges = c.args.deps.now.field in
    legal-le p c.requires.program edges (taking_room p placement) (legal_taking_room p edges placement legal) c.args.bound.now.proof c.args.bound.now.stages
    (subst (λ (edges : List Edge). Gives c.args.program.now edges c.args.bound.now.proof c.args.bound.now.stages) c.as_slice.ensures (c.gives.ensures.0 yes))
