use Rattle.std.proofs.Common.{◌≡◌, List, ◌∙◌, ap}
use Rattle.rmt_ast.specs.declared.deps.Edge.{Edge}
use Rattle.rmt_bounds.specs.Bounds.{all_bests, four_bounds, proof_of, stage_bound}
use Rattle.rmt_bounds.proofs.CheckLaws.{stages_is, found-le}
use Rattle.rmt_bounds.proofs.GivenLaws.{given_at}
use Rattle.rmt_bounds.proofs.find.bound.Goals as goal
use Rattle.rmt_bounds.proofs.find.bound.Goals.{In_ok-proof}

-- the number of stages that is found
found : (c : In_ok-proof) → c.greatest_of_four-stages.result ≡ (stage_bound c.args.program.now c.args.deps.now.field).stages
found c =
    stages_is c.args.program.now c.args.deps.now.field c.as_slice.result.now c.block_sums-blocks.result.sram c.block_sums-blocks.result.tcam c.table_count-tables.result c.greatest_of_four-stages.result
    (c.as_slice.ensures ∙ (c.in_ok-bests.ensures.value ∙ ap (all_bests c.args.program.now) c.as_slice-edges.ensures))
    c.block_sums-blocks.ensures.sram c.block_sums-blocks.ensures.tcam c.table_count-tables.ensures.value c.greatest_of_four-stages.ensures

pub returns-clause-proved : goal.returns-clause-proved
returns-clause-proved c =
    found-le c.args.program.now c.requires.program c.args.deps.now.field c.requires.rise c.greatest_of_four-stages.result
    (found (goal.at.returns-clause-proved c).In_ok-proof)

pub returns-clause-given : goal.returns-clause-given
returns-clause-given c =
    let p = c.args.program.now in
    let stages = c.greatest_of_four-stages.result in
    given_at p c.requires.program c.args.deps.now.field c.requires.rise c.in_ok-proof.proof stages
    (c.in_ok-proof.ensures ∙ ap (λ (es : List Edge). proof_of p es (four_bounds p es) stages) c.as_slice-edges.ensures) (found (goal.at.returns-clause-given c).In_ok-proof)
