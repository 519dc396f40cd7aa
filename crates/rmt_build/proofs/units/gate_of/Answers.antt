use Rattle.std.proofs.Common.{arith}
use Rattle.rmt_vliw.proofs.FormedLaws.{lanes_small, lanes_within}
use Rattle.std.proofs.lemmas.Option.{slice_get_within}
use Rattle.rmt_build.proofs.UnitLaws.{guard_small}
use Rattle.rmt_build.proofs.UnitPartLaws.{gate_part}
use Rattle.rmt_build.proofs.units.gate_of.Goals as goal

pub gate_tests-requires-clause-within : goal.gate_tests-requires-clause-within
gate_tests-requires-clause-within c = lanes_within c.args.program.now c.args.plan.now.places c.args.field c.requires.program c.requires.places

pub gate_tests-requires-clause-short : goal.gate_tests-requires-clause-short
gate_tests-requires-clause-short c = lanes_small c.args.program.now c.args.plan.now.places c.args.field c.requires.places

pub overflow_cast-result : goal.overflow_cast-result
overflow_cast-result c =
    omega (arith, slice_get_within c.args.program.now.nodes c.args.node _ c.requires.node, c.requires.program.counts.nodes)

pub guard_of-requires : goal.guard_of-requires
guard_of-requires c =
    let below = slice_get_within c.args.program.now.nodes c.args.node _ c.requires.node in
    let few = c.requires.program.counts.nodes in
    guard_small c.args.node c.args.guard (c.requires.program.nodes c.args.node _ c.requires.node).guard (omega (arith, below, few))

pub returns-clause-parts : goal.returns-clause-parts
returns-clause-parts c = λ lists k. gate_part c.args.program.now lists c.args.plan.now k _

pub returns-clause-small : goal.returns-clause-small
returns-clause-small c = c.guard_of.ensures.small
