use Rattle.std.proofs.Common.{◌+◌, ◌++◌, sym, subst, take, get_or, length, refl}
use Rattle.std.proofs.lemmas.List.{take_more}
use Rattle.std.proofs.lemmas.Option.{slice_get_read}
use Rattle.rmt_build.specs.Types.{Unit}
use Rattle.std.specs.Prelude.{List}
use Rattle.rmt_refine.specs.Units.{UnitCarried, nodes_in}
use Rattle.rmt_build.specs.UnitCode.{DoUnit, DoUnits}
use Rattle.rmt_build.proofs.AssemblyLaws.{units_push}
use Rattle.rmt_filling.proofs.ListLaws.{zip_item}
use Rattle.rmt_build.proofs.code.code_of.Goals as goal

pub push_unit-requires-clause-unit : goal.push_unit-requires-clause-unit
push_unit-requires-clause-unit c =
    let p = c.args.planned.now.program.now in
    let plan = c.args.planned.now.plan.now in
    let units = c.args.units.now in
    let k = c.args.planned.now.stage in
    let i = c.loop-unit.unit-index in
    let found = zip_item (UnitCarried p plan.places plan.placement.parts k) (nodes_in p plan.placement.parts k) units c.requires.units i c.unit-item.result
    (slice_get_read units (length units) i c.unit-item.result refl c.loop-unit-test.true c.unit-item.is) in
    (found.0, found.1)

pub loop-unit-preserved : goal.loop-unit-preserved
loop-unit-preserved c =
    let p = c.args.planned.now.program.now in
    let places = c.args.planned.now.plan.now.places in
    let units = c.args.units.now in
    let i = c.loop-unit.unit-index in
    let u = c.unit-item.result in
    let pushed = c.in_ok-push_unit.ensures in
    subst (DoUnits p places (take (i + 1) units)) (sym pushed.1)
    (subst (λ (us : List Unit). DoUnits p places us (c.loop-unit.code ++ pushed.0)) (sym (take_more units i u c.loop-unit-test.true))
    (units_push p places (take i units) c.loop-unit.code pushed.0 (get_or units i u) c.loop-unit.invariant
    (subst (λ (x : Unit). DoUnit p places x pushed.0) c.unit-item.is pushed.2)))
