use Rattle.std.proofs.Common.{List, length, sym, subst}
use Rattle.std.specs.Prelude.{All, AllPairs, sum_by, ◌≤◌}
use Rattle.rmt_build.specs.Types.{Stage, Unit}
use Rattle.rmt_config.specs.Instructions.{unit_instructions}
use Rattle.rmt_filling.specs.Holding.{Held}
use Rattle.rmt_build.specs.UnitCode.{DoUnits}
use Rattle.rmt_build.specs.Written.{UnitFits, UnitsApart, UnitsWritten}
use Rattle.rmt_build.proofs.BuiltLaws.{few_code, stage_built, units_apart, units_fit}
use Rattle.rmt_build.proofs.joined.stage_of.Goals as goal

pub rows_of-requires-clause-units : goal.rows_of-requires-clause-units
rows_of-requires-clause-units c =
    subst (All (UnitFits c.args.planned.now.program.now c.args.planned.now.entries.now c.args.planned.now.plan.now c.args.planned.now.stage)) (sym c.as_slice-2.ensures)
    (units_fit c.args.planned.now.program.now c.args.planned.now.entries.now c.args.planned.now.plan.now c.args.planned.now.stage c.requires.planned.program c.requires.planned.entries c.requires.planned.is_plan c.requires.planned.stage c.in_ok-units.units
    c.in_ok-units.ensures.units c.in_ok-units.ensures.parts)

pub rows_of-requires-clause-apart : goal.rows_of-requires-clause-apart
rows_of-requires-clause-apart c =
    subst (AllPairs UnitsApart) (sym c.as_slice-2.ensures)
    (units_apart c.args.planned.now.program.now c.args.planned.now.entries.now c.args.planned.now.plan.now c.args.planned.now.stage c.requires.planned.program c.requires.planned.entries c.requires.planned.is_plan c.requires.planned.stage c.in_ok-units.units
    c.in_ok-units.ensures.units c.in_ok-units.ensures.parts)

pub rows_of-requires-clause-few : goal.rows_of-requires-clause-few
rows_of-requires-clause-few c =
    subst (λ (us : List Unit). sum_by unit_instructions us ≤ 32) (sym c.as_slice-2.ensures)
    (few_code c.args.planned.now.program.now c.args.planned.now.entries.now c.args.planned.now.plan.now c.args.planned.now.stage c.requires.planned.program c.requires.planned.entries c.requires.planned.is_plan c.requires.planned.stage c.in_ok-units.units
    c.in_ok-units.ensures.units c.in_ok-units.ensures.parts c.requires.limits)

pub returns-clause-stage : goal.returns-clause-stage
returns-clause-stage c =
    let p = c.args.planned.now.program.now in
    let lists = c.args.planned.now.entries.now in
    let plan = c.args.planned.now.plan.now in
    let k = c.args.planned.now.stage in
    let rows = c.in_ok-rows.ensures in
    let h : Held = rows.0 in
    let stage : Stage = record { start = c.args.start; units = c.in_ok-units.units; code = c.in_ok-code.code; srows = c.in_ok-rows.rows.srows; trows = c.in_ok-rows.rows.trows } in
    let written = subst (λ (us : List Unit). UnitsWritten p lists plan k us (length us) h) c.as_slice-2.ensures rows.1 in
    let code = subst (λ (us : List Unit). DoUnits p plan.places us c.in_ok-code.code) c.as_slice.ensures c.in_ok-code.ensures in
    stage_built p lists plan k c.requires.planned.program c.requires.planned.entries c.requires.planned.is_plan c.requires.planned.stage stage c.in_ok-units.ensures.units c.in_ok-units.ensures.parts h written
    rows.2 rows.3 c.requires.start code c.in_ok-units.ensures.small
