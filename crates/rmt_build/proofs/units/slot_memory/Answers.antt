use Rattle.std.proofs.Common.{rules, ◌≡◌, ◌∙◌, ap, sym, subst}
use Rattle.std.specs.Prelude.{OnOk}
use Rattle.rmt_ast.specs.declared.program.Kind.TheVariants.{Keyless}
use Rattle.rmt_filling.specs.declared.memory.PartNeed.{PartNeed}
use Rattle.rmt_filling.specs.declared.memory.Taken.{Taken}
use Rattle.rmt_filling.specs.Memories.{HasRoom, taken_behind}
use Rattle.rmt_build.specs.Plans.{need_in}
use Rattle.rmt_build.proofs.PlanLaws.{has_room, none_taken, taken_next}
use Rattle.rmt_build.proofs.units.slot_memory.Goals as goal

pub returns-then-eq-clause-taken : goal.returns-then-eq-clause-taken
returns-then-eq-clause-taken c =
    let keyless : c.args.own.now.table.now.kind ≡ Keyless = search rules in
    c.requires.taken ∙ none_taken c.args.own.now.planned.now.program.now c.requires.planned.program c.args.own.now.node c.args.own.now.table.now c.requires.table c.args.own.now.planned.now.plan.now.placement.parts c.args.own.now.planned.now.stage keyless

pub memory_of-requires : goal.memory_of-requires
memory_of-requires c = λ keyed.
    subst (λ (n : PartNeed). HasRoom c.args.own.now.table.now.kind n c.args.taken.now) (sym c.need_of-need.ensures)
    (subst (λ (x : Taken). HasRoom c.args.own.now.table.now.kind (need_in c.args.own.now.planned.now.program.now c.args.own.now.planned.now.plan.now.placement.parts c.args.own.now.table.now c.args.own.now.node c.args.own.now.planned.now.stage) x) (sym c.requires.taken)
    (has_room c.args.own.now.planned.now.program.now c.requires.planned.program c.args.own.now.node c.args.own.now.table.now c.requires.table c.args.own.now.planned.now.plan.now.placement.parts c.args.own.now.planned.now.stage c.requires.planned.is_plan.parts keyed c.requires.planned.stage))

pub returns-clause-taken : goal.returns-clause-taken
returns-clause-taken c =
    let kind = c.args.own.now.table.now.kind in
    let same = ap (λ (n : PartNeed). taken_behind kind n c.args.taken.now) c.need_of-need.ensures
    ∙ (ap (taken_behind kind (need_in c.args.own.now.planned.now.program.now c.args.own.now.planned.now.plan.now.placement.parts c.args.own.now.table.now c.args.own.now.node c.args.own.now.planned.now.stage)) c.requires.taken
    ∙ taken_next c.args.own.now.planned.now.program.now c.requires.planned.program c.args.own.now.node c.args.own.now.table.now c.requires.table c.args.own.now.planned.now.plan.now.placement.parts c.args.own.now.planned.now.stage) in
    subst (λ (x : Taken). OnOk c.memory_of.result (c.memory_of.new.taken ≡ x)) same c.memory_of.ensures.taken
