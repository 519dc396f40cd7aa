use Rattle.std.proofs.Common.{◌≡◌, ◌∙◌, ◌<◌, List, None, refl, ap, sym, subst, get_or, map, arith}
use Rattle.std.specs.Prelude.{◌==◌, IfSome}
use Rattle.std.proofs.lemmas.Option.{get_or_from_slice_get}
use Rattle.rmt_ast.specs.declared.entry.Entry.{Entry}
use Rattle.rmt_build.specs.Types.{Node, Guard, Memory}
use Rattle.rmt_ast.specs.declared.program.What.TheVariants.{Apply}
use Rattle.rmt_pack.specs.Placements.{quanta_in}
use Rattle.rmt_phv.specs.Places.{high_first}
use Rattle.rmt_refine.specs.Units.{HasKind, guard_of, last_stage}
use Rattle.rmt_build.specs.Plans.{need_in}
use Rattle.rmt_filling.specs.Memories.{memory_for}
use Rattle.rmt_filling.specs.Numbers.{number_at}
use Rattle.rmt_build.proofs.PlanLaws.{is_table}
use Rattle.rmt_build.proofs.UnitPartLaws.{slot_part}
use Rattle.rmt_build.proofs.EntryCellLaws.{entries_read, list_read}
use Rattle.rmt_build.proofs.UnitLaws.{guard_small, kind_of_memory, node_applies, slot_carried}
use Rattle.rmt_build.proofs.units.slot_of.Goals as goal

pub numbers_of-requires : goal.numbers_of-requires
numbers_of-requires c =
    let planned = c.args.own.now.planned.now in
    let at = list_read planned.program.now planned.entries.now c.as_slice-2.result.now c.args.own.now.node c.index-as_slice-node.result c.requires.planned.entries c.requires.node c.as_slice-2.ensures c.index-as_slice-node.is in
    entries_read planned.program.now planned.entries.now planned.plan.now c.args.own.now.table.now c.args.own.now.node planned.stage c.index-as_slice-node.result c.as_slice-list.result.now
    c.as_slice-3.result.now c.requires.planned.entries c.requires.planned.is_plan c.requires.node at c.as_slice-list.ensures (c.as_slice-3.ensures ∙ c.in_ok-stands.ensures)

pub guard_of-requires : goal.guard_of-requires
guard_of-requires c =
    let p = c.args.own.now.planned.now.program.now in
    let n = c.args.own.now.node in
    let a = node_applies p n c.args.own.now.table.now c.requires.table in
    let few = c.requires.planned.program.counts.nodes in
    let zero : Node = record { guard = None; what = Apply 0 } in
    let same : get_or c.as_slice-4.result.now n zero ≡ a.node = ap (λ xs. get_or xs n zero) c.as_slice-4.ensures ∙ get_or_from_slice_get p.nodes n a.node zero a.at in
    subst (λ (x : Node). IfSome x.guard (λ (g : Guard). g.parent < 256)) (sym same) (guard_small n a.node.guard (c.requires.planned.program.nodes n a.node a.at).guard (omega (arith, c.requires.node, few)))

pub overflow_cast-result-2 : goal.overflow_cast-result-2
overflow_cast-result-2 c =
    let few = (is_table c.args.own.now.planned.now.program.now c.requires.planned.program c.args.own.now.node c.args.own.now.table.now c.requires.table).few_actions in
    omega (arith, few, c.len.ensures)

pub returns-clause-unit : goal.returns-clause-unit
returns-clause-unit c =
    let p = c.args.own.now.planned.now.program.now in
    let plan = c.args.own.now.planned.now.plan.now in
    let parts = plan.placement.parts in
    let n = c.args.own.now.node in
    let k = c.args.own.now.planned.now.stage in
    let t = c.args.own.now.table.now in
    let a = node_applies p n t c.requires.table in
    let zero : Node = record { guard = None; what = Apply 0 } in
    let same : get_or c.as_slice-4.result.now n zero ≡ a.node = ap (λ xs. get_or xs n zero) c.as_slice-4.ensures ∙ get_or_from_slice_get p.nodes n a.node zero a.at in
    slot_carried p plan.places parts k n t _ a.node c.requires.table a.at refl
    (c.guard_of.ensures.guard ∙ ap (λ (x : Node). guard_of x.guard) same)
    (record {
      counted = refl;
      actions = c.len.ensures;
      keys = c.in_ok-keys.ensures ∙ ap (high_first plan.places) c.as_slice.ensures;
      memory = subst (λ (m : Memory). HasKind t.kind (quanta_in parts n k) m) (sym c.in_ok-memory.ensures.memory) (kind_of_memory t.kind (need_in p parts t n k) c.args.taken.now);
      last = c.stands_last.ensures ∙ ap (λ ps. k == last_stage ps n) c.as_slice-5.ensures;
    })

pub returns-clause-parts : goal.returns-clause-parts
returns-clause-parts c =
    let p = c.args.own.now.planned.now.program.now in
    let plan = c.args.own.now.planned.now.plan.now in
    let n = c.args.own.now.node in
    let t = c.args.own.now.table.now in
    let es = c.index-as_slice-node.result in
    let at = list_read p c.args.own.now.planned.now.entries.now c.as_slice-2.result.now n es c.requires.planned.entries c.requires.node c.as_slice-2.ensures c.index-as_slice-node.is in
    slot_part p c.args.own.now.planned.now.entries.now plan c.args.own.now.planned.now.stage _ t es c.requires.table at (record {
      memory = c.in_ok-memory.ensures.memory ∙ ap (memory_for t.kind (need_in p plan.placement.parts t n c.args.own.now.planned.now.stage)) c.requires.taken;
      held = c.held_bits.ensures.bits;
      numbers = c.in_ok-numbers.ensures.numbers ∙ (ap (λ (xs : List Entry). map (number_at xs) c.as_slice-3.result.now) c.as_slice-list.ensures ∙ ap (map (number_at es)) (c.as_slice-3.ensures ∙ c.in_ok-stands.ensures));
    })

pub returns-clause-small : goal.returns-clause-small
returns-clause-small c = (c.guard_of.ensures.small, c.in_ok-numbers.ensures.small)
