use Rattle.std.proofs.Common.{refl}
use Rattle.rmt_config.specs.declared.config.Unit.TheVariants.{Gate, Slot}
use Rattle.rmt_config.proofs.TableLaws.{gate-tells, slot-tells, unguarded-tells}
use Rattle.rmt_config.proofs.form.tables.Nodes.unit_stands.Goals as goal

pub returns-then-guard_stands-clause-value : goal.returns-then-guard_stands-clause-value
returns-then-guard_stands-clause-value c =
    gate-tells c.args.self.now c.args.stage c.in-Gate.gate _ c.guard_stands.result c.is_alone.result c.in-Gate.is (λ before behind k. c.guard_stands.ensures.value before behind _ k refl)
    c.if-guard_stands.true c.is_alone.ensures.byte c.is_alone.ensures.value

pub returns-else-guard_stands-clause-value : goal.returns-else-guard_stands-clause-value
returns-else-guard_stands-clause-value c =
    unguarded-tells c.args.self.now c.args.stage (Gate c.in-Gate.gate) _ c.guard_stands.result c.in-Gate.is (λ before behind k. c.guard_stands.ensures.value before behind _ k refl) c.if-guard_stands.false

pub returns-then-guard_stands-2-clause-value : goal.returns-then-guard_stands-2-clause-value
returns-then-guard_stands-2-clause-value c =
    slot-tells c.args.self.now c.args.stage c.in-Slot.slot _ c.guard_stands-in-Slot.result c.part_stands.result c.in-Slot.is (λ before behind k. c.guard_stands-in-Slot.ensures.value before behind _ k refl)
    c.if-guard_stands-2.true c.part_stands.ensures.byte c.part_stands.ensures.value

pub returns-else-guard_stands-2-clause-value : goal.returns-else-guard_stands-2-clause-value
returns-else-guard_stands-2-clause-value c =
    unguarded-tells c.args.self.now c.args.stage (Slot c.in-Slot.slot) _ c.guard_stands-in-Slot.result c.in-Slot.is (λ before behind k. c.guard_stands-in-Slot.ensures.value before behind _ k refl) c.if-guard_stands-2.false
