use Rattle.std.proofs.Common.{◌*◌, ◌≤◌, drop}
use Rattle.std.specs.Prelude.{◌↔◌, All}
use Rattle.rmt_config.specs.CellForm.{SlotHolds, Coded, coded_from}
use Rattle.rmt_config.proofs.form.memory.slots_hold.Given as goal

abbrev pub invariant-loop-unit : goal.invariant-loop-unit
invariant-loop-unit l = record {
  few : l.first ≤ 15 * l.unit-index;
  so_far : All (λ (c : Coded). SlotHolds l.visible l.stage c.first c.slot) (coded_from 0 l.units)
      ↔ All (λ (c : Coded). SlotHolds l.visible l.stage c.first c.slot) (coded_from l.first (drop l.unit-index l.units));
}
