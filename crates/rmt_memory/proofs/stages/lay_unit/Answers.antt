use Rattle.std.proofs.Common.{◌≡◌, Some, sym, ap, ◌∙◌, subst}
use Rattle.rmt_memory.specs.Types.{Unit, SlotUnit}
use Rattle.rmt_config.specs.RunCells.{own_cells}
use Rattle.rmt_memory.specs.Memory.{HoldsCells}
use Rattle.rmt_memory.proofs.LayLaws.{IfOk-then}
use Rattle.rmt_memory.proofs.MemoriesLaws.{own_held, slot_same}
use Rattle.rmt_memory.proofs.stages.lay_unit.Goals as goal

pub returns-in-Slot-clause-held : goal.returns-in-Slot-clause-held
returns-in-Slot-clause-held c =
    let slot = c.in-Slot.slot in
    IfOk-then c.lay.result _ _ c.lay.ensures.holds
    (λ m held cf k place at there s is has.
    let same : slot ≡ s = slot_same slot s (sym c.in-Slot.is ∙ is) in
    subst (λ (x : SlotUnit). HoldsCells (own_cells cf) k place x m) same
    (own_held cf k place c.args.stage.now slot m at (there ∙ ap (λ (u : Unit). Some u) c.in-Slot.is) held))
