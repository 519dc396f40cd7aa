-- The slots of a formed configuration, stage by stage: their memory can be laid out, and its own look-ups look into them.
use Rattle.std.proofs.Common.{◌≡◌, get_or, subst}
use Rattle.std.specs.Prelude.{All}
use Rattle.std.proofs.lemmas.Option.{get_or_from_slice_get}
use Rattle.rmt_memory.specs.Types.{Config, Stage, Unit as ChipUnit}
use Rattle.rmt_config.specs.declared.config.Unit.TheVariants.{Slot}
use Rattle.rmt_config.specs.Form.{Formed}
use Rattle.rmt_memory.specs.Memories.{UnitFormed}
use Rattle.rmt_memory.specs.StageMemories.{AllSlotsFormed}
use Rattle.rmt_memory.proofs.FormedSlots.{formed-slots}
use Rattle.rmt_memory.proofs.StageMemoriesLaws.{place_below}

pub slots_formed : (c : Config) → Formed c → AllSlotsFormed c.stages
slots_formed c formed k stage at i s is =
    let here : get_or c.stages k stage ≡ stage = get_or_from_slice_get c.stages k stage stage at in
    let all = formed-slots c formed k stage (place_below c.stages k stage at) in
    let units = subst (λ (t : Stage). All (UnitFormed t) t.units) here all in
    subst (λ (u : ChipUnit). UnitFormed stage u) (get_or_from_slice_get stage.units i (Slot s) (Slot s) is) (units i (Slot s) (place_below stage.units i (Slot s) is))
