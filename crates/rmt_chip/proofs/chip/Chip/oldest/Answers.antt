use Rattle.std.proofs.Common.{List, length, sym, ap, subst, ◌∙◌}
use Rattle.rmt_chip.specs.Types.{Config}
use Rattle.rmt_chip.specs.declared.packet_slot.PacketSlot.{PacketSlot}
use Rattle.rmt_config.specs.ChipRun.{latency_of}
use Rattle.rmt_chip.specs.Inputs.{entered_at}
use Rattle.rmt_chip.specs.Ring.{now, next, AllHold, oldest_below}
use Rattle.rmt_chip.proofs.StandsLaws.{held_now}
use Rattle.rmt_chip.proofs.chip.Chip.oldest.Goals as goal

pub returns : goal.returns
returns c = λ config inputs stands.
    let self = c.args.self.now in
    let item = entered_at config inputs (length inputs) in
    c.oldest.ensures config item (subst (λ (ps : List PacketSlot). AllHold config item now now now next self.newest ps) (sym c.deref.ensures.value) (held_now config inputs self stands))
    ∙ ap (oldest_below item) (c.from.ensures ∙ self.leaves ∙ ap (λ (k : Config). latency_of k.stages) stands.config_is)
