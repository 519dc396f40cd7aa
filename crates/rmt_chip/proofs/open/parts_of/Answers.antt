use Rattle.std.proofs.Common.{List, All, sym, subst}
use Rattle.rmt_chip.specs.Types.{Stage}
use Rattle.rmt_chip.specs.declared.packet_slot.PacketSlot.{PacketSlot}
use Rattle.rmt_chip.specs.Pending.{HaveRoomFor}
use Rattle.rmt_memory.specs.StageMemories.{AllSlotsFormed, MemoriesOf}
use Rattle.rmt_chip.proofs.open.parts_of.Goals as goal

pub lay_all-requires : goal.lay_all-requires
lay_all-requires c = subst AllSlotsFormed (sym c.as_slice-stages.ensures) c.requires.formed

pub returns : goal.returns
returns c = record {
  counters = c.in_ok-counters.ensures;
  frames = c.in_ok-frames.ensures;
  fit = subst (λ (ss : List Stage). MemoriesOf ss c.in_ok-memories.memories.items) c.as_slice-stages.ensures c.in_ok-memories.ensures.fit;
  hold = c.in_ok-memories.ensures.hold c.args.config.now (sym c.as_slice-stages.ensures);
  full = c.in_ok-places.ensures.full;
  free = c.in_ok-places.ensures.free;
  room = subst (λ (ss : List Stage). All (λ (p : PacketSlot). HaveRoomFor ss p.pending.items) c.in_ok-places.places.items) c.as_slice-stages.ensures c.in_ok-places.ensures.room;
}
