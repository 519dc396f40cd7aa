use Rattle.std.proofs.Common.{◌≡◌, All, vec_len}
use Rattle.rmt_chip.specs.declared.packet_slot.PacketSlot.{PacketSlot}
use Rattle.rmt_chip.specs.Held.{IsFree}
use Rattle.rmt_chip.specs.Pending.{HaveRoomFor}
use Rattle.rmt_chip.proofs.open.all_places.Given as goal

abbrev pub invariant-loop-at : goal.invariant-loop-at
invariant-loop-at l = record {
  count : vec_len l.places ≡ l._at;
  free : All IsFree l.places.items;
  room : All (λ (p : PacketSlot). HaveRoomFor l.stages p.pending.items) l.places.items;
}
