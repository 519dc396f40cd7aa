use Rattle.std.proofs.Common.{All, sym, subst, arith}
use Rattle.std.proofs.lemmas.List.Elements.{All-push}
use Rattle.rmt_chip.specs.declared.packet_slot.PacketSlot.{PacketSlot}
use Rattle.rmt_chip.specs.Held.{IsFree}
use Rattle.rmt_chip.specs.Pending.{HaveRoomFor}
use Rattle.rmt_chip.proofs.open.all_places.Goals as goal

pub loop-at-preserved : goal.loop-at-preserved
loop-at-preserved c =
    let was = c.loop-at.invariant.count in
    let len = c.in_ok-push.ensures.len in
    let x = c.in_ok-empty_place.field-0 in
    let room = λ (p : PacketSlot). HaveRoomFor c.args.stages.now p.pending.items in
    record {
      count = omega arith;
      free = subst (All IsFree) (sym c.in_ok-push.ensures.items) (All-push IsFree c.loop-at.places.items x c.loop-at.invariant.free c.in_ok-empty_place.ensures.free);
      room = subst (All room) (sym c.in_ok-push.ensures.items) (All-push room c.loop-at.places.items x c.loop-at.invariant.room c.in_ok-empty_place.ensures.room);
    }
