use Rattle.std.proofs.Common.{◌≡◌, List, Some, get_or, subst, arith}
use Rattle.std.specs.Prelude.{slice_get}
use Rattle.rmt_chip.specs.Types.{Stage}
use Rattle.rmt_chip.specs.Held.{ReadBy}
use Rattle.rmt_chip.specs.Pending.{HaveRoomFor}
use Rattle.rmt_chip.proofs.PassLaws.{ring_set, read_turn, read_done}
use Rattle.rmt_chip.proofs.ring.read_operands.Goals as goal

pub loop-k-preserved : goal.loop-k-preserved
loop-k-preserved c =
    let old = get_or c.loop-k.places c.place_behind-at.result c.index-places-at.result in
    record {
      ring = ring_set c.args.config.now.stages c.args.newest c.place_behind-at.result c.loop-k.places c.read_operands.new.place
          (subst (λ (ss : List Stage). HaveRoomFor ss c.read_operands.new.place.pending.items) c.as_slice-stages.ensures c.read_operands.ensures.room) c.loop-k.invariant.ring;
      holds = λ item held.
          read_turn c.args.config.now item c.args.newest c.loop-k.k c.loop-k.places c.requires.fits c.loop-k.invariant.ring c.place_behind-at.result c.index-places-at.result c.read_operands.new.place (omega arith) c.place_behind-at.ensures.place
          (subst (λ (ss : List Stage). (s : Stage) → slice_get ss c.loop-k.k ≡ Some s → ReadBy c.loop-k.k s old c.read_operands.new.place) c.as_slice-stages.ensures c.read_operands.ensures.read) (c.loop-k.invariant.holds item held);
    }

pub returns-clause-holds : goal.returns-clause-holds
returns-clause-holds c = λ item held.
    read_done c.args.config.now item c.args.newest c.loop-k.k c.loop-k.places c.requires.fits c.loop-k.invariant.ring (omega arith) (c.loop-k.invariant.holds item held)
