use Rattle.std.proofs.Common.{Vec, Global, sym, subst, arith}
use Rattle.rmt_chip.specs.declared.pending.Pending.{Pending}
use Rattle.rmt_chip.specs.Pending.{HaveRoomFor}
use Rattle.rmt_chip.proofs.PassLaws.{ring_set, write_turn, write_done}
use Rattle.rmt_chip.proofs.ring.write_words.Goals as goal

pub loop-k-preserved : goal.loop-k-preserved
loop-k-preserved c = record {
  ring = ring_set c.args.config.now.stages c.args.newest c.place_behind-at.result c.loop-k.places c.write_words.new.place
      (subst (λ (x : Vec Pending Global). HaveRoomFor c.args.config.now.stages x.items) (sym c.write_words.ensures.pending) (c.loop-k.invariant.ring.room c.place_behind-at.result c.index-places-at.result (omega (arith, c.loop-k.invariant.ring.full, c.place_behind-at.ensures.within))))
      c.loop-k.invariant.ring;
  holds = λ item held.
      write_turn c.args.config.now item c.args.newest c.loop-k.k c.loop-k.places c.requires.fits c.loop-k.invariant.ring c.place_behind-at.result c.index-places-at.result c.write_words.new.place
      (omega arith) c.place_behind-at.ensures.place c.write_words.ensures (c.loop-k.invariant.holds item held);
}

pub returns-clause-holds : goal.returns-clause-holds
returns-clause-holds c = λ item held.
    write_done c.args.config.now item c.args.newest c.loop-k.k c.loop-k.places c.requires.fits c.loop-k.invariant.ring (omega arith) (c.loop-k.invariant.holds item held)
