use Rattle.std.proofs.Common.{◌≡◌, ℕ, List, length, Some, get_or, subst, ◌∙◌, arith}
use Rattle.std.specs.Prelude.{slice_get}
use Rattle.rmt_chip.specs.Types.{Stage}
use Rattle.rmt_chip.specs.Held.{DecidedBy}
use Rattle.rmt_chip.specs.Hits.{CountedBy, hits_upto}
use Rattle.rmt_chip.specs.Pending.{HaveRoomFor}
use Rattle.rmt_chip.specs.Ran.{CountsAlso}
use Rattle.rmt_chip.proofs.PassLaws.{ring_set, act_turn, act_done, count_turn}
use Rattle.rmt_chip.proofs.ring.set_outcomes.Goals as goal

pub loop-k-preserved : goal.loop-k-preserved
loop-k-preserved c =
    let config = c.args.config.now in
    let k = c.loop-k.k in
    let old = get_or c.loop-k.places c.place_behind-at.result c.index-places-at.result in
    let decided = subst (λ (ss : List Stage). (s : Stage) → slice_get ss k ≡ Some s → DecidedBy k s old c.set_outcomes.new.place) c.as_slice-stages.ensures c.set_outcomes.ensures.decided in
    let counted = subst (λ (ss : List Stage). (s : Stage) → slice_get ss k ≡ Some s → CountedBy k s old c.loop-k.counters.counts c.set_outcomes.new.counters.counts) c.as_slice-stages.ensures c.set_outcomes.ensures.counted in
    record {
      ring = ring_set config.stages c.args.newest c.place_behind-at.result c.loop-k.places c.set_outcomes.new.place
          (subst (λ (ss : List Stage). HaveRoomFor ss c.set_outcomes.new.place.pending.items) c.as_slice-stages.ensures c.set_outcomes.ensures.room) c.loop-k.invariant.ring;
      spare = c.set_outcomes.ensures.spare ∙ c.loop-k.invariant.spare;
      holds = λ item held.
          let was = c.loop-k.invariant.holds item held in (
            act_turn config item c.args.newest k c.loop-k.places c.requires.fits c.loop-k.invariant.ring c.place_behind-at.result c.index-places-at.result c.set_outcomes.new.place (omega arith) c.place_behind-at.ensures.place decided was.0,
            count_turn config item c.args.newest k c.loop-k.places c.requires.fits c.loop-k.invariant.ring c.place_behind-at.result c.index-places-at.result c.args.counters.now.counts c.loop-k.counters.counts c.set_outcomes.new.counters.counts
                (omega arith) c.place_behind-at.ensures.place counted was.0 was.1,
          );
    }

pub returns-clause-holds : goal.returns-clause-holds
returns-clause-holds c = λ item held.
    let was = c.loop-k.invariant.holds item held in
    let all : c.loop-k.k ≡ length c.args.config.now.stages = omega arith in (
      act_done c.args.config.now item c.args.newest c.loop-k.k c.loop-k.places c.requires.fits c.loop-k.invariant.ring all was.0,
      subst (λ (n : ℕ). CountsAlso c.args.counters.now.counts c.loop-k.counters.counts (hits_upto c.args.config.now item n)) all was.1,
    )
