use Rattle.std.proofs.Common.{◌≡◌, ℕ, Option}
use Rattle.rmt_chip.specs.Held.{Entered}
use Rattle.rmt_chip.specs.Hits.{hits_upto}
use Rattle.rmt_chip.specs.Ran.{CountsAlso}
use Rattle.rmt_chip.specs.Ring.{now, past, partly, done_before, AllHold, IsRing}
use Rattle.rmt_chip.proofs.ring.set_outcomes.Given as goal

abbrev pub invariant-loop-k : goal.invariant-loop-k
invariant-loop-k l = record {
  ring : IsRing l.config.stages l.newest l.places;
  spare : l.counters.room ≡ l.initial.counters.room;
  holds : (item : ℕ → Option Entered) →
      AllHold l.config item now now past now l.newest l.initial.places →
      AllHold l.config item now now (partly (done_before l.config.stages 8 l.k)) now l.newest l.places
      × CountsAlso l.initial.counters.counts l.counters.counts (hits_upto l.config item l.k);
}
