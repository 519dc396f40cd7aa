use Rattle.std.proofs.Common.{◌≡◌, ℕ, Option}
use Rattle.rmt_config.specs.RunCells.{RunCells}
use Rattle.rmt_chip.specs.Held.{Entered}
use Rattle.rmt_chip.specs.Ring.{now, partly_next, done_before, AllHold, IsRing, LooksNow}
use Rattle.rmt_memory.specs.StageMemories.{MemoriesHold}
use Rattle.rmt_chip.proofs.ring.read_keys.Given as goal

abbrev pub invariant-loop-k : goal.invariant-loop-k
invariant-loop-k l = record {
  ring : IsRing l.config.stages l.newest l.places;
  holds : (cells : RunCells) (item : ℕ → Option Entered) → MemoriesHold l.config cells l.memories → cells.seed ≡ l.seed → LooksNow l.config cells item →
      AllHold l.config item now now now now l.newest l.initial.places →
      AllHold l.config item now now now (partly_next (done_before l.config.stages 0 l.k)) l.newest l.places;
}
