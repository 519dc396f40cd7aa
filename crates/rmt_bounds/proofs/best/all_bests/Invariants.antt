use Rattle.std.proofs.Common.{◌≡◌, length}
use Rattle.rmt_bounds.specs.Bounds.{bests}
use Rattle.rmt_bounds.specs.Fits.{AreSmall}
use Rattle.rmt_bounds.proofs.best.all_bests.Given as goal

abbrev pub invariant-loop-node : goal.invariant-loop-node
invariant-loop-node l = record {
  value : l.bests ≡ bests l.program l.edges l._node;
  length : length l.bests ≡ l._node;
  small : AreSmall l.bests;
}
