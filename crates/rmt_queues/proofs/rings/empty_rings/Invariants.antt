use Rattle.std.proofs.Common.{◌≡◌, ℕ, ◌<◌, [], length}
use Rattle.rmt_queues.specs.Rings.{AreRoomy, ring_of}
use Rattle.rmt_queues.proofs.rings.empty_rings.Given as goal

abbrev pub invariant-loop-port : goal.invariant-loop-port
invariant-loop-port l = record {
  many : length l.rings.items ≡ l._port;
  empty : (port : ℕ) → port < l._port → ring_of l.rings.items port ≡ [];
  roomy : AreRoomy l.depth l.rings.items;
}
