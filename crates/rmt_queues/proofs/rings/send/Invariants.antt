use Rattle.std.proofs.Common.{◌≡◌, ℕ, ◌<◌, length, take}
use Rattle.rmt_queues.specs.Copies.{with_copy}
use Rattle.rmt_queues.specs.Rings.{AreRoomy, ring_of}
use Rattle.rmt_queues.proofs.rings.send.Given as goal

-- the ports so far have their copies
abbrev pub invariant-loop-port : goal.invariant-loop-port
invariant-loop-port l = record {
  many : length l.rings.items ≡ length l.fn.rings.items;
  roomy : AreRoomy l.depth l.rings.items;
  copies : (port : ℕ) → port < length l.fn.rings.items → ring_of l.rings.items port ≡ with_copy l.depth (take l.port-index l.ports) l.number port (ring_of l.fn.rings.items port);
}
