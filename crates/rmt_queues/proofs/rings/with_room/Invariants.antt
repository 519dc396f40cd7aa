use Rattle.std.proofs.Common.{◌≡◌, ◌≤◌, length, take}
use Rattle.std.specs.Prelude.{nat_lt}
use Rattle.std.specs.List.{count_by}
use Rattle.rmt_queues.specs.Rings.{ring_of}
use Rattle.rmt_queues.proofs.rings.with_room.Given as goal

-- the ports so far that have room are counted
abbrev pub invariant-loop-port : goal.invariant-loop-port
invariant-loop-port l = record {
  counted : l.count ≡ count_by (λ port. nat_lt (length (ring_of l.rings port)) l.depth) (take l.port-index l.ports);
  few : l.count ≤ l.port-index;
}
