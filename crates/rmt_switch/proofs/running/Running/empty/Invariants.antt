use Rattle.std.proofs.Common.{◌≡◌, List, ◌++◌}
use Rattle.rmt_queues.specs.Calls.{Call}
use Rattle.rmt_switch.specs.Copies.{rounds}
use Rattle.rmt_switch.specs.Ports.{Holds}
use Rattle.rmt_switch.proofs.running.Running.empty.Given as goal

-- the rounds so far
abbrev pub invariant-loop-round : goal.invariant-loop-round
invariant-loop-round l = record {
  dropped : l.self.dropped ≡ l.fn.self.dropped;
  holds : (calls : List Call) → Holds l.capture calls l.fn.self.ports → Holds l.capture (calls ++ rounds 512 l._round) l.self.ports;
}
