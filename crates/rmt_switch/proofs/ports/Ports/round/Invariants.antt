use Rattle.std.proofs.Common.{List, ◌++◌}
use Rattle.rmt_queues.specs.Calls.{Call}
use Rattle.rmt_switch.specs.Copies.{round}
use Rattle.rmt_switch.specs.Ports.{Holds}
use Rattle.rmt_switch.proofs.ports.Ports.round.Given as goal

-- the ports so far took
abbrev pub invariant-loop-port : goal.invariant-loop-port
invariant-loop-port l = (calls : List Call) → Holds l.capture calls l.fn.self → Holds l.capture (calls ++ round l.port) l.self
