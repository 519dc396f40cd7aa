-- Laws of what ports send, for every list of calls.
use Rattle.std.specs.Prelude.{◌≡◌, ℕ, ◌<◌, List, ◌++◌}
use Rattle.rmt_queues.specs.Lists.{empty}
use Rattle.rmt_queues.specs.Calls.{Call, given, queued}
use Rattle.rmt_switch.specs.Copies.{rounds}

-- behind any calls, as many rounds as a queue may have items leave nothing: a port gave all copies that were queued for it, in the order of the offers
abbrev pub EverythingIsSent : Type 0
EverythingIsSent =
    (cells ports depth : ℕ) (calls : List Call) (port : ℕ) → port < ports
    → given (empty cells ports depth) (calls ++ rounds ports depth) port ≡ queued (empty cells ports depth) (calls ++ rounds ports depth) port
