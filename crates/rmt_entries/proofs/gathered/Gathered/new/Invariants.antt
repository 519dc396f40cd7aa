use Rattle.std.proofs.Common.{◌≡◌, []}
use Rattle.rmt_entries.specs.Entries.{by_node}
use Rattle.rmt_entries.proofs.gathered.Gathered.new.Given as goal

-- an empty list for each node so far
abbrev pub invariant-loop : goal.invariant-loop
invariant-loop l = l.lists.items ≡ by_node l.counter []
