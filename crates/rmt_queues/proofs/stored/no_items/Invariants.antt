use Rattle.std.proofs.Common.{◌≡◌}
use Rattle.std.specs.Prelude.{replicate}
use Rattle.rmt_queues.specs.Stored.{no_item}
use Rattle.rmt_queues.proofs.stored.no_items.Given as goal

abbrev pub invariant-loop-index : goal.invariant-loop-index
invariant-loop-index l = l.stored.items ≡ replicate l._index no_item
