use Rattle.std.proofs.Common.{◌≡◌, length}
use Rattle.rmt_update.specs.Moved.{with_parts}
use Rattle.rmt_update.proofs.book.moving.put_back.Given as goal

-- the parts so far are put back
abbrev pub invariant-loop-parts : goal.invariant-loop-parts
invariant-loop-parts l = record {
  at : l.at ≡ length l.yielded;
  tables : l.tables.items ≡ with_parts l.fn.tables.items l.yielded;
}
