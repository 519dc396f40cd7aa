use Rattle.std.specs.List.{AllZip}
use Rattle.rmt_book.specs.Listed.{IsTable}
use Rattle.rmt_update.proofs.book.tables_of.Given as goal

-- the tables so far
abbrev pub invariant-loop-name : goal.invariant-loop-name
invariant-loop-name l = AllZip (IsTable l.config) l.yielded l.tables.items
