use Rattle.std.proofs.Common.{◌≡◌, take}
use Rattle.std.specs.List.{flat_map}
use Rattle.rmt_book.specs.Seen.{entries_in}
use Rattle.rmt_update.proofs.book.seen.entries_of.Given as goal

-- the entries of the parts so far
abbrev pub invariant-loop-part : goal.invariant-loop-part
invariant-loop-part l = l.entries.items ≡ flat_map (entries_in l.odd l.table.name) (take l.part-index l.table.parts.items)
