use Rattle.std.proofs.Common.{◌≡◌, ◌++◌, map}
use Rattle.std.specs.Borrow.{Bor}
use Rattle.std.specs.Prelude.{filter}
use Rattle.rmt_book.specs.declared.kept.Kept.{Kept}
use Rattle.rmt_book.specs.Seen.{is_seen}
use Rattle.rmt_book.specs.Told.{told_entry}
use Rattle.rmt_update.proofs.book.seen.put_entries.Given as goal

-- the entries so far stand behind those that did
abbrev pub invariant-loop-kept : goal.invariant-loop-kept
invariant-loop-kept l = l.entries.items ≡ l.fn.entries.items ++ map (told_entry l.table l.part.first) (filter (is_seen l.odd) (map (λ (k : Bor Kept). k.now) l.yielded))
