use Rattle.std.proofs.Common.{◌≡◌, ◌-◌}
use Rattle.std.specs.Prelude.{find}
use Rattle.std.specs.List.{range_with_len}
use Rattle.rmt_update.specs.Open.{is_open}
use Rattle.rmt_update.proofs.book.open.first_open.Given as goal

-- none of the cells so far is free
abbrev pub invariant-loop-cell : goal.invariant-loop-cell
invariant-loop-cell l = find (is_open l.look.odd l.look.part.now l.look.given.now) (range_with_len l.cell (l.end - l.cell)) ≡ find (is_open l.look.odd l.look.part.now l.look.given.now) (range_with_len l.first l.count)
