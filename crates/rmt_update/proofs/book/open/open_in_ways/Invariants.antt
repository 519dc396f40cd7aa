use Rattle.std.proofs.Common.{◌≡◌, ◌-◌}
use Rattle.std.specs.Prelude.{find}
use Rattle.std.specs.List.{flat_map, range_with_len}
use Rattle.rmt_update.specs.Open.{is_open}
use Rattle.rmt_book.specs.PartShape.{row_cells}
use Rattle.rmt_update.proofs.book.open.open_in_ways.Given as goal

-- none of the rows so far has a free cell
abbrev pub invariant-loop-way : goal.invariant-loop-way
invariant-loop-way l =
    find (is_open l.look.odd l.look.part.now l.look.given.now) (flat_map (row_cells l.look.seed l.look.key.now l.ways.first l.ways.rows l.ways.per) (range_with_len l.way (4 - l.way)))
    ≡ find (is_open l.look.odd l.look.part.now l.look.given.now) (flat_map (row_cells l.look.seed l.look.key.now l.ways.first l.ways.rows l.ways.per) (range_with_len 0 4))
