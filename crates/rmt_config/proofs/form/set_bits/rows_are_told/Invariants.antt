use Rattle.std.proofs.Common.{◌%◌, take}
use Rattle.std.specs.Prelude.{All}
use Rattle.rmt_config.specs.Layouts.{listed_cells, RowTold}
use Rattle.rmt_config.proofs.form.set_bits.rows_are_told.Given as goal

abbrev pub invariant-loop-row : goal.invariant-loop-row
invariant-loop-row g l =
    All (λ x. RowTold l.listed.layout (listed_cells l.listed.numbers.now) l.unit l.place (g.R.Numbered.place_of x % l.listed.layout.rows) (g.R.MemoryRow.bits_of x)) (take l.row-index l.rows)
