use Rattle.std.proofs.Common.{◌≡◌, ℕ, ◌<◌, ◌/◌, ◌%◌, get_or}
use Rattle.std.specs.Prelude.{All}
use Rattle.rmt_config.specs.Layouts.{listed_cells, RowTold}
use Rattle.rmt_config.proofs.form.set_bits.blocks_are_told.Given as goal

abbrev pub invariant-loop-block : goal.invariant-loop-block
invariant-loop-block g l = record {
  same : l.at ≡ l.block-index;
  told : (j : ℕ) → j < l.at → All (λ x. g.R.Numbered.place_of x / l.layout.rows ≡ get_or l.blocks j 0
      → RowTold l.layout (listed_cells l.numbers) (j / l.layout.side) (j % l.layout.side) (g.R.Numbered.place_of x % l.layout.rows) (g.R.MemoryRow.bits_of x)) l.rows;
}
