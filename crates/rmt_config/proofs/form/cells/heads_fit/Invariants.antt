use Rattle.std.proofs.Common.{◌≡◌, drop}
use Rattle.rmt_config.specs.Cells.{sram_row}
use Rattle.rmt_config.specs.Layouts.{listed_cells, heads_hold}
use Rattle.rmt_config.proofs.form.cells.heads_fit.Given as goal

abbrev pub invariant-loop-number : goal.invariant-loop-number
invariant-loop-number l =
    let hold = heads_hold l.entries.layout (sram_row l.entries.rows.now) l.entries.blocks.now l.rule.visible l.rule.first l.rule.actions in
    hold (listed_cells (drop l.number-index l.numbers)) ≡ hold (listed_cells l.numbers)
