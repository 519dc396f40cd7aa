use Rattle.std.proofs.Common.{◌≡◌, drop, ltb}
use Rattle.std.specs.List.{list_all}
use Rattle.rmt_config.specs.Layouts.{listed_cells}
use Rattle.rmt_config.proofs.form.cells.cells_fit.Given as goal

abbrev pub invariant-loop-number : goal.invariant-loop-number
invariant-loop-number l =
    list_all (λ n. ltb n l.count) (listed_cells (drop l.number-index l.numbers)) ≡ list_all (λ n. ltb n l.count) (listed_cells l.numbers)
