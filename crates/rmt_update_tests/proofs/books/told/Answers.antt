use Rattle.rmt_bits.proofs.OptionLaws.{IsSome-value}
use Rattle.rmt_config.specs.NamesForm.{entries_spelled}
use Rattle.rmt_config.specs.RunCells.{own_cells}
use Rattle.rmt_update_tests.proofs.books.told.Goals as goal

-- the book stands for the cells and the entries of its configuration
pub entries-requires : goal.entries-requires
entries-requires c =
    let config = c.in_ok-config.config in
    let named = IsSome-value config.names c.in_ok-config.ensures.named in
    (config, own_cells config, entries_spelled config named.0, c.in-Ok.ensures.stands named.0 named.1)
