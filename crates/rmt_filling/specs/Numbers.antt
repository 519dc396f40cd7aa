-- The numbers of the entries that stand in cells.
use Rattle.std.specs.Prelude.{List, option_map, unwrap_or, slice_get}
use Rattle.rmt_ast.specs.declared.entry.Entry.{Entry}
use Rattle.rmt_filling.specs.Types.{CellNumber}
use Rattle.rmt_filling.specs.declared.stands.Stand.{Stand}

-- the cell and the number of an entry that stands
abbrev pub number_at : List Entry → Stand → CellNumber
number_at es s = record { cell = s.cell; number = unwrap_or (option_map (λ (e : Entry). e.number) (slice_get es s.entry)) 0 }
