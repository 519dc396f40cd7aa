-- A book's tables with other parts.
use Rattle.std.specs.Prelude.{List, [], ◌∷◌, Vec}
use Rattle.std.specs.Global.{Global}
use Rattle.rmt_book.specs.declared.table.PartCells.{PartCells}
use Rattle.rmt_book.specs.declared.table.TableCells.{TableCells}

-- the tables, the first so many of which have these parts
abbrev pub with_parts : List TableCells → List (Vec PartCells Global) → List TableCells
with_parts [] moved = []
with_parts (t ∷ ts) [] = t ∷ ts
with_parts (t ∷ ts) (v ∷ vs) = record { name = t.name; parts = v } ∷ with_parts ts vs
