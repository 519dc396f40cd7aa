-- The parts of a table and their listed cells, as they are gone over.
use Rattle.std.specs.Prelude.{ℕ, List, map}
use Rattle.std.specs.List.{flat_map}
use Rattle.rmt_config.specs.Types.{CellNumber}
use Rattle.rmt_config.specs.declared.form.names.part_list.Part.{Part}
use Rattle.rmt_config.specs.Rooms.{PartAt}

abbrev pub part_at : Part → PartAt
part_at p = record { stage = p.at; place = p.place; first = p.first; slot = p.slot.now }

abbrev pub parts_at : List Part → List PartAt
parts_at parts = map part_at parts

-- the numbers of the entries of parts, by part and cell
abbrev pub listed_numbers : List PartAt → List ℕ
listed_numbers parts = flat_map (λ (part : PartAt). map (λ (n : CellNumber). n.number) part.slot.numbers) parts
