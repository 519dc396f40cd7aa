-- The memory formats of the nodes of a program.
use Rattle.std.specs.Prelude.{ℕ, List, map, slice_index_or}
use Rattle.rmt_filling.specs.Types.{Program, Node}
use Rattle.rmt_pack.specs.declared.format.Format.{Format}
use Rattle.rmt_pack.specs.Formats.{no_memory}
use Rattle.rmt_pack.specs.Placements.{what_format}

-- those of all nodes
abbrev pub formats_of : Program → List Format
formats_of p = map (λ (node : Node). what_format p node.what) p.nodes

abbrev pub format_at : Program → ℕ → Format
format_at p n = slice_index_or (formats_of p) n no_memory
