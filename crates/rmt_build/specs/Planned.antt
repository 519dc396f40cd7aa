-- Which cells a map tells of by a plan: those in which entries are to stand.
use Rattle.std.specs.Prelude.{ℕ, List, [], length, map, option_map, slice_index_or, unwrap_or}
use Rattle.std.specs.List.{flat_map, range_with_len}
use Rattle.rmt_ast.specs.declared.entry.Entry.{Entry}
use Rattle.rmt_refine.specs.declared.map.CellOf.{CellOf}
use Rattle.rmt_refine.specs.Units.{table_at}
use Rattle.rmt_build.specs.Types.{Program, Table}
use Rattle.rmt_filling.specs.declared.plan.Plan.{Plan}
use Rattle.rmt_filling.specs.Numbers.{number_at}
use Rattle.rmt_build.specs.Plans.{stands_of_part}
use Rattle.rmt_build.specs.Told.{cell_told}

-- those of the part of the table of node n in stage k, each with the number of its entry
abbrev pub part_planned : Program → List (List Entry) → Plan → Table → ℕ → ℕ → List CellOf
part_planned p lists plan t n k = map (cell_told k) (map (number_at (slice_index_or lists n [])) (stands_of_part p plan t n k))

-- those of node n, stage by stage; a gate has none
abbrev pub node_planned : Program → List (List Entry) → Plan → ℕ → List CellOf
node_planned p lists plan n =
    unwrap_or (option_map (λ (t : Table). flat_map (part_planned p lists plan t n) (range_with_len 0 (length plan.starts))) (table_at p n)) []

-- those of all nodes, by node, stage and cell
abbrev pub cells_planned : Program → List (List Entry) → Plan → List CellOf
cells_planned p lists plan = flat_map (node_planned p lists plan) (range_with_len 0 (length p.nodes))
