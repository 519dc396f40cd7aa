-- Which cells a map tells of: those that the slots of a configuration list.
use Rattle.std.specs.Prelude.{ℕ, ◌+◌, List, [], ◌∷◌, ◌++◌, ◌==◌, if◌then◌else◌, map}
use Rattle.std.specs.List.{flat_map, range_with_len}
use Rattle.rmt_build.specs.Types.{Stage, Unit, CellNumber}
use Rattle.rmt_config.specs.declared.config.Unit.TheVariants.{Gate, Slot}
use Rattle.rmt_refine.specs.declared.map.CellOf.{CellOf}

-- a cell of stage k that is listed with the number of its entry
abbrev pub cell_told : ℕ → CellNumber → CellOf
cell_told k x = record { entry = x.number; stage = k; cell = x.cell }

-- those of node n in a unit of stage k
abbrev pub unit_told : ℕ → ℕ → Unit → List CellOf
unit_told n k (Gate g) = []
unit_told n k (Slot s) = if s.node == n then map (cell_told k) s.numbers else []

-- those in stages, of which the first has number k
abbrev pub stages_told : ℕ → ℕ → List Stage → List CellOf
stages_told n k [] = []
stages_told n k (stage ∷ stages) = flat_map (unit_told n k) stage.units ++ stages_told n (k + 1) stages

-- those of so many nodes, by node, stage and cell
abbrev pub cells_told : ℕ → List Stage → List CellOf
cells_told nodes stages = flat_map (λ n. stages_told n 0 stages) (range_with_len 0 nodes)
