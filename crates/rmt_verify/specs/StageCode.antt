-- The instructions of a stage, unit by unit.
use Rattle.std.specs.Prelude.{ℕ, List, ⊤, IfSome}
use Rattle.rmt_bits.specs.declared.lane.Lane.{Lane}
use Rattle.rmt_ast.specs.WellFormed.{AllNumbered, IsProgram}
use Rattle.rmt_config.specs.declared.config.Unit.TheVariants.{Gate, Slot}
use Rattle.rmt_config.specs.Instructions.{first_code}
use Rattle.rmt_phv.specs.Places.{KeepsApart}
use Rattle.rmt_refine.specs.Types.{Program, Stage, Table, Unit}
use Rattle.rmt_refine.specs.Units.{table_at}
use Rattle.rmt_vliw.specs.Coded.{TableCoded}
use Rattle.rmt_vliw.specs.declared.folded.Folded.{Folded}
pub use Rattle.rmt_vliw.specs.Folding.{AreFoldings, IsFolding}

-- a program, what its actions fold to, and places of its fields that keep them apart
pub record CodingKnown (p : Program) (own : List Folded) (lanes : List (List Lane)) : Type 0 where
  pub program : IsProgram p
  pub folded : AreFoldings p own
  pub places : KeepsApart p lanes

-- a unit whose first instruction has that number: where it is of a table, it has that table's instructions
abbrev pub UnitCoded : Program → List (List Lane) → Stage → ℕ → Unit → Type 0
UnitCoded p places stage first (Gate g) = ⊤
UnitCoded p places stage first (Slot s) = IfSome (table_at p s.node) (λ (t : Table). TableCoded p places t first stage)

-- each unit of a stage, by its place
abbrev pub StageCoded : Program → List (List Lane) → Stage → Type 0
StageCoded p places stage = AllNumbered (λ place (u : Unit). UnitCoded p places stage (first_code stage place) u) stage.units
