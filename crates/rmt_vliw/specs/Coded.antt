-- The instructions of a program's actions, for the places of its fields.
use Rattle.std.specs.Prelude.{◌≡◌, ◌<◌, ℕ, ◌+◌, List, [], Some, length, map, slice_get}
use Rattle.rmt_bits.specs.declared.lane.Lane.{Lane}
use Rattle.rmt_ast.specs.declared.program.Table.{Table}
use Rattle.rmt_config.specs.declared.config.Stage.{Stage}
use Rattle.rmt_config.specs.Life.{code_at}
use Rattle.rmt_vliw.specs.Types.{Program, Operation}
use Rattle.rmt_vliw.specs.declared.folded.Folded.{Folded}
use Rattle.rmt_vliw.specs.Folding.{IsFolding}
use Rattle.rmt_vliw.specs.Operations.{IsInstruction, given, operations_of}

-- every action folds: each field that it writes has one value over the fields as they were, of at most one operation
abbrev pub ActionsFold : Program → Type 0
ActionsFold p = (action : ℕ) → action < length p.actions → (folded : Folded) × IsFolding p action folded

-- the instruction of an action: the operations of its folding, by rising word
pub record IsCodeOf (p : Program) (places : List (List Lane)) (action : ℕ) (ops : List Operation) : Type 0 where
  pub folded : Folded
  pub folding : IsFolding p action folded
  pub instruction : IsInstruction (operations_of places folded.params folded.values) ops

-- that of a default: the same with the arguments in the place of the parameters
pub record IsDefaultCodeOf (p : Program) (places : List (List Lane)) (action : ℕ) (args : List ℕ) (ops : List Operation) : Type 0 where
  pub folded : Folded
  pub folding : IsFolding p action folded
  pub instruction : IsInstruction (operations_of places [] (map (given args) folded.values)) ops

-- those of a table, from number `first` of a stage on: one for each action of its list, and then the default's
pub record TableCoded (p : Program) (places : List (List Lane)) (t : Table) (first : ℕ) (stage : Stage) : Type 0 where
  pub actions : (i action : ℕ) → slice_get t.actions i ≡ Some action → IsCodeOf p places action (code_at stage (first + i))
  pub default : IsDefaultCodeOf p places t.default t.args (code_at stage (first + length t.actions))
