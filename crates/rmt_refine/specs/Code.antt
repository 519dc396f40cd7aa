-- Fifth part of a configuration's carrying a program: its instructions do what the actions say.
use Rattle.std.specs.Prelude.{◌≡◌, ℕ, ◌+◌, List, Some, All, Contains, length, map, slice_get}
use Rattle.std.specs.List.{AllZip, flat_map}
use Rattle.rmt_bits.specs.declared.lane.Lane.{Lane}
use Rattle.rmt_refine.specs.Types.{Program, Table, Config, Stage, SlotUnit, Operation}
use Rattle.rmt_ast.specs.State.{IsState}
use Rattle.rmt_ast.specs.Places.{lanes_of}
use Rattle.rmt_ast.specs.Control.{act_of}
use Rattle.rmt_ast.specs.EntryLists.{params_of}
use Rattle.rmt_ast.specs.WellFormed.{Fits}
use Rattle.rmt_phv.specs.Places.{written_by}
use Rattle.rmt_deps.specs.Edges.{of_action}
use Rattle.rmt_config.specs.Instructions.{first_code}
use Rattle.rmt_config.specs.Life.{Words, code_at}
use Rattle.rmt_refine.specs.View.{slot_of}
use Rattle.rmt_refine.specs.Units.{table_at}
use Rattle.rmt_config.specs.Effects.{HasArguments, Hold, words_after, ChangesOnly}

-- ---- words and instructions

-- the lanes of the fields that an action assigns
abbrev pub assigned_lanes : Program → List (List Lane) → ℕ → List Lane
assigned_lanes p places action = flat_map (lanes_of places) (of_action p written_by action)

-- it has operations on the words of those lanes alone, for an operation writes its whole word, with old bits in it
abbrev pub WritesWordsOf : List Lane → List Operation → Type 0
WritesWordsOf lanes ops = All (λ (op : Operation). Contains (map (λ (l : Lane). l.word) lanes) op.word) ops

-- with the record that holds its arguments, an instruction does an action of the program
pub record DoesAction (p : Program) (places : List (List Lane)) (action : ℕ) (ops : List Operation) : Type 0 where
  pub acts : (s args : List ℕ) (words : Words) (held : ℕ) → IsState p s → AllZip Fits (params_of p action) args → HasArguments (params_of p action) args held
      → Hold places words s → Hold places (words_after ops held words) (act_of p action args s)
  pub others : ChangesOnly (assigned_lanes p places action) ops
  pub words : WritesWordsOf (assigned_lanes p places action) ops

-- whatever the record is, it does the action with these arguments
pub record DoesDefault (p : Program) (places : List (List Lane)) (action : ℕ) (args : List ℕ) (ops : List Operation) : Type 0 where
  pub acts : (s : List ℕ) (words : Words) (held : ℕ) → IsState p s → Hold places words s → Hold places (words_after ops held words) (act_of p action args s)
  pub others : ChangesOnly (assigned_lanes p places action) ops
  pub words : WritesWordsOf (assigned_lanes p places action) ops

-- ---- all instructions

-- those of a table's part, from number `first` of the stage on: one for each action of its list, and then the default's
pub record TableCode (p : Program) (places : List (List Lane)) (t : Table) (first : ℕ) (stage : Stage) : Type 0 where
  pub actions : (i action : ℕ) → slice_get t.actions i ≡ Some action → DoesAction p places action (code_at stage (first + i))
  pub default : DoesDefault p places t.default t.args (code_at stage (first + length t.actions))

-- each part of each table has them
abbrev pub CodeCarried : Program → List (List Lane) → Config → Type 0
CodeCarried p places c =
    (n k place : ℕ) (t : Table) (stage : Stage) (slot : SlotUnit) → table_at p n ≡ Some t → slice_get c.stages k ≡ Some stage
    → slot_of stage place ≡ Some slot → slot.node ≡ n → TableCode p places t (first_code stage place) stage
