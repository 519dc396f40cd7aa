-- What look-ups find: the law of look-ups.
use Rattle.std.specs.Prelude.{◌≡◌, ◌<◌, ℕ, ◌+◌, Option, Some, None, slice_get, slice_index}
use Rattle.rmt_refine.specs.Types.{Program, Table, Config, Stage, SlotUnit}
use Rattle.rmt_ast.specs.declared.entry.Entry.{Entry}
use Rattle.rmt_ast.specs.EntryLists.{params_of}
use Rattle.rmt_config.specs.Instructions.{first_code}
use Rattle.rmt_config.specs.Cells.{Found}
use Rattle.rmt_refine.specs.View.{View, look_in, slot_at, slot_of}
use Rattle.rmt_config.specs.Effects.{HasArguments}

-- what was found is an entry: its action, its arguments and its number
pub record IsEntryFound (p : Program) (t : Table) (first : ℕ) (e : Entry) (f : Found) : Type 0 where
  pub code : f.code ≡ first + e.action
  pub held : HasArguments (params_of p (slice_index t.actions e.action)) e.args f.held
  pub number : f.number ≡ e.number

-- A key finds an entry in a part of its table, and nothing in the parts of earlier stages.
pub record FindsEntry (p : Program) (c : Config) (v : View) (n : ℕ) (t : Table) (key : ℕ) (e : Entry) : Type 0 where
  pub k : ℕ
  pub place : ℕ
  pub stage : Stage
  pub slot : SlotUnit
  pub found : Found
  pub stage_is : slice_get c.stages k ≡ Some stage
  pub slot_is : slot_of stage place ≡ Some slot
  pub node_is : slot.node ≡ n
  pub looks : look_in c v k place key ≡ Some found
  pub is_entry : IsEntryFound p t (first_code stage place) e found
  pub none_before : (j i : ℕ) (other : SlotUnit) → j < k → slot_at c j i ≡ Some other → other.node ≡ n → look_in c v j i key ≡ None

-- A key that hits no entry finds nothing in any part of its table; one that hits an entry finds that one.
abbrev pub FindsAs : Program → Config → View → ℕ → Table → ℕ → Option Entry → Type 0
FindsAs p c v n t key None = (k place : ℕ) (slot : SlotUnit) → slot_at c k place ≡ Some slot → slot.node ≡ n → look_in c v k place key ≡ None
FindsAs p c v n t key (Some e) = FindsEntry p c v n t key e
