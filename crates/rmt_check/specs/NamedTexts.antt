-- What every text says of the names of its program.
-- A public law rests on it: a reader has to believe it.
use Rattle.std.specs.Prelude.{ℕ, ◌+◌, ◌≤◌, List, All, IsTrue, length, map, sum}
use Rattle.rmt_ast.specs.declared.program.Action.{Action}
use Rattle.rmt_ast.specs.declared.program.Program.{Program}
use Rattle.rmt_ast.specs.declared.program.Table.{Table}
use Rattle.rmt_ast.specs.NameForm.{is_name}
use Rattle.rmt_ast.specs.Naming.{name_of_action}

-- the names that a text declares have the form of names, and none is reserved
pub record HasNameForms (p : Program) : Type 0 where
  pub tables : All (λ (t : Table). IsTrue (is_name t.name)) p.tables
  pub actions : All (λ (a : Action). IsTrue (is_name a.name)) p.actions

-- the bytes of a table's name and of the names of the actions in its list
abbrev pub name_bytes : Program → Table → ℕ
name_bytes p t = length t.name + sum (map (λ a. length (name_of_action p a)) t.actions)

-- the names that the tables tell are together no longer than the text: each stands in it, at a place of its own
abbrev pub IsShortFor : List ℕ → Program → Type 0
IsShortFor text p = sum (map (name_bytes p) p.tables) ≤ length text
