-- The tables of a program as their entries' lines see them.
use Rattle.std.specs.Prelude.{ℕ, List, Option, None, map, find, option_map, slice_get}
use Rattle.std.specs.List.{enumerate_from, filter_map}
use Rattle.std.specs.Str.{bytes_eq}
use Rattle.rmt_ast.specs.declared.program.Program.{Program}
use Rattle.rmt_ast.specs.declared.program.Table.{Table}
use Rattle.rmt_ast.specs.declared.program.Node.{Node}
use Rattle.rmt_ast.specs.declared.program.What.{What}
use Rattle.rmt_ast.specs.declared.program.What.TheVariants.{Apply, Gate}
use Rattle.rmt_ast.specs.EntryLists.{Terms, terms_of}
use Rattle.rmt_ast.specs.Naming.{name_of_action}

-- a table with the node that applies it, and the names of its list of actions
pub record AppliedTable : Type 0 where
  pub node : ℕ
  pub name : List ℕ
  pub terms : Terms
  pub actions : List (List ℕ)

abbrev pub applied_table : Program → ℕ → Table → AppliedTable
applied_table p node t = record { node = node; name = t.name; terms = terms_of p t; actions = map (name_of_action p) t.actions }

-- the table that a node applies; an `if` has none
abbrev pub table_of : Program → What → Option Table
table_of p (Apply t) = slice_get p.tables t
table_of p (Gate field test) = None

abbrev pub table_at : Program → ℕ → What → Option AppliedTable
table_at p node what = option_map (applied_table p node) (table_of p what)

-- the tables that some nodes apply, the first of which has the number n
abbrev pub tables_from : Program → ℕ → List Node → List AppliedTable
tables_from p n nodes = filter_map (λ (x : ℕ × Node). table_at p x.0 x.1.what) (enumerate_from n nodes)

-- the tables of a program, by the nodes that apply them
abbrev pub applied_tables : Program → List AppliedTable
applied_tables p = tables_from p 0 p.nodes

-- the table of a name
abbrev pub table_named : List AppliedTable → List ℕ → Option AppliedTable
table_named tables name = find (λ (t : AppliedTable). bytes_eq name t.name) tables
