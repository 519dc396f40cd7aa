-- What is known while the lines of a text are read.
use Rattle.std.specs.Prelude.{◌≡◌, ◌<◌, ℕ, List, [], ◌∷◌, ◌++◌, Bool, false, Option, Some, None, IsTrue, All, Ok, length, slice_get, unwrap_or, Vec}
use Rattle.std.specs.Global.{Global}
use Rattle.rmt_ast.specs.declared.entry.Entry.{Entry}
use Rattle.rmt_ast.specs.EntryLists.{Terms}
use Rattle.rmt_entries.specs.declared.fault.EntryFault.{EntryFault}
use Rattle.rmt_entries.specs.declared.fault.EntryFault.TheVariants.{NoMemory, At}
use Rattle.rmt_entries.specs.declared.gathered.Gathered.{Gathered}
use Rattle.rmt_entries.specs.Entries.{by_node, entry_of, has_keys_once, identity, is_repeated}
use Rattle.rmt_entries.specs.KeySets.{KeySet, has}
use Rattle.rmt_entries.specs.Tables.{AppliedTable}
use Rattle.rmt_entries.specs.Taken.{AreNarrow}

-- want of memory, or a code of that line
abbrev pub IsFault : EntryFault → ℕ → (ℕ → Type 0) → Type 0
IsFault NoMemory at code = Unit {0}
IsFault (At c line) at code = (line ≡ at) × code c

-- numbers of its widths are read with 128 bits, and a place of an action has 32 bits
pub record IsReadable (t : AppliedTable) : Type 0 where
  pub widths : AreNarrow t.terms.widths
  pub params : All AreNarrow t.terms.params
  pub few_actions : length t.actions < 4294967296

-- a node with these terms applies the table
abbrev pub IsAppliedBy : List (Option Terms) → AppliedTable → Type 0
IsAppliedBy terms t = slice_get terms t.node ≡ Some (Some t.terms)

-- the node that applies the table is one of so many
abbrev pub IsBelow : ℕ → AppliedTable → Type 0
IsBelow nodes t = t.node < nodes

-- the entries of a table, if it is one, have distinct keys
abbrev pub has_once : Option Terms → Bool
has_once None = false
has_once (Some t) = has_keys_once t.kind

-- a node applies a table whose entries have distinct keys
abbrev pub is_once : List (Option Terms) → ℕ → Bool
is_once terms node = has_once (unwrap_or (slice_get terms node) None)

-- a set has the keys of these entries, of tables whose entries have distinct ones
abbrev pub Knows : List (Option Terms) → List Entry → KeySet → Type 0
Knows terms es keys = (q : Vec ℕ Global) (e : Entry) → q.items ≡ identity e → IsTrue (is_once terms e.table) → has keys q ≡ is_repeated es e

-- these entries are gathered
pub record Gathers (terms : List (Option Terms)) (es : List Entry) (g : Gathered) : Type 0 where
  pub lists : g.lists.items ≡ by_node (length terms) es
  pub number : g.number ≡ length es
  pub keys : Knows terms es g.keys

-- a line added its entry to these
pub record Addition (tables : List AppliedTable) (terms : List (Option Terms)) (es : List Entry) (line : List ℕ) (g : Gathered) : Type 0 where
  pub entry : Entry
  pub said : entry_of tables es line ≡ Ok entry
  pub gathered : Gathers terms (es ++ entry ∷ []) g
