-- Which lists of packets and commits may come to a program's entries: each change can be made where it stands.
use Rattle.std.specs.Prelude.{◌≡◌, ◌<◌, List, [], ◌∷◌, Bool, true, false, ◌&&◌, ⊤, IsSomeAnd, length}
use Rattle.rmt_bits.specs.Packet.{IsPacket}
use Rattle.rmt_ast.specs.declared.program.Kind.TheVariants as kind
use Rattle.rmt_ast.specs.declared.entry.Entry.{Entry}
use Rattle.rmt_ast.specs.EntryLists.{IsEntry, Terms, terms_of}
use Rattle.rmt_ast.specs.Changes.{Adds, Change, Installed, Removes, changed, committed, list_of, is_held, key_of_entry}
use Rattle.rmt_ast.specs.Events.{Arrives, Commits, Event}
use Rattle.rmt_refine.specs.Types.{Kind, Program, Table}
use Rattle.rmt_refine.specs.Units.{table_at}

-- a table of this kind has a key once
abbrev pub has_once : Kind → Bool
has_once kind.Keyless = false
has_once kind.Exact = true
has_once kind.Prefix = true
has_once kind.Ternary = false

-- An entry can be added to those of a table: it is one of the table, the table isn't full, and the key isn't held where it may be held once.
pub record CanBeAdded (t : Terms) (es : List Entry) (e : Entry) : Type 0 where
  pub is_entry : IsEntry e.table t e
  pub is_new : (has_once t.kind && is_held (key_of_entry e) es) ≡ false
  pub has_room : length es < t.size

-- a change that can be made of the entries as they stand; what is removed is held
abbrev pub CanBeMade : Program → Installed → Change → Type 0
CanBeMade p s (Adds e) = IsSomeAnd (table_at p e.table) (λ (t : Table). CanBeAdded (terms_of p t) (list_of s.lists e.table) e)
CanBeMade p s (Removes node key) = is_held key (list_of s.lists node) ≡ true

-- changes of which each can be made where it stands
abbrev pub AreFitChanges : Program → Installed → List Change → Type 0
AreFitChanges p s [] = ⊤
AreFitChanges p s (change ∷ changes) = CanBeMade p s change × AreFitChanges p (changed s change) changes

-- packets that can come in, and commits of changes that can be made where they stand
abbrev pub AreFit : Program → Installed → List Event → Type 0
AreFit p s [] = ⊤
AreFit p s ((Arrives packet) ∷ events) = IsPacket packet × AreFit p s events
AreFit p s ((Commits changes) ∷ events) = AreFitChanges p s changes × AreFit p (committed s changes) events
