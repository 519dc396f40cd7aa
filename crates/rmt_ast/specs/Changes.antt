-- Changes of a program's entries: additions and removals, and the entries that they leave.
use Rattle.std.specs.Prelude.{ℕ, ◌+◌, List, [], ◌∷◌, ◌++◌, Bool, ◌&&◌, ◌==◌, if◌then◌else◌, max, fold, map, slice_get, slice_set, unwrap_or}
use Rattle.std.specs.List.{flat_map, list_any}
use Rattle.std.specs.Str.{bytes_eq}
use Rattle.rmt_ast.specs.Types.{Test}
use Rattle.rmt_ast.specs.declared.entry.Entry.{Entry}
use Rattle.rmt_ast.specs.Answers.{entry_numbers}

-- what tells an entry of a table from others: its tests, with the length of a prefix or the priority
pub record EntryKey : Type 0 where
  pub tests : List Test
  pub rank : ℕ

-- a change: an entry is added, or the entry with a key is removed from the table that a node applies
pub data Change : Type 0 where
  Adds : (entry : Entry) → Change
  Removes : (node : ℕ) (key : EntryKey) → Change

-- the entries of a run, a list for each node, and the number that the next entry gets
pub record Installed : Type 0 where
  pub lists : List (List Entry)
  pub next : ℕ

-- one more than the greatest number that an entry has, and 0 where there is none
abbrev pub next_number : List (List Entry) → ℕ
next_number lists = fold (λ next n. max next (n + 1)) 0 (flat_map entry_numbers lists)

-- entries that no change was made to
abbrev pub at_first : List (List Entry) → Installed
at_first lists = record { lists = lists; next = next_number lists }

-- the entries of the table that a node applies
abbrev pub list_of : List (List Entry) → ℕ → List Entry
list_of lists node = unwrap_or (slice_get lists node) []

-- an entry with these entries of its table, behind which it stands since its number is the greatest
abbrev pub added : List (List Entry) → Entry → List (List Entry)
added lists e = slice_set lists e.table (list_of lists e.table ++ e ∷ [])

-- the tests of an entry test the same bits for the same values
abbrev pub are_same : List Test → List Test → Bool
are_same a b = bytes_eq (map (λ (t : Test). t.value) a) (map (λ (t : Test). t.value) b) && bytes_eq (map (λ (t : Test). t.mask) a) (map (λ (t : Test). t.mask) b)

-- an entry has a key
abbrev pub is_keyed_by : EntryKey → Entry → Bool
is_keyed_by key e = are_same key.tests e.tests && (key.rank == e.rank)

-- entries without the one that has a key; of several, as a ternary table may have them, that of least number goes
abbrev pub without : EntryKey → List Entry → List Entry
without key [] = []
without key (e ∷ es) = if is_keyed_by key e then es else e ∷ without key es

abbrev pub removed : List (List Entry) → ℕ → EntryKey → List (List Entry)
removed lists node key = slice_set lists node (without key (list_of lists node))

-- what a change leaves; an entry that is added gets the next number
abbrev pub changed : Installed → Change → Installed
changed s (Adds e) = record { lists = added s.lists (record e { number = s.next }); next = s.next + 1 }
changed s (Removes node key) = record { lists = removed s.lists node key; next = s.next }

-- what the changes of a commit leave, in their order
abbrev pub committed : Installed → List Change → Installed
committed s changes = fold changed s changes

-- the key of an entry
abbrev pub key_of_entry : Entry → EntryKey
key_of_entry e = record { tests = e.tests; rank = e.rank }

-- some entry has a key
abbrev pub is_held : EntryKey → List Entry → Bool
is_held key es = list_any (is_keyed_by key) es
