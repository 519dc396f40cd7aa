-- What the lists of a run stand for.
use Rattle.std.specs.Prelude.{◌≡◌, ◌<◌, ◌≤◌, ℕ, ◌+◌, List, [], ◌∷◌, ◌++◌, not, ◌==◌, Option, Some, None, Result, Ok, Err, All, AllPairs, IsTrue, ⊤, filter, length, slice_get}
use Rattle.std.specs.List.{flat_map}
use Rattle.rmt_bits.specs.Members.{is_among}
use Rattle.rmt_ast.specs.Answers.{entry_numbers}
use Rattle.rmt_ast.specs.Changes.{list_of}
use Rattle.rmt_ast.specs.NameRules.{names_are_formed}
use Rattle.rmt_ast.specs.declared.entry.Entry.{Entry}
use Rattle.rmt_ast.specs.declared.names.TableName.{TableName}
use Rattle.rmt_lists.specs.declared.fault.ChangeFault.{ChangeFault}
use Rattle.rmt_lists.specs.declared.fault.ChangeFault.TheVariants.{NoMemory, Refused}
use Rattle.rmt_lists.specs.declared.held.Held.{Held}
use Rattle.rmt_lists.specs.declared.lists.Lists.{Lists}
use Rattle.rmt_lists.specs.Holding.{Holds}
use Rattle.rmt_lists.specs.Running.{Running}

-- the entries in some places
abbrev pub somes : List (Option Entry) → List Entry
somes [] = []
somes (None ∷ xs) = somes xs
somes (Some e ∷ xs) = e ∷ somes xs

-- places of entries by their numbers, of tables that some nodes apply; the first place is that of a number
abbrev pub AreSlots : ℕ → ℕ → List (Option Entry) → Type 0
AreSlots nodes first [] = ⊤
AreSlots nodes first (None ∷ xs) = AreSlots nodes (first + 1) xs
AreSlots nodes first (Some e ∷ xs) = ((e.number ≡ first) × (e.table < nodes)) × AreSlots nodes (first + 1) xs

-- what is left of a table: its entries as of the last commit but those that go, and those that come
abbrev pub left_at : List (List Entry) → List ℕ → List (Option Entry) → ℕ → List Entry
left_at last gone come node = filter (λ (e : Entry). not (is_among gone e.number)) (list_of last node) ++ filter (λ (e : Entry). node == e.table) (somes come)

-- the numbers of the entries of a table
abbrev pub numbers_in : List (List Entry) → ℕ → List ℕ
numbers_in lists node = entry_numbers (list_of lists node)

-- entries as of the last commit: by rising number in each table, all below that of the first place, and no number in two tables
pub record IsLast (last : List (List Entry)) (first : ℕ) : Type 0 where
  pub rising : (node : ℕ) → AllPairs (λ (a b : Entry). a.number < b.number) (list_of last node)
  pub old : All (λ n. n < first) (flat_map entry_numbers last)
  pub apart : (m n x : ℕ) → IsTrue (is_among (numbers_in last m) x) → IsTrue (is_among (numbers_in last n) x) → m ≡ n

-- the lists are what the changes since the last commit leave
pub record AreLeft (last : List (List Entry)) (gone : List ℕ) (come : List (Option Entry)) (first : ℕ) (lists : List (List Entry)) : Type 0 where
  pub count : length lists ≡ length last
  pub left : (node : ℕ) → list_of lists node ≡ left_at last gone come node
  pub committed : IsLast last first
  pub slots : AreSlots (length last) first come
  pub gone_stood : All (λ n. IsTrue (is_among (flat_map entry_numbers last) n)) gone

-- each table's entries are held by their keys
pub record AreHeld (tables : List Held) (lists : List (List Entry)) : Type 0 where
  pub count : length tables ≡ length lists
  pub each : (node : ℕ) (h : Held) → slice_get tables node ≡ Some h → Holds h (list_of lists node)

-- a run had no more additions than it may have, and a number is left for each that may still come
pub record HasRoom (next taken most : ℕ) : Type 0 where
  pub few : taken ≤ most
  pub at_most : most ≤ 1048576
  pub room : next ≤ 4293918720 + taken

-- lists stand for a run
pub record Stands (r : Running) (l : Lists) : Type 0 where
  pub names : l.names ≡ r.names
  pub formed : IsTrue (names_are_formed r.names)
  pub tables : All (λ (t : TableName). t.node < length r.last) r.names.tables
  pub last : l.last ≡ r.last
  pub left : AreLeft r.last l.gone.keys l.come.items l.first r.now.lists
  pub next : l.first + length l.come.items ≡ r.now.next
  pub held : AreHeld l.held.items r.now.lists
  pub taken : l.taken ≡ r.taken
  pub most : l.most ≡ r.most
  pub numbers : HasRoom r.now.next r.taken r.most

-- the lists stand for the run that there is
abbrev pub StandsFor : Result Running ℕ → Lists → Type 0
StandsFor (Ok r) l = Stands r l
StandsFor (Err code) l = ⊥

-- want of memory, or a code
abbrev pub IsRefusal : ChangeFault → (ℕ → Type 0) → Type 0
IsRefusal NoMemory code = Unit {0}
IsRefusal (Refused c) code = code c
