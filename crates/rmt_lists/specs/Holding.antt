-- The numbers of a table's entries, found by their keys.
use Rattle.std.specs.Prelude.{◌≡◌, ℕ, List, [], ◌∷◌, Vec, filter, length, map}
use Rattle.std.specs.Global.{Global}
use Rattle.rmt_ast.specs.declared.program.Test.{Test}
use Rattle.rmt_ast.specs.Changes.{EntryKey, is_keyed_by}
use Rattle.rmt_ast.specs.declared.entry.Entry.{Entry}
use Rattle.rmt_lists.specs.KeyNumbers.{KeyNumbers, numbers_at}
use Rattle.rmt_lists.specs.declared.held.Held.{Held}

-- the values and masks of tests
abbrev pub spelled_tests : List Test → List ℕ
spelled_tests [] = []
spelled_tests (t ∷ ts) = t.value ∷ t.mask ∷ spelled_tests ts

-- a key as numbers, in which no two keys are alike
abbrev pub spelled : EntryKey → List ℕ
spelled key = key.rank ∷ spelled_tests key.tests

-- the numbers of the entries that have a key, by rising number where the entries stand so
abbrev pub keyed_numbers : EntryKey → List Entry → List ℕ
keyed_numbers key es = map (λ (e : Entry). e.number) (filter (is_keyed_by key) es)

-- these are the numbers of these entries
abbrev pub Knows : KeyNumbers → List Entry → Type 0
Knows n es = (q : Vec ℕ Global) (key : EntryKey) → q.items ≡ spelled key → numbers_at n q ≡ keyed_numbers key es

-- what is held of a table are these entries
pub record Holds (h : Held) (es : List Entry) : Type 0 where
  pub knows : Knows h.numbers es
  pub count : h.count ≡ length es
