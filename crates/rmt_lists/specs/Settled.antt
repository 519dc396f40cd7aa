-- Lists to whose ends entries are put, and of which entries are kept.
use Rattle.std.specs.Prelude.{◌≡◌, ℕ, List, ◌++◌, Bool, not, ◌==◌, ◌&&◌, nat_lt, Option, filter, length, take}
use Rattle.rmt_bits.specs.Members.{is_among}
use Rattle.rmt_ast.specs.Changes.{list_of}
use Rattle.rmt_ast.specs.declared.entry.Entry.{Entry}
use Rattle.rmt_lists.specs.Stands.{somes}

-- each of these entries stands behind those of its table
pub record Extends (old : List (List Entry)) (more : List Entry) (new : List (List Entry)) : Type 0 where
  pub count : length new ≡ length old
  pub at : (m : ℕ) → list_of new m ≡ list_of old m ++ filter (λ (e : Entry). m == e.table) more

-- the first of some entries do
abbrev pub ExtendsInPart : List (List Entry) → List (Option Entry) → List (List Entry) → Type 0
ExtendsInPart old come new = (i : ℕ) × Extends old (somes (take i come)) new

-- an entry below a number, which is not among those that go
abbrev pub keeps : List ℕ → ℕ → Entry → Bool
keeps gone limit e = nat_lt e.number limit && not (is_among gone e.number)
