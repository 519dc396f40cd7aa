-- The entries behind a commit by their numbers, a map for each node.
use Rattle.std.specs.Prelude.{◌≡◌, ℕ, List, ◌++◌, not, ◌==◌, Some, filter, slice_get}
use Rattle.std.specs.BTreeMap.{BTreeMap}
use Rattle.rmt_bits.specs.Members.{is_among}
use Rattle.rmt_ast.specs.declared.entry.Entry.{Entry}
use Rattle.rmt_ast.specs.Changes.{list_of}
use Rattle.rmt_book.specs.Numbered.{IsOrder}

-- the maps have these entries
abbrev pub AreOrders : (ℕ → List Entry) → List (BTreeMap ℕ Entry) → Type 0
AreOrders own orders = (n : ℕ) (m : BTreeMap ℕ Entry) → slice_get orders n ≡ Some m → IsOrder (own n) m

-- entries of which these numbers are none
abbrev pub without_gone : List ℕ → List Entry → List Entry
without_gone gone es = filter (λ (e : Entry). not (is_among gone e.number)) es

-- what is left of the list of a node
abbrev pub left_of : List ℕ → List (List Entry) → ℕ → List Entry
left_of gone lists n = without_gone gone (list_of lists n)

-- with those that come to it
abbrev pub with_come : (ℕ → List Entry) → List Entry → ℕ → List Entry
with_come own come n = own n ++ filter (λ (e : Entry). n == e.table) come
