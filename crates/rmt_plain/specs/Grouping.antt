-- Entries as rows that compare bits of the key, and the marks of what they want.
use Rattle.std.specs.Prelude.{◌≡◌, ℕ, Bool, true, List, [], ◌∷◌, length, map, All, Contains, Option, Some, None, if◌then◌else◌, bit_and, slice_get, slice_index}
use Rattle.rmt_bits.specs.declared.groups.Group.{Group}
use Rattle.rmt_bits.specs.Grouping.{Compared, place_in}
use Rattle.rmt_ast.specs.declared.program.Test.{Test}
use Rattle.rmt_ast.specs.declared.entry.Entry.{Entry}
use Rattle.rmt_plain.specs.Marks.{total_of, slot_of, is_marked}

abbrev pub masks_of : List Test → List ℕ
masks_of tests = map (λ (t : Test). t.mask) tests

abbrev pub values_of : List Test → List ℕ
values_of tests = map (λ (t : Test). t.value) tests

-- the bits of a key that masks leave, field by field
abbrev pub masked : List ℕ → List ℕ → List ℕ → List ℕ
masked [] fs s = []
masked (m ∷ ms) [] s = []
masked (m ∷ ms) (f ∷ fs) s = bit_and (slice_index s f) m ∷ masked ms fs s

-- what an entry compares
abbrev pub row_of : Entry → Compared
row_of e = record { masks = masks_of e.tests; values = values_of e.tests }

-- the slot of what an entry wants, among so many
abbrev pub slot_for : ℕ → Entry → ℕ
slot_for slots e = slot_of slots (total_of (values_of e.tests))

-- what an entry wants is marked
abbrev pub IsMarked : List Bool → Entry → Type 0
IsMarked marks e = is_marked marks (total_of (values_of e.tests)) ≡ true

-- so many slots, of which those of what entries want are marked
pub record AreMarks (slots : ℕ) (es : List Entry) (marks : List Bool) : Type 0 where
  pub slots_are : length marks ≡ slots
  pub wanted : All (IsMarked marks) es
  pub only : (k : ℕ) → slice_get marks k ≡ Some true → Contains (map (slot_for slots) es) k

-- the place that a group has for bits of a key; bits without a mark have none
abbrev pub marked_place : List Bool → Group → List ℕ → Option ℕ
marked_place marks g values = if is_marked marks (total_of values) then place_in g values else None

-- the same for a key
abbrev pub place_for : List Bool → List ℕ → List ℕ → Group → Option ℕ
place_for marks key s g = marked_place marks g (masked g.masks.items key s)
