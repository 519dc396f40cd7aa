-- Numbers by keys: one at a key's place, and those of an ordered map behind it.
use Rattle.std.specs.Prelude.{◌≡◌, ◌≢◌, ◌<◌, ◌≤◌, ℕ, ◌+◌, ◌-◌, ◌++◌, ◌∷◌, [], List, Option, Some, None, Vec, bytes_eq, if◌then◌else◌, length, map, slice_index_or, unwrap_or}
use Rattle.std.specs.Global.{Global}
use Rattle.std.specs.BTreeMap.{BTreeMap}
use Rattle.std.specs.Map.{lookup}
use Rattle.std.specs.declared.collections.VecDeque.{VecDeque}
use Rattle.rmt_entries.specs.KeySets.{is_at, place_of}

abbrev pub Queues : Type 0
Queues = BTreeMap (Vec ℕ Global) (VecDeque ℕ Global)

-- the keys of an ordered map with their numbers
abbrev pub pairs_of : Queues → List (List ℕ × List ℕ)
pairs_of m = map (λ (e : Vec ℕ Global × VecDeque ℕ Global). (e.0.items, e.1.items)) m.entries

abbrev pub paired : List (List ℕ × List ℕ) → List ℕ → List ℕ
paired pairs key = unwrap_or (lookup (bytes_eq key) pairs) []

-- the numbers at a key of an ordered map
abbrev pub queued : Queues → Vec ℕ Global → List ℕ
queued m q = paired (pairs_of m) q.items

abbrev pub listed : Option ℕ → List ℕ
listed None = []
listed (Some n) = n ∷ []

abbrev pub first_at : List (Option ℕ) → ℕ → Option ℕ
first_at firsts place = slice_index_or firsts place None

-- what the slot of a key's place has
abbrev pub slot_of : List ℕ → List ℕ → ℕ
slot_of slots key = slice_index_or slots (place_of (length slots) key) 0

-- the number at a key's place
abbrev pub placed : List ℕ → List (Option ℕ) → List ℕ → List ℕ → List ℕ
placed slots firsts keys key = if is_at keys (slot_of slots key) key then listed (first_at firsts (place_of (length slots) key)) else []

-- the numbers at a key
abbrev pub all_at : List ℕ → List (Option ℕ) → List ℕ → List (List ℕ × List ℕ) → List ℕ → List ℕ
all_at slots firsts keys crowded key = placed slots firsts keys key ++ paired crowded key

-- numbers by keys, as contracts see them: slots, first numbers, the keys that they have, and the others with their numbers
abbrev pub KeyNumbers : Type 0
KeyNumbers = List ℕ × (List (Option ℕ) × (List ℕ × List (List ℕ × List ℕ)))

abbrev pub numbers_at : KeyNumbers → Vec ℕ Global → List ℕ
numbers_at n q = all_at n.0 n.1.0 n.1.1.0 n.1.1.1 q.items

-- each slot's key is whole, and where a place is free none of its keys has numbers
pub record Stand (slots : List ℕ) (firsts : List (Option ℕ)) (keys : List ℕ) (crowded : List (List ℕ × List ℕ)) : Type 0 where
  pub some : 0 < length slots
  pub count : length firsts ≡ length slots
  pub whole : (p : ℕ) → slice_index_or slots p 0 ≢ 0 → slice_index_or slots p 0 + slice_index_or keys (slice_index_or slots p 0 - 1) 0 ≤ length keys
  pub taken : (q : Vec ℕ Global) → slot_of slots q.items ≡ 0 → paired crowded q.items ≡ []
