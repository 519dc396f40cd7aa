-- Rings, and the lists of numbers that are in them.
use Rattle.std.specs.Prelude.{ℕ, ◌≤◌, List, [], map, slice_index_or}
use Rattle.std.specs.List.{All}
use Rattle.std.specs.VecDeque.{deque_capacity}
use Rattle.rmt_queues.specs.declared.rings.Ring.{Ring}

-- a ring has room for so many numbers
abbrev pub IsRoomy : ℕ → Ring → Type 0
IsRoomy depth ring = depth ≤ deque_capacity ring.numbers

-- the numbers in the ring of a port
abbrev pub ring_of : List Ring → ℕ → List ℕ
ring_of rings port = slice_index_or (map (λ (ring : Ring). ring.numbers.items) rings) port []

-- each ring has room for so many
abbrev pub AreRoomy : ℕ → List Ring → Type 0
AreRoomy depth rings = All (IsRoomy depth) rings
