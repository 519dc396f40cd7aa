-- Queues that stand for lists.
use Rattle.std.specs.Prelude.{◌≡◌, ℕ, ◌+◌, ◌*◌, ◌<◌, ◌≤◌, List, [], ◌++◌, length, map, slice_index, slice_index_or, Some, vec_capacity}
use Rattle.std.specs.List.{All, flat_map}
use Rattle.rmt_cells.specs.declared.cells.Chain.{Chain}
use Rattle.rmt_cells.specs.Links.{times}
use Rattle.rmt_cells.specs.Stands.{Held, Stands as CellsStand, held_if}
use Rattle.rmt_queues.specs.declared.queues.Queues.{Queues}
use Rattle.rmt_queues.specs.declared.stored.Stored.{Stored}
use Rattle.rmt_queues.specs.Lists.{Lists, copies_of, item_of, queue_of, standing}
use Rattle.rmt_queues.specs.Rings.{AreRoomy, ring_of}
use Rattle.rmt_queues.specs.Stored.{stored_at}

-- an item of a length is stored, with so many copies
pub record Keeps (stored : Stored) (bytes count : ℕ) : Type 0 where
  pub chain : Chain
  pub chained : stored.chain ≡ Some chain
  pub len : stored.len ≡ bytes
  pub copies : stored.copies ≡ count

-- the chains of items, each with its bytes; `indices` says where each item of the lists is stored
abbrev pub held_items : List Stored → List ℕ → List (List ℕ) → List ℕ → List Held
held_items stored indices items numbers = flat_map (λ number. held_if (stored_at stored (slice_index indices number)).chain (slice_index_or items number [])) numbers

-- Queues stand for lists, with each item of the lists stored at its index.
pub record StandsAt (indices : List ℕ) (s : Lists) (queues : Queues) : Type 0 where
  pub cells : s.cells ≡ 65536
  pub depth : queues.depth ≡ s.depth
  pub shallow : s.depth ≤ 64
  pub ports : length queues.rings.items ≡ length s.queues
  pub few : length s.queues ≤ 512
  -- the rings hold the indices of the items in the queues
  pub rings : (port : ℕ) → port < length s.queues → ring_of queues.rings.items port ≡ map (slice_index indices) (queue_of s port)
  pub roomy : AreRoomy s.depth queues.rings.items
  pub deep : (port : ℕ) → length (queue_of s port) ≤ s.depth
  -- each number in a queue is that of an item
  pub known : (port : ℕ) → All (λ number. number < length s.items) (queue_of s port)
  pub indexed : length indices ≡ length s.items
  pub small : All (λ item. length item ≤ 13320) s.items
  -- each item that stands is stored, with its copies counted, and its cells are held
  pub kept : All (λ number. Keeps (stored_at queues.stored.items (slice_index indices number)) (length (item_of s number)) (copies_of s.queues number)) (standing s)
  pub held : CellsStand 65536 (held_items queues.stored.items indices s.items (standing s)) queues.cells
  -- each index is spare or that of one item that stands
  pub room : length queues.stored.items ≡ length s.queues * s.depth
  pub spare_room : length queues.stored.items ≤ vec_capacity queues.spare
  pub within : All (λ index. index < length queues.stored.items) (queues.spare.items ++ map (slice_index indices) (standing s))
  pub once : (index : ℕ) → times index (queues.spare.items ++ map (slice_index indices) (standing s)) ≤ 1
  pub all : length queues.spare.items + length (standing s) ≡ length queues.stored.items

-- queues stand for lists
pub record Stands (s : Lists) (queues : Queues) : Type 0 where
  pub indices : List ℕ
  pub at : StandsAt indices s queues
