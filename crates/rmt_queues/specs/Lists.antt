-- Queues as lists: what an offer and a take make of them.
use Rattle.std.specs.Prelude.{ℕ, ◌-◌, ◌==◌, ◌&&◌, Bool, not, List, [], ◌∷◌, ◌++◌, length, drop, map, filter, sum_by, count_by, replicate, nat_lt, nat_le, if◌then◌else◌, Option, option_map, slice_get, slice_set, slice_index_or}
use Rattle.std.specs.List.{list_any, range_with_len}
use Rattle.rmt_cells.specs.Pieces.{cells_for}
use Rattle.rmt_queues.specs.declared.queues.Offered.{Offered}
use Rattle.rmt_queues.specs.declared.queues.Offered.TheVariants.{CellsFull, Queued}
use Rattle.rmt_queues.specs.Copies.{with_copy}

-- Queues of a depth over so many cells. An item is named by its number: how many were stored before it.
pub record Lists : Type 0 where
  pub cells : ℕ
  pub depth : ℕ
  -- the items that were stored, in order
  pub items : List (List ℕ)
  -- for each port the numbers of the items that stand in its queue; the first is taken first
  pub queues : List (List ℕ)

-- queues in which nothing stands
abbrev pub empty : ℕ → ℕ → ℕ → Lists
empty cells ports depth = record { cells = cells; depth = depth; items = []; queues = replicate ports [] }

-- the queue of a port
abbrev pub queue_of : Lists → ℕ → List ℕ
queue_of s port = slice_index_or s.queues port []

-- the item of a number
abbrev pub item_of : Lists → ℕ → List ℕ
item_of s number = slice_index_or s.items number []

-- how many copies of an item stand in queues
abbrev pub copies_of : List (List ℕ) → ℕ → ℕ
copies_of queues number = sum_by (λ queue. count_by (λ n. n == number) queue) queues

-- the items that stand in a queue, each once
abbrev pub standing : Lists → List ℕ
standing s = filter (λ number. nat_lt 0 (copies_of s.queues number)) (range_with_len 0 (length s.items))

-- the cells that are free: all but those of each item that stands, once an item
abbrev pub free_cells : Lists → ℕ
free_cells s = s.cells - sum_by (λ number. cells_for (length (item_of s number))) (standing s)

-- whether a port's queue has room
abbrev pub has_room : Lists → ℕ → Bool
has_room s port = nat_lt (length (queue_of s port)) s.depth

-- whether an item finds cells enough
abbrev pub fits : Lists → List ℕ → Bool
fits s item = nat_le (cells_for (length item)) (free_cells s)

-- an item is stored, and each of these ports that has room has a copy of it at its queue's end
abbrev pub with_item : Lists → List ℕ → List ℕ → Lists
with_item s ports item = record s {
  items = s.items ++ item ∷ [];
  queues = map (λ port. with_copy s.depth ports (length s.items) port (queue_of s port)) (range_with_len 0 (length s.queues));
}

-- after an offer to ports: the item is stored where some port has room and cells enough are free, else nothing changes
abbrev pub offered : Lists → List ℕ → List ℕ → Lists
offered s ports item = if list_any (has_room s) ports && fits s item then with_item s ports item else s

-- the answer: whether cells are wanting, else how many ports had room and how many had none
abbrev pub offer_answer : Lists → List ℕ → List ℕ → Offered
offer_answer s ports item =
    if list_any (has_room s) ports && not (fits s item)
    then CellsFull
    else Queued (count_by (has_room s) ports) (count_by (λ port. not (has_room s port)) ports)

-- after a take at a port: the first item of its queue is gone
abbrev pub taken : Lists → ℕ → Lists
taken s port = record s { queues = slice_set s.queues port (drop 1 (queue_of s port)) }

-- the item that is taken, none where the queue is empty
abbrev pub take_answer : Lists → ℕ → Option (List ℕ)
take_answer s port = option_map (item_of s) (slice_get (queue_of s port) 0)
