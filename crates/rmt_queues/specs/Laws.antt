-- Laws of queues, for every list of offers and takes.
use Rattle.std.specs.Prelude.{◌≡◌, ℕ, ◌<◌, List, [], ◌++◌, map}
use Rattle.std.specs.List.Sorted.{IsStrictlyIncreasing}
use Rattle.rmt_queues.specs.Lists.{empty, free_cells, queue_of}
use Rattle.rmt_queues.specs.Calls.{Call, ItemCopy, after_all, given, held, queued}

-- What a port gave, and then what it holds, are the copies that were queued for it, in the order of the offers, each once:
-- their numbers rise.
abbrev pub NothingIsLost : Type 0
NothingIsLost =
    (cells ports depth : ℕ) (calls : List Call) (port : ℕ) → port < ports
    → (given (empty cells ports depth) calls port ++ held (after_all (empty cells ports depth) calls) port ≡ queued (empty cells ports depth) calls port)
    × IsStrictlyIncreasing (map (λ (copy : ItemCopy). copy.number) (queued (empty cells ports depth) calls port))

-- when all queues are empty, all cells are free
abbrev pub EmptyQueuesFreeAll : Type 0
EmptyQueuesFreeAll =
    (cells ports depth : ℕ) (calls : List Call) → ((port : ℕ) → port < ports → queue_of (after_all (empty cells ports depth) calls) port ≡ [])
    → free_cells (after_all (empty cells ports depth) calls) ≡ cells
