-- What calls of queues give: the items that a port sends, and what is counted of copies.
use Rattle.std.specs.Prelude.{ℕ, ◌+◌, ◌==◌, List, [], ◌∷◌, length, map, if◌then◌else◌}
use Rattle.std.specs.List.{flat_map, range_with_len}
use Rattle.rmt_queues.specs.declared.queues.Offered.{Offered}
use Rattle.rmt_queues.specs.declared.queues.Offered.TheVariants.{CellsFull, Queued}
use Rattle.rmt_queues.specs.Lists.{Lists, offer_answer, queue_of}
use Rattle.rmt_queues.specs.Calls.{Call, ItemCopy, after, given}
use Rattle.rmt_queues.specs.Calls.Call.{Offer, Take}

-- each port takes an item, from port 0 on
abbrev pub round : ℕ → List Call
round ports = map Take (range_with_len 0 ports)

-- so many rounds
abbrev pub rounds : ℕ → ℕ → List Call
rounds ports count = flat_map (λ n. round ports) (range_with_len 0 count)

-- the items that a port sends, in order
abbrev pub sent_in : Lists → List Call → ℕ → List (List ℕ)
sent_in start calls port = map (λ (copy : ItemCopy). copy.item) (given start calls port)

-- what calls count in all, one after another
abbrev pub counted : (Lists → Call → ℕ) → Lists → List Call → ℕ
counted count start [] = 0
counted count start (call ∷ calls) = count start call + counted count (after start call) calls

-- a copy that is taken
abbrev pub taken_by : Lists → Call → ℕ
taken_by s (Offer ports item) = 0
taken_by s (Take port) = if length (queue_of s port) == 0 then 0 else 1

-- copies that find no room
abbrev pub dropped_of : Offered → ℕ
dropped_of CellsFull = 0
dropped_of (Queued copies dropped) = dropped

abbrev pub dropped_by : Lists → Call → ℕ
dropped_by s (Offer ports item) = dropped_of (offer_answer s ports item)
dropped_by s (Take port) = 0

-- copies of an item for which cells are short: all of them
abbrev pub refused_of : ℕ → Offered → ℕ
refused_of copies CellsFull = copies
refused_of copies (Queued queued dropped) = 0

abbrev pub refused_by : Lists → Call → ℕ
refused_by s (Offer ports item) = refused_of (length ports) (offer_answer s ports item)
refused_by s (Take port) = 0
