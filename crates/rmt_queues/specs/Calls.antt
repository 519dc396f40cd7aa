-- Lists of offers and takes: what they leave, what a port gives, and what was queued for it.
use Rattle.std.specs.Prelude.{ℕ, ◌==◌, ◌&&◌, List, [], ◌∷◌, ◌++◌, length, map, take, if◌then◌else◌}
use Rattle.std.specs.List.{list_any}
use Rattle.rmt_queues.specs.Lists.{Lists, fits, has_room, item_of, offered, queue_of, taken}

-- a call
pub data Call : Type 0 where
  -- an item is offered to ports
  Offer : List ℕ → List ℕ → Call
  -- an item is taken at a port
  Take : ℕ → Call

-- a copy of an item: the item's number, and its bytes
pub record ItemCopy : Type 0 where
  pub number : ℕ
  pub item : List ℕ

-- the copies that a port holds
abbrev pub held : Lists → ℕ → List ItemCopy
held s port = map (λ number. record { number = number; item = item_of s number }) (queue_of s port)

-- the queues after a call
abbrev pub after : Lists → Call → Lists
after s (Offer ports item) = offered s ports item
after s (Take port) = taken s port

-- what a call queues for a port: a copy, where the item is stored and the port is offered to and has room
abbrev pub queued_by : Lists → Call → ℕ → List ItemCopy
queued_by s (Offer ports item) port =
    if (list_any (has_room s) ports && fits s item) && (list_any (λ p. p == port) ports && has_room s port)
    then record { number = length s.items; item = item } ∷ []
    else []
queued_by s (Take other) port = []

-- what a port gives in a call: the first copy that it holds, where there is one
abbrev pub given_by : Lists → Call → ℕ → List ItemCopy
given_by s (Offer ports item) port = []
given_by s (Take other) port = if other == port then take 1 (held s port) else []

-- the queues after calls
abbrev pub after_all : Lists → List Call → Lists
after_all s [] = s
after_all s (call ∷ calls) = after_all (after s call) calls

-- what calls queue for a port
abbrev pub queued : Lists → List Call → ℕ → List ItemCopy
queued s [] port = []
queued s (call ∷ calls) port = queued_by s call port ++ queued (after s call) calls port

-- what a port gives in calls
abbrev pub given : Lists → List Call → ℕ → List ItemCopy
given s [] port = []
given s (call ∷ calls) port = given_by s call port ++ given (after s call) calls port
