-- What the clocked chip answers, cycle by cycle.
use Rattle.std.specs.Prelude.{ℕ, ◌+◌, ◌-◌, List, [], ◌∷◌, ◌++◌, ◌==◌, nat_lt, if◌then◌else◌, Option, Some, None, map, drop, length, replicate, slice_get, option_map, option_and_then, min, filter_map, ◌||◌, take, count_by, is_some}
use Rattle.std.specs.List.{flat_map, range_with_len, zip}
use Rattle.rmt_bits.specs.Bits.{bytes_of}
use Rattle.rmt_bits.specs.Packet.{Packet}
use Rattle.rmt_bits.specs.Counts.{Hit, counts}
use Rattle.rmt_bits.specs.declared.answer.Count.{Count}
use Rattle.rmt_bits.specs.declared.answer.Verdict.{Verdict}
use Rattle.rmt_bits.specs.declared.answer.Verdict.TheVariants as verdict
use Rattle.rmt_config.specs.Types.{Config, OutHeader, Stage, Unit, CellNumber}
use Rattle.rmt_config.specs.declared.config.Unit.TheVariants.{Gate, Slot}
use Rattle.rmt_config.specs.declared.tails.TailAt.{TailAt}
use Rattle.rmt_config.specs.Parser.{Parse, Short, Reject, Accept, parse, put}
use Rattle.rmt_config.specs.Cells.{Found, look_up}
use Rattle.rmt_config.specs.Life.{Words, Look, Life, Counted, lane_of, key_of, life_of}

-- the age at which a packet leaves: the last start and 12, or 0 where there is no stage
abbrev pub latency_of : List Stage → ℕ
latency_of [] = 0
latency_of (stage ∷ []) = stage.start + 12
latency_of (stage ∷ next ∷ stages) = latency_of (next ∷ stages)

-- the look-ups of a configuration in its own cells, under its own seed
abbrev pub slot_look : ℕ → Stage → Option Unit → ℕ → Option Found
slot_look seed stage None key = None
slot_look seed stage (Some (Gate g)) key = None
slot_look seed stage (Some (Slot slot)) key = look_up seed stage slot key

-- the look-up function that a configuration has by itself
abbrev pub own_look : Config → Look
own_look c k place key = option_and_then (λ (stage : Stage). slot_look c.seed stage (slice_get stage.units place) key) (slice_get c.stages k)

-- what becomes of one packet: the verdict, the bytes sent, and what it counts
pub record Outcome : Type 0 where
  pub verdict : Verdict
  pub bytes : List ℕ
  pub counted : List Counted

-- the bytes of a tail that stands in a frame
abbrev pub tail_bytes : List ℕ → TailAt → List ℕ
tail_bytes frame t = take t.len (drop t.place frame)

-- the bytes of a header whose valid lane is 1, by its lanes, and then its tail, and none of another
abbrev pub header_bytes : Words → OutHeader → List ℕ → List ℕ
header_bytes words h tail = if lane_of words h.valid == 1 then bytes_of h.bytes (key_of words h.pieces) ++ tail else []

-- the headers of which the valid lane is 1 in their order, each with its tail, and then the payload
abbrev pub sent_bytes : Words → List OutHeader → List (List ℕ) → List ℕ → List ℕ
sent_bytes words headers tails payload = flat_map (λ (x : OutHeader × List ℕ). header_bytes words x.0 x.1) (zip headers tails) ++ payload

-- what becomes of a packet that the parser accepted, by its words at the age at which it leaves
abbrev pub finished : Config → List (List ℕ) → List ℕ → Life → Outcome
finished c tails payload life =
    let words = life.word (latency_of c.stages) in
    if lane_of words c.drop == 1
    then record { verdict = verdict.Dropped; bytes = []; counted = life.counted }
    else record { verdict = verdict.Sent (lane_of words c.out_port); bytes = sent_bytes words c.headers tails payload; counted = life.counted }

-- what becomes of a packet by its parse; on one that is short or rejected no unit runs
abbrev pub outcome_from : Look → Config → Packet → Parse → Outcome
outcome_from look c packet Short = record { verdict = verdict.Short; bytes = []; counted = [] }
outcome_from look c packet Reject = record { verdict = verdict.Reject; bytes = []; counted = [] }
outcome_from look c packet (Accept r) =
    finished c (map (tail_bytes packet.frame) r.tails) (drop r.at packet.frame) (life_of look c.stages (put r.vector c.in_port packet.port))

-- what becomes of a packet under a look-up function
abbrev pub outcome_of : Look → Config → Packet → Outcome
outcome_of look c packet = outcome_from look c packet (parse c.parser packet.frame)

-- the answer of a cycle: that to the packet that entered the latency before, if one did
abbrev pub answer_at : Config → List (Option Packet) → ℕ → Option Outcome
answer_at c inputs cycle =
    if nat_lt cycle (latency_of c.stages) then None
    else option_and_then (λ (input : Option Packet). option_map (outcome_of (own_look c) c) input) (slice_get inputs (cycle - latency_of c.stages))

-- the packet that has an age in a cycle, while it is in the chip: from age 0 to the age at which it leaves
abbrev pub packet_at : Config → List (Option Packet) → ℕ → ℕ → Option Packet
packet_at c inputs cycle age =
    if nat_lt cycle age || nat_lt (latency_of c.stages) age then None
    else option_and_then (λ (input : Option Packet). input) (slice_get inputs (cycle - age))

-- the number of the packet that enters in a cycle: how many entered before
abbrev pub number_at : List (Option Packet) → ℕ → ℕ
number_at inputs cycle = count_by is_some (take cycle inputs)

-- the packets of a list, one a cycle, and then nothing until the last one has left
abbrev pub inputs_of : Config → List Packet → List (Option Packet)
inputs_of c [] = []
inputs_of c (packet ∷ packets) = map Some (packet ∷ packets) ++ replicate (latency_of c.stages) None

-- how many cycles the chip is clocked for a list of packets
abbrev pub cycles_of : Config → List Packet → ℕ
cycles_of c packets = length (inputs_of c packets)

-- the greatest number of packets that are in the chip at once; each is there from age 0 to the age at which it leaves
abbrev pub flight_of : Config → List Packet → ℕ
flight_of c packets = min (length packets) (latency_of c.stages + 1)

-- the answers that leave in these cycles, in order
abbrev pub outcomes_of : Config → List Packet → List Outcome
outcomes_of c packets = filter_map (answer_at c (inputs_of c packets)) (range_with_len 0 (cycles_of c packets))

-- the numbers of the entries in counted slots
abbrev pub unit_numbers : Unit → List ℕ
unit_numbers (Gate g) = []
unit_numbers (Slot slot) = if slot.counted then map (λ (n : CellNumber). n.number) slot.numbers else []

-- the numbers that a configuration counts
abbrev pub counted_numbers : Config → List ℕ
counted_numbers c = flat_map (λ (stage : Stage). flat_map unit_numbers stage.units) c.stages

-- the hits of a packet that are counted before it has a certain age
abbrev pub hits_before : ℕ → Packet → List Counted → List Hit
hits_before age packet [] = []
hits_before age packet (counted ∷ rest) =
    (if nat_lt counted.age age then record { number = counted.number; bytes = length packet.frame } ∷ [] else [])
    ++ hits_before age packet rest

-- the hits that are counted in a run of inputs: what enters with n cycles to come has ages below n in them
abbrev pub hits_in : Config → List (Option Packet) → List Hit
hits_in c [] = []
hits_in c (None ∷ inputs) = hits_in c inputs
hits_in c ((Some packet) ∷ inputs) =
    hits_before (length inputs + 1) packet (outcome_of (own_look c) c packet).counted ++ hits_in c inputs

-- the counters after a run of inputs
abbrev pub chip_counts_of : Config → List (Option Packet) → List Count
chip_counts_of c inputs = counts (counted_numbers c) (hits_in c inputs)

-- a packet's vector at an age, word by word; it is 0 where the parser did not accept the packet
abbrev pub words_from : Look → Config → Packet → Parse → ℕ → Words
words_from look c packet Short age w = 0
words_from look c packet Reject age w = 0
words_from look c packet (Accept r) age w = (life_of look c.stages (put r.vector c.in_port packet.port)).word age w

-- the words of a packet at an age
abbrev pub words_at : Look → Config → Packet → ℕ → Words
words_at look c packet = words_from look c packet (parse c.parser packet.frame)
