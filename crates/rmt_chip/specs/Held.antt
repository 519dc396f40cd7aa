-- What a packet slot holds.
use Rattle.std.specs.Prelude.{◌≡◌, ◌≢◌, ℕ, ◌+◌, ◌<◌, ◌≤◌, Bool, true, false, if◌then◌else◌, List, length, Option, Some, None, slice_index, slice_index_or, replicate}
use Rattle.rmt_bits.specs.Packet.{Packet}
use Rattle.rmt_chip.specs.Types.{Config, Stage}
use Rattle.rmt_config.specs.Parser.{Parse, Short, Reject, Accept, parse, put}
use Rattle.rmt_config.specs.Life.{Look, Words, Acts, life_of, word_after, acts_of}
use Rattle.rmt_ptcam.specs.declared.parse.Parsed.{Parsed}
use Rattle.rmt_ptcam.specs.declared.parse.Parsed.TheVariants as parsed
use Rattle.rmt_chip.specs.declared.packet_slot.PacketSlot.{PacketSlot}
use Rattle.rmt_memory.specs.Looked.{AllLooked}
use Rattle.rmt_chip.specs.Ran.{all_running}
use Rattle.rmt_chip.specs.Runnable.{start_of}
use Rattle.rmt_chip.specs.Lives.{upto, acts_at}
use Rattle.rmt_chip.specs.Writes.{last_on, applied}
use Rattle.rmt_chip.specs.Pending.{looked_at, running_at, due_at}

abbrev pub is_accepted : Parsed → Bool
is_accepted parsed.Short = false
is_accepted parsed.Reject = false
is_accepted (parsed.Accept used) = true

-- what a packet slot holds for an accepted packet: its words as they are at one age, what the stages have read of
-- operands up to another, the outcomes and instructions up to a third, and what they have looked up below a fourth
pub record Carried (look : Look) (stages : List Stage) (vector : List ℕ) (words_age read_age acts_age looks_age : ℕ) (place : PacketSlot) : Type 0 where
  pub all_words : length place.vector ≡ 224
  pub words : (w : ℕ) → slice_index place.vector w ≡ (life_of look stages vector).word words_age w
  pub looked : (k : ℕ) (d : Stage) → k < length stages → start_of stages k < looks_age → read_age < start_of stages k + 9
      → AllLooked look k ((life_of look stages vector).word (start_of stages k)) (slice_index_or stages k d) (looked_at place.pending.items k)
  pub running : (k : ℕ) (d : Stage) → k < length stages → start_of stages k + 8 ≡ acts_age → read_age < start_of stages k + 9
      → all_running (slice_index_or stages k d).code (looked_at place.pending.items k) (running_at place.pending.items k) ≡ (acts_at look stages vector k (slice_index_or stages k d)).running
  pub due : (k : ℕ) (d : Stage) → k < length stages → start_of stages k + 9 ≤ read_age → words_age < start_of stages k + 12
      → (w : ℕ) → last_on (due_at place.pending.items k) w ≡ word_after (acts_at look stages vector k (slice_index_or stages k d)).running ((life_of look stages vector).word (start_of stages k + 9)) w
  pub outcomes : (k : ℕ) → k ≤ length stages → ((j : ℕ) → j < k → start_of stages j + 8 ≤ acts_age) → (k < length stages → acts_age < start_of stages k + 8)
      → place.outcomes ≡ (upto look stages vector k).outcomes

-- the same for any packet: one that was not accepted has all words 0
abbrev pub CarriedFor : Look → Config → Packet → ℕ → ℕ → ℕ → ℕ → PacketSlot → Parse → Type 0
CarriedFor look c packet words_age read_age acts_age looks_age place Short = (place.parsed ≡ parsed.Short) × ((w : ℕ) → slice_index place.vector w ≡ 0)
CarriedFor look c packet words_age read_age acts_age looks_age place Reject = (place.parsed ≡ parsed.Reject) × ((w : ℕ) → slice_index place.vector w ≡ 0)
CarriedFor look c packet words_age read_age acts_age looks_age place (Accept r) =
    (place.parsed ≡ parsed.Accept r.at) × (place.tails ≡ r.tails)
    × Carried look c.stages (put r.vector c.in_port packet.port) words_age read_age acts_age looks_age place

-- a packet, how many entered before it, and the version that was current then; and its look-ups, each in the cells of the
-- cycle in which it is made
pub record Entered : Type 0 where
  pub packet : Packet
  pub number : ℕ
  pub version : ℕ
  pub look : Look

pub record Holds (c : Config) (entered : Entered) (words_age read_age acts_age looks_age : ℕ) (place : PacketSlot) : Type 0 where
  pub taken : place.taken ≡ true
  pub number : place.number ≡ entered.number
  pub version : place.version ≡ entered.version
  pub size : place.size ≡ length entered.packet.frame
  pub carried : CarriedFor entered.look c entered.packet words_age read_age acts_age looks_age place (parse c.parser entered.packet.frame)

-- no unit runs without a packet
pub record IsFree (place : PacketSlot) : Type 0 where
  pub taken : place.taken ≡ false
  pub rests : is_accepted place.parsed ≡ false

-- a packet slot holds a packet, or none
abbrev pub HoldsIf : Config → Option Entered → ℕ → ℕ → ℕ → ℕ → PacketSlot → Type 0
HoldsIf c None words_age read_age acts_age looks_age place = IsFree place
HoldsIf c (Some entered) words_age read_age acts_age looks_age place = Holds c entered words_age read_age acts_age looks_age place

-- the packet itself is as before
pub record SamePacket (old new : PacketSlot) : Type 0 where
  pub taken : new.taken ≡ old.taken
  pub number : new.number ≡ old.number
  pub version : new.version ≡ old.version
  pub size : new.size ≡ old.size
  pub parsed : new.parsed ≡ old.parsed
  pub tails : new.tails ≡ old.tails

-- what the four steps of a stage make of a packet slot
pub record WrittenBy (k : ℕ) (old new : PacketSlot) : Type 0 where
  pub same : SamePacket old new
  pub vector : new.vector ≡ (if is_accepted old.parsed then applied (due_at old.pending.items k) old.vector else old.vector)
  pub outcomes : new.outcomes ≡ old.outcomes
  pub pending : new.pending ≡ old.pending

-- the packet, its words and its outcomes are as before
pub record SameSoFar (old new : PacketSlot) : Type 0 where
  pub same : SamePacket old new
  pub vector : new.vector ≡ old.vector
  pub outcomes : new.outcomes ≡ old.outcomes

pub record ReadBy (k : ℕ) (stage : Stage) (old new : PacketSlot) : Type 0 where
  pub so_far : SameSoFar old new
  pub looked : (j : ℕ) → looked_at new.pending.items j ≡ looked_at old.pending.items j
  pub running : (j : ℕ) → running_at new.pending.items j ≡ running_at old.pending.items j
  pub others : (j : ℕ) → j ≢ k → due_at new.pending.items j ≡ due_at old.pending.items j
  pub read : is_accepted old.parsed ≡ true → (w : ℕ) → last_on (due_at new.pending.items k) w
      ≡ word_after (all_running stage.code (looked_at old.pending.items k) (running_at old.pending.items k)) (λ v. slice_index old.vector v) w

-- the outcomes and the instructions that run are those of the units' acts
pub record Decides (k : ℕ) (stage : Stage) (acts : Acts) (new : PacketSlot) : Type 0 where
  pub outcomes_are : new.outcomes ≡ acts.outcomes
  pub running_are : all_running stage.code (looked_at new.pending.items k) (running_at new.pending.items k) ≡ acts.running

pub record DecidedBy (k : ℕ) (stage : Stage) (old new : PacketSlot) : Type 0 where
  pub same : SamePacket old new
  pub vector : new.vector ≡ old.vector
  pub looked : (j : ℕ) → looked_at new.pending.items j ≡ looked_at old.pending.items j
  pub due : (j : ℕ) → due_at new.pending.items j ≡ due_at old.pending.items j
  pub decided : is_accepted old.parsed ≡ true → (look : Look) (number : ℕ) (words : Words) → AllLooked look number words stage (looked_at old.pending.items k)
      → Decides k stage (acts_of look number stage words old.outcomes) new

pub record LookedBy (look : Look) (k : ℕ) (stage : Stage) (old new : PacketSlot) : Type 0 where
  pub so_far : SameSoFar old new
  pub running : (j : ℕ) → running_at new.pending.items j ≡ running_at old.pending.items j
  pub due : (j : ℕ) → due_at new.pending.items j ≡ due_at old.pending.items j
  pub others : (j : ℕ) → j ≢ k → looked_at new.pending.items j ≡ looked_at old.pending.items j
  pub looked : is_accepted old.parsed ≡ true → AllLooked look k (λ v. slice_index old.vector v) stage (looked_at new.pending.items k)

-- the vector of a packet as it enters
abbrev pub Begins : Config → Packet → PacketSlot → Parse → Type 0
Begins c packet place Short = (place.parsed ≡ parsed.Short) × (place.vector ≡ replicate 224 0)
Begins c packet place Reject = (place.parsed ≡ parsed.Reject) × (place.vector ≡ replicate 224 0)
Begins c packet place (Accept r) = (place.parsed ≡ parsed.Accept r.at) × (place.tails ≡ r.tails) × (place.vector ≡ put r.vector c.in_port packet.port) × (length place.vector ≡ 224)

-- a packet slot with a packet that enters behind so many others, under a version
pub record EnteredBy (c : Config) (packet : Packet) (number version : ℕ) (place : PacketSlot) : Type 0 where
  pub taken : place.taken ≡ true
  pub number_is : place.number ≡ number
  pub version_is : place.version ≡ version
  pub size : place.size ≡ length packet.frame
  pub outcomes : place.outcomes ≡ replicate 256 0
  pub begins : Begins c packet place (parse c.parser packet.frame)

-- a packet slot after a cycle's input
abbrev pub EntersIf : Config → Option Packet → ℕ → ℕ → PacketSlot → Type 0
EntersIf c None number version place = IsFree place
EntersIf c (Some packet) number version place = EnteredBy c packet number version place

-- the frame of a packet, if there is one
abbrev pub FrameIs : Option Entered → List ℕ → Type 0
FrameIs None frame = Unit {0}
FrameIs (Some entered) frame = frame ≡ entered.packet.frame
