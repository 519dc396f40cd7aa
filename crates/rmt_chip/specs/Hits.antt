-- The hits that the stages count in one cycle.
use Rattle.std.specs.Prelude.{◌≡◌, ℕ, zero, suc, ◌+◌, List, [], ◌++◌, length, Option, Some, None, slice_get, true, false}
use Rattle.rmt_bits.specs.Packet.{Packet}
use Rattle.rmt_bits.specs.Counts.{Hit}
use Rattle.rmt_chip.specs.Types.{Config, Stage}
use Rattle.rmt_bits.specs.declared.answer.Count.{Count}
use Rattle.rmt_config.specs.Life.{Look, Words, acts_of}
use Rattle.rmt_config.specs.Parser.{Parse, Short, Reject, Accept, parse, put}
use Rattle.rmt_chip.specs.Counting.{hits_made}
use Rattle.rmt_chip.specs.declared.packet_slot.PacketSlot.{PacketSlot}
use Rattle.rmt_chip.specs.Held.{Entered, is_accepted}
use Rattle.rmt_memory.specs.Looked.{AllLooked}
use Rattle.rmt_chip.specs.Pending.{looked_at}
use Rattle.rmt_chip.specs.Ran.{CountsAlso}
use Rattle.rmt_chip.specs.Lives.{acts_at}

-- those of stage k for a packet, by its parse
abbrev pub hits_from : Look → Config → ℕ → Stage → Packet → Parse → List Hit
hits_from look c k stage packet Short = []
hits_from look c k stage packet Reject = []
hits_from look c k stage packet (Accept r) = hits_made (length packet.frame) (acts_at look c.stages (put r.vector c.in_port packet.port) k stage).counted

-- the same where a packet is
abbrev pub hits_of : Config → ℕ → Stage → Option Entered → List Hit
hits_of c k stage None = []
hits_of c k stage (Some e) = hits_from e.look c k stage e.packet (parse c.parser e.packet.frame)

-- those of stage k in a cycle, for the packet that is 8 cycles past the stage's start
abbrev pub hits_at : Config → (ℕ → Option Entered) → ℕ → Option Stage → List Hit
hits_at c item k None = []
hits_at c item k (Some stage) = hits_of c k stage (item (stage.start + 8))

-- those of the first stages
abbrev pub hits_upto : Config → (ℕ → Option Entered) → ℕ → List Hit
hits_upto c item zero = []
hits_upto c item (suc k) = hits_upto c item k ++ hits_at c item k (slice_get c.stages k)

-- what a step of a stage counts: of a packet that was accepted the hits of its units, else nothing
pub record CountedBy (k : ℕ) (stage : Stage) (place : PacketSlot) (old new : List Count) : Type 0 where
  pub rests : is_accepted place.parsed ≡ false → new ≡ old
  pub counted : is_accepted place.parsed ≡ true → (look : Look) (number : ℕ) (words : Words) → AllLooked look number words stage (looked_at place.pending.items k) →
      CountsAlso old new (hits_made place.size (acts_of look number stage words place.outcomes).counted)
