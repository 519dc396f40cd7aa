-- What a cycle leaves, and what leaves in it.
use Rattle.std.specs.Prelude.{ℕ, List, [], ◌∷◌, ◌++◌, length, Option}
use Rattle.rmt_bits.specs.declared.answer.Count.{Count}
use Rattle.rmt_bits.specs.declared.answer.Verdict.{Verdict}
use Rattle.rmt_config.specs.RunInputs.{Input, answer_in}
use Rattle.rmt_chip.specs.Types.{Config}
use Rattle.rmt_chip.specs.declared.packet_slot.PacketSlot.{PacketSlot}
use Rattle.rmt_chip.specs.Leaving.{AnswersIf}
use Rattle.rmt_chip.specs.PacketsInFlight.{InFlight}

-- after the cycle of an input behind others its packet is in flight too, and the answer is that of the run at this cycle
pub record Cycles (c : Config) (numbers : List ℕ) (inputs later : List Input) (input : Input) (newest : ℕ) (places : List PacketSlot) (frames : List (List ℕ)) (counters : List Count) (answer : Option Verdict) (bytes : List ℕ) : Type 0 where
  pub flies : InFlight c numbers (inputs ++ input ∷ []) later newest places frames counters
  pub answers : AnswersIf (answer_in c ((inputs ++ input ∷ []) ++ later) (length inputs)) answer bytes
