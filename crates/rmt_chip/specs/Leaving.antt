-- How a packet leaves its slot.
use Rattle.std.specs.Prelude.{◌≡◌, ℕ, List, [], map, drop, Option, Some, None, slice_index, Bool, true, false}
use Rattle.std.specs.List.{flat_map, zip}
use Rattle.rmt_bits.specs.declared.answer.Verdict.{Verdict}
use Rattle.rmt_bits.specs.declared.answer.Verdict.TheVariants as verdict
use Rattle.rmt_chip.specs.Types.{Config, OutHeader}
use Rattle.rmt_config.specs.Life.{Words, Life}
use Rattle.rmt_config.specs.ChipRun.{Outcome, header_bytes, tail_bytes, finished}
use Rattle.rmt_ptcam.specs.declared.parse.Parsed.{Parsed}
use Rattle.rmt_ptcam.specs.declared.parse.Parsed.TheVariants as parsed
use Rattle.rmt_chip.specs.declared.packet_slot.PacketSlot.{PacketSlot}

-- a verdict and bytes are those of an outcome
pub record Answers (outcome : Outcome) (answer : Verdict) (bytes : List ℕ) : Type 0 where
  pub verdict_is : answer ≡ outcome.verdict
  pub bytes_are : bytes ≡ outcome.bytes

-- the same of what leaves, if anything does
abbrev pub AnswersIf : Option Outcome → Option Verdict → List ℕ → Type 0
AnswersIf None None bytes = bytes ≡ []
AnswersIf None (Some answer) bytes = ⊥
AnswersIf (Some outcome) None bytes = ⊥
AnswersIf (Some outcome) (Some answer) bytes = Answers outcome answer bytes

-- words as they stand
abbrev pub still : List ℕ → Life
still vector = record { word = λ age w. slice_index vector w; outcomes = []; counted = [] }

-- the bytes of the valid headers, each with its tail
abbrev pub headers_sent : Words → List OutHeader → List (List ℕ) → List ℕ
headers_sent words headers tails = flat_map (λ (x : OutHeader × List ℕ). header_bytes words x.0 x.1) (zip headers tails)

-- what leaves, by how the parser ended, the frame and the words as they stand
abbrev pub leaving : Config → PacketSlot → List ℕ → Parsed → Outcome
leaving c place frame parsed.Short = record { verdict = verdict.Short; bytes = []; counted = [] }
leaving c place frame parsed.Reject = record { verdict = verdict.Reject; bytes = []; counted = [] }
leaving c place frame (parsed.Accept used) = finished c (map (tail_bytes frame) place.tails) (drop used frame) (still place.vector)

abbrev pub leaving_if : Config → PacketSlot → List ℕ → Bool → Option Outcome
leaving_if c place frame false = None
leaving_if c place frame true = Some (leaving c place frame place.parsed)
