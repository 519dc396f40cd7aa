-- A run of the chip of which only counts are kept.
use Rattle.std.specs.Prelude.{◌≡◌, ◌≤◌, ◌*◌, ◌^◌, ℕ, List, [], ◌∷◌, length, map, Option, Some, None}
use Rattle.rmt_bits.specs.Packet.{Packet}
use Rattle.rmt_bits.specs.declared.answer.Verdict.{Verdict}
use Rattle.rmt_config.specs.declared.config.Config.{Config}
use Rattle.rmt_chip.specs.PacketRuns.{StandsFor as Stands}
use Rattle.rmt_refine.specs.RunsAs.{told_by_outcome}
use Rattle.rmt_drive.specs.declared.sampling.run.CountedRun.{CountedRun}
use Rattle.rmt_drive.specs.declared.sampling.tally.Tally.{Tally}
use Rattle.rmt_drive.specs.SampleText.{bytes_in, sent_of}
use Rattle.rmt_drive.specs.Watching.{emitted}

-- what leaves in a cycle, if anything does
abbrev pub left_of : Option Verdict → List ℕ → List (Verdict × List ℕ)
left_of None bytes = []
left_of (Some verdict) bytes = (verdict, bytes) ∷ []

-- counts of these answers
pub record Counts (answers : List (Verdict × List ℕ)) (tally : Tally) : Type 0 where
  pub answered : tally.answered ≡ length answers
  pub sent : tally.sent ≡ length (sent_of answers)
  pub bytes : tally.bytes ≡ bytes_in (sent_of answers)

-- no count is greater than it can be
pub record IsBounded (tally : Tally) : Type 0 where
  pub sent : tally.sent ≤ tally.answered
  pub bytes : tally.bytes ≤ 2 ^ 64 * tally.sent

-- what was answered in the cycles of these inputs
abbrev pub told_of : Config → List (Option Packet) → List (Verdict × List ℕ)
told_of c inputs = map told_by_outcome (emitted c inputs)

-- a run stands for the inputs so far
pub record StandsFor (c : Config) (inputs : List (Option Packet)) (run : CountedRun) : Type 0 where
  pub stands : Stands c inputs run.chip
  pub clocked : run.cycles ≡ length inputs
  pub counts : Counts (told_of c inputs) run.tally
