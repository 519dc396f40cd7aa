-- The program on two stages: lists of packets, and the counters behind them.
use Rattle.std.proofs.Common.{◌≡◌, ℕ, ◌*◌, false, List, [], ◌∷◌, map, refl, arith}
use Rattle.rmt_bits.specs.Packet.{Packet}
use Rattle.rmt_bits.specs.declared.answer.Count.{Count}
use Rattle.rmt_bits.specs.declared.answer.Verdict.{Verdict}
use Rattle.rmt_bits.specs.declared.answer.Verdict.TheVariants.{Sent}
use Rattle.rmt_ast.specs.Answers.{answers_of, counts_of}
use Rattle.rmt_refine.specs.Types.{Config}
use Rattle.rmt_config.specs.declared.config.Unit.TheVariants.{Slot}
use Rattle.rmt_config.specs.ChipRun.{chip_counts_of, inputs_of, outcomes_of}
use Rattle.rmt_refine.specs.Carries.{Carries}
use Rattle.rmt_refine.specs.RunsAs.{RunsAs, told_by_answer, told_by_outcome}
use Rattle.rmt_refine.proofs.CarriedExamples.{carried}
use Rattle.rmt_refine.proofs.FormExamples.{are_entries, is_program}
use Rattle.rmt_refine.proofs.ListedLaws.{never}
use Rattle.rmt_refine.proofs.ListLaws.{lists_law}
use Rattle.rmt_refine.proofs.OutcomeExamples.{packet}
use Rattle.rmt_refine.proofs.TwoStages.{config, first_stage, its_map, keyless_unit, lists, number_at, ports_unit, program, second_stage}

-- line 1, line 0, no line, and line 1 again
abbrev packets : List Packet
packets = packet 0x32 ∷ packet 0x15 ∷ packet 0x55 ∷ packet 0x12 ∷ []

abbrev told : List (Verdict × List ℕ)
told = (Sent 2, 0x32 ∷ 9 ∷ []) ∷ (Sent 1, 0x15 ∷ 9 ∷ []) ∷ (Sent 0, 0x55 ∷ 9 ∷ []) ∷ (Sent 2, 0x12 ∷ 9 ∷ []) ∷ []

-- both answer one after another
pub both_tell : (map told_by_outcome (outcomes_of config packets) ≡ told) × (map told_by_answer (answers_of program lists packets) ≡ told)
both_tell = (refl, refl)

abbrev count : ℕ → ℕ → Count
count entry packets = record { entry = entry; packets = packets; bytes = 2 * packets }

-- and both count the hits of each entry
pub both_count : (chip_counts_of config (inputs_of config packets) ≡ count 0 1 ∷ count 1 2 ∷ count 2 0 ∷ []) × (counts_of program lists packets ≡ count 0 1 ∷ count 1 2 ∷ count 2 0 ∷ [])
both_count = (refl, refl)

-- a configuration that lists a number for an empty cell has a counter for it, which the program doesn't have
abbrev one_too_many : Config
one_too_many = record config {
  stages =
      record first_stage { units = Slot (keyless_unit 0) ∷ Slot (ports_unit false (number_at 0 1 ∷ number_at 1 2 ∷ number_at 2 5 ∷ [])) ∷ [] } ∷ second_stage ∷ [];
}

pub other_counter : chip_counts_of one_too_many (inputs_of one_too_many packets) ≡ count 0 1 ∷ count 1 2 ∷ count 2 0 ∷ count 5 0 ∷ []
other_counter = refl

-- so it doesn't carry the program
pub other_list : Carries program lists its_map one_too_many → ⊥
other_list h = never ((h.listed 0 1 _ _ refl refl).seen (number_at 2 5) (2, omega arith, refl))

-- the law for lists holds of every list of packets there
pub all_lists : RunsAs program lists config
all_lists = lists_law program lists its_map config is_program are_entries carried
