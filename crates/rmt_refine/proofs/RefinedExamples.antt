-- Worked rows: what a packet becomes on a chip that answers as a program, and what would not be its answer.
use Rattle.std.proofs.Common.{◌≡◌, ℕ, [], ◌∷◌, refl, ap, arith}
use Rattle.std.specs.Prelude.{slice_index}
use Rattle.rmt_bits.specs.declared.answer.Answer.{Answer}
use Rattle.rmt_bits.specs.declared.answer.Verdict.TheVariants as verdict
use Rattle.rmt_bits.specs.Packet.{IsPacket, Packet}
use Rattle.rmt_ast.specs.Answers.{answer_of}
use Rattle.rmt_ast.proofs.Programs.{arms, priorities, stop_and_on, ternary}
use Rattle.rmt_config.specs.ChipRun.{Outcome, outcome_of, own_look}
use Rattle.rmt_refine.specs.CountedHits.{counted_hits}
use Rattle.rmt_refine.specs.Refined.{AnswersAs}
use Rattle.rmt_refine.proofs.CarriedExamples.{carried}
use Rattle.rmt_refine.proofs.FormExamples.{are_entries, is_program}
use Rattle.rmt_refine.proofs.RefinedLaws.{own_packet}
use Rattle.rmt_refine.proofs.TwoStages.{config, its_map, lists, program}

-- the program hits entry 1 of its counted table once
abbrev answer : Answer
answer = record { verdict = verdict.Sent 3; bytes = 7 ∷ []; hits = 1 ∷ [] }

abbrev outcome : Outcome
outcome = record { verdict = verdict.Sent 3; bytes = 7 ∷ []; counted = record { number = 1; age = 8 } ∷ [] }

pub hit_is_counted : counted_hits arms stop_and_on (1 ∷ []) ≡ 1 ∷ []
hit_is_counted = refl

-- at whatever age it is counted
pub answers : AnswersAs arms stop_and_on outcome answer
answers = record { verdict = refl; bytes = refl; counted = λ n. refl }

-- a hit in a table that is not counted is left out
pub hit_is_left_out : counted_hits ternary priorities (1 ∷ []) ≡ []
hit_is_left_out = refl

pub answers_uncounted : AnswersAs ternary priorities (record outcome { counted = [] }) answer
answers_uncounted = record { verdict = refl; bytes = refl; counted = λ n. refl }

-- ---- no answers

-- a hit that is not counted
pub missed_hit : AnswersAs arms stop_and_on (record outcome { counted = [] }) answer → ⊥
missed_hit is = let e : ◌≡◌ {A = ℕ} 0 1 = is.counted 1 in omega (arith, e)

-- one that is counted twice
pub hit_twice : AnswersAs arms stop_and_on (record outcome { counted = record { number = 1; age = 8 } ∷ record { number = 1; age = 20 } ∷ [] }) answer → ⊥
hit_twice is = let e : ◌≡◌ {A = ℕ} 2 1 = is.counted 1 in omega (arith, e)

-- another byte
pub other_byte : AnswersAs arms stop_and_on (record outcome { bytes = 8 ∷ [] }) answer → ⊥
other_byte is = let e : ◌≡◌ {A = ℕ} 8 7 = ap (λ bytes. slice_index bytes 0) is.bytes in omega (arith, e)

-- ---- the program on two stages and the chip that carries it

-- every packet is answered as the program answers it
pub all_answered : (packet : Packet) → IsPacket packet → AnswersAs program lists (outcome_of (own_look config) config packet) (answer_of program lists packet)
all_answered packet is = own_packet program lists its_map config packet is_program are_entries carried is.has_bytes is.port_exists
