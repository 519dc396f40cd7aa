-- The program on two stages: what becomes of packets on the chip, and what the program answers to them.
use Rattle.std.proofs.Common.{◌≡◌, ℕ, [], ◌∷◌, refl}
use Rattle.rmt_bits.specs.Packet.{Packet}
use Rattle.rmt_bits.specs.declared.answer.Verdict.TheVariants.{Sent}
use Rattle.rmt_ast.specs.Answers.{answer_of}
use Rattle.rmt_config.specs.ChipRun.{outcome_of, own_look}
use Rattle.rmt_refine.proofs.TwoStages.{config, lists, program}

-- a packet of two bytes
abbrev pub packet : ℕ → Packet
packet d = record { port = 7; frame = d ∷ 9 ∷ [] }

-- of two lines of one priority the first, in the first stage; the byte comes back from its copy
pub hits_in_first :
    (outcome_of (own_look config) config (packet 0x32) ≡ record { verdict = Sent 2; bytes = 0x32 ∷ 9 ∷ []; counted = record { number = 1; age = 8 } ∷ [] })
    × (answer_of program lists (packet 0x32) ≡ record { verdict = Sent 2; bytes = 0x32 ∷ 9 ∷ []; hits = 1 ∷ [] })
hits_in_first = (refl, refl)

-- a line of the second stage
pub hits_in_second :
    (outcome_of (own_look config) config (packet 0x15) ≡ record { verdict = Sent 1; bytes = 0x15 ∷ 9 ∷ []; counted = record { number = 0; age = 11 } ∷ [] })
    × (answer_of program lists (packet 0x15) ≡ record { verdict = Sent 1; bytes = 0x15 ∷ 9 ∷ []; hits = 0 ∷ [] })
hits_in_second = (refl, refl)

-- a miss is told in the second stage
pub misses_in_both :
    (outcome_of (own_look config) config (packet 0x55) ≡ record { verdict = Sent 0; bytes = 0x55 ∷ 9 ∷ []; counted = [] })
    × (answer_of program lists (packet 0x55) ≡ record { verdict = Sent 0; bytes = 0x55 ∷ 9 ∷ []; hits = [] })
misses_in_both = (refl, refl)
