-- Reports of worked configurations.
use Rattle.std.specs.Prelude.{◌≡◌, ℕ, List, [], ◌∷◌, None, true, refl, codes}
use Rattle.std.specs.Fmt.{digits}
use Rattle.serde_json.specs.Written.{compact_text}
use Rattle.serde_json.proofs.OnLiterals.{serde_json_on_literals}
use Rattle.rmt_bits.specs.declared.lane.Lane.{Lane}
use Rattle.rmt_config.specs.declared.config.Config.{Config}
use Rattle.rmt_config.specs.declared.config.Stage.{Stage}
use Rattle.rmt_config.specs.declared.config.Unit.{Unit as ChipUnit}
use Rattle.rmt_config.specs.declared.config.Memory.{Memory}
use Rattle.rmt_config.specs.declared.config.Unit.TheVariants.{Gate, Slot}
use Rattle.rmt_config.specs.declared.config.Memory.TheVariants.{Without, Exact, Ternary}
use Rattle.rmt_config.specs.declared.config.Source.TheVariants as source
use Rattle.rmt_config.proofs.ExamplesParts.{lane, one_byte, plain_slot, plain_stage, instruction, copy}
use Rattle.rmt_report.specs.StageUse.{use_of}
use Rattle.rmt_report.specs.NamedWords.{words_of_size}
use Rattle.rmt_report.specs.WordCounts.{counts_of}
use Rattle.rmt_report.specs.Report.{report_of}

-- one header of a byte, and one table without key that sends to port 1
abbrev smallest : Config
smallest = one_byte (plain_stage 0 (plain_slot 0 None ∷ []) (instruction (copy 65 0 9 (source.Constant 1) ∷ []) ∷ []) ∷ [])

pub smallest_report : compact_text (report_of smallest) ≡ codes "{\"latency\":12,\"parser\":{\"entries\":1,\"states\":1},\"stages\":[{\"data\":0,\"exact_bits\":0,\"gates\":0,\"instructions\":1,\"slots\":1,\"sram\":0,\"start\":0,\"tcam\":0,\"ternary_bits\":0}],\"words\":[2,2,0]}"
unfolding serde_json_on_literals digits
smallest_report = refl

-- ---- a configuration with all kinds of units

-- a slot with a key and a memory
abbrev slot : ℕ → ℕ → ℕ → List Lane → Memory → ChipUnit
slot node actions held keys memory = Slot (record { node = node; guard = None; counted = true; actions = actions; last = true; held = held; keys = keys; memory = memory; numbers = [] })

-- a gate that tests a bit of word 0 and two bytes of word 160
abbrev gate : ChipUnit
gate = Gate (record { node = 3; guard = None; tests = record { lane = lane 0 1 1; value = 1; mask = 1 } ∷ record { lane = lane 160 0 16; value = 5; mask = 65535 } ∷ [] })

-- a gate; an exact slot on words 160 and 64 in 4 key blocks, 2 record blocks and a counter block; a ternary slot on word 161 in 2 TCAM
-- blocks and 3 record blocks; a slot without memory
abbrev full_stage : Stage
full_stage = plain_stage 0 (
    gate
    ∷ slot 0 2 9 (lane 160 0 32 ∷ lane 64 0 16 ∷ []) (Exact 1 1 1 0 (0 ∷ 1 ∷ 2 ∷ 3 ∷ []) (4 ∷ 5 ∷ []) (6 ∷ []))
    ∷ slot 1 1 40 (lane 161 0 32 ∷ []) (Ternary 1 (0 ∷ 1 ∷ []) (7 ∷ 8 ∷ 9 ∷ []) [])
    ∷ slot 2 0 0 [] Without
    ∷ []) []

-- three instructions of the exact slot, two of the ternary one and one of the last; the exact crossbar reads 48 bits, the ternary one 72
pub all_kinds : use_of full_stage ≡ record { data_bits = 49; exact_bits = 48; gates = 1; instructions = 6; slots = 3; sram = 10; start = 0; tcam = 2; ternary_bits = 72 }
all_kinds = refl

-- ---- words

-- a header in word 1, whose valid is in word 0; an operation that writes word 5 and reads word 170 and data
abbrev reads_a_word : Config
reads_a_word = one_byte (full_stage ∷ plain_stage 12 (plain_slot 4 None ∷ []) (instruction (copy 5 0 8 (source.Word 170 0) ∷ copy 65 0 9 (source.Held 3) ∷ []) ∷ []) ∷ [])

-- of 8 bits words 0, 1 and 5, of 16 bits 64 and 65, of 32 bits 160, 161 and 170
pub three_two_three : counts_of reads_a_word ≡ record { bytes = 3; halves = 2; wholes = 3 }
three_two_three = refl

-- a key and a test name their words, whether or not an operation does
pub key_alone : words_of_size 32 (one_byte (full_stage ∷ [])) ≡ 2
key_alone = refl

-- without a stage ports, drop and headers are left, and packets leave at once
pub no_stage : compact_text (report_of (one_byte [])) ≡ codes "{\"latency\":0,\"parser\":{\"entries\":1,\"states\":1},\"stages\":[],\"words\":[2,2,0]}"
unfolding serde_json_on_literals digits
no_stage = refl
