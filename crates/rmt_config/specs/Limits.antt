-- The limits of the chip, by number, and the first that a configuration passes. That each word is one of the chip's, which is limit 2, is a rule of form.
use Rattle.std.specs.Prelude.{◌≡◌, ℕ, ◌+◌, ◌-◌, List, [], ◌∷◌, length, take, ◌==◌, nat_lt, min, if◌then◌else◌, slice_get, Option, Some, None}
use Rattle.std.specs.List.{flat_map, count_by, sum_by, range_with_len, position_or_len}
use Rattle.rmt_config.specs.Instructions.{unit_instructions}
use Rattle.rmt_config.specs.declared.limits.LimitHit.{LimitHit}
use Rattle.rmt_config.specs.Types.{Config, ParserConfig, ParserState, ParserEntry, Stage}
use Rattle.rmt_config.specs.Resources.{is_slot, is_gate, unit_data, unit_sram, unit_width, greatest_by, most_listed_in, exact_words, ternary_words, crossbar_bits, node_count}
use Rattle.rmt_config.specs.StageForm.{tcam_blocks}

-- ---- the limits

-- each limit by number, and the greatest sum that keeps it; 3 and 5 are each looked at in two sums
abbrev pub chip_limits : List (ℕ × ℕ)
chip_limits =
    (1, 32) ∷ (3, 256) ∷ (4, 4) ∷ (5, 128) ∷ (6, 106) ∷ (7, 16) ∷ (8, 640) ∷ (9, 640) ∷ (10, 16) ∷ (11, 32)
    ∷ (12, 1280) ∷ (13, 16) ∷ (14, 128) ∷ (15, 8) ∷ (16, 372) ∷ (17, 1) ∷ []

abbrev pub most_in : List (ℕ × ℕ) → ℕ → ℕ
most_in [] limit = 0
most_in (x ∷ xs) limit = if x.0 == limit then x.1 else most_in xs limit

-- the greatest sum that keeps a limit
abbrev pub most_of : ℕ → ℕ
most_of limit = most_in chip_limits limit

-- ---- sums and hits

-- a sum as it is told: as 4,294,967,295 where it is greater
abbrev pub told : ℕ → ℕ
told sum = min sum 4294967295

-- a sum that is above its limit
abbrev pub over : ℕ → ℕ → ℕ → ℕ → Option LimitHit
over most limit stage sum = if nat_lt most sum then Some (record { limit = limit; stage = stage; sum = told sum; need = 0 }) else None

-- a sum that is above the limit of this number
abbrev pub passed : ℕ → ℕ → ℕ → Option LimitHit
passed limit stage sum = over (most_of limit) limit stage sum

-- the first of two limits that is passed
abbrev pub or_hit : Option LimitHit → Option LimitHit → Option LimitHit
or_hit (Some hit) others = Some hit
or_hit None others = others

-- the first of some limits that is passed
abbrev pub first_passed : List (Option LimitHit) → Option LimitHit
first_passed [] = None
first_passed (hit ∷ hits) = or_hit hit (first_passed hits)

-- that of the first item at which it is passed
abbrev pub first_hit : {A : Type 0} → (A → Option LimitHit) → List A → Option LimitHit
first_hit item [] = None
first_hit item (x ∷ xs) = or_hit (item x) (first_hit item xs)

-- that of the first stage, where the first of the list has this number
abbrev pub stage_hit : (ℕ → Stage → Option LimitHit) → ℕ → List Stage → Option LimitHit
stage_hit item k [] = None
stage_hit item k (stage ∷ stages) = or_hit (item k stage) (stage_hit item (k + 1) stages)

-- ---- the number of stages, and the parser

-- 1: 32 stages
abbrev pub stages_hit : Config → Option LimitHit
stages_hit c = passed 1 0 (length c.stages)

-- 3: 256 parser entries
abbrev pub entries_hit : ParserConfig → Option LimitHit
entries_hit p = passed 3 0 (length p.entries)

-- 3, too: 256 states
abbrev pub states_hit : ParserConfig → Option LimitHit
states_hit p = passed 3 0 (length p.states)

-- 4: 4 lookup bytes of a state
abbrev pub lookups_hit : ParserState → Option LimitHit
lookups_hit s = passed 4 0 (length s.lookups)

-- 5: an entry needs at most 128 bytes, and has at most 64 extracts, told as 5 too
abbrev pub entry_hit : ParserEntry → Option LimitHit
entry_hit e = or_hit (passed 5 0 e.need) (over 64 5 0 (length e.extracts))

-- ---- one stage

-- 6: 106 SRAM blocks, as often as they are listed
abbrev pub sram_hit : ℕ → Stage → Option LimitHit
sram_hit k stage = passed 6 k (length (flat_map unit_sram stage.units))

-- 7: 16 TCAM blocks, likewise
abbrev pub tcam_hit : ℕ → Stage → Option LimitHit
tcam_hit k stage = passed 7 k (length (flat_map tcam_blocks stage.units))

-- 8: 640 bits of the words that exact keys read
abbrev pub exact_words_hit : ℕ → Stage → Option LimitHit
exact_words_hit k stage = passed 8 k (crossbar_bits exact_words stage.units)

-- 9: 640 bits of the words that prefix and ternary keys and gates read
abbrev pub ternary_words_hit : ℕ → Stage → Option LimitHit
ternary_words_hit k stage = passed 9 k (crossbar_bits ternary_words stage.units)

-- 10: 16 slots
abbrev pub slots_hit : ℕ → Stage → Option LimitHit
slots_hit k stage = passed 10 k (count_by is_slot stage.units)

-- 11: 32 instructions
abbrev pub code_hit : ℕ → Stage → Option LimitHit
code_hit k stage = passed 11 k (sum_by unit_instructions stage.units)

-- 12: 1,280 data bits
abbrev pub data_hit : ℕ → Stage → Option LimitHit
data_hit k stage = passed 12 k (sum_by unit_data stage.units)

-- 13: 16 gates
abbrev pub gates_hit : ℕ → Stage → Option LimitHit
gates_hit k stage = passed 13 k (count_by is_gate stage.units)

-- 15: 8 blocks side by side
abbrev pub width_hit : ℕ → Stage → Option LimitHit
width_hit k stage = passed 15 k (greatest_by unit_width stage.units)

-- 17: no block is listed twice
abbrev pub listed_hit : ℕ → Stage → Option LimitHit
listed_hit k stage = passed 17 k (most_listed_in stage.units)

-- ---- all stages

-- the first stage that has, with those before it, more than 128 nodes
abbrev pub crowded_stage : List Stage → ℕ
crowded_stage stages = position_or_len (λ k. nat_lt 128 (node_count (take (k + 1) stages))) (range_with_len 0 (length stages))

-- 14: 128 nodes, told with the stage in which the 129th first stands
abbrev pub nodes_hit : List Stage → Option LimitHit
nodes_hit stages = passed 14 (crowded_stage stages) (node_count stages)

-- 16: the last start is at most 372, told with the last stage
abbrev pub last_start_hit : List Stage → Option LimitHit
last_start_hit stages = start_hit (slice_get stages (length stages - 1))
  where
    start_hit : Option Stage → Option LimitHit
    start_hit None = None
    start_hit (Some stage) = passed 16 (length stages - 1) stage.start

-- ---- the first that is passed, by number and then by stage

-- limits 3 to 5
abbrev pub parser_limit_hit : ParserConfig → Option LimitHit
parser_limit_hit p = first_passed (entries_hit p ∷ states_hit p ∷ first_hit lookups_hit p.states ∷ first_hit entry_hit p.entries ∷ [])

-- limits 6 to 9: what units read
abbrev pub reading_limit_hit : List Stage → Option LimitHit
reading_limit_hit stages =
    first_passed (stage_hit sram_hit 0 stages ∷ stage_hit tcam_hit 0 stages ∷ stage_hit exact_words_hit 0 stages ∷ stage_hit ternary_words_hit 0 stages ∷ [])

-- limits 10 to 13: units, and what they run
abbrev pub unit_limit_hit : List Stage → Option LimitHit
unit_limit_hit stages =
    first_passed (stage_hit slots_hit 0 stages ∷ stage_hit code_hit 0 stages ∷ stage_hit data_hit 0 stages ∷ stage_hit gates_hit 0 stages ∷ [])

-- limits 6 to 17
abbrev pub stage_limit_hit : List Stage → Option LimitHit
stage_limit_hit stages =
    first_passed (reading_limit_hit stages ∷ unit_limit_hit stages ∷ nodes_hit stages ∷ stage_hit width_hit 0 stages
    ∷ last_start_hit stages ∷ stage_hit listed_hit 0 stages ∷ [])

-- all limits
abbrev pub limit_hit : Config → Option LimitHit
limit_hit c = first_passed (stages_hit c ∷ parser_limit_hit c.parser ∷ stage_limit_hit c.stages ∷ [])

-- no limit is passed
abbrev pub IsWithinLimits : Config → Type 0
IsWithinLimits c = limit_hit c ≡ None
