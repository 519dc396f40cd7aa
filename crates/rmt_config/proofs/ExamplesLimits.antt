-- Each limit of the chip: a configuration at it, and one that passes it.
use Rattle.std.specs.Prelude.{◌≡◌, ℕ, ◌+◌, ◌*◌, List, [], ◌∷◌, ◌++◌, map, replicate, Option, Some, None, true, false, refl}
use Rattle.std.specs.List.{range_with_len}
use Rattle.rmt_bits.specs.declared.lane.Lane.{Lane}
use Rattle.rmt_config.specs.declared.limits.LimitHit.{LimitHit}
use Rattle.rmt_config.specs.Types.{Config, ParserState, ParserEntry, Stage, Unit, Memory}
use Rattle.rmt_config.specs.declared.config.Next.TheVariants as next
use Rattle.rmt_config.specs.declared.config.Extract.TheVariants.{One}
use Rattle.rmt_config.specs.declared.config.Unit.TheVariants.{Gate, Slot}
use Rattle.rmt_config.specs.declared.config.Memory.TheVariants.{Without, Exact, Ternary}
use Rattle.rmt_config.specs.Limits.{over, limit_hit}
use Rattle.rmt_config.proofs.ExamplesParts.{lane, plain_slot, plain_stage, one_byte}

-- ---- parts

-- the limit that is told, with its stage and its sum
abbrev passes : ℕ → ℕ → ℕ → Option LimitHit
passes limit stage sum = Some (record { limit = limit; stage = stage; sum = sum; need = 0 })

-- stages of these units, a cycle apart
abbrev stages_of : ℕ → List (List Unit) → List Stage
stages_of start [] = []
stages_of start (units ∷ more) = plain_stage start units [] ∷ stages_of (start + 1) more

abbrev of_units : List (List Unit) → Config
of_units stages = one_byte (stages_of 0 stages)

-- slots of so many nodes, from one on
abbrev plain_slots : ℕ → ℕ → List Unit
plain_slots node count = map (λ n. plain_slot n None) (range_with_len node count)

-- a slot with actions, data bits, key lanes and a memory
abbrev slot : ℕ → ℕ → ℕ → List Lane → Memory → Unit
slot node actions held keys memory = Slot (record { node = node; guard = None; counted = false; actions = actions; last = true; held = held; keys = keys; memory = memory; numbers = [] })

-- an exact memory of one quantum: its width, key blocks, record blocks, counter blocks
abbrev exact : ℕ → List ℕ → List ℕ → List ℕ → Memory
exact width keys records counters = Exact width 1 1 0 keys records counters

abbrev ternary : List ℕ → List ℕ → List ℕ → Memory
ternary keys records counters = Ternary 1 keys records counters

-- a slot with one action, and no data or key
abbrev with_memory : ℕ → Memory → Unit
with_memory node memory = slot node 1 0 [] memory

-- a gate with a test of each lane
abbrev gate_on : ℕ → List Lane → Unit
gate_on node lanes = Gate (record { node = node; guard = None; tests = map (λ tested. record { lane = tested; value = 0; mask = 0 }) lanes })

-- one bit of each of so many words of 32 bits
abbrev wide_words : ℕ → List Lane
wide_words count = map (λ n. lane n 0 1) (range_with_len 160 count)

abbrev state_with : ℕ → ParserState
state_with lookups = record { lookups = range_with_len 0 lookups }

abbrev entry_with : ℕ → ℕ → ParserEntry
entry_with need extracts = record { state = 0; value = 0; mask = 0; need = need; advance = 0; next = next.Accept; extracts = replicate extracts (One (lane 0 0 1)) }

abbrev of_parser : List ParserState → List ParserEntry → Config
of_parser states entries = record (one_byte []) { parser = record { states = states; entries = entries; tails = [] } }

-- ---- 1 and 3 to 5: the number of stages, and the parser

pub stages_at : limit_hit (of_units (map (λ n. plain_slots n 1) (range_with_len 0 32))) ≡ None
stages_at = refl

pub stages_past : limit_hit (of_units (map (λ n. plain_slots n 1) (range_with_len 0 33))) ≡ passes 1 0 33
stages_past = refl

pub parser_at : limit_hit (of_parser (replicate 256 (state_with 4)) (replicate 256 (entry_with 128 64))) ≡ None
parser_at = refl

pub entries_past : limit_hit (of_parser (replicate 300 (state_with 0)) (replicate 257 (entry_with 0 0))) ≡ passes 3 0 257
entries_past = refl

pub states_past : limit_hit (of_parser (replicate 300 (state_with 0)) (replicate 256 (entry_with 0 0))) ≡ passes 3 0 300
states_past = refl

pub lookups_past : limit_hit (of_parser (state_with 4 ∷ state_with 6 ∷ state_with 5 ∷ []) []) ≡ passes 4 0 6
lookups_past = refl

-- the first entry that passes tells its need, where that is above 128
pub need_past : limit_hit (of_parser (state_with 0 ∷ []) (entry_with 128 64 ∷ entry_with 129 65 ∷ [])) ≡ passes 5 0 129
need_past = refl

pub extracts_past : limit_hit (of_parser (state_with 0 ∷ []) (entry_with 128 66 ∷ entry_with 129 65 ∷ [])) ≡ passes 5 0 66
extracts_past = refl

-- ---- 6 and 7: blocks

pub sram_at : limit_hit (of_units ((with_memory 0 (exact 1 (range_with_len 0 50) (range_with_len 50 20) (range_with_len 70 10)) ∷ with_memory 1 (ternary [] (range_with_len 80 20) (range_with_len 100 6)) ∷ []) ∷ [])) ≡ None
sram_at = refl

pub sram_past : limit_hit (of_units ([] ∷ (with_memory 0 (exact 1 (range_with_len 0 50) (range_with_len 50 20) (range_with_len 70 10)) ∷ with_memory 1 (ternary [] (range_with_len 80 20) (range_with_len 100 7)) ∷ []) ∷ [])) ≡ passes 6 1 107
sram_past = refl

pub tcam_at : limit_hit (of_units ((with_memory 0 (ternary (range_with_len 0 7) [] []) ∷ with_memory 1 (ternary (range_with_len 7 9) [] []) ∷ []) ∷ [])) ≡ None
tcam_at = refl

pub tcam_past : limit_hit (of_units ((with_memory 0 (ternary (range_with_len 0 8) [] []) ∷ with_memory 1 (ternary (range_with_len 7 9) [] []) ∷ []) ∷ [])) ≡ passes 7 0 17
tcam_past = refl

-- ---- 8 and 9: crossbars

-- 20 words of 32 bits, which two keys both read
pub exact_words_at : limit_hit (of_units ((slot 0 1 0 (wide_words 20) (exact 1 [] [] []) ∷ slot 1 1 0 (wide_words 15) (exact 1 [] [] []) ∷ []) ∷ [])) ≡ None
exact_words_at = refl

-- and a bit of a word of 8
pub exact_words_past : limit_hit (of_units ((slot 0 1 0 (wide_words 20) (exact 1 [] [] []) ∷ slot 1 1 0 (lane 3 7 1 ∷ []) (exact 1 [] [] []) ∷ []) ∷ [])) ≡ passes 8 0 648
exact_words_past = refl

-- the two crossbars are counted apart
pub both_crossbars_at : limit_hit (of_units ((slot 0 1 0 (wide_words 20) (exact 1 [] [] []) ∷ slot 1 1 0 (lane 3 7 1 ∷ lane 4 0 8 ∷ []) (ternary [] [] []) ∷ []) ∷ [])) ≡ None
both_crossbars_at = refl

-- gates and ternary keys share a crossbar
pub ternary_words_at : limit_hit (of_units ((gate_on 0 (wide_words 20) ∷ slot 1 1 0 (wide_words 12) (ternary [] [] []) ∷ []) ∷ [])) ≡ None
ternary_words_at = refl

pub ternary_words_past : limit_hit (of_units ((gate_on 0 (wide_words 20) ∷ slot 1 1 0 (lane 100 2 3 ∷ lane 100 5 3 ∷ []) (ternary [] [] []) ∷ []) ∷ [])) ≡ passes 9 0 656
ternary_words_past = refl

-- ---- 10 to 13: slots, instructions, data bits, gates

pub slots_at : limit_hit (of_units (plain_slots 0 16 ∷ [])) ≡ None
slots_at = refl

pub slots_past : limit_hit (of_units (plain_slots 0 1 ∷ plain_slots 1 17 ∷ plain_slots 18 18 ∷ [])) ≡ passes 10 1 17
slots_past = refl

-- each slot has its default's instruction too
pub code_at : limit_hit (of_units ((slot 0 14 0 [] Without ∷ slot 1 14 0 [] Without ∷ slot 2 1 0 [] Without ∷ []) ∷ [])) ≡ None
code_at = refl

pub code_past : limit_hit (of_units ((slot 0 14 0 [] Without ∷ slot 1 14 0 [] Without ∷ slot 2 2 0 [] Without ∷ []) ∷ [])) ≡ passes 11 0 33
code_past = refl

pub data_at : limit_hit (of_units ((slot 0 1 1000 [] Without ∷ slot 1 1 280 [] Without ∷ []) ∷ [])) ≡ None
data_at = refl

pub data_past : limit_hit (of_units ((slot 0 1 1000 [] Without ∷ slot 1 1 281 [] Without ∷ []) ∷ [])) ≡ passes 12 0 1281
data_past = refl

pub gates_at : limit_hit (of_units (map (λ n. gate_on n (lane 0 0 1 ∷ [])) (range_with_len 0 16) ∷ [])) ≡ None
gates_at = refl

pub gates_past : limit_hit (of_units (map (λ n. gate_on n (lane 0 0 1 ∷ [])) (range_with_len 0 17) ∷ [])) ≡ passes 13 0 17
gates_past = refl

-- a limit of a smaller number is told first, also where its stage stands behind
pub number_before_stage : limit_hit (of_units ((slot 0 1 1281 [] Without ∷ []) ∷ plain_slots 1 17 ∷ [])) ≡ passes 10 1 17
number_before_stage = refl

-- ---- 14: nodes

-- nodes 0 to 127, in eight stages
abbrev full_stages : List (List Unit)
full_stages = map (λ k. plain_slots (16 * k) 16) (range_with_len 0 8)

-- node 127 is split: it has a unit more, and is one node
pub nodes_at : limit_hit (of_units (full_stages ++ plain_slots 127 1 ∷ [])) ≡ None
nodes_at = refl

-- the 129th node stands in stage 9, and there are 131
pub nodes_past : limit_hit (of_units (full_stages ++ plain_slots 127 1 ∷ plain_slots 200 2 ∷ plain_slots 255 1 ∷ [])) ≡ passes 14 9 131
nodes_past = refl

-- ---- 15 to 17: width, last start, blocks listed twice

pub width_at : limit_hit (of_units ((with_memory 0 (exact 8 [] [] []) ∷ []) ∷ [])) ≡ None
width_at = refl

pub width_past : limit_hit (of_units ((with_memory 0 (exact 2 [] [] []) ∷ []) ∷ (with_memory 1 (exact 9 [] [] []) ∷ with_memory 2 (exact 1 [] [] []) ∷ []) ∷ [])) ≡ passes 15 1 9
width_past = refl

pub last_start_at : limit_hit (one_byte (plain_stage 0 [] [] ∷ plain_stage 372 [] [] ∷ [])) ≡ None
last_start_at = refl

pub last_start_past : limit_hit (one_byte (plain_stage 0 [] [] ∷ plain_stage 373 [] [] ∷ [])) ≡ passes 16 1 373
last_start_past = refl

-- an SRAM and a TCAM block of one number are two blocks, and so are those of two stages
pub listed_at : limit_hit (of_units ((with_memory 0 (exact 1 (3 ∷ 4 ∷ []) (5 ∷ []) []) ∷ with_memory 1 (ternary (3 ∷ 4 ∷ []) (6 ∷ []) []) ∷ []) ∷ (with_memory 2 (exact 1 (3 ∷ []) [] []) ∷ []) ∷ [])) ≡ None
listed_at = refl

pub listed_past : limit_hit (of_units ([] ∷ (with_memory 0 (exact 1 (3 ∷ 4 ∷ []) (5 ∷ []) (3 ∷ [])) ∷ with_memory 1 (ternary (9 ∷ []) (4 ∷ 3 ∷ []) []) ∷ []) ∷ [])) ≡ passes 17 1 3
listed_past = refl

pub listed_tcam_past : limit_hit (of_units ((with_memory 0 (ternary (15 ∷ []) [] []) ∷ with_memory 1 (ternary (0 ∷ 15 ∷ []) [] []) ∷ []) ∷ [])) ≡ passes 17 0 2
listed_tcam_past = refl

-- ---- a sum that no number of 32 bits says

pub told_whole : over 16 10 3 4294967294 ≡ passes 10 3 4294967294
told_whole = refl

pub told_at_most : over 16 10 3 5000000000 ≡ passes 10 3 4294967295
told_at_most = refl
