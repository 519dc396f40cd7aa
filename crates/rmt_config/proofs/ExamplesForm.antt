-- The rules of form of items: for each rule an item that keeps it, and one that breaks it.
use Rattle.std.specs.Prelude.{◌≡◌, ℕ, ◌-◌, ◌*◌, ◌^◌, List, [], ◌∷◌, map, replicate, Option, Some, None, true, false, refl}
use Rattle.rmt_bits.specs.declared.lane.Lane.{Lane}
use Rattle.rmt_config.specs.Types.{Config, OutHeader, ParserConfig, ParserState, ParserEntry, Stage, Unit, GateUnit, GateTest, UnitGuard, SlotUnit, Memory, Vliw, Operation}
use Rattle.rmt_config.specs.declared.config.Next.TheVariants.{Accept, State}
use Rattle.rmt_config.specs.declared.config.Extract.TheVariants.{Bits, One}
use Rattle.rmt_config.specs.declared.config.Unit.TheVariants.{Gate, Slot}
use Rattle.rmt_config.specs.declared.config.Memory.TheVariants.{Without, Exact, Ternary}
use Rattle.rmt_config.specs.declared.config.OpKind.TheVariants as kind
use Rattle.rmt_config.specs.declared.config.Source.TheVariants.{Word, Held, Constant}
use Rattle.rmt_config.specs.declared.form.code.InstructionRole.{InstructionRole}
use Rattle.rmt_config.specs.declared.form.block_counts.BlockCounts.{BlockCounts}
use Rattle.rmt_config.specs.LaneForm.{lane_is_formed, ports_are_formed, header_is_formed, headers_are_formed}
use Rattle.rmt_config.specs.ParserForm.{state_is_formed, states_are_formed, extract_is_formed, next_is_formed, match_is_formed, entry_is_formed, parser_is_formed}
use Rattle.rmt_config.specs.BlockCounts.{exact_block_counts, ternary_block_counts}
use Rattle.rmt_config.specs.UnitForm.{guard_is_formed, test_is_formed, gate_is_formed, number_is_formed, slot_is_formed}
use Rattle.rmt_config.specs.CodeForm.{places_of, source_is_formed, operation_is_formed, vliw_is_formed, code_is_formed}
use Rattle.rmt_config.specs.StageForm.{srow_fits, trow_fits, stage_is_formed, stages_are_formed, starts_are_formed}
use Rattle.rmt_config.specs.Form.{items_are_formed}
use Rattle.rmt_config.proofs.ExamplesParts.{lane, chip, copy, instruction, table_slot, plain_slot, plain_stage}

-- ---- lanes and ports

-- the words have 8, 16 and 32 bits, and 223 is the last: of each size a lane that ends with its word and one that goes past it, then one of no word, and one of no bit
pub lanes : map lane_is_formed (lane 63 0 8 ∷ lane 63 7 2 ∷ lane 159 15 1 ∷ lane 159 0 17 ∷ lane 223 0 32 ∷ lane 223 0 33 ∷ lane 224 0 1 ∷ lane 0 0 0 ∷ [])
    ≡ true ∷ false ∷ true ∷ false ∷ true ∷ false ∷ false ∷ false ∷ []
lanes = refl

-- a configuration without headers and stages, whose parser accepts each packet
abbrev pub accepts_all : Config
accepts_all = record
    (chip []
    (record { states = record { lookups = [] } ∷ []; entries = record { state = 0; value = 0; mask = 0; need = 0; advance = 0; next = Accept; extracts = [] } ∷ []; tails = [] })
    [])
    { seed = 255; out_port = lane 65 7 9; drop = lane 0 7 1 }

pub accepts_all-formed : items_are_formed accepts_all ≡ true
accepts_all-formed = refl

pub wide_seed : ports_are_formed (record accepts_all { seed = 256 }) ≡ false
wide_seed = refl

pub narrow_in_port : ports_are_formed (record accepts_all { in_port = lane 64 0 8 }) ≡ false
narrow_in_port = refl

pub wide_out_port : ports_are_formed (record accepts_all { out_port = lane 65 0 10 }) ≡ false
wide_out_port = refl

pub wide_drop : ports_are_formed (record accepts_all { drop = lane 0 0 2 }) ≡ false
wide_drop = refl

-- ---- headers

abbrev header : ℕ → List Lane → OutHeader
header bytes pieces = record { valid = lane 0 0 1; bytes = bytes; pieces = pieces }

pub header_of_64 : header_is_formed (header 64 (replicate 16 (lane 160 0 32))) ≡ true
header_of_64 = refl

pub header_of_65 : header_is_formed (header 65 (replicate 65 (lane 0 0 8))) ≡ false
header_of_65 = refl

pub header_of_none : header_is_formed (header 0 []) ≡ false
header_of_none = refl

pub header_lacks_bit : header_is_formed (header 2 (lane 1 0 8 ∷ lane 2 0 7 ∷ [])) ≡ false
header_lacks_bit = refl

pub header_valid_wide : header_is_formed (record { valid = lane 0 0 2; bytes = 1; pieces = lane 1 0 8 ∷ [] }) ≡ false
header_valid_wide = refl

-- 32 bytes in 255 pieces and in 256
pub header_255_pieces : header_is_formed (header 32 (lane 0 0 2 ∷ replicate 254 (lane 0 0 1))) ≡ true
header_255_pieces = refl

pub header_256_pieces : header_is_formed (header 32 (replicate 256 (lane 0 0 1))) ≡ false
header_256_pieces = refl

pub headers_64 : headers_are_formed (replicate 64 (header 1 (lane 1 0 8 ∷ []))) ≡ true
headers_64 = refl

pub headers_65 : headers_are_formed (replicate 65 (header 1 (lane 1 0 8 ∷ []))) ≡ false
headers_65 = refl

-- ---- states of the parser, and what an entry looks at

abbrev looks_at : List ℕ → ParserState
looks_at offsets = record { lookups = offsets }

pub offsets_to_127 : state_is_formed (looks_at (0 ∷ 12 ∷ 13 ∷ 126 ∷ 127 ∷ [])) ≡ true
offsets_to_127 = refl

pub offset_128 : state_is_formed (looks_at (12 ∷ 128 ∷ [])) ≡ false
offset_128 = refl

pub offset_twice : state_is_formed (looks_at (12 ∷ 12 ∷ [])) ≡ false
offset_twice = refl

pub offsets_fall : state_is_formed (looks_at (13 ∷ 12 ∷ [])) ≡ false
offsets_fall = refl

pub one_state : states_are_formed (looks_at [] ∷ []) ≡ true
one_state = refl

pub no_state : states_are_formed [] ≡ false
no_state = refl

-- an entry of state 0, which needs 20 bytes and accepts
abbrev entry : ℕ → ℕ → ParserEntry
entry value mask = record { state = 0; value = value; mask = mask; need = 20; advance = 14; next = Accept; extracts = [] }

-- no byte is looked at
pub match_none : match_is_formed 0 (entry 0 0) ≡ true
match_none = refl

pub match_absent : match_is_formed 0 (entry 0 0x80000000) ≡ false
match_absent = refl

-- one byte, the highest of the four
pub match_one : match_is_formed 1 (entry 0x45000000 0xff000000) ≡ true
match_one = refl

pub match_second_of_one : match_is_formed 1 (entry 0x45000000 0xff800000) ≡ false
match_second_of_one = refl

-- two and three bytes
pub match_two : match_is_formed 2 (entry 0x08000000 0xffff0000) ≡ true
match_two = refl

pub match_third_of_two : match_is_formed 2 (entry 0x08000000 0xffff8000) ≡ false
match_third_of_two = refl

pub match_three : match_is_formed 3 (entry 0x08000600 0xffffff00) ≡ true
match_three = refl

pub match_fourth_of_three : match_is_formed 3 (entry 0x08000600 0xffffff80) ≡ false
match_fourth_of_three = refl

-- four bytes; a fifth has no place in a mask, and is past a limit of the chip
pub match_four : match_is_formed 4 (entry 0x08004501 0xffffffff) ≡ true
match_four = refl

pub match_five : match_is_formed 5 (entry 0x08004501 0xffffffff) ≡ true
match_five = refl

pub match_wide : match_is_formed 4 (entry 0 0x100000000) ≡ false
match_wide = refl

pub value_outside_mask : match_is_formed 4 (entry 0x08004501 0xfffffffe) ≡ false
value_outside_mask = refl

-- ---- entries of the parser

abbrev two_states : List ParserState
two_states = looks_at (12 ∷ 13 ∷ []) ∷ looks_at [] ∷ []

abbrev goes_on : ParserEntry
goes_on = record (entry 0x08000000 0xffff0000) { next = State 1; extracts = One (lane 0 0 1) ∷ Bits 0 (lane 160 0 32) ∷ Bits 152 (lane 1 0 8) ∷ [] }

pub goes_on-formed : entry_is_formed two_states goes_on ≡ true
goes_on-formed = refl

pub entry_looks_elsewhere : entry_is_formed two_states (record goes_on { state = 1; next = Accept }) ≡ false
entry_looks_elsewhere = refl

pub entry_of_no_state : entry_is_formed two_states (record (entry 0 0) { state = 2 }) ≡ false
entry_of_no_state = refl

pub entry_stays : next_is_formed 2 1 (State 1) ≡ false
entry_stays = refl

pub entry_goes_back : next_is_formed 2 1 (State 0) ≡ false
entry_goes_back = refl

pub entry_goes_nowhere : next_is_formed 2 1 (State 2) ≡ false
entry_goes_nowhere = refl

-- a state's number is one byte, however many states there are
pub entry_goes_to_255 : next_is_formed 300 254 (State 255) ≡ true
entry_goes_to_255 = refl

pub entry_goes_to_256 : next_is_formed 300 254 (State 256) ≡ false
entry_goes_to_256 = refl

pub advance_to_need : entry_is_formed two_states (record goes_on { advance = 20 }) ≡ true
advance_to_need = refl

pub advance_past_need : entry_is_formed two_states (record goes_on { advance = 21 }) ≡ false
advance_past_need = refl

pub need_256 : entry_is_formed two_states (record goes_on { need = 256 }) ≡ false
need_256 = refl

pub extract_last_bit : extract_is_formed 20 (Bits 159 (lane 1 0 1)) ≡ true
extract_last_bit = refl

pub extract_past_need : extract_is_formed 20 (Bits 153 (lane 1 0 8)) ≡ false
extract_past_need = refl

pub extract_wide_one : extract_is_formed 20 (One (lane 0 0 2)) ≡ false
extract_wide_one = refl

pub extracts_256 : entry_is_formed two_states (record goes_on { extracts = replicate 256 (One (lane 0 0 1)) }) ≡ false
extracts_256 = refl

abbrev parser_of : List ParserEntry → ParserConfig
parser_of entries = record { states = two_states; entries = entries; tails = [] }

pub entries_by_state : parser_is_formed (parser_of (goes_on ∷ entry 0 0 ∷ record (entry 0 0) { state = 1 } ∷ [])) ≡ true
entries_by_state = refl

pub entries_mixed : parser_is_formed (parser_of (record (entry 0 0) { state = 1 } ∷ goes_on ∷ [])) ≡ false
entries_mixed = refl

-- ---- guards and gates

abbrev guarded : ℕ → Option UnitGuard
guarded mask = Some (record { parent = 255; mask = mask })

-- without a guard, for a hit, never, for what did not run, and with a bit too many
pub guards : map guard_is_formed (None ∷ guarded 0xfffe ∷ guarded 0 ∷ guarded 3 ∷ guarded 0x10000 ∷ []) ≡ true ∷ true ∷ true ∷ false ∷ false ∷ []
guards = refl

abbrev tests : ℕ → ℕ → GateTest
tests value mask = record { lane = lane 0 2 4; value = value; mask = mask }

pub test_of_4_bits : test_is_formed (tests 9 15) ≡ true
test_of_4_bits = refl

pub test_mask_wide : test_is_formed (tests 9 31) ≡ false
test_mask_wide = refl

pub test_value_outside : test_is_formed (tests 9 8) ≡ false
test_value_outside = refl

abbrev gate : List GateTest → GateUnit
gate ts = record { node = 0; guard = guarded 2; tests = ts }

pub gate_of_two : gate_is_formed (gate (tests 9 15 ∷ tests 0 0 ∷ [])) ≡ true
gate_of_two = refl

pub gate_of_none : gate_is_formed (gate []) ≡ false
gate_of_none = refl

pub gate_of_256 : gate_is_formed (gate (replicate 256 (tests 9 15))) ≡ false
gate_of_256 = refl

pub gate_of_wide_node : gate_is_formed (record (gate (tests 9 15 ∷ [])) { node = 256 }) ≡ false
gate_of_wide_node = refl

-- ---- slots without memory

abbrev bare : SlotUnit
bare = table_slot 0 0 0 [] Without []

pub bare-formed : slot_is_formed bare ≡ true
bare-formed = refl

pub bare_counted : slot_is_formed (record bare { counted = true }) ≡ false
bare_counted = refl

pub bare_with_action : slot_is_formed (record bare { actions = 1 }) ≡ false
bare_with_action = refl

pub bare_not_last : slot_is_formed (record bare { last = false }) ≡ false
bare_not_last = refl

pub bare_with_data : slot_is_formed (record bare { held = 1 }) ≡ false
bare_with_data = refl

pub bare_with_key : slot_is_formed (record bare { keys = lane 0 0 8 ∷ [] }) ≡ false
bare_with_key = refl

pub bare_with_number : slot_is_formed (record bare { numbers = record { cell = 0; number = 0 } ∷ [] }) ≡ false
bare_with_number = refl

-- ---- how many blocks there are

abbrev blocks : ℕ → ℕ → ℕ → BlockCounts
blocks keys records counters = record { keys = keys; records = records; counters = counters }

-- one quantum of units of one block and one cell a row, 4,096 cells, with records of so many bits: none, 112, 2 and 1 in a row, and 1 in a row of two blocks
pub exact_blocks : map (λ held. exact_block_counts 1 1 1 held true) (0 ∷ 1 ∷ 40 ∷ 112 ∷ 113 ∷ []) ≡ blocks 4 0 4 ∷ blocks 4 1 4 ∷ blocks 4 2 4 ∷ blocks 4 4 4 ∷ blocks 4 8 4 ∷ []
exact_blocks = refl

-- two quanta of units of three blocks and five cells a row: 20 records to 1,024 rows in each, 10 units
pub exact_two_quanta : exact_block_counts 3 5 2 40 true ≡ blocks 24 20 40
exact_two_quanta = refl

pub exact_not_counted : exact_block_counts 3 5 2 40 false ≡ blocks 24 20 0
exact_not_counted = refl

-- one quantum of 2,048 rows, whose records have 8 bits more: 14, 2 and 1 in a row, and 1 in a row of two blocks
pub ternary_no_data : ternary_block_counts 40 1 0 true ≡ blocks 1 1 2
ternary_no_data = refl

pub ternary_40_bits : ternary_block_counts 41 1 40 true ≡ blocks 2 1 2
ternary_40_bits = refl

pub ternary_104_bits : ternary_block_counts 80 1 104 true ≡ blocks 2 2 2
ternary_104_bits = refl

pub ternary_105_bits : ternary_block_counts 81 1 105 true ≡ blocks 3 4 2
ternary_105_bits = refl

pub ternary_two_quanta : ternary_block_counts 640 2 105 false ≡ blocks 32 8 0
ternary_two_quanta = refl

-- ---- slots with memory

-- a counted slot with one action
abbrev with_memory : List Lane → ℕ → Memory → SlotUnit
with_memory keys held memory = record { node = 1; guard = guarded 4; counted = true; actions = 1; last = false; held = held; keys = keys; memory = memory; numbers = record { cell = 0; number = 9 } ∷ [] }

-- units of one block with so many cells of 8 bits and the key's
abbrev exact_slot : ℕ → List Lane → SlotUnit
exact_slot cells keys = with_memory keys 40 (Exact 1 cells 1 0 (0 ∷ 1 ∷ 2 ∷ 3 ∷ []) (replicate (2 * cells) 4) (replicate (4 * cells) 105))

-- four cells of 28 bits fill a row of 112 bits
pub cells_fill_row : slot_is_formed (exact_slot 4 (lane 160 0 20 ∷ [])) ≡ true
cells_fill_row = refl

pub cell_too_many : slot_is_formed (exact_slot 5 (lane 160 0 20 ∷ [])) ≡ false
cell_too_many = refl

-- one cell of 112 bits, and of 113
pub cell_fills_row : slot_is_formed (exact_slot 1 (lane 160 0 8 ∷ replicate 3 (lane 161 0 32))) ≡ true
cell_fills_row = refl

pub cell_one_bit_wide : slot_is_formed (exact_slot 1 (lane 160 0 9 ∷ replicate 3 (lane 161 0 32))) ≡ false
cell_one_bit_wide = refl

-- a part of that many quanta of one cell a row, without data
abbrev exact_of_quanta : ℕ → SlotUnit
exact_of_quanta d = with_memory (lane 160 0 32 ∷ []) 0 (Exact 1 1 d 4 (replicate (4 * d) 0) [] (replicate (4 * d) 1))

pub quanta : map (λ d. slot_is_formed (exact_of_quanta d)) (106 ∷ 107 ∷ 0 ∷ []) ≡ true ∷ false ∷ false ∷ []
quanta = refl

pub width_0 : slot_is_formed (with_memory (lane 160 0 32 ∷ []) 0 (Exact 0 1 1 0 [] [] (replicate 4 1))) ≡ false
width_0 = refl

pub cells_0 : slot_is_formed (with_memory (lane 160 0 32 ∷ []) 0 (Exact 1 0 1 0 (replicate 4 0) [] [])) ≡ false
cells_0 = refl

pub key_block_missing : slot_is_formed (with_memory (lane 160 0 32 ∷ []) 0 (Exact 1 1 1 0 (replicate 3 0) [] (replicate 4 1))) ≡ false
key_block_missing = refl

pub exact_block_106 : slot_is_formed (with_memory (lane 160 0 32 ∷ []) 0 (Exact 1 1 1 0 (0 ∷ 1 ∷ 2 ∷ 106 ∷ []) [] (replicate 4 1))) ≡ false
exact_block_106 = refl

-- a ternary part of one quantum, without data
abbrev ternary_slot : List Lane → List ℕ → SlotUnit
ternary_slot keys tcam = with_memory keys 0 (Ternary 1 tcam (105 ∷ []) (0 ∷ 1 ∷ []))

pub key_of_640 : slot_is_formed (ternary_slot (replicate 20 (lane 161 0 32)) (replicate 16 15)) ≡ true
key_of_640 = refl

pub key_of_641 : slot_is_formed (ternary_slot (lane 0 0 1 ∷ replicate 20 (lane 161 0 32)) (replicate 17 15)) ≡ false
key_of_641 = refl

pub key_of_none : slot_is_formed (ternary_slot [] []) ≡ false
key_of_none = refl

pub tcam_block_16 : slot_is_formed (ternary_slot (lane 160 0 32 ∷ []) (16 ∷ [])) ≡ false
tcam_block_16 = refl

pub record_block_missing : slot_is_formed (with_memory (lane 160 0 32 ∷ []) 0 (Ternary 1 (15 ∷ []) [] (0 ∷ 1 ∷ []))) ≡ false
record_block_missing = refl

pub counter_blocks_uncounted : slot_is_formed (record (ternary_slot (lane 160 0 32 ∷ []) (15 ∷ [])) { counted = false }) ≡ false
counter_blocks_uncounted = refl

pub actions_14 : slot_is_formed (record (ternary_slot (lane 160 0 32 ∷ []) (15 ∷ [])) { actions = 14 }) ≡ true
actions_14 = refl

pub actions_15 : slot_is_formed (record (ternary_slot (lane 160 0 32 ∷ []) (15 ∷ [])) { actions = 15 }) ≡ false
actions_15 = refl

pub actions_0 : slot_is_formed (record (ternary_slot (lane 160 0 32 ∷ []) (15 ∷ [])) { actions = 0 }) ≡ false
actions_0 = refl

pub slot_guard : slot_is_formed (record (ternary_slot (lane 160 0 32 ∷ []) (15 ∷ [])) { guard = guarded 1 }) ≡ false
slot_guard = refl

pub cell_number_wide : number_is_formed (record { cell = 0x100000000; number = 0 }) ≡ false
cell_number_wide = refl

-- ---- instructions

-- an instruction of a slot with 9 bits of data, and its default
abbrev own : InstructionRole
own = record { held = 9; is_default = false }

abbrev default : InstructionRole
default = record { held = 9; is_default = true }

abbrev operation : Operation
operation = copy 65 0 9 (Held 0)

pub copy_of_data : operation_is_formed own operation ≡ true
copy_of_data = refl

pub copy_of_data_in_default : operation_is_formed default operation ≡ false
copy_of_data_in_default = refl

pub copy_past_data : operation_is_formed own (copy 65 0 9 (Held 1)) ≡ false
copy_past_data = refl

pub copy_past_lane : operation_is_formed own (copy 65 8 9 (Held 0)) ≡ false
copy_past_lane = refl

pub copy_with_one : operation_is_formed own (record operation { right = Constant 1 }) ≡ false
copy_with_one = refl

pub copy_with_word : operation_is_formed own (record operation { right = Word 64 0 }) ≡ false
copy_with_word = refl

pub sum_with_word : operation_is_formed own (record operation { kind = kind.Add; right = Word 64 7 }) ≡ true
sum_with_word = refl

pub sum_past_word : operation_is_formed own (record operation { kind = kind.Add; right = Word 64 8 }) ≡ false
sum_past_word = refl

pub sum_with_no_word : operation_is_formed own (record operation { kind = kind.Add; right = Word 224 0 }) ≡ false
sum_with_no_word = refl

pub constant_of_9_bits : operation_is_formed default (copy 65 0 9 (Constant 511)) ≡ true
constant_of_9_bits = refl

pub constant_wide : operation_is_formed default (copy 65 0 9 (Constant 512)) ≡ false
constant_wide = refl

pub constant_of_32_bits : source_is_formed default 32 (Constant 0xffffffff) ≡ true
constant_of_32_bits = refl

pub operations_rise : vliw_is_formed own (instruction (copy 65 0 9 (Held 0) ∷ copy 66 0 1 (Constant 1) ∷ [])) ≡ true
operations_rise = refl

pub operations_of_one_word : vliw_is_formed own (instruction (copy 65 0 9 (Held 0) ∷ copy 65 9 1 (Constant 1) ∷ [])) ≡ false
operations_of_one_word = refl

pub operations_fall : vliw_is_formed own (instruction (copy 66 0 1 (Constant 1) ∷ copy 65 0 9 (Held 0) ∷ [])) ≡ false
operations_fall = refl

-- a gate, a slot with one action and 9 bits of data, and one without memory have three instructions
abbrev units : List Unit
units = Gate (gate (tests 9 15 ∷ [])) ∷ Slot (with_memory (lane 160 0 32 ∷ []) 9 (Ternary 1 (15 ∷ []) (105 ∷ []) (0 ∷ 1 ∷ []))) ∷ plain_slot 2 None ∷ []

abbrev forward : Vliw
forward = instruction (operation ∷ [])

abbrev nothing : Vliw
nothing = instruction []

pub code_of_units : code_is_formed (places_of units) (forward ∷ nothing ∷ nothing ∷ []) ≡ true
code_of_units = refl

pub code_in_default : code_is_formed (places_of units) (nothing ∷ forward ∷ nothing ∷ []) ≡ false
code_in_default = refl

pub code_without_data : code_is_formed (places_of units) (nothing ∷ nothing ∷ forward ∷ []) ≡ false
code_without_data = refl

pub code_short : code_is_formed (places_of units) (forward ∷ nothing ∷ []) ≡ false
code_short = refl

pub code_long : code_is_formed (places_of units) (forward ∷ nothing ∷ nothing ∷ nothing ∷ []) ≡ false
code_long = refl

-- ---- stages

abbrev stage : ℕ → Stage
stage start = record {
  start = start;
  units = units;
  code = forward ∷ nothing ∷ nothing ∷ [];
  srows = record { block = 105; row = 65535; bits = 2 ^ 112 - 1 } ∷ [];
  trows = record { block = 15; row = 65535; value = 2 ^ 40 - 1; mask = 2 ^ 40 - 1 } ∷ [];
}

pub stage-formed : stage_is_formed (stage 65535) ≡ true
stage-formed = refl

pub stage_late : stage_is_formed (stage 65536) ≡ false
stage_late = refl

pub units_256 : stage_is_formed (plain_stage 0 (replicate 256 (plain_slot 0 None)) (replicate 256 nothing)) ≡ false
units_256 = refl

pub starts_rise : starts_are_formed (0 ∷ 1 ∷ 13 ∷ []) ≡ true
starts_rise = refl

pub starts_late : starts_are_formed (1 ∷ 2 ∷ []) ≡ false
starts_late = refl

pub starts_stay : starts_are_formed (0 ∷ 0 ∷ []) ≡ false
starts_stay = refl

pub starts_fall : starts_are_formed (0 ∷ 13 ∷ 12 ∷ []) ≡ false
starts_fall = refl

pub stages_256 : stages_are_formed (replicate 256 (plain_stage 0 [] [])) ≡ false
stages_256 = refl

pub srow_of_block_106 : srow_fits (record { block = 106; row = 0; bits = 1 }) ≡ false
srow_of_block_106 = refl

pub srow_of_113_bits : srow_fits (record { block = 0; row = 0; bits = 2 ^ 112 }) ≡ false
srow_of_113_bits = refl

pub trow_of_block_16 : trow_fits (record { block = 16; row = 0; value = 0; mask = 1 }) ≡ false
trow_of_block_16 = refl

pub trow_of_41_bits : trow_fits (record { block = 0; row = 0; value = 0; mask = 2 ^ 40 }) ≡ false
trow_of_41_bits = refl

-- ---- a whole configuration

pub two_stages-formed : items_are_formed (record accepts_all { headers = header 1 (lane 1 0 8 ∷ []) ∷ []; parser = parser_of (goes_on ∷ []); stages = stage 0 ∷ stage 3 ∷ [] }) ≡ true
two_stages-formed = refl

pub two_stages-at_once : items_are_formed (record accepts_all { stages = stage 0 ∷ stage 0 ∷ [] }) ≡ false
two_stages-at_once = refl
