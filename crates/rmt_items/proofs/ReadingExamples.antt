-- Worked rows of reading: items, and the first fault that is met.
use Rattle.std.proofs.Common.{◌≡◌, ℕ, List, [], ◌∷◌, Bool, Some, None, Ok, Err, refl, true, false}
use Rattle.std.specs.Prelude.{codes}
use Rattle.rmt_bits.specs.declared.lane.Lane.{Lane}
use Rattle.rmt_ast.specs.declared.program.Kind.TheVariants as table
use Rattle.rmt_ast.specs.declared.names.Names.{Names}
use Rattle.rmt_items.specs.Types.{Config, ParserState, SlotUnit, Memory, Vliw, Source, TailOf}
use Rattle.rmt_config.specs.declared.config.Unit.TheVariants.{Slot}
use Rattle.rmt_config.specs.declared.config.Next.TheVariants as next
use Rattle.rmt_config.specs.declared.config.Extract.TheVariants.{Bits}
use Rattle.rmt_config.specs.declared.config.Memory.TheVariants.{Without, Exact, Ternary}
use Rattle.rmt_config.specs.declared.config.Source.TheVariants.{Word, Held, Constant}
use Rattle.rmt_config.specs.Spelling.{spelled_config}
use Rattle.rmt_config.proofs.ExamplesParts.{lane, copy, instruction, plain_slot, plain_stage, one_byte}
use Rattle.rmt_config.specs.ImageSpelling.{spelled_names}
use Rattle.rmt_items.specs.declared.fault.ReadFault.TheVariants.{Short, Form}
use Rattle.rmt_items.specs.Readers.{byte_at, number_at, fours_at, items_at}
use Rattle.rmt_items.specs.Reading.{word_at, lane_from_at, lane_at, lane_of_at, header_at, offset_at, state_at, states_at, entry_state_at, match_at, need_at, entry_head_at, entry_at, later_state_at, next_at, bits_at, extract_at, guard_at, test_at, gate_at, block_at, blocks_at, exact_format_at, format_at, exact_at, ternary_at, memory_at, source_at, srow_at, trow_at}
use Rattle.rmt_items.specs.ReadingNames.{bytes_at, name_at, action_at, rank_at, table_kind_at, table_body_at, table_at, names_at}
use Rattle.rmt_items.specs.ReadingTails.{tail_entry_at, field_at, lengths_at, tail_at, tails_at}

-- ---- lanes and headers

lane-read : lane_at (64 ∷ 0 ∷ 9 ∷ 7 ∷ []) ≡ Ok (record { word = 64; low = 0; len = 9 }, 7 ∷ [])
unfolding lane_at lane_from_at word_at byte_at
lane-read = refl

-- no word 224, though the bytes end behind it; 17 bits of a word of 16; no length
lane-refused : (lane_at (224 ∷ []) ≡ Err Form) × (lane_at (64 ∷ 0 ∷ 17 ∷ []) ≡ Err Form) × (lane_at (64 ∷ 0 ∷ []) ≡ Err Short)
unfolding lane_at lane_from_at word_at byte_at
lane-refused = (refl, refl, refl)

-- a header of one byte whose lane has only seven bits
header-gap : header_at (1 ∷ 0 ∷ 1 ∷ 1 ∷ 1 ∷ 2 ∷ 0 ∷ 7 ∷ []) ≡ Err Form
unfolding header_at lane_of_at lane_at lane_from_at word_at byte_at items_at
header-gap = refl

-- ---- the parser

state-read : state_at (2 ∷ 0 ∷ 12 ∷ 9 ∷ []) ≡ Ok (record { lookups = 0 ∷ 12 ∷ [] }, 9 ∷ [])
unfolding state_at offset_at byte_at items_at
state-read = refl

-- offsets that do not rise, and one above 127
state-refused : (state_at (2 ∷ 12 ∷ 12 ∷ []) ≡ Err Form) × (state_at (1 ∷ 128 ∷ []) ≡ Err Form)
unfolding state_at offset_at byte_at items_at
state-refused = (refl, refl)

states-none : states_at (0 ∷ 0 ∷ []) ≡ Err Form
unfolding states_at number_at
states-none = refl

next-read : next_at 3 1 (2 ∷ 2 ∷ []) ≡ Ok (next.State 2, [])
unfolding next_at later_state_at byte_at
next-read = refl

-- a state that isn't later, and a choice that isn't there
next-earlier : next_at 3 1 (2 ∷ 1 ∷ []) ≡ Err Form
unfolding next_at later_state_at byte_at
next-earlier = refl

next-no_choice : next_at 3 1 (3 ∷ []) ≡ Err Form
unfolding next_at
next-no_choice = refl

extract-read : extract_at 1 (0 ∷ 0 ∷ 0 ∷ 1 ∷ 0 ∷ 8 ∷ []) ≡ Ok (Bits 0 (record { word = 1; low = 0; len = 8 }), [])
unfolding extract_at bits_at lane_at lane_from_at word_at byte_at number_at
extract-read = refl

-- the ninth bit of one byte
extract-past : extract_at 1 (0 ∷ 0 ∷ 1 ∷ 1 ∷ 0 ∷ 8 ∷ []) ≡ Err Form
unfolding extract_at bits_at lane_at lane_from_at word_at byte_at number_at
extract-past = refl

-- two states, the first with one lookup byte
abbrev two_states : List ParserState
two_states = record { lookups = 0 ∷ [] } ∷ record { lookups = [] } ∷ []

entry-read : entry_at two_states 0 (0 ∷ 8 ∷ 0 ∷ 0 ∷ 0 ∷ 255 ∷ 0 ∷ 0 ∷ 0 ∷ 2 ∷ 2 ∷ 2 ∷ 1 ∷ 0 ∷ [])
    ≡ Ok (record { state = 0; value = 134217728; mask = 4278190080; need = 2; advance = 2; next = next.State 1; extracts = [] }, [])
unfolding entry_at entry_head_at entry_state_at match_at need_at next_at later_state_at byte_at fours_at number_at items_at
entry-read = refl

-- a mask bit of the second lookup byte, of which there is none
entry-absent : entry_at two_states 0 (0 ∷ 0 ∷ 0 ∷ 0 ∷ 0 ∷ 255 ∷ 1 ∷ 0 ∷ 0 ∷ []) ≡ Err Form
unfolding entry_at entry_head_at entry_state_at match_at byte_at fours_at number_at
entry-absent = refl

-- an entry of the first state behind one of the second
entry-falls : entry_at two_states 1 (0 ∷ []) ≡ Err Form
unfolding entry_at entry_head_at entry_state_at byte_at
entry-falls = refl

-- ---- gates

guard-read : guard_at (1 ∷ 5 ∷ 0 ∷ 6 ∷ []) ≡ Ok (Some (record { parent = 5; mask = 6 }), [])
unfolding guard_at byte_at number_at
guard-read = refl

guard-odd : guard_at (1 ∷ 5 ∷ 0 ∷ 1 ∷ []) ≡ Err Form
unfolding guard_at byte_at number_at
guard-odd = refl

-- a test of the value 2 under the mask 1
test-outside : test_at (0 ∷ 0 ∷ 2 ∷ 0 ∷ 0 ∷ 0 ∷ 2 ∷ 0 ∷ 0 ∷ 0 ∷ 1 ∷ []) ≡ Err Form
unfolding test_at lane_at lane_from_at word_at byte_at fours_at number_at
test-outside = refl

-- a gate of no test, though no byte is left
gate-no_test : gate_at (4 ∷ 0 ∷ 0 ∷ []) ≡ Err Form
unfolding gate_at guard_at byte_at
gate-no_test = refl

-- ---- memory

-- a slot with a key and an action, whose data has 9 bits
abbrev with_data : ℕ → Bool → Lane → Memory → SlotUnit
with_data node counted key memory = record { node = node; guard = None; counted = counted; actions = 1; last = true; held = 9; keys = key ∷ []; memory = memory; numbers = [] }

-- with a key of 8 bits, and counted
abbrev keyed : SlotUnit
keyed = with_data 0 true (lane 0 0 8) Without

-- one quantum of units of one block, with a cell a row: four key blocks, a record block and four counter blocks
memory-exact : memory_at keyed (1 ∷ 1 ∷ 0 ∷ 1 ∷ 1 ∷ 0 ∷ 0 ∷ 1 ∷ 2 ∷ 3 ∷ 4 ∷ 5 ∷ 6 ∷ 7 ∷ 8 ∷ 9 ∷ [])
    ≡ Ok (Exact 1 1 1 0 (0 ∷ 1 ∷ 2 ∷ 3 ∷ []) (4 ∷ []) (5 ∷ 6 ∷ 7 ∷ 8 ∷ []), 9 ∷ [])
unfolding memory_at exact_at format_at exact_format_at blocks_at block_at byte_at number_at items_at
memory-exact = refl

-- one quantum of 2,048 rows: a TCAM block, a record block and two counter blocks
memory-ternary : memory_at keyed (2 ∷ 1 ∷ 15 ∷ 0 ∷ 1 ∷ 2 ∷ []) ≡ Ok (Ternary 1 (15 ∷ []) (0 ∷ []) (1 ∷ 2 ∷ []), [])
unfolding memory_at ternary_at blocks_at block_at byte_at number_at items_at
memory-ternary = refl

-- no TCAM block 16; no quantum; eight cells of 16 bits in a row of 112; a keyed slot without memory
memory-no_block : memory_at keyed (2 ∷ 1 ∷ 16 ∷ []) ≡ Err Form
unfolding memory_at ternary_at blocks_at block_at byte_at items_at
memory-no_block = refl

memory-no_quantum : memory_at keyed (2 ∷ 0 ∷ []) ≡ Err Form
unfolding memory_at ternary_at byte_at
memory-no_quantum = refl

memory-eight : memory_at keyed (1 ∷ 1 ∷ 0 ∷ 8 ∷ []) ≡ Err Form
unfolding memory_at exact_at format_at exact_format_at byte_at number_at
memory-eight = refl

memory-needed : memory_at keyed (0 ∷ []) ≡ Err Form
unfolding memory_at
memory-needed = refl

-- ---- instructions and rows

source-held : source_at (record { held = 9; is_default = false }) 8 (1 ∷ 0 ∷ 1 ∷ []) ≡ Ok (Held 1, [])
unfolding source_at number_at
source-held = refl

-- a default has no data; nine bits are not ten; a constant of 8 bits is below 256
source-default : source_at (record { held = 9; is_default = true }) 8 (1 ∷ []) ≡ Err Form
unfolding source_at
source-default = refl

source-past : source_at (record { held = 9; is_default = false }) 8 (1 ∷ 0 ∷ 2 ∷ []) ≡ Err Form
unfolding source_at number_at
source-past = refl

source-constant : source_at (record { held = 0; is_default = true }) 8 (2 ∷ 0 ∷ 0 ∷ 1 ∷ 0 ∷ []) ≡ Err Form
unfolding source_at number_at
source-constant = refl

srow-no_block : srow_at (106 ∷ []) ≡ Err Form
unfolding srow_at block_at byte_at
srow-no_block = refl

trow-read : trow_at (3 ∷ 7 ∷ 255 ∷ 0 ∷ 0 ∷ 0 ∷ 0 ∷ 5 ∷ 0 ∷ 0 ∷ 0 ∷ 0 ∷ 7 ∷ []) ≡ Ok (record { block = 3; row = 2047; value = 5; mask = 7 }, [])
unfolding trow_at block_at byte_at number_at
trow-read = refl

-- ---- a whole configuration

-- three tables: `a` writes the metadata that `b` looks up, and `c` clears it in b's stage
abbrev metadata : Source → Vliw
metadata source = instruction (copy 2 0 8 source ∷ [])

abbrev pub strict_and_weak : Config
strict_and_weak =
    one_byte
    (plain_stage 0 (plain_slot 0 None ∷ []) (metadata (Word 1 0) ∷ [])
    ∷ plain_stage 12 (Slot (with_data 1 false (lane 2 0 8) (Exact 1 3 1 0 (0 ∷ 1 ∷ 2 ∷ 3 ∷ []) (4 ∷ []) [])) ∷ plain_slot 2 None ∷ [])
    (instruction (copy 65 0 9 (Held 0) ∷ []) ∷ instruction [] ∷ metadata (Constant 0) ∷ [])
    ∷ [])

-- its bytes behind the version
abbrev pub strict_and_weak_bytes : List ℕ
strict_and_weak_bytes =
    0 ∷ 64 ∷ 0 ∷ 9 ∷ 65 ∷ 0 ∷ 9 ∷ 0 ∷ 0 ∷ 1 ∷
    1 ∷ 0 ∷ 1 ∷ 1 ∷ 1 ∷ 1 ∷ 1 ∷ 0 ∷ 8 ∷
    0 ∷ 1 ∷ 0 ∷
    0 ∷ 1 ∷ 0 ∷ 0 ∷ 0 ∷ 0 ∷ 0 ∷ 0 ∷ 0 ∷ 0 ∷ 0 ∷ 1 ∷ 1 ∷ 0 ∷ 2 ∷ 1 ∷ 0 ∷ 1 ∷ 1 ∷ 0 ∷ 0 ∷ 0 ∷ 1 ∷ 0 ∷ 8 ∷
    2 ∷
    0 ∷ 0 ∷ 1 ∷ 1 ∷ 0 ∷ 0 ∷ 0 ∷ 0 ∷ 1 ∷ 0 ∷ 0 ∷ 0 ∷ 0 ∷ 0 ∷ 0 ∷ 0 ∷ 0 ∷ 0 ∷
    1 ∷ 2 ∷ 0 ∷ 8 ∷ 0 ∷ 0 ∷ 1 ∷ 0 ∷ 2 ∷ 0 ∷ 0 ∷ 0 ∷ 0 ∷
    0 ∷ 0 ∷ 0 ∷ 0 ∷ 0 ∷ 0 ∷ 0 ∷ 0 ∷
    0 ∷ 12 ∷ 2 ∷
    1 ∷ 1 ∷ 0 ∷ 0 ∷ 1 ∷ 1 ∷ 0 ∷ 9 ∷ 0 ∷ 1 ∷ 2 ∷ 0 ∷ 8 ∷ 1 ∷ 1 ∷ 0 ∷ 3 ∷ 1 ∷ 0 ∷ 0 ∷ 1 ∷ 2 ∷ 3 ∷ 4 ∷ 0 ∷ 0 ∷ 0 ∷ 0 ∷
    1 ∷ 2 ∷ 0 ∷ 0 ∷ 0 ∷ 1 ∷ 0 ∷ 0 ∷ 0 ∷ 0 ∷ 0 ∷ 0 ∷ 0 ∷ 0 ∷ 0 ∷
    1 ∷ 65 ∷ 0 ∷ 9 ∷ 0 ∷ 1 ∷ 0 ∷ 0 ∷ 2 ∷ 0 ∷ 0 ∷ 0 ∷ 0 ∷
    0 ∷
    1 ∷ 2 ∷ 0 ∷ 8 ∷ 0 ∷ 2 ∷ 0 ∷ 0 ∷ 0 ∷ 0 ∷ 2 ∷ 0 ∷ 0 ∷ 0 ∷ 0 ∷
    0 ∷ 0 ∷ 0 ∷ 0 ∷ 0 ∷ 0 ∷ 0 ∷ 0 ∷ []

strict_and_weak-spelled : spelled_config strict_and_weak ≡ strict_and_weak_bytes
strict_and_weak-spelled = refl

-- ---- names behind it

-- the names of `b`, of one field of 8 bits, with the action `go`, of one parameter of 9 bits, and their bytes
abbrev pub names_of_b : Names
names_of_b = record {
  tables = record {
    node = 1;
    name = codes "b";
    kind = table.Exact;
    size = 16;
    keys = 8 ∷ [];
    actions = record { name = codes "go"; params = 9 ∷ [] } ∷ [];
    ranks = [];
  } ∷ [];
}

abbrev pub names_bytes : List ℕ
names_bytes = 1 ∷ 1 ∷ 0 ∷ 0 ∷ 0 ∷ 1 ∷ 98 ∷ 0 ∷ 0 ∷ 0 ∷ 0 ∷ 16 ∷ 0 ∷ 1 ∷ 8 ∷ 1 ∷ 0 ∷ 0 ∷ 0 ∷ 2 ∷ 103 ∷ 111 ∷ 1 ∷ 9 ∷ []

names-spelled : spelled_names (Some names_of_b) ≡ names_bytes
names-spelled = refl

names-read : names_at names_bytes ≡ Ok (names_of_b, [])
unfolding names_at table_at table_body_at name_at action_at table_kind_at bytes_at items_at byte_at number_at
names-read = refl

-- a length of which a byte is missing, and a length above all that could be there
name-cut : name_at (0 ∷ 0 ∷ 0 ∷ 2 ∷ 98 ∷ []) ≡ Err Short
unfolding name_at bytes_at number_at
name-cut = refl

name-vast : name_at (255 ∷ 255 ∷ 255 ∷ 255 ∷ 98 ∷ []) ≡ Err Short
unfolding name_at bytes_at number_at
name-vast = refl

-- no kind 3, though the bytes end behind it
table-no_kind : table_at (1 ∷ 0 ∷ 0 ∷ 0 ∷ 1 ∷ 98 ∷ 3 ∷ []) ≡ Err Form
unfolding table_at table_body_at name_at table_kind_at bytes_at byte_at number_at
table-no_kind = refl

-- a ternary table with the rank 7 of the entry 5
table-ranks : table_at (1 ∷ 0 ∷ 0 ∷ 0 ∷ 1 ∷ 98 ∷ 2 ∷ 0 ∷ 0 ∷ 0 ∷ 1 ∷ 0 ∷ 0 ∷ 0 ∷ 0 ∷ 0 ∷ 0 ∷ 1 ∷ 0 ∷ 0 ∷ 0 ∷ 5 ∷ 0 ∷ 0 ∷ 0 ∷ 7 ∷ [])
    ≡ Ok (record { node = 1; name = codes "b"; kind = table.Ternary; size = 1; keys = []; actions = []; ranks = record { number = 5; rank = 7 } ∷ [] }, [])
unfolding table_at table_body_at name_at table_kind_at rank_at bytes_at items_at byte_at fours_at number_at
table-ranks = refl

-- ---- tails behind the names

-- 0 to 60 bytes less 4, by 4 bits of the header's only byte
abbrev pub one_tail : TailOf
one_tail = record { entry = 0; header = 0; from = 0; len = 4; unit = 4; base = 4 }

tails-read : tails_at strict_and_weak.parser.entries 1 (0 ∷ 1 ∷ 0 ∷ 0 ∷ 0 ∷ 0 ∷ 0 ∷ 4 ∷ 4 ∷ 4 ∷ []) ≡ Ok (one_tail ∷ [], [])
unfolding tails_at tail_at tail_entry_at field_at lengths_at items_at byte_at number_at
tails-read = refl

-- a count of 0; no entry 1, and no header 1, though the bytes end behind each
tails-none : tails_at strict_and_weak.parser.entries 1 (0 ∷ 0 ∷ []) ≡ Err Form
unfolding tails_at number_at
tails-none = refl

tails-no_entry : tails_at strict_and_weak.parser.entries 1 (0 ∷ 1 ∷ 0 ∷ 1 ∷ []) ≡ Err Form
unfolding tails_at tail_at tail_entry_at items_at number_at
tails-no_entry = refl

tails-no_header : tails_at strict_and_weak.parser.entries 1 (0 ∷ 1 ∷ 0 ∷ 0 ∷ 1 ∷ []) ≡ Err Form
unfolding tails_at tail_at tail_entry_at items_at byte_at number_at
tails-no_header = refl

-- the ninth bit of a byte; 75 bytes where 65 are the most
field-past : field_at 1 (0 ∷ 5 ∷ 4 ∷ []) ≡ Err Form
unfolding field_at byte_at number_at
field-past = refl

lengths-long : lengths_at 4 (5 ∷ 1 ∷ []) ≡ Err Form
unfolding lengths_at byte_at
lengths-long = refl
