-- Reading the items of an image from the front of bytes: the item and what stands behind it, or the first fault that is met.
use Rattle.std.specs.Prelude.{ℕ, ◌+◌, ◌*◌, ◌-◌, ◌^◌, ◌%◌, List, [], length, Bool, true, not, ◌&&◌, ◌==◌, nat_lt, nat_le, bit_and, if◌then◌else◌, Option, Some, None}
use Rattle.rmt_bits.specs.Words.{word_size}
use Rattle.rmt_bits.specs.declared.lane.Lane.{Lane}
use Rattle.rmt_items.specs.Types.{OutHeader, ParserConfig, ParserState, ParserEntry, Next, Extract, Stage, SramRow, TcamRow, Unit as ChipUnit, GateUnit, GateTest, UnitGuard, SlotUnit, CellNumber, Memory, Vliw, Operation, OpKind, Source}
use Rattle.rmt_config.specs.declared.config.Next.TheVariants as next
use Rattle.rmt_config.specs.declared.config.Extract.TheVariants.{Bits, One}
use Rattle.rmt_config.specs.declared.config.Unit.TheVariants.{Gate, Slot}
use Rattle.rmt_config.specs.declared.config.Memory.TheVariants.{Without, Exact, Ternary}
use Rattle.rmt_config.specs.declared.config.OpKind.TheVariants as kind
use Rattle.rmt_config.specs.declared.config.Source.TheVariants.{Word, Held, Constant}
use Rattle.rmt_config.specs.LaneForm.{lane_is_formed, bits_of_lanes}
use Rattle.rmt_config.specs.ParserForm.{lookups_of}
use Rattle.rmt_config.specs.BlockCounts.{exact_block_counts, ternary_block_counts}
use Rattle.rmt_config.specs.declared.form.block_counts.BlockCounts.{BlockCounts}
use Rattle.rmt_config.specs.UnitForm.{memory_is_formed, takes_memory}
use Rattle.rmt_config.specs.CodeForm.{places_of, kind_is_formed}
use Rattle.rmt_config.specs.declared.form.code.InstructionRole.{InstructionRole}
use Rattle.rmt_items.specs.declared.reading.memory.Blocks.{Blocks}
use Rattle.rmt_items.specs.declared.reading.memory.ExactFormat.{ExactFormat}
use Rattle.rmt_items.specs.declared.reading.parser.EntryHead.{EntryHead}
use Rattle.rmt_items.specs.declared.reading.slot.Marks.{Marks}
use Rattle.rmt_items.specs.Readers.{Reader, give, behind, ◌⊗◌, made, kept, where_, when, no_other, chosen, items_at, list_at, each, listed, at_most, at_least, below, byte_at, number_at, fours_at, flag_at}

-- ---- lanes and headers

-- a word of the vector, from that one on
unfoldable pub word_at : ℕ → Reader ℕ
word_at least bytes = kept (λ word. nat_lt word 224 && nat_le least word) byte_at bytes

abbrev pub lane_of_parts : ℕ × (ℕ × ℕ) → Lane
lane_of_parts x = record { word = x.0; low = x.1.0; len = x.1.1 }

-- a lane whose word is at least that one
unfoldable pub lane_from_at : ℕ → Reader Lane
lane_from_at least bytes = kept lane_is_formed (made lane_of_parts (word_at least ⊗ byte_at ⊗ byte_at)) bytes

unfoldable pub lane_at : Reader Lane
lane_at bytes = lane_from_at 0 bytes

abbrev pub has_bits : ℕ → Lane → Bool
has_bits len lane = lane.len == len

-- a lane of that many bits
unfoldable pub lane_of_at : ℕ → Reader Lane
lane_of_at len bytes = kept (has_bits len) lane_at bytes

abbrev pub lanes_at : ℕ → Reader (List Lane)
lanes_at n = list_at lane_at n

abbrev pub header_of_parts : Lane × (ℕ × List Lane) → OutHeader
header_of_parts x = record { valid = x.0; bytes = x.1.0; pieces = x.1.1 }

abbrev pub header_size_fits : ℕ → Bool
header_size_fits n = nat_le 1 n && nat_le n 64

abbrev pub is_covered : OutHeader → Bool
is_covered h = bits_of_lanes h.pieces == 8 * h.bytes

-- a header of 1 to 64 bytes, whose lanes have its bits
unfoldable pub header_at : Reader OutHeader
header_at bytes = kept is_covered (made header_of_parts (lane_of_at 1 ⊗ kept header_size_fits byte_at ⊗ listed byte_at lanes_at)) bytes

unfoldable pub headers_at : Reader (List OutHeader)
headers_at bytes = listed (kept (at_most 64) byte_at) (list_at header_at) bytes

-- ---- the parser

-- a lookup offset, below 128 and at least that number
unfoldable pub offset_at : ℕ → Reader ℕ
offset_at least bytes = kept (λ n. nat_lt n 128 && nat_le least n) byte_at bytes

abbrev pub one_more : ℕ → ℕ
one_more n = n + 1

abbrev pub state_of_parts : List ℕ → ParserState
state_of_parts lookups = record { lookups = lookups }

unfoldable pub state_at : Reader ParserState
state_at bytes = made state_of_parts (listed byte_at (items_at offset_at one_more 0)) bytes

unfoldable pub states_at : Reader (List ParserState)
states_at bytes = listed (kept (at_least 1) (number_at 2)) (list_at state_at) bytes

-- the state of an entry, at least that of the one before
unfoldable pub entry_state_at : ℕ → ℕ → Reader ℕ
entry_state_at states least bytes = kept (λ s. nat_lt s states && nat_le least s) byte_at bytes

-- a value with no bit outside the mask, and a mask with none of an absent lookup byte
abbrev pub match_fits : ℕ → ℕ × ℕ → Bool
match_fits lookups x = (bit_and x.0 x.1 == x.0) && (x.1 % 2 ^ (8 * (4 - lookups)) == 0)

unfoldable pub match_at : ℕ → Reader (ℕ × ℕ)
match_at lookups bytes = kept (match_fits lookups) fours_at bytes

abbrev pub need_fits : ℕ × ℕ → Bool
need_fits x = nat_le x.1 x.0

-- the bytes that an entry needs, and how far it goes
unfoldable pub need_at : Reader (ℕ × ℕ)
need_at bytes = kept need_fits (byte_at ⊗ byte_at) bytes

unfoldable pub later_state_at : ℕ → ℕ → Reader ℕ
later_state_at states state bytes = kept (λ s. nat_lt s states && nat_lt state s) byte_at bytes

abbrev pub accepts : Unit {0} → Next
accepts x = next.Accept

abbrev pub rejects : Unit {0} → Next
rejects x = next.Reject

unfoldable pub next_at : ℕ → ℕ → Reader Next
next_at states state bytes =
    chosen (when 0 (made accepts (give tt)) (when 1 (made rejects (give tt)) (when 2 (made next.State (later_state_at states state)) no_other))) bytes

abbrev pub bits_of_parts : ℕ × Lane → Extract
bits_of_parts x = Bits x.0 x.1

abbrev pub lies_in : ℕ → ℕ × Lane → Bool
lies_in need x = nat_le (x.0 + x.1.len) (8 * need)

-- bits of a packet, within the bytes that the entry needs
unfoldable pub bits_at : ℕ → Reader (ℕ × Lane)
bits_at need bytes = kept (lies_in need) (number_at 2 ⊗ lane_at) bytes

unfoldable pub extract_at : ℕ → Reader Extract
extract_at need bytes = chosen (when 0 (made bits_of_parts (bits_at need)) (when 1 (made One (lane_of_at 1)) no_other)) bytes

abbrev pub head_of_parts : ℕ × ((ℕ × ℕ) × (ℕ × ℕ)) → EntryHead
head_of_parts x = record { state = x.0; value = x.1.0.0; mask = x.1.0.1; need = x.1.1.0; advance = x.1.1.1 }

-- when an entry is taken, and how far it goes
unfoldable pub entry_head_at : List ParserState → ℕ → Reader EntryHead
entry_head_at states least bytes =
    made head_of_parts (behind (entry_state_at (length states) least) (λ state. match_at (lookups_of states state) ⊗ need_at)) bytes

abbrev pub entry_of_parts : EntryHead × (Next × List Extract) → ParserEntry
entry_of_parts x = record {
  state = x.0.state;
  value = x.0.value;
  mask = x.0.mask;
  need = x.0.need;
  advance = x.0.advance;
  next = x.1.0;
  extracts = x.1.1;
}

unfoldable pub entry_at : List ParserState → ℕ → Reader ParserEntry
entry_at states least bytes =
    made entry_of_parts
    (behind (entry_head_at states least) (λ (head : EntryHead). next_at (length states) head.state ⊗ listed byte_at (list_at (extract_at head.need)))) bytes

abbrev pub state_of : ParserEntry → ℕ
state_of e = e.state

abbrev pub parser_of_parts : List ParserState × List ParserEntry → ParserConfig
parser_of_parts x = record { states = x.0; entries = x.1; tails = [] }

unfoldable pub parser_at : Reader ParserConfig
parser_at bytes = made parser_of_parts (behind states_at (λ states. listed (number_at 2) (items_at (entry_at states) state_of 0))) bytes

-- ---- gates

abbrev pub no_guard : Unit {0} → Option UnitGuard
no_guard x = None

abbrev pub guard_of_parts : ℕ × ℕ → Option UnitGuard
guard_of_parts x = Some (record { parent = x.0; mask = x.1 })

abbrev pub mask_is_even : ℕ → Bool
mask_is_even mask = mask % 2 == 0

unfoldable pub guard_at : Reader (Option UnitGuard)
guard_at bytes = chosen (when 0 (made no_guard (give tt)) (when 1 (made guard_of_parts (byte_at ⊗ kept mask_is_even (number_at 2))) no_other)) bytes

abbrev pub test_of_parts : Lane × (ℕ × ℕ) → GateTest
test_of_parts x = record { lane = x.0; value = x.1.0; mask = x.1.1 }

abbrev pub test_fits : GateTest → Bool
test_fits t = nat_lt t.mask (2 ^ t.lane.len) && (bit_and t.value t.mask == t.value)

unfoldable pub test_at : Reader GateTest
test_at bytes = kept test_fits (made test_of_parts (lane_at ⊗ fours_at)) bytes

abbrev pub gate_of_parts : ℕ × (Option UnitGuard × List GateTest) → GateUnit
gate_of_parts x = record { node = x.0; guard = x.1.0; tests = x.1.1 }

unfoldable pub gate_at : Reader GateUnit
gate_at bytes = made gate_of_parts (byte_at ⊗ guard_at ⊗ listed (kept (at_least 1) byte_at) (list_at test_at)) bytes

-- ---- slots

abbrev pub marks_of_parts : Bool × (ℕ × Bool) → Marks
marks_of_parts x = record { counted = x.0; actions = x.1.0; last = x.1.1 }

unfoldable pub marks_at : Reader Marks
marks_at bytes = made marks_of_parts (flag_at ⊗ kept (at_most 14) byte_at ⊗ flag_at) bytes

-- what stands before the memory of a slot
abbrev pub SlotHead : Type 0
SlotHead = (ℕ × Option UnitGuard) × (Marks × (ℕ × List Lane))

-- a slot with its memory and its numbers
abbrev pub slot_with : SlotHead → Memory → List CellNumber → SlotUnit
slot_with x memory numbers = record {
  node = x.0.0;
  guard = x.0.1;
  counted = x.1.0.counted;
  actions = x.1.0.actions;
  last = x.1.0.last;
  held = x.1.1.0;
  keys = x.1.1.1;
  memory = memory;
  numbers = numbers;
}

abbrev pub slot_of_head : SlotHead → SlotUnit
slot_of_head x = slot_with x Without []

-- the numbers behind the guard of a slot, and the lanes of its key
unfoldable pub slot_keys_at : Reader (Marks × (ℕ × List Lane))
slot_keys_at bytes = (marks_at ⊗ number_at 2 ⊗ listed (number_at 2) lanes_at) bytes

-- a slot that has no memory yet, nor numbers
unfoldable pub slot_head_at : Reader SlotUnit
slot_head_at bytes = made slot_of_head ((byte_at ⊗ guard_at) ⊗ slot_keys_at) bytes

-- a block below that number
unfoldable pub block_at : ℕ → Reader ℕ
block_at most bytes = kept (below most) byte_at bytes

abbrev pub blocks_of_parts : List ℕ × (List ℕ × List ℕ) → Blocks
blocks_of_parts x = record { keys = x.0; records = x.1.0; counters = x.1.1 }

-- blocks of the keys below that number, blocks of the records and of the counters
unfoldable pub blocks_at : ℕ → BlockCounts → Reader Blocks
blocks_at most counts bytes =
    made blocks_of_parts (list_at (block_at most) counts.keys ⊗ list_at (block_at 106) counts.records ⊗ list_at (block_at 106) counts.counters) bytes

abbrev pub quanta_fit : ℕ → Bool
quanta_fit quanta = nat_le 1 quanta && nat_le quanta 106

-- cells of a head and a key of that many bits fit a row of units of that width
abbrev pub cells_fit : ℕ → ℕ → ℕ → Bool
cells_fit bits width per = nat_le 1 per && nat_le (per * (bits + 8)) (112 * width)

abbrev pub format_of_parts : ℕ × (ℕ × (ℕ × ℕ)) → ExactFormat
format_of_parts x = record { width = x.0; per = x.1.0; quanta = x.1.1.0; first_way = x.1.1.1 }

-- the width of a unit, the cells of a row, the quanta, and the first way, where keys have that many bits
unfoldable pub exact_format_at : ℕ → Reader ExactFormat
exact_format_at bits bytes =
    made format_of_parts (behind (kept (at_least 1) byte_at) (λ width. kept (cells_fit bits width) (number_at 2) ⊗ kept quanta_fit byte_at ⊗ byte_at)) bytes

unfoldable pub format_at : SlotUnit → Reader ExactFormat
format_at s bytes = exact_format_at (bits_of_lanes s.keys) bytes

abbrev pub format_block_counts : SlotUnit → ExactFormat → BlockCounts
format_block_counts s f = exact_block_counts f.width f.per f.quanta s.held s.counted

unfoldable pub exact_at : SlotUnit → Reader (ExactFormat × Blocks)
exact_at s bytes = where_ (takes_memory s) (behind (format_at s) (λ f. blocks_at 106 (format_block_counts s f))) bytes

unfoldable pub ternary_at : SlotUnit → Reader (ℕ × Blocks)
ternary_at s bytes =
    where_ (takes_memory s) (behind (kept quanta_fit byte_at) (λ quanta. blocks_at 16 (ternary_block_counts (bits_of_lanes s.keys) quanta s.held s.counted))) bytes

abbrev pub without : Unit {0} → Memory
without x = Without

abbrev pub exact_of_parts : ExactFormat × Blocks → Memory
exact_of_parts x = Exact x.0.width x.0.per x.0.quanta x.0.first_way x.1.keys x.1.records x.1.counters

abbrev pub ternary_of_parts : ℕ × Blocks → Memory
ternary_of_parts x = Ternary x.0 x.1.keys x.1.records x.1.counters

-- no memory, where the slot has nothing that needs one; or that of an exact or a ternary part
unfoldable pub memory_at : SlotUnit → Reader Memory
memory_at s bytes =
    chosen (when 0 (made without (where_ (memory_is_formed s Without) (give tt)))
    (when 1 (made exact_of_parts (exact_at s)) (when 2 (made ternary_of_parts (ternary_at s)) no_other))) bytes

-- a slot without memory has no numbers
abbrev pub may_have_numbers : Memory → ℕ → Bool
may_have_numbers Without n = n == 0
may_have_numbers (Exact width per quanta first_way keys records counters) n = true
may_have_numbers (Ternary quanta keys records counters) n = true

abbrev pub number_of_parts : ℕ × ℕ → CellNumber
number_of_parts x = record { cell = x.0; number = x.1 }

unfoldable pub cell_number_at : Reader CellNumber
cell_number_at bytes = made number_of_parts fours_at bytes

unfoldable pub numbers_at : Memory → Reader (List CellNumber)
numbers_at memory bytes = listed (kept (may_have_numbers memory) (number_at 4)) (list_at cell_number_at) bytes

abbrev pub slot_of_parts : SlotUnit × (Memory × List CellNumber) → SlotUnit
slot_of_parts x = record x.0 { memory = x.1.0; numbers = x.1.1 }

unfoldable pub slot_at : Reader SlotUnit
slot_at bytes = made slot_of_parts (behind slot_head_at (λ s. behind (memory_at s) numbers_at)) bytes

unfoldable pub unit_at : Reader ChipUnit
unit_at bytes = chosen (when 0 (made Gate gate_at) (when 1 (made Slot slot_at) no_other)) bytes

-- ---- instructions

abbrev pub word_of_parts : ℕ × ℕ → Source
word_of_parts x = Word x.0 x.1

abbrev pub fits_word : ℕ → ℕ → ℕ → Bool
fits_word len word low = nat_le (low + len) (word_size word)

abbrev pub fits_held : InstructionRole → ℕ → ℕ → Bool
fits_held place len low = nat_le (low + len) place.held

-- a source of that many bits; a default has no data
unfoldable pub source_at : InstructionRole → ℕ → Reader Source
source_at place len bytes =
    chosen (when 0 (made word_of_parts (behind (word_at 0) (λ word. kept (fits_word len word) byte_at)))
    (when 1 (made Held (where_ (not place.is_default) (kept (fits_held place len) (number_at 2))))
    (when 2 (made Constant (kept (below (2 ^ len)) (number_at 4))) no_other))) bytes

abbrev pub kind_of : ℕ → OpKind
kind_of n =
    if n == 0 then kind.Copy
    else (if n == 1 then kind.Add else (if n == 2 then kind.Sub else (if n == 3 then kind.And else (if n == 4 then kind.Or else kind.Xor))))

unfoldable pub kind_at : Reader OpKind
kind_at bytes = made kind_of (kept (at_most 5) byte_at) bytes

abbrev pub operation_of_parts : Lane × (OpKind × (Source × Source)) → Operation
operation_of_parts x = record {
  word = x.0.word;
  low = x.0.low;
  len = x.0.len;
  kind = x.1.0;
  left = x.1.1.0;
  right = x.1.1.1;
}

abbrev pub kind_fits : Operation → Bool
kind_fits op = kind_is_formed op.kind op.right

-- an operation on a word that is at least that one
unfoldable pub operation_at : InstructionRole → ℕ → Reader Operation
operation_at place least bytes =
    kept kind_fits
    (made operation_of_parts (behind (lane_from_at least) (λ (lane : Lane). kind_at ⊗ source_at place lane.len ⊗ source_at place lane.len))) bytes

abbrev pub next_word : Operation → ℕ
next_word op = op.word + 1

abbrev pub vliw_of_parts : List Operation → Vliw
vliw_of_parts ops = record { ops = ops }

unfoldable pub vliw_at : InstructionRole → Reader Vliw
vliw_at place bytes = made vliw_of_parts (listed byte_at (items_at (operation_at place) next_word 0)) bytes

-- ---- rows and stages

abbrev pub srow_of_parts : ℕ × (ℕ × ℕ) → SramRow
srow_of_parts x = record { block = x.0; row = x.1.0; bits = x.1.1 }

unfoldable pub srow_at : Reader SramRow
srow_at bytes = made srow_of_parts (block_at 106 ⊗ number_at 2 ⊗ number_at 14) bytes

abbrev pub trow_of_parts : ℕ × (ℕ × (ℕ × ℕ)) → TcamRow
trow_of_parts x = record { block = x.0; row = x.1.0; value = x.1.1.0; mask = x.1.1.1 }

unfoldable pub trow_at : Reader TcamRow
trow_at bytes = made trow_of_parts (block_at 16 ⊗ number_at 2 ⊗ number_at 5 ⊗ number_at 5) bytes

-- the first start is 0, and a later one is at least the least
abbrev pub start_fits : ℕ → ℕ → Bool
start_fits least start = if least == 0 then start == 0 else nat_le least start

abbrev pub StageHead : Type 0
StageHead = ℕ × List ChipUnit

unfoldable pub stage_head_at : ℕ → Reader StageHead
stage_head_at least bytes = (kept (start_fits least) (number_at 2) ⊗ listed byte_at (list_at unit_at)) bytes

abbrev pub StageTail : Type 0
StageTail = List Vliw × (List SramRow × List TcamRow)

unfoldable pub stage_tail_at : List InstructionRole → Reader StageTail
stage_tail_at places bytes = (each vliw_at places ⊗ listed (number_at 4) (list_at srow_at) ⊗ listed (number_at 4) (list_at trow_at)) bytes

abbrev pub stage_of_parts : StageHead × StageTail → Stage
stage_of_parts x = record { start = x.0.0; units = x.0.1; code = x.1.0; srows = x.1.1.0; trows = x.1.1.1 }

unfoldable pub stage_at : ℕ → Reader Stage
stage_at least bytes =
    made stage_of_parts (behind (stage_head_at least) (λ (head : StageHead). stage_tail_at (places_of head.1))) bytes

abbrev pub next_start : Stage → ℕ
next_start s = s.start + 1
