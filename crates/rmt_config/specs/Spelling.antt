-- The spelling of an image: the bytes of a configuration. Numbers stand highest byte first, and a list behind its count.
use Rattle.std.specs.Prelude.{ℕ, ◌<◌, ◌^◌, List, [], ◌∷◌, ◌++◌, length, All, Bool, true, false, Option, Some, None, codes}
use Rattle.std.specs.List.{flat_map}
use Rattle.rmt_bits.specs.Bits.{bytes_of}
use Rattle.rmt_bits.specs.declared.lane.Lane.{Lane}
use Rattle.rmt_config.specs.Types.{Config, OutHeader, ParserConfig, ParserState, ParserEntry, Next, Extract, Stage, SramRow, TcamRow, Unit as ChipUnit, GateUnit, GateTest, UnitGuard, SlotUnit, CellNumber, Memory, Vliw, Operation, OpKind, Source}
use Rattle.rmt_config.specs.declared.config.Next.TheVariants.{Accept, Reject, State}
use Rattle.rmt_config.specs.declared.config.Extract.TheVariants.{Bits, One}
use Rattle.rmt_config.specs.declared.config.Unit.TheVariants.{Gate, Slot}
use Rattle.rmt_config.specs.declared.config.Memory.TheVariants.{Without, Exact, Ternary}
use Rattle.rmt_config.specs.declared.config.OpKind.TheVariants as kind
use Rattle.rmt_config.specs.declared.config.Source.TheVariants.{Word, Held, Constant}

abbrev pub two_bytes : ℕ → List ℕ
two_bytes n = bytes_of 2 n

abbrev pub four_bytes : ℕ → List ℕ
four_bytes n = bytes_of 4 n

-- the items of a list behind a count of one, two or four bytes
abbrev pub spelled_list8 : {A : Type 0} → (A → List ℕ) → List A → List ℕ
spelled_list8 item items = length items ∷ flat_map item items

abbrev pub spelled_list16 : {A : Type 0} → (A → List ℕ) → List A → List ℕ
spelled_list16 item items = two_bytes (length items) ++ flat_map item items

abbrev pub spelled_list32 : {A : Type 0} → (A → List ℕ) → List A → List ℕ
spelled_list32 item items = four_bytes (length items) ++ flat_map item items

abbrev pub spelled_flag : Bool → ℕ
spelled_flag false = 0
spelled_flag true = 1

abbrev pub spelled_lane : Lane → List ℕ
spelled_lane lane = lane.word ∷ lane.low ∷ lane.len ∷ []

abbrev pub spelled_header : OutHeader → List ℕ
spelled_header h = spelled_lane h.valid ++ h.bytes ∷ spelled_list8 spelled_lane h.pieces

-- a state is the list of its lookup offsets
abbrev pub spelled_state : ParserState → List ℕ
spelled_state s = length s.lookups ∷ s.lookups

abbrev pub spelled_next : Next → List ℕ
spelled_next Accept = 0 ∷ []
spelled_next Reject = 1 ∷ []
spelled_next (State s) = 2 ∷ s ∷ []

abbrev pub spelled_extract : Extract → List ℕ
spelled_extract (Bits from lane) = 0 ∷ two_bytes from ++ spelled_lane lane
spelled_extract (One lane) = 1 ∷ spelled_lane lane

-- when an entry is taken, and how far it goes
abbrev pub spelled_entry_head : ParserEntry → List ℕ
spelled_entry_head e = e.state ∷ four_bytes e.value ++ four_bytes e.mask ++ e.need ∷ e.advance ∷ []

abbrev pub spelled_entry : ParserEntry → List ℕ
spelled_entry e = spelled_entry_head e ++ spelled_next e.next ++ spelled_list8 spelled_extract e.extracts

abbrev pub spelled_guard : Option UnitGuard → List ℕ
spelled_guard None = 0 ∷ []
spelled_guard (Some g) = 1 ∷ g.parent ∷ two_bytes g.mask

abbrev pub spelled_test : GateTest → List ℕ
spelled_test t = spelled_lane t.lane ++ four_bytes t.value ++ four_bytes t.mask

abbrev pub spelled_gate : GateUnit → List ℕ
spelled_gate g = g.node ∷ spelled_guard g.guard ++ spelled_list8 spelled_test g.tests

-- a memory's lists of blocks have no count: their lengths follow from the numbers before them and from the slot
abbrev pub spelled_memory : Memory → List ℕ
spelled_memory Without = 0 ∷ []
spelled_memory (Exact width per quanta first_way keys records counters) =
    1 ∷ width ∷ two_bytes per ++ quanta ∷ first_way ∷ keys ++ records ++ counters
spelled_memory (Ternary quanta keys records counters) = 2 ∷ quanta ∷ keys ++ records ++ counters

abbrev pub spelled_number : CellNumber → List ℕ
spelled_number n = four_bytes n.cell ++ four_bytes n.number

-- the numbers of a slot before its lists
abbrev pub spelled_slot_head : SlotUnit → List ℕ
spelled_slot_head s =
    s.node ∷ spelled_guard s.guard ++ spelled_flag s.counted ∷ s.actions ∷ spelled_flag s.last ∷ two_bytes s.held

abbrev pub spelled_slot : SlotUnit → List ℕ
spelled_slot s =
    spelled_slot_head s
    ++ spelled_list16 spelled_lane s.keys
    ++ spelled_memory s.memory
    ++ spelled_list32 spelled_number s.numbers

abbrev pub spelled_unit : ChipUnit → List ℕ
spelled_unit (Gate g) = 0 ∷ spelled_gate g
spelled_unit (Slot s) = 1 ∷ spelled_slot s

abbrev pub spelled_kind : OpKind → ℕ
spelled_kind kind.Copy = 0
spelled_kind kind.Add = 1
spelled_kind kind.Sub = 2
spelled_kind kind.And = 3
spelled_kind kind.Or = 4
spelled_kind kind.Xor = 5

abbrev pub spelled_source : Source → List ℕ
spelled_source (Word word low) = 0 ∷ word ∷ low ∷ []
spelled_source (Held low) = 1 ∷ two_bytes low
spelled_source (Constant value) = 2 ∷ four_bytes value

abbrev pub spelled_operation : Operation → List ℕ
spelled_operation op =
    op.word ∷ op.low ∷ op.len ∷ spelled_kind op.kind ∷ spelled_source op.left ++ spelled_source op.right

abbrev pub spelled_vliw : Vliw → List ℕ
spelled_vliw v = spelled_list8 spelled_operation v.ops

-- the 112 bits of a row are one number of 14 bytes
abbrev pub spelled_srow : SramRow → List ℕ
spelled_srow r = r.block ∷ two_bytes r.row ++ bytes_of 14 r.bits

abbrev pub spelled_trow : TcamRow → List ℕ
spelled_trow r = r.block ∷ two_bytes r.row ++ bytes_of 5 r.value ++ bytes_of 5 r.mask

-- the instructions have no count: each slot has one for each action and one for its default
abbrev pub spelled_stage : Stage → List ℕ
spelled_stage s =
    two_bytes s.start
    ++ spelled_list8 spelled_unit s.units
    ++ flat_map spelled_vliw s.code
    ++ spelled_list32 spelled_srow s.srows
    ++ spelled_list32 spelled_trow s.trows

abbrev pub spelled_parser : ParserConfig → List ℕ
spelled_parser p = spelled_list16 spelled_state p.states ++ spelled_list16 spelled_entry p.entries

-- the seed, and the lanes of the port of entry, the port of exit and the drop bit
abbrev pub spelled_ports : Config → List ℕ
spelled_ports c = c.seed ∷ spelled_lane c.in_port ++ spelled_lane c.out_port ++ spelled_lane c.drop

abbrev pub spelled_config : Config → List ℕ
spelled_config c =
    spelled_ports c
    ++ spelled_list8 spelled_header c.headers
    ++ spelled_parser c.parser
    ++ spelled_list8 spelled_stage c.stages

-- the whole image: the four letters, the version 1, and the configuration
abbrev pub spelled : Config → List ℕ
spelled c = codes "RMTI" ++ two_bytes 1 ++ spelled_config c

-- the counts that stand before lists fit their places; nothing else can keep a configuration from being written
pub record CountsFitSlot (s : SlotUnit) : Type 0 where
  pub keys : length s.keys < 2 ^ 16
  pub numbers : length s.numbers < 2 ^ 32

abbrev pub CountsFitUnit : ChipUnit → Type 0
CountsFitUnit (Gate g) = length g.tests < 2 ^ 8
CountsFitUnit (Slot s) = CountsFitSlot s

abbrev pub CountsFitHeader : OutHeader → Type 0
CountsFitHeader h = length h.pieces < 2 ^ 8

abbrev pub CountsFitState : ParserState → Type 0
CountsFitState s = length s.lookups < 2 ^ 8

abbrev pub CountsFitEntry : ParserEntry → Type 0
CountsFitEntry e = length e.extracts < 2 ^ 8

abbrev pub CountsFitVliw : Vliw → Type 0
CountsFitVliw v = length v.ops < 2 ^ 8

pub record CountsFitStage (s : Stage) : Type 0 where
  pub units : length s.units < 2 ^ 8
  pub each_unit : All CountsFitUnit s.units
  pub each_vliw : All CountsFitVliw s.code
  pub srows : length s.srows < 2 ^ 32
  pub trows : length s.trows < 2 ^ 32

pub record CountsFitParser (p : ParserConfig) : Type 0 where
  pub states : length p.states < 2 ^ 16
  pub each_state : All CountsFitState p.states
  pub entries : length p.entries < 2 ^ 16
  pub each_entry : All CountsFitEntry p.entries

pub record CountsFit (c : Config) : Type 0 where
  pub headers : length c.headers < 2 ^ 8
  pub each_header : All CountsFitHeader c.headers
  pub parser : CountsFitParser c.parser
  pub stages : length c.stages < 2 ^ 8
  pub each_stage : All CountsFitStage c.stages
