-- Parts from which the examples' configurations are put together.
use Rattle.std.specs.Prelude.{ℕ, List, [], ◌∷◌, Bool, Option, None, true, false}
use Rattle.rmt_bits.specs.Packet.{Packet}
use Rattle.rmt_bits.specs.declared.lane.Lane.{Lane}
use Rattle.rmt_bits.specs.declared.answer.Verdict.TheVariants as verdict
use Rattle.rmt_config.specs.Types.{CellNumber, Config, Extract, Memory, OutHeader, ParserConfig, ParserEntry, SlotUnit, Stage, TailOf, Unit, UnitGuard, Vliw, Operation, Source}
use Rattle.rmt_config.specs.declared.config.Next.TheVariants as next
use Rattle.rmt_config.specs.declared.config.Extract.TheVariants.{Bits, One}
use Rattle.rmt_config.specs.declared.config.Unit.TheVariants.{Slot}
use Rattle.rmt_config.specs.declared.config.Memory.TheVariants.{Without, Exact}
use Rattle.rmt_config.specs.declared.config.OpKind.TheVariants as kind
use Rattle.rmt_config.specs.declared.config.Source.TheVariants.{Word, Held, Constant}
use Rattle.rmt_config.specs.ChipRun.{Outcome}
use Rattle.rmt_config.specs.Life.{Counted}

abbrev pub packet : ℕ → List ℕ → Packet
packet port frame = record { port = port; frame = frame }

abbrev pub lane : ℕ → ℕ → ℕ → Lane
lane word low len = record { word = word; low = low; len = len }

-- a packet that is sent, and what it counts
abbrev pub sent : ℕ → List ℕ → List Counted → Outcome
sent port bytes counted = record { verdict = verdict.Sent port; bytes = bytes; counted = counted }

abbrev pub copy : ℕ → ℕ → ℕ → Source → Operation
copy word low len source = record { word = word; low = low; len = len; kind = kind.Copy; left = source; right = Constant 0 }

abbrev pub instruction : List Operation → Vliw
instruction ops = record { ops = ops }

-- a table of one part whose entries have so many actions and bits of data
abbrev pub table_slot : ℕ → ℕ → ℕ → List Lane → Memory → List CellNumber → SlotUnit
table_slot node actions held keys memory numbers = record {
  node = node;
  guard = None;
  counted = false;
  actions = actions;
  last = true;
  held = held;
  keys = keys;
  memory = memory;
  numbers = numbers;
}

-- a slot without memory, which runs its default
abbrev pub plain_slot : ℕ → Option UnitGuard → Unit
plain_slot node guard = Slot (record (table_slot node 0 0 [] Without []) { guard = guard })

-- a stage of units without memory
abbrev pub plain_stage : ℕ → List Unit → List Vliw → Stage
plain_stage start units code = record { start = start; units = units; code = code; srows = []; trows = [] }

-- a configuration whose ports are in words 64 and 65, and whose drop bit is bit 0 of word 0
abbrev pub chip : List OutHeader → ParserConfig → List Stage → Config
chip headers parser stages = record {
  seed = 0;
  in_port = lane 64 0 9;
  out_port = lane 65 0 9;
  drop = lane 0 0 1;
  headers = headers;
  parser = parser;
  stages = stages;
  names = None;
}

-- one header, whose valid bit is this lane, and whose bytes are read and sent by these
abbrev pub header_of : Lane → ℕ → List Extract → List Lane → List Stage → Config
header_of valid bytes extracts pieces stages =
    chip
    (record { valid = valid; bytes = bytes; pieces = pieces } ∷ [])
    (record {
      states = record { lookups = [] } ∷ [];
      entries = record { state = 0; value = 0; mask = 0; need = bytes; advance = bytes; next = next.Accept; extracts = One valid ∷ extracts } ∷ [];
      tails = [];
    })
    stages

-- one header h, whose valid is bit 1 of word 0
abbrev pub one_header : ℕ → List Extract → List Lane → List Stage → Config
one_header bytes extracts pieces stages = header_of (lane 0 1 1) bytes extracts pieces stages

-- two headers, the first of a byte in word 1, with valid bits 1 and 2 of word 0, and a parser of two states, of which the first looks at a byte
abbrev pub two_headers_of : ℕ → Lane → List ParserEntry → List TailOf → Config
two_headers_of bytes piece entries tails =
    chip
    (record { valid = lane 0 1 1; bytes = 1; pieces = lane 1 0 8 ∷ [] } ∷ record { valid = lane 0 2 1; bytes = bytes; pieces = piece ∷ [] } ∷ [])
    (record { states = record { lookups = 0 ∷ [] } ∷ record { lookups = [] } ∷ []; entries = entries; tails = tails })
    []

-- the header h { f : 8; } in word 1
abbrev pub one_byte : List Stage → Config
one_byte stages = one_header 1 (Bits 0 (lane 1 0 8) ∷ []) (lane 1 0 8 ∷ []) stages

-- table a does meta.x = h.f in the first stage; in the second one, which starts at that age, b is exact on meta.x, is counted where that is said, and has the
-- entry `7 go 5` in cell 2376, whose row of keys holds these bits; c does meta.x = 0
abbrev pub two_stages : ℕ → Bool → ℕ → Config
two_stages second counted bits =
    one_byte
    (plain_stage 0 (plain_slot 0 None ∷ []) (instruction (copy 2 0 8 (Word 1 0) ∷ []) ∷ [])
    ∷ record {
      start = second;
      units = Slot (record (table_slot 1 1 9 (lane 2 0 8 ∷ []) (Exact 1 3 1 0 (0 ∷ 1 ∷ 2 ∷ 3 ∷ []) (4 ∷ []) []) (record { cell = 2376; number = 0 } ∷ [])) { counted = counted })
          ∷ plain_slot 2 None ∷ [];
      code = instruction (copy 65 0 9 (Held 0) ∷ []) ∷ instruction [] ∷ instruction (copy 2 0 8 (Constant 0) ∷ []) ∷ [];
      srows = record { block = 0; row = 792; bits = bits } ∷ record { block = 4; row = 198; bits = 5 } ∷ [];
      trows = [];
    } ∷ [])
