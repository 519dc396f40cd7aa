-- A program on two stages, with its entries, its map and its configuration, written out: two tables stand in each stage, a ternary table in both, and the second
-- stage begins before what the first one writes is seen.
use Rattle.std.proofs.Common.{ℕ, ◌+◌, ◌*◌, ◌^◌, Bool, true, false, List, [], ◌∷◌, None, Some}
use Rattle.std.specs.Prelude.{codes}
use Rattle.rmt_bits.specs.declared.lane.Lane.{Lane}
use Rattle.rmt_refine.specs.Types.{Program, Test, Action, Table, Config, ParserConfig, Stage, SlotUnit, CellNumber, Operation, Source}
use Rattle.rmt_ast.specs.declared.program.Expr.TheVariants.{One}
use Rattle.rmt_ast.specs.declared.program.Leaf.TheVariants as leaf
use Rattle.rmt_ast.specs.declared.program.Kind.TheVariants.{Ternary}
use Rattle.rmt_ast.specs.declared.entry.Entry.{Entry}
use Rattle.rmt_ast.specs.declared.names.Names.{Names}
use Rattle.rmt_ast.specs.Naming.{names_of}
use Rattle.rmt_ast.proofs.Programs.{action, keyless, three_tables}
use Rattle.rmt_config.specs.declared.config.OpKind.TheVariants.{Copy}
use Rattle.rmt_config.specs.declared.config.Source.TheVariants.{Word, Held, Constant}
use Rattle.rmt_config.specs.declared.config.Extract.TheVariants.{Bits, One as PutOne}
use Rattle.rmt_config.specs.declared.config.Next.TheVariants as next
use Rattle.rmt_config.specs.declared.config.Unit.TheVariants.{Slot}
use Rattle.rmt_config.specs.declared.config.Memory.TheVariants as memory
use Rattle.rmt_pack.specs.declared.placement.Part.{Part}
use Rattle.rmt_refine.specs.declared.map.CellOf.{CellOf}
use Rattle.rmt_refine.specs.declared.map.Map.{Map}

abbrev pub lane : ℕ → ℕ → ℕ → Lane
lane word low len = record { word = word; low = low; len = len }

abbrev pub test : ℕ → ℕ → Test
test value mask = record { value = value; mask = mask }

-- ---- the program

-- a ternary table on h.f that gives the port, by default 0
abbrev pub ports : Table
ports = record { name = codes "ports"; kind = Ternary; key = 4 ∷ []; actions = 0 ∷ []; default = 0; args = 0 ∷ []; size = 8; counted = true }

abbrev pub note : Table
note = keyless (codes "note") 1

abbrev pub back : Table
back = keyless (codes "back") 2

-- it gives the port that an entry tells
abbrev pub go : Action
go = action (codes "go") (9 ∷ []) (record { dest = 1; expr = One (leaf.Param 0) } ∷ [])

abbrev pub keep : Action
keep = action (codes "keep") [] (record { dest = 5; expr = One (leaf.Field 4) } ∷ [])

abbrev pub restore : Action
restore = action (codes "restore") [] (record { dest = 4; expr = One (leaf.Field 5) } ∷ [])

-- header h { f : 8; } and metadata x : 8; note does meta.x = h.f, ports looks h.f up, and back does h.f = meta.x
abbrev pub program : Program
program = three_tables (go ∷ keep ∷ restore ∷ []) note ports back

abbrev pub entry : ℕ → ℕ → ℕ → ℕ → ℕ → Entry
entry number rank value mask port = record { table = 1; number = number; tests = test value mask ∷ []; rank = rank; action = 0; args = port ∷ [] }

-- priority 30 on 0x1_ gives 1, priority 20 on 0x_2 gives 2, and priority 20 on 0x32 gives 3
abbrev pub lowest_last : Entry
lowest_last = entry 0 30 0x10 0xf0 1

abbrev pub first_line : Entry
first_line = entry 1 20 0x02 0x0f 2

abbrev pub second_line : Entry
second_line = entry 2 20 0x32 0xff 3

abbrev pub entries : List Entry
entries = lowest_last ∷ first_line ∷ second_line ∷ []

abbrev pub lists : List (List Entry)
lists = [] ∷ entries ∷ [] ∷ []

-- ---- its map

-- in_port, out_port and drop, then h.valid, h.f and meta.x
abbrev pub places : List (List Lane)
places = (lane 128 0 9 ∷ []) ∷ (lane 129 0 9 ∷ []) ∷ (lane 0 0 1 ∷ []) ∷ (lane 0 1 1 ∷ []) ∷ (lane 1 0 8 ∷ []) ∷ (lane 2 0 8 ∷ []) ∷ []

abbrev pub part : ℕ → ℕ → Part
part node stage = record { node = node; stage = stage; quanta = 1 }

-- note and ports in stage 0, ports and back in stage 1
abbrev pub parts : List Part
parts = part 0 0 ∷ part 1 0 ∷ part 1 1 ∷ part 2 1 ∷ []

-- the lines of priority 20 in stage 0, that of priority 30 in stage 1
abbrev pub cells : List CellOf
cells = record { entry = 0; stage = 1; cell = 0 } ∷ record { entry = 1; stage = 0; cell = 0 } ∷ record { entry = 2; stage = 0; cell = 1 } ∷ []

abbrev pub its_map : Map
its_map = record { places = places; placement = record { parts = parts }; starts = 0 ∷ 3 ∷ []; cells = cells }

-- ---- its configuration

-- bits of a source are copied to a lane
abbrev pub copy : Lane → Source → Operation
copy l x = record { word = l.word; low = l.low; len = l.len; kind = Copy; left = x; right = Constant 0 }

abbrev pub keyless_unit : ℕ → SlotUnit
keyless_unit node = record { node = node; guard = None; counted = false; actions = 0; last = true; held = 0; keys = []; memory = memory.Without; numbers = [] }

abbrev pub number_at : ℕ → ℕ → CellNumber
number_at cell number = record { cell = cell; number = number }

abbrev pub ports_unit : Bool → List CellNumber → SlotUnit
ports_unit last numbers = record (keyless_unit 1) {
  counted = true;
  actions = 1;
  last = last;
  held = 9;
  keys = lane 1 0 8 ∷ [];
  memory = memory.Ternary 1 (0 ∷ []) (0 ∷ []) (1 ∷ 2 ∷ []);
  numbers = numbers;
}

-- the entries' instructions and that of the default, with port 0
abbrev pub send : List Operation
send = copy (lane 129 0 9) (Held 0) ∷ []

abbrev pub send_zero : List Operation
send_zero = copy (lane 129 0 9) (Constant 0) ∷ []

abbrev pub to_x : List Operation
to_x = copy (lane 2 0 8) (Word 1 0) ∷ []

abbrev pub from_x : List Operation
from_x = copy (lane 1 0 8) (Word 2 0) ∷ []

-- two cells are occupied, with both visible bits: their instruction is number 1, behind that of note, and their data the ports 2 and 3
abbrev pub first_stage : Stage
first_stage = record {
  start = 0;
  units = Slot (keyless_unit 0) ∷ Slot (ports_unit false (number_at 0 1 ∷ number_at 1 2 ∷ [])) ∷ [];
  code = record { ops = to_x } ∷ record { ops = send } ∷ record { ops = send_zero } ∷ [];
  srows = record { block = 0; row = 0; bits = 15 + 2 * 2 ^ 8 + (15 + 3 * 2 ^ 8) * 2 ^ 17 } ∷ [];
  trows = record { block = 0; row = 0; value = 0x02; mask = 0x0f } ∷ record { block = 0; row = 1; value = 0x32; mask = 0xff } ∷ [];
}

-- one cell is occupied: its instruction is number 0, and its data the port 1
abbrev pub second_stage : Stage
second_stage = record {
  start = 3;
  units = Slot (ports_unit true (number_at 0 0 ∷ [])) ∷ Slot (keyless_unit 2) ∷ [];
  code = record { ops = send } ∷ record { ops = send_zero } ∷ record { ops = from_x } ∷ [];
  srows = record { block = 0; row = 0; bits = 7 + 1 * 2 ^ 8 } ∷ [];
  trows = record { block = 0; row = 0; value = 0x10; mask = 0xf0 } ∷ [];
}

-- a frame of one byte and more is accepted: h.valid is set, and the byte put to h.f
abbrev pub its_parser : ParserConfig
its_parser = record {
  states = record { lookups = [] } ∷ [];
  entries = record { state = 0; value = 0; mask = 0; need = 1; advance = 1; next = next.Accept; extracts = PutOne (lane 0 1 1) ∷ Bits 0 (lane 1 0 8) ∷ [] } ∷ [];
  tails = [];
}

abbrev pub its_names : Names
its_names = names_of program lists

abbrev pub config : Config
config = record {
  seed = 0;
  in_port = lane 128 0 9;
  out_port = lane 129 0 9;
  drop = lane 0 0 1;
  headers = record { valid = lane 0 1 1; bytes = 1; pieces = lane 1 0 8 ∷ [] } ∷ [];
  parser = its_parser;
  stages = first_stage ∷ second_stage ∷ [];
  names = Some its_names;
}
