-- What a configuration must be for the chip to run it.
use Rattle.std.specs.Prelude.{◌≡◌, ℕ, ◌+◌, ◌*◌, ◌^◌, ◌<◌, ◌≤◌, Bool, true, ◌&&◌, nat_lt, nat_le, IsTrue, List, length, map, slice_index, All}
use Rattle.rmt_bits.specs.Words.{word_size}
use Rattle.rmt_bits.specs.declared.lane.Lane.{Lane}
use Rattle.rmt_chip.specs.Types.{Config, OutHeader, Stage, Unit, GateTest, Vliw, Operation, Source}
use Rattle.rmt_config.specs.declared.config.Source.TheVariants.{Word, Held, Constant}
use Rattle.rmt_config.specs.declared.config.Unit.TheVariants.{Gate, Slot}
use Rattle.rmt_config.specs.LaneForm.{bits_of_lanes}
use Rattle.rmt_config.specs.Resources.{unit_data}
use Rattle.rmt_ptcam.specs.Fitting.{IsParser}

-- a lane lies in its word
pub record LaneFits (lane : Lane) : Type 0 where
  pub exists : lane.word < 224
  pub within : lane.low + lane.len ≤ word_size lane.word

-- a source has bits for an operation of that many
abbrev pub source_fits : ℕ → Source → Bool
source_fits len (Word word low) = nat_lt word 224 && nat_le (low + len) (word_size word)
source_fits len (Held low) = true
source_fits len (Constant value) = nat_lt value (2 ^ len)

pub record OperationFits (op : Operation) : Type 0 where
  pub exists : op.word < 224
  pub within : op.low + op.len ≤ word_size op.word
  pub left_fits : IsTrue (source_fits op.len op.left)
  pub right_fits : IsTrue (source_fits op.len op.right)

-- an instruction: its operations fit and rise strictly by word
pub record InstructionFits (code : Vliw) : Type 0 where
  pub each : All OperationFits code.ops
  pub rises : (i j : ℕ) → i < j → j < length code.ops → slice_index (map (λ (op : Operation). op.word) code.ops) i < slice_index (map (λ (op : Operation). op.word) code.ops) j

-- the lanes of tests and keys exist, and no key has more than 640 bits
abbrev pub UnitReads : Unit → Type 0
UnitReads (Gate g) = All (λ (t : GateTest). LaneFits t.lane) g.tests
UnitReads (Slot s) = All LaneFits s.keys × (bits_of_lanes s.keys ≤ 640)

pub record StageReads (stage : Stage) : Type 0 where
  pub few_units : length stage.units ≤ 32
  pub each : All UnitReads stage.units

pub record StageFits (stage : Stage) : Type 0 where
  pub reads : StageReads stage
  pub short : All (λ u. unit_data u < 65536) stage.units
  pub code : All InstructionFits stage.code

-- the age at which a stage begins
abbrev pub start_of : List Stage → ℕ → ℕ
start_of stages k = slice_index (map (λ (stage : Stage). stage.start) stages) k

-- stages that begin one after another, early enough that each packet has left by age 384
pub record StagesFit (stages : List Stage) : Type 0 where
  pub few : length stages ≤ 32
  pub rise : (j k : ℕ) → j < k → k < length stages → start_of stages j < start_of stages k
  pub last : (k : ℕ) → k < length stages → start_of stages k ≤ 372
  pub each : All StageFits stages

-- a header that is sent: its lanes have as many bits as its bytes, at most 64
pub record HeaderFits (header : OutHeader) : Type 0 where
  pub valid : LaneFits header.valid
  pub few_bytes : header.bytes ≤ 64
  pub pieces : All LaneFits header.pieces
  pub whole : bits_of_lanes header.pieces ≡ 8 * header.bytes

pub record IsRunnable (c : Config) : Type 0 where
  pub in_port : LaneFits c.in_port
  pub port_bits : c.in_port.len ≡ 9
  pub out_port : LaneFits c.out_port
  pub out_bits : c.out_port.len ≡ 9
  pub drop : LaneFits c.drop
  pub few_headers : length c.headers ≤ 64
  pub headers : All HeaderFits c.headers
  pub parser : IsParser c.parser
  pub stages : StagesFit c.stages
