-- The words of the header vector that a configuration names: in lanes, tests, operations and sources.
use Rattle.std.specs.Prelude.{ℕ, List, [], ◌∷◌, ◌++◌, ◌==◌}
use Rattle.std.specs.List.{flat_map, count_by}
use Rattle.rmt_bits.specs.Words.{word_size}
use Rattle.rmt_bits.specs.declared.lane.Lane.{Lane}
use Rattle.rmt_config.specs.declared.config.Config.{Config}
use Rattle.rmt_config.specs.declared.config.OutHeader.{OutHeader}
use Rattle.rmt_config.specs.declared.config.ParserEntry.{ParserEntry}
use Rattle.rmt_config.specs.declared.config.Extract.{Extract}
use Rattle.rmt_config.specs.declared.config.Stage.{Stage}
use Rattle.rmt_config.specs.declared.config.Unit.{Unit}
use Rattle.rmt_config.specs.declared.config.GateTest.{GateTest}
use Rattle.rmt_config.specs.declared.config.Vliw.{Vliw}
use Rattle.rmt_config.specs.declared.config.Operation.{Operation}
use Rattle.rmt_config.specs.declared.config.Source.{Source}
use Rattle.rmt_config.specs.declared.config.Extract.TheVariants.{Bits, One}
use Rattle.rmt_config.specs.declared.config.Unit.TheVariants.{Gate, Slot}
use Rattle.rmt_config.specs.declared.config.Source.TheVariants as source
use Rattle.rmt_config.specs.Resources.{distinct}

-- a lane is of one word
abbrev pub lane_words : Lane → List ℕ
lane_words lane = lane.word ∷ []

-- ---- what the parser fills, and what is sent

-- an extract fills a lane
abbrev pub extract_words : Extract → List ℕ
extract_words (Bits from lane) = lane_words lane
extract_words (One lane) = lane_words lane

-- an entry of the parser
abbrev pub entry_words : ParserEntry → List ℕ
entry_words e = flat_map extract_words e.extracts

-- a header: the lane that says whether it is sent, and the lanes of its bytes
abbrev pub header_words : OutHeader → List ℕ
header_words h = lane_words h.valid ++ flat_map lane_words h.pieces

-- ---- what a stage reads and writes

-- a test reads a lane
abbrev pub test_words : GateTest → List ℕ
test_words test = lane_words test.lane

-- a gate reads by its tests, and a slot by its key
abbrev pub unit_words : Unit → List ℕ
unit_words (Gate g) = flat_map test_words g.tests
unit_words (Slot s) = flat_map lane_words s.keys

-- a source names a word, or data, or a constant
abbrev pub source_words : Source → List ℕ
source_words (source.Word word low) = word ∷ []
source_words (source.Held low) = []
source_words (source.Constant value) = []

-- an operation writes a word, and has two sources
abbrev pub operation_words : Operation → List ℕ
operation_words op = op.word ∷ [] ++ source_words op.left ++ source_words op.right

-- an instruction
abbrev pub vliw_words : Vliw → List ℕ
vliw_words v = flat_map operation_words v.ops

-- a stage
abbrev pub stage_words : Stage → List ℕ
stage_words stage = flat_map unit_words stage.units ++ flat_map vliw_words stage.code

-- ---- a whole configuration

-- the words that a configuration names, as often as it names them
abbrev pub named_words : Config → List ℕ
named_words c =
    lane_words c.in_port ++ lane_words c.out_port ++ lane_words c.drop
    ++ flat_map header_words c.headers ++ flat_map entry_words c.parser.entries ++ flat_map stage_words c.stages

-- how many words of so many bits it names, each counted once
abbrev pub words_of_size : ℕ → Config → ℕ
words_of_size size c = count_by (λ word. word_size word == size) (distinct (named_words c))
