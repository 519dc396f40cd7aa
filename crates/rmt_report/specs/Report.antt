-- What a configuration uses of the chip, as a JSON object.
use Rattle.std.specs.Prelude.{ℕ, List, length, map, codes}
use Rattle.serde_json.specs.Data.{Data, number, unsigned, object, array, member, no_members, item, no_items}
use Rattle.serde_json.specs.View.{items_of}
use Rattle.rmt_config.specs.declared.config.Config.{Config}
use Rattle.rmt_config.specs.declared.config.ParserConfig.{ParserConfig}
use Rattle.rmt_config.specs.declared.config.Stage.{Stage}
use Rattle.rmt_config.specs.ChipRun.{latency_of}
use Rattle.rmt_report.specs.declared.stage_use.StageUse.{StageUse}
use Rattle.rmt_report.specs.StageUse.{use_of}
use Rattle.rmt_report.specs.declared.named.WordCounts.{WordCounts}
use Rattle.rmt_report.specs.WordCounts.{counts_of}

-- a number of JSON
abbrev pub numeral : ℕ → Data
numeral n = number (unsigned n)

-- what a stage uses: data bits, the bits of both crossbars, units, instructions, blocks, and when it starts
abbrev pub stage_report : StageUse → Data
stage_report used = object (
    member (codes "data") (numeral used.data_bits) (
    member (codes "exact_bits") (numeral used.exact_bits) (
    member (codes "gates") (numeral used.gates) (
    member (codes "instructions") (numeral used.instructions) (
    member (codes "slots") (numeral used.slots) (
    member (codes "sram") (numeral used.sram) (
    member (codes "start") (numeral used.start) (
    member (codes "tcam") (numeral used.tcam) (
    member (codes "ternary_bits") (numeral used.ternary_bits) no_members)))))))))

-- the size of the parser
abbrev pub parser_report : ParserConfig → Data
parser_report parser = object (
    member (codes "entries") (numeral (length parser.entries)) (
    member (codes "states") (numeral (length parser.states)) no_members))

-- how many words of 8, of 16 and of 32 bits are named
abbrev pub words_report : WordCounts → Data
words_report counts = array (item (numeral counts.bytes) (item (numeral counts.halves) (item (numeral counts.wholes) no_items)))

-- a report of its parts, its keys in the order of their bytes
abbrev pub report_from : ℕ → Data → List Data → Data → Data
report_from latency parser stages words = object (
    member (codes "latency") (numeral latency) (
    member (codes "parser") parser (
    member (codes "stages") (array (items_of stages)) (
    member (codes "words") words no_members))))

-- the report of a configuration
abbrev pub report_of : Config → Data
report_of c = report_from (latency_of c.stages) (parser_report c.parser) (map (λ (stage : Stage). stage_report (use_of stage)) c.stages) (words_report (counts_of c))
