-- The instructions of a stage, each of which has its operations by rising word.
use Rattle.std.specs.Prelude.{◌≡◌, List, All, map, true}
use Rattle.rmt_config.specs.Order.{rises_from}
use Rattle.rmt_config.specs.declared.config.Vliw.{Vliw}
use Rattle.rmt_refine.specs.Types.{Operation, Stage}

-- each word is above the one before it
abbrev pub WordsRise : List Operation → Type 0
WordsRise ops = rises_from 0 (map (λ (op : Operation). op.word) ops) ≡ true

abbrev pub CodeRises : Stage → Type 0
CodeRises stage = All (λ (v : Vliw). WordsRise v.ops) stage.code
