use Rattle.std.proofs.Common.{ℕ, List, ◌++◌, take}
use Rattle.rmt_config.specs.LimitSteps.{Marks}
use Rattle.rmt_place.proofs.load.with_words.Given as goal

abbrev pub invariant-loop-word : goal.invariant-loop-word
invariant-loop-word l = (ns : List ℕ) → Marks ns l.marks → Marks (ns ++ take l.word-index l.words) l.all
