-- The parts so far, and those of the hits that are left, are all.
use Rattle.std.proofs.Common.{◌≡◌, ◌++◌, drop}
use Rattle.std.specs.List.{flat_map}
use Rattle.rmt_core.specs.NoFitText.{hit_text}
use Rattle.rmt_core.proofs.no_fit.add_hits.Given as goal

abbrev pub invariant-loop-hit : goal.invariant-loop-hit
invariant-loop-hit l = l.text.items ++ flat_map hit_text (drop l.hit-index l.hits) ≡ l.initial.text.items ++ flat_map hit_text l.hits
