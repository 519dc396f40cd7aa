use Rattle.std.proofs.Common.{take}
use Rattle.std.specs.List.{flat_map}
use Rattle.rmt_config.specs.LimitSteps.{Marks, words_over}
use Rattle.rmt_config.proofs.limits.crossbar.bits_over.Given as goal

abbrev pub invariant-loop-unit : goal.invariant-loop-unit
invariant-loop-unit l = Marks (flat_map (words_over l.crossbar) (take l.unit-index l.units)) l.marks
