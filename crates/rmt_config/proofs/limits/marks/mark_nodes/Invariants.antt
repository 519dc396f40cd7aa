use Rattle.std.proofs.Common.{ℕ, List, ◌++◌, take, map}
use Rattle.rmt_config.specs.TableForm.{node_of}
use Rattle.rmt_config.specs.LimitSteps.{Marks}
use Rattle.rmt_config.proofs.limits.marks.mark_nodes.Given as goal

abbrev pub invariant-loop-unit : goal.invariant-loop-unit
invariant-loop-unit l = (ns : List ℕ) → Marks ns l.fn.marks → Marks (ns ++ map node_of (take l.unit-index l.units)) l.marks
