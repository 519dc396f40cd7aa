use Rattle.std.proofs.Common.{◌≡◌}
use Rattle.rmt_build.proofs.LayoutLaws.{layout_upto}
use Rattle.rmt_build.proofs.loading.layout_of.Given as goal

abbrev pub invariant-loop-stage : goal.invariant-loop-stage
invariant-loop-stage l = l.layout ≡ layout_upto l.format.per l.parts l.node l.stage
