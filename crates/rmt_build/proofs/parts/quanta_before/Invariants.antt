use Rattle.std.proofs.Common.{◌≡◌, ◌≤◌, ◌*◌}
use Rattle.rmt_build.specs.Plans.{quanta_before}
use Rattle.rmt_build.proofs.parts.quanta_before.Given as goal

-- the quanta of the stages so far
abbrev pub invariant-loop-earlier : goal.invariant-loop-earlier
invariant-loop-earlier l = record {
  value : l.quanta ≡ quanta_before l.parts l.node l.earlier;
  few : l.quanta ≤ 106 * l.earlier;
}
