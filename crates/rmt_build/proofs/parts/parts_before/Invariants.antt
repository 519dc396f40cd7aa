use Rattle.std.proofs.Common.{◌≡◌, ◌≤◌}
use Rattle.rmt_build.specs.Plans.{parts_before}
use Rattle.rmt_build.proofs.parts.parts_before.Given as goal

-- the parts in the stages so far
abbrev pub invariant-loop-earlier : goal.invariant-loop-earlier
invariant-loop-earlier l = record {
  value : l.count ≡ parts_before l.parts l.node l.earlier;
  few : l.count ≤ l.earlier;
}
