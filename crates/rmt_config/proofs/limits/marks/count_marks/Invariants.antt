use Rattle.std.proofs.Common.{◌≡◌, ◌+◌, ◌≤◌, drop}
use Rattle.rmt_config.specs.LimitSteps.{marked_sum}
use Rattle.rmt_config.proofs.limits.marks.count_marks.Given as goal

abbrev pub invariant-loop-mark : goal.invariant-loop-mark
invariant-loop-mark l = record {
  counted : l.count + marked_sum (λ _. 1) l.mark-index (drop l.mark-index l.marks) ≡ marked_sum (λ _. 1) 0 l.marks;
  small : l.count ≤ l.mark-index;
}
