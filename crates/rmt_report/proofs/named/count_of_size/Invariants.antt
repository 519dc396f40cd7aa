use Rattle.std.proofs.Common.{◌≡◌, ◌+◌, ◌≤◌, drop}
use Rattle.rmt_config.specs.LimitSteps.{marked_sum}
use Rattle.rmt_report.proofs.MarkLaws.{one_of_size}
use Rattle.rmt_report.proofs.named.count_of_size.Given as goal

abbrev pub invariant-loop-word : goal.invariant-loop-word
invariant-loop-word l = record {
  counted : l.count + marked_sum (one_of_size l.size) l.word (drop l.word l.marks) ≡ marked_sum (one_of_size l.size) 0 l.marks;
  small : l.count ≤ l.word;
}
