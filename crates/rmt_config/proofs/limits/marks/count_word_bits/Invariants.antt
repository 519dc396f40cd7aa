use Rattle.std.proofs.Common.{◌≡◌, ◌+◌, ◌*◌, ◌≤◌, drop}
use Rattle.rmt_bits.specs.Words.{word_size}
use Rattle.rmt_config.specs.LimitSteps.{marked_sum}
use Rattle.rmt_config.proofs.limits.marks.count_word_bits.Given as goal

abbrev pub invariant-loop-word : goal.invariant-loop-word
invariant-loop-word l = record {
  counted : l.bits + marked_sum word_size l.word (drop l.word l.marks) ≡ marked_sum word_size 0 l.marks;
  small : l.bits ≤ 32 * l.word;
}
