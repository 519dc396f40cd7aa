use Rattle.std.proofs.Common.{◌≡◌, ◌≤◌, ◌*◌, ℕ, take, vec_len, vec_capacity}
use Rattle.std.specs.Prelude.{slice_index}
use Rattle.rmt_config.specs.Life.{word_after}
use Rattle.rmt_chip.specs.Ran.{all_running}
use Rattle.rmt_chip.specs.Writes.{last_on, most_ops}
use Rattle.rmt_chip.proofs.operands.compute.Given as goal

abbrev pub invariant-loop-ran : goal.invariant-loop-ran
invariant-loop-ran l = record {
  due : (w : ℕ) → last_on l.due.items w ≡ word_after (all_running l.code l.looked (take l.ran-index l.running)) (λ v. slice_index l.fn.vector v) w;
  len : vec_len l.due ≤ l.ran-index * most_ops l.code;
  room : vec_capacity l.fn.due ≤ vec_capacity l.due;
}
