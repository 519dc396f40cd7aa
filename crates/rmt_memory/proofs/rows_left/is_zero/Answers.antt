use Rattle.std.proofs.Common.{◌≤◌, get_or, arith, below_more}
use Rattle.std.specs.Prelude.{bit_or}
use Rattle.std.proofs.lemmas.Nat.{le_or_l, le_or_r}
use Rattle.rmt_memory.proofs.rows_left.is_zero.Goals as goal

pub loop-at-preserved : goal.loop-at-preserved
loop-at-preserved c =
    let any = c.loop-at.any in
    let word = get_or c.args.words.now c.loop-at.at 0 in
    below_more (λ k. get_or c.args.words.now k 0 ≤ bit_or any word) c.loop-at.at
    (λ k lt. let was = c.loop-at.invariant k lt in let more = le_or_l any word in omega (arith, was, more))
    (le_or_r any word)
