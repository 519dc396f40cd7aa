use Rattle.std.proofs.Common.{arith, ◌≤◌, length}
use Rattle.rmt_phv.proofs.SetLaws.{has-insert_all}
use Rattle.rmt_phv.proofs.sets.insert_all.Goals as goal

pub returns : goal.returns
returns c =
    let l = c.loop-at in
    let end : length c.args.other.now ≤ l.at = omega arith in
    has-insert_all c.args.set.now c.args.other.now l.set c.requires (λ k lt. l.invariant.united k (omega arith)) (λ k le. l.invariant.kept k (omega arith))
