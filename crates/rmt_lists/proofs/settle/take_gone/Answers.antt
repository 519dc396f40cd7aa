use Rattle.std.proofs.Common.{arith}
use Rattle.rmt_lists.proofs.settle.take_gone.Goals as goal

pub index_mut-requires : goal.index_mut-requires
index_mut-requires c = omega (arith, c.loop-at-test.true, c.len-at-end.ensures, c.args.lists.now.ok.0, c.loop-at.lists.ok.0, c.loop-at.invariant.count)
