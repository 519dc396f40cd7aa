use Rattle.std.proofs.Common.{arith}
use Rattle.rmt_lists.proofs.KeyLaws.{knows_pop, length-without}
use Rattle.rmt_lists.proofs.held.Held.pop.Goals as goal

pub returns : goal.returns
returns c es k h own some = record {
  knows = knows_pop c.args.self.now.numbers c.pop.new.self es k c.args.key.now h.knows own c.pop.ensures;
  count = omega (arith, h.count, length-without k es some);
}
