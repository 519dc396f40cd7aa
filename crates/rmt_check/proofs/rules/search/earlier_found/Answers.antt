use Rattle.rmt_check.proofs.Together.{held}
use Rattle.rmt_check.proofs.rules.search.earlier_found.Goals as goal

pub returns : goal.returns
returns c = λ xs ys p q. c.earlier.ensures.joined xs ys (held _ c.args.a c.in_ok-first.first c.in_ok-first.was p) (held _ c.args.b c.in_ok-second.second c.in_ok-second.was q)
