use Rattle.std.proofs.Common.{◌∷◌, [], arith, length-append}
use Rattle.rmt_lists.proofs.KeyLaws.{knows_push}
use Rattle.rmt_lists.proofs.held.Held.push.Goals as goal

pub returns-clause-held : goal.returns-clause-held
returns-clause-held c es e h own number = record {
  knows = knows_push c.args.self.now.numbers c.push.new.self es e c.args.key c.args.number h.knows own number c.in_ok-push.ensures.pushed;
  count = omega (arith, h.count, length-append es (e ∷ []));
}
