use Rattle.std.proofs.Common.{None, arith, rules}
use Rattle.std.proofs.lemmas.Grind.{common_steps}
use Rattle.rmt_lists.proofs.MapLaws.{first_seen}
use Rattle.rmt_lists.proofs.key_numbers.first_queued.Goals as goal

pub returns-in-Some : goal.returns-in-Some
returns-in-Some c = first_seen c.args.queues.now c.args.key.now c.copied.result (grind (arith, common_steps))

pub returns-in-None : goal.returns-in-None
returns-in-None c = first_seen c.args.queues.now c.args.key.now None (search rules)
