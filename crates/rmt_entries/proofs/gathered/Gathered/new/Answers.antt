use Rattle.std.proofs.Common.{◌∙◌, [], sym}
use Rattle.rmt_entries.proofs.GatherLaws.{by_node_more}
use Rattle.rmt_entries.proofs.gathered.Gathered.new.Goals as goal

pub loop-preserved : goal.loop-preserved
loop-preserved c = c.in_ok-push.ensures.items ∙ rw (c.new.ensures, c.loop.invariant) (sym (by_node_more c.loop.counter []))
