use Rattle.rmt_switch.proofs.DistinctLaws.{distinct_none}
use Rattle.rmt_switch.proofs.group_table.Groups.ports.Goals as goal

pub returns-in-None-clause-once : goal.returns-in-None-clause-once
returns-in-None-clause-once c = distinct_none
