use Rattle.std.proofs.Common.{List, ◌<◌, All, take_all, get_or, subst, arith}
use Rattle.rmt_cuckoo.specs.declared.way.Way.{Way}
use Rattle.rmt_cuckoo.specs.Choices.{rows_in}
use Rattle.rmt_cuckoo.proofs.RowLaws.{in_rows}
use Rattle.rmt_cuckoo.proofs.choices.free_in_rows.Goals as goal

pub returns-in-Some-clause-chosen : goal.returns-in-Some-clause-chosen
returns-in-Some-clause-chosen c =
    in_rows c.args.seed c.args.key.now c.args.ways.now _ c.loop-way.way-index c.in-Some.cell c.loop-way-test.true c.in-Some.ensures.chosen

pub returns-clause-none : goal.returns-clause-none
returns-clause-none c = λ _.
    subst (λ (ws : List Way). All (λ x. 0 < get_or c.args.holders.now x 0) (rows_in c.args.seed ws c.args.key.now))
    (take_all c.loop-way.way-index c.args.ways.now (omega arith)) c.loop-way.invariant
