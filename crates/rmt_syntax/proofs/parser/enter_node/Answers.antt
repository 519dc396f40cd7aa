use Rattle.rmt_syntax.proofs.Words.{ap, arith, Node, slice_get-item, weight}
use Rattle.rmt_syntax.proofs.Machine.{room, enter_stands}
use Rattle.rmt_syntax.proofs.BeforeLaws.{arrives, at_part}
use Rattle.rmt_syntax.proofs.Choosing.{enter_lowers}
use Rattle.rmt_syntax.proofs.parser.enter_node.Goals as goal

pub enter-requires-clause-room : goal.enter-requires-clause-room
enter-requires-clause-room c = omega (arith, room c.requires.stands)

pub returns-clause-ok : goal.returns-clause-ok
returns-clause-ok c =
    let e = c.in_ok-enter.ensures in
    let p = at_part c.args.reader.now (Node c.args.rule) c.requires.next c.requires.stands in
    let t = slice_get-item c.args.tokens.now c.args.at c.requires.inside in
    arrives c.enter.new.self (e.goals p.0 p.1) e.marks e.depth (enter_stands t.1 c.in_ok-check_block.ensures.ok p.2)

pub returns-clause-lower : goal.returns-clause-lower
returns-clause-lower c =
    let p = at_part c.args.reader.now (Node c.args.rule) c.requires.next c.requires.stands in
    omega (arith, ap weight (c.in_ok-enter.ensures.goals p.0 p.1), ap weight p.1, enter_lowers c.args.rule p.0)
