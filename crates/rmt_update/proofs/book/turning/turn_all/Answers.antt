use Rattle.std.proofs.Common.{arith}
use Rattle.rmt_update.proofs.EnteringLaws.{no-items, turning-all, turning-last, turning-more, turning-none}
use Rattle.rmt_update.proofs.book.turning.turn_all.Goals as goal

pub loop-turn-init : goal.loop-turn-init
loop-turn-init c = turning-none c.args.tables.now.items c.args.turns.items c.requires

pub turn_cell-requires : goal.turn_cell-requires
turn_cell-requires c =
    turning-last c.args.tables.now.items c.loop-turn.tables.items c.args.turns.items c.loop-turn.left.items c.pop.new.self.items c.in-Some.turn c.in-Some.ensures.items c.loop-turn.invariant

pub loop-turn-preserved : goal.loop-turn-preserved
loop-turn-preserved c =
    turning-more c.args.tables.now.items c.loop-turn.tables.items c.turn_cell.new.tables.items c.args.turns.items c.loop-turn.left.items c.pop.new.self.items c.in-Some.turn c.in-Some.ensures.items c.loop-turn.invariant c.turn_cell.ensures

pub returns : goal.returns
returns c =
    let none = c.in_default.ensures.cases.0 in
    let ok = c.loop-turn.left.ok.0 in
    turning-all c.args.tables.now.items c.loop-turn.tables.items c.args.turns.items c.loop-turn.left.items (no-items c.loop-turn.left.items (omega (arith, none, ok))) c.loop-turn.invariant
