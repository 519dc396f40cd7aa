use Rattle.std.proofs.Common.{ap, not}
use Rattle.std.proofs.lemmas.Bool.{eq-eqb, ne_eqb}
use Rattle.rmt_update.proofs.IndexCells.{cells-more, cells-recent}
use Rattle.rmt_update.proofs.book.book_index.put_cell.Goals as goal

pub returns-in_ok-push-2 : goal.returns-in_ok-push-2
returns-in_ok-push-2 c = λ cells h.
    cells-recent cells c.args.spot c.args.kept.now c.args.gathered.now.spots.items c.push.new.self.items c.args.gathered.now.recent.items h c.in_ok-push.ensures.items c.push-then-kept-ne3.new.self.items
    (ap not (ne_eqb c.args.kept.now.visible 3 c.if-kept-ne3.true)) c.in_ok-push-2.ensures.items

pub returns-else-kept-ne3 : goal.returns-else-kept-ne3
returns-else-kept-ne3 c = λ cells h.
    cells-more cells c.args.spot c.args.kept.now c.args.gathered.now.spots.items c.push.new.self.items c.args.gathered.now.recent.items h c.in_ok-push.ensures.items
    (ap not (eq-eqb c.args.kept.now.visible 3 c.if-kept-ne3.false))
