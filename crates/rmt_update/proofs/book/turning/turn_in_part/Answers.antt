use Rattle.std.proofs.Common.{Some, sym, ap, ◌∙◌}
use Rattle.rmt_update.specs.Turning.{turned_by}
use Rattle.rmt_update.proofs.EnteringLaws.{part-written, same-shown}
use Rattle.rmt_update.proofs.book.turning.turn_in_part.Goals as goal

pub returns-in-Some : goal.returns-in-Some
returns-in-Some c =
    let k = c.in-Some.kept.now in
    part-written c.args.part.now (c.get_mut.follows.lender _) c.args.cell (turned_by c.args.turn) k _ (sym c.in-Some.ensures.value) (ap (λ t. turned_by t (Some k)) c.in-Shows.is ∙ ap Some (same-shown k c.in-Shows.visible _ _ _)) (c.get_mut.follows.holds _)
