use Rattle.std.proofs.Common.{◌≡◌, ◌++◌, ◌∷◌, [], List, sym, ap, ◌∙◌, subst}
use Rattle.rmt_update.specs.declared.book.turning.CellTurn.{CellTurn}
use Rattle.rmt_update.specs.declared.book.turning.Turn.{Turn}
use Rattle.rmt_book.specs.BookSpots.{kept_at}
use Rattle.rmt_update.specs.Turning.{IsSpotIn, LeadBack, TablesWith, turn_to, turned_by}
use Rattle.rmt_update.proofs.EnteringLaws.{lead-more, lead-same, lead-undone, still-there}
use Rattle.rmt_update.proofs.book.entering.enter_one.Goals as goal

pub returns-in_err-before-clause-back : goal.returns-in_err-before-clause-back
returns-in_err-before-clause-back c =
    lead-same c.args.entered.now.items c.args.coming.spot c.args.tables.now.items c.put_in.new.tables.items c.in_err-before.ensures.stays

pub turn_cell-requires : goal.turn_cell-requires
turn_cell-requires c =
    let us = c.args.tables.now.items in
    let vs = c.put_in.new.tables.items in
    let s = c.args.coming.spot in
    subst (λ (x : CellTurn). IsSpotIn vs x.spot) (sym c.in-Err.ensures.value_returned) (still-there us vs s c.in_ok-before.ensures.put.same c.requires)

pub returns-in-Err-clause-back : goal.returns-in-Err-clause-back
returns-in-Err-clause-back c =
    let turns = c.args.entered.now.items in
    let us = c.args.tables.now.items in
    let vs = c.put_in.new.tables.items in
    let ws = c.turn_cell.new.tables.items in
    let s = c.args.coming.spot in
    let undo : TablesWith s (turned_by c.turn_back-turn.result) vs ws = subst (λ (x : CellTurn). TablesWith x.spot (turned_by x.turn) vs ws) c.in-Err.ensures.value_returned c.turn_cell.ensures in
    let own : TablesWith s (turned_by (turn_to (kept_at us s))) vs ws =
    subst (λ (t : Turn). TablesWith s (turned_by t) vs ws) (c.turn_back-turn.ensures ∙ ap turn_to c.in_ok-before.ensures.before) undo in
    λ ts lead. subst (λ xs. LeadBack xs ws ts) (sym c.in-Err.ensures.items) (lead-undone turns s c.args.coming.kept us vs ws c.in_ok-before.ensures.put own ts lead)

pub returns-clause-back : goal.returns-clause-back
returns-clause-back c =
    let turns = c.args.entered.now.items in
    let us = c.args.tables.now.items in
    let vs = c.put_in.new.tables.items in
    let s = c.args.coming.spot in
    let same : turns ++ record { spot = s; turn = c.turn_back-turn.result } ∷ [] ≡ turns ++ record { spot = s; turn = turn_to (kept_at us s) } ∷ [] =
    ap (λ (t : Turn). turns ++ record { spot = s; turn = t } ∷ []) (c.turn_back-turn.ensures ∙ ap turn_to c.in_ok-before.ensures.before) in
    λ ts lead. subst (λ (xs : List CellTurn). LeadBack xs vs ts) (sym (c.in_default.ensures.items ∙ same)) (lead-more turns s c.args.coming.kept us vs c.requires c.in_ok-before.ensures.put ts lead)
