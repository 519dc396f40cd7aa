use Rattle.std.proofs.Common.{List, subst}
use Rattle.std.specs.Prelude.{Contains}
use Rattle.rmt_book.specs.declared.spot.BookSpot.{BookSpot}
use Rattle.rmt_book.specs.BookSpots.{kept_at}
use Rattle.rmt_update.specs.Differences.{changes_in}
use Rattle.rmt_update.specs.TurnWrites.{AreOnWay, MoreChanged}
use Rattle.rmt_update.specs.Turning.{left_kept}
use Rattle.rmt_update.proofs.ChangesLaws.{changes-none}
use Rattle.rmt_update.proofs.TurnWriteLaws.{all-left}
use Rattle.rmt_update.proofs.book.settling.changes_at.Goals as goal

pub returns : goal.returns
returns c =
    let ts = c.args.tables.now in
    let gone = c.args.gone.now in
    let none = changes_in c.new-changes.result.items in
    let recent = changes_in c.put_recent.new.changes.items in
    let left = changes_in c.put_gone.new.changes.items in
    c.in_ok-put_come.ensures (λ s. left_kept c.args.odd gone (kept_at ts s))
    (all-left ts c.args.odd gone c.requires.slots c.args.index.now c.requires.index none recent left (changes-none c.new-changes.result.items c.new-changes.ensures.items)
    (subst (λ (xs : List BookSpot). AreOnWay ts (λ s. left_kept c.args.odd gone (kept_at ts s)) none → MoreChanged ts (λ s. left_kept c.args.odd gone (kept_at ts s)) none recent (Contains xs)) c.as_slice-recent.ensures.value
    c.in_ok-put_recent.ensures) c.in_ok-put_gone.ensures)
