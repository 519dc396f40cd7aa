use Rattle.std.proofs.Common.{◌≡◌, ◌+◌, Option, Some, Vec, refl, sym, ap, ◌∙◌, subst, take}
use Rattle.std.specs.Global.{Global}
use Rattle.std.specs.Prelude.{option_copied, slice_get}
use Rattle.rmt_bits.proofs.ListLaws.{slice_get-seen}
use Rattle.rmt_update.specs.declared.book.changing.CellChange.{CellChange}
use Rattle.rmt_book.specs.declared.kept.Kept.{Kept}
use Rattle.rmt_book.specs.declared.spot.BookSpot.{BookSpot}
use Rattle.rmt_update.specs.Changing.{ChangeKey}
use Rattle.rmt_update.specs.Differences.{changes_in}
use Rattle.rmt_update.specs.TurnWrites.{AreChanged, IsFresh}
use Rattle.rmt_update.specs.Turning.{come_to}
use Rattle.rmt_bits.proofs.AllLaws.{All-slice_get}
use Rattle.rmt_update.proofs.TurnWriteLaws.{come-end, come-step, has-part}
use Rattle.rmt_update.proofs.book.settling.put_come.Goals.{in-Some+in_ok-put_kept, in_default}
use Rattle.rmt_update.proofs.book.settling.put_come.Goals as goal

pub loop-coming-init : goal.loop-coming-init
loop-coming-init c = λ next changed. changed

pub loop-coming-preserved : goal.loop-coming-preserved
loop-coming-preserved c =
    let ts = c.args.tables.now in
    let xs = c.args.come.now in
    let i = c.loop-coming.coming-index in
    let x = c.coming-item.result in
    let at : slice_get xs i ≡ Some x = slice_get-seen xs xs i x refl c.loop-coming-test.true c.coming-item.is in
    let fresh : IsFresh ts x = All-slice_get (IsFresh ts) xs i x c.requires.fresh at in
    elim c.match-part_at.branch [
      | in-Some+in_ok-put_kept w ↦
          subst (λ (v : Vec (ChangeKey × CellChange) Global). (next : BookSpot → Option Kept) → AreChanged ts next (changes_in c.args.changes.now.items) → AreChanged ts (λ s. come_to (take (i + 1) xs) s (next s)) (changes_in v.items)) (sym w.changes-is)
          (come-step ts c.requires.slots (changes_in c.args.changes.now.items) (changes_in c.loop-coming.changes.items) (changes_in w.put_kept.new.changes.items) xs i x w.in-Some.part.now at (sym c.part_at.ensures ∙ ap option_copied w.in-Some.is) fresh w.in_ok-put_kept.ensures c.loop-coming.invariant)
      | in_default w ↦ absurd (has-part ts x.spot fresh.there (sym c.part_at.ensures ∙ ap option_copied w.in_default.is))
    ]

pub returns : goal.returns
returns c = come-end c.args.tables.now c.requires.slots (changes_in c.args.changes.now.items) (changes_in c.loop-coming.changes.items) c.args.come.now c.loop-coming.coming-index c.loop-coming-test.false c.loop-coming.invariant

pub put_kept-requires-clause-stage : goal.put_kept-requires-clause-stage
put_kept-requires-clause-stage c = (c.requires.small c.coming-item.result.spot c.in-Some.part.now (sym c.in-Some.ensures)).0

pub put_kept-requires-clause-place : goal.put_kept-requires-clause-place
put_kept-requires-clause-place c = (c.requires.small c.coming-item.result.spot c.in-Some.part.now (sym c.in-Some.ensures)).1
