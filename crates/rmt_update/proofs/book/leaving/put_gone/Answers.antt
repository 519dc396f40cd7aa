use Rattle.std.proofs.Common.{◌+◌, Vec, sym, ap, ◌∙◌, subst, take}
use Rattle.std.specs.Global.{Global}
use Rattle.std.specs.Prelude.{option_copied}
use Rattle.std.proofs.lemmas.Option.{slice_get-get_or}
use Rattle.rmt_book.specs.BookSpots.{kept_at}
use Rattle.rmt_update.specs.declared.book.changing.CellChange.{CellChange}
use Rattle.rmt_update.specs.Changing.{ChangeKey}
use Rattle.rmt_update.specs.Differences.{changes_in}
use Rattle.rmt_update.specs.TurnWrites.{AreOnWay, MoreChanged}
use Rattle.rmt_update.specs.Turning.{left_kept}
use Rattle.rmt_update.proofs.TurnWriteLaws.{HasOne, gone-end, gone-less, gone-more, gone-start}
use Rattle.rmt_update.proofs.book.leaving.put_gone.Goals.{in-Some+in_ok-put_left, in_default}
use Rattle.rmt_update.proofs.book.leaving.put_gone.Goals as goal

pub loop-number-init : goal.loop-number-init
loop-number-init c = gone-start c.args.tables.now c.args.odd c.args.gone.now c.requires.slots (changes_in c.args.changes.now.items) c.args.found.now c.args.gone.now

pub loop-number-preserved : goal.loop-number-preserved
loop-number-preserved c =
    let ts = c.args.tables.now in
    let gone = c.args.gone.now in
    let i = c.loop-number.number-index in
    let at = slice_get-get_or c.args.gone.now i 0 c.loop-number-test.true in
    elim c.match-get.branch [
      | in-Some+in_ok-put_left w ↦
          subst (λ (v : Vec (ChangeKey × CellChange) Global). AreOnWay ts (λ s. left_kept c.args.odd gone (kept_at ts s)) (changes_in c.args.changes.now.items) → MoreChanged ts (λ s. left_kept c.args.odd gone (kept_at ts s)) (changes_in c.args.changes.now.items) (changes_in v.items) (HasOne c.args.found.now (take (i + 1) c.args.gone.now))) (sym w.changes-is)
          (gone-more ts c.args.odd gone c.requires.slots (changes_in c.args.changes.now.items) (changes_in c.loop-number.changes.items) (changes_in w.put_left.new.changes.items) c.args.found.now c.args.gone.now i _ _ at
          (sym c.get.ensures.value ∙ ap option_copied w.in-Some.is) c.loop-number.invariant w.in_ok-put_left.ensures)
      | in_default w ↦
          subst (λ (v : Vec (ChangeKey × CellChange) Global). AreOnWay ts (λ s. left_kept c.args.odd gone (kept_at ts s)) (changes_in c.args.changes.now.items) → MoreChanged ts (λ s. left_kept c.args.odd gone (kept_at ts s)) (changes_in c.args.changes.now.items) (changes_in v.items) (HasOne c.args.found.now (take (i + 1) c.args.gone.now))) (sym w.changes-is)
          (gone-less ts c.args.odd gone c.requires.slots (changes_in c.args.changes.now.items) (changes_in c.loop-number.changes.items) c.args.found.now c.args.gone.now i _ at (sym c.get.ensures.value ∙ ap option_copied w.in_default.is) c.loop-number.invariant)
    ]

pub returns : goal.returns
returns c = gone-end c.args.tables.now c.args.odd c.args.gone.now c.requires.slots (changes_in c.args.changes.now.items) (changes_in c.loop-number.changes.items) c.args.found.now c.args.gone.now c.loop-number.number-index c.loop-number-test.false c.loop-number.invariant
