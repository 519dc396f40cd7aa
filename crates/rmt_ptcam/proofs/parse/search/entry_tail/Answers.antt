use Rattle.std.proofs.Common.{sym, refl, ◌∙◌, arith}
use Rattle.std.specs.Prelude.{slice_index_or}
use Rattle.rmt_ptcam.specs.Types.{TailOf}
use Rattle.rmt_ptcam.proofs.SearchLaws.{tail_read, tail_later, tail_nowhere}
use Rattle.rmt_ptcam.proofs.parse.search.entry_tail.Goals as goal

abbrev none : TailOf
none = record { entry = 0; header = 0; from = 0; len = 0; unit = 0; base = 0 }

pub returns-then-from-entry : goal.returns-then-from-entry
returns-then-from-entry c =
    let ts = c.as_slice-tails.result.now in
    let t = slice_index_or ts c.first_tail-at.result none in
    rw (sym c.as_slice-tails.ensures) (sym (tail_read ts c.args.entry c.first_tail-at.result c.first_tail-at.ensures.before t none c.if-at-tails.true refl (sym c.from.ensures ∙ c.if-from-entry.true)))

pub returns-else-from-entry : goal.returns-else-from-entry
returns-else-from-entry c =
    let ts = c.as_slice-tails.result.now in
    let t = slice_index_or ts c.first_tail-at.result none in
    rw (sym c.as_slice-tails.ensures)
    (sym (tail_later ts c.args.entry c.first_tail-at.result c.first_tail-at.ensures.before (rw c.as_slice-tails.ensures c.requires) c.first_tail-at.ensures.behind t none c.if-at-tails.true refl (λ e. c.if-from-entry.false (c.from.ensures ∙ e))))

pub returns-else-at-tails : goal.returns-else-at-tails
returns-else-at-tails c =
    let ts = c.as_slice-tails.result.now in
    rw (sym c.as_slice-tails.ensures)
    (sym (tail_nowhere ts c.args.entry c.first_tail-at.result c.first_tail-at.ensures.before (λ k d from l. absurd (omega (arith, from, l, c.if-at-tails.false)))))
