use Rattle.std.proofs.Common.{◌≡◌, ◌+◌, ◌++◌, ◌∷◌, [], List, ap, length, refl, sym, subst, take, ◌∙◌}
use Rattle.std.proofs.lemmas.Option.{slice_get_read}
use Rattle.rmt_bits.proofs.ListLaws.{take-slice_get}
use Rattle.rmt_ptcam.specs.Types.{ParserEntry}
use Rattle.rmt_ptcam.specs.Adding.{Adds}
use Rattle.rmt_ptcam.specs.Joining.{Row}
use Rattle.rmt_ptcam.proofs.AddingLaws.{adds_more}
use Rattle.rmt_ptcam.proofs.joining.rows.push_rows.Goals as goal

pub loop-row-preserved : goal.loop-row-preserved
loop-row-preserved c =
    let rows : List Row = c.args.rows.now in
    let i = c.loop-row.row-index in
    let item : Row = c.row-item.result in
    let x : Row = record { entry = c.in_ok-entry.entry; tail = item.tail } in
    let same : x ≡ item = ap (λ (e : ParserEntry). record { entry = e; tail = item.tail }) c.in_ok-entry.ensures in
    let more : take (i + 1) rows ≡ take i rows ++ x ∷ [] = take-slice_get rows i item (slice_get_read rows (length rows) i item refl c.loop-row-test.true c.row-item.is) ∙ ap (λ (y : Row). take i rows ++ y ∷ []) (sym same) in
    subst (λ (l : List Row). Adds l c.args.entries.now c.push_row.new.entries c.args.tails.now c.push_row.new.tails) (sym more)
    (adds_more (take i rows) (x ∷ []) c.args.entries.now c.loop-row.entries c.push_row.new.entries c.args.tails.now c.loop-row.tails c.push_row.new.tails c.loop-row.invariant c.in_ok-push_row.ensures)
