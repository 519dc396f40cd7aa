use Rattle.std.proofs.Common.{◌+◌, ◌==◌, List, length, refl, sym, ap, subst, ◌∙◌, arith}
use Rattle.std.proofs.lemmas.Bool.{eq-eqb, eqb-true, false≢true, false_from_ne_true}
use Rattle.std.proofs.lemmas.Option.{slice_get_read}
use Rattle.rmt_bits.proofs.ListLaws.{slice_get-seen}
use Rattle.rmt_bits.proofs.MemberLaws.{Contains-item}
use Rattle.rmt_ast.specs.declared.entry.Entry.{Entry}
use Rattle.rmt_update.specs.declared.book.index.TableIndex.{TableIndex}
use Rattle.rmt_update.specs.declared.book.placing.Coming.{Coming}
use Rattle.rmt_update.specs.ComeIndex.{HasPlacedIn}
use Rattle.rmt_update.specs.Taking.{MayCome}
use Rattle.rmt_update.proofs.PlacedIndex.{last-seen, placed-more, placed-none}
use Rattle.rmt_update.proofs.PlacingSteps.{Progress, come-few, come-formed, come-holds, progress-end, progress-may, progress-none, progress-other, progress-some, progress-start}
use Rattle.rmt_update.proofs.book.Book.place_in.Goals.{else-entry-table, then-entry-table+in_ok-coming+in-Some+in_ok-push-in-Some}
use Rattle.rmt_update.proofs.book.Book.place_in.Goals as goal

pub loop-entry-init : goal.loop-entry-init
loop-entry-init c = record {
  come = λ w run have.
      progress-start w c.args.self.now c.args.changes.now run c.requires.ordered c.args.at c.index-table.result.now (slice_get_read c.args.self.now.tables.items (length c.args.self.now.tables.items) c.args.at c.index-table.result.now refl c.requires.at c.index-table.ensures)
      c.args.placing.now c.args.index.now have (c.requires.index c.index-table.result.now (slice_get_read c.args.self.now.tables.items (length c.args.self.now.tables.items) c.args.at c.index-table.result.now refl c.requires.at c.index-table.ensures));
  rows = placed-none c.args.self.now.odd c.args.changes.now.gone c.args.self.now.tables.items c.args.at c.args.placing.now c.args.index.now c.requires.index;
}

pub place_one-requires-clause-entry : goal.place_one-requires-clause-entry
place_one-requires-clause-entry c =
    come-formed c.requires.run.0 c.args.self.now c.args.changes.now c.requires.run.1 c.requires.ordered c.args.at c.index-table.result.now (slice_get_read c.args.self.now.tables.items (length c.args.self.now.tables.items) c.args.at c.index-table.result.now refl c.requires.at c.index-table.ensures)
    c.entry-item.result (Contains-item c.args.changes.now.come c.loop-entry.entry-index c.entry-item.result (slice_get-seen c.args.changes.now.come c.as_slice-entry-items.result.now c.loop-entry.entry-index c.entry-item.result c.as_slice-entry-items.ensures c.loop-entry-test.true c.entry-item.is))
    (eq-eqb c.index-table.result.now.name.node c.entry-item.result.table (sym c.if-entry-table.true))

pub place_one-requires-clause-keys : goal.place_one-requires-clause-keys
place_one-requires-clause-keys c =
    come-few c.requires.run.0 c.args.self.now c.args.changes.now c.requires.run.1 c.requires.ordered c.args.at c.index-table.result.now (slice_get_read c.args.self.now.tables.items (length c.args.self.now.tables.items) c.args.at c.index-table.result.now refl c.requires.at c.index-table.ensures)

pub place_one-requires-clause-holds : goal.place_one-requires-clause-holds
place_one-requires-clause-holds c =
    come-holds c.requires.run.0 c.args.self.now c.args.changes.now c.requires.run.1 c.requires.ordered c.args.at c.index-table.result.now (slice_get_read c.args.self.now.tables.items (length c.args.self.now.tables.items) c.args.at c.index-table.result.now refl c.requires.at c.index-table.ensures) c.entry-item.result

pub place_one-requires-clause-may : goal.place_one-requires-clause-may
place_one-requires-clause-may c =
    progress-may c.requires.run.0 c.args.self.now c.args.changes.now c.requires.run.1 c.requires.ordered c.args.at c.index-table.result.now (slice_get_read c.args.self.now.tables.items (length c.args.self.now.tables.items) c.args.at c.index-table.result.now refl c.requires.at c.index-table.ensures)
    c.loop-entry.entry-index c.loop-entry.placing c.loop-entry.index (c.loop-entry.invariant.come c.requires.run.0 c.requires.run.1 c.requires.run.2) c.entry-item.result (slice_get-seen c.args.changes.now.come c.as_slice-entry-items.result.now c.loop-entry.entry-index c.entry-item.result c.as_slice-entry-items.ensures c.loop-entry-test.true c.entry-item.is)
    (eq-eqb c.index-table.result.now.name.node c.entry-item.result.table (sym c.if-entry-table.true))

pub returns-in-None-clause-index : goal.returns-in-None-clause-index
returns-in-None-clause-index c = λ all. absurd (false≢true all)

pub returns-in-None-clause-come : goal.returns-in-None-clause-come
returns-in-None-clause-come c = λ w run have.
    let came = c.in_ok-coming.ensures in
    progress-none w c.args.self.now c.args.changes.now run c.requires.ordered c.args.at c.index-table.result.now (slice_get_read c.args.self.now.tables.items (length c.args.self.now.tables.items) c.args.at c.index-table.result.now refl c.requires.at c.index-table.ensures)
    c.loop-entry.entry-index c.loop-entry.placing c.loop-entry.index (c.loop-entry.invariant.come w run have) c.entry-item.result (slice_get-seen c.args.changes.now.come c.as_slice-entry-items.result.now c.loop-entry.entry-index c.entry-item.result c.as_slice-entry-items.ensures c.loop-entry-test.true c.entry-item.is)
    (eq-eqb c.index-table.result.now.name.node c.entry-item.result.table (sym c.if-entry-table.true)) came.0 c.place_one.new.index came.1
    (subst (MayCome c.args.self.now.odd c.args.at c.index-table.result.now c.entry-item.result came.0) c.in-None.is came.2)

pub loop-entry-preserved : goal.loop-entry-preserved
loop-entry-preserved c = record {
  come = λ w run have.
      let b = c.args.self.now in
      let ch = c.args.changes.now in
      let at = c.args.at in
      let x = c.index-table.result.now in
      let k = c.loop-entry.entry-index in
      let e = c.entry-item.result in
      let at_e = (slice_get-seen c.args.changes.now.come c.as_slice-entry-items.result.now c.loop-entry.entry-index c.entry-item.result c.as_slice-entry-items.ensures c.loop-entry-test.true c.entry-item.is) in
      elim c.if-entry-table.branch [
        | then-entry-table+in_ok-coming+in-Some+in_ok-push-in-Some v ↦
            let came = v.in_ok-coming.ensures in
            let more = progress-some w c.args.self.now c.args.changes.now run c.requires.ordered c.args.at c.index-table.result.now (slice_get_read c.args.self.now.tables.items (length c.args.self.now.tables.items) c.args.at c.index-table.result.now refl c.requires.at c.index-table.ensures)
            c.loop-entry.entry-index c.loop-entry.placing c.loop-entry.index (c.loop-entry.invariant.come w run have) e at_e (eq-eqb x.name.node e.table (sym v.if-entry-table.true)) came.0 v.in-Some.coming v.place_one.new.index came.1
            (subst (MayCome b.odd at x e came.0) v.in-Some.is came.2) in
            subst (λ i. Progress w b ch at x (k + 1) c.if-entry-table.placing i) (sym v.index-is)
            (subst (λ ys. Progress w b ch at x (k + 1) ys v.place_one.new.index) (sym (v.placing-is ∙ v.in_ok-push-in-Some.ensures.ok)) more)
        | else-entry-table v ↦
            let other = false_from_ne_true (x.name.node == e.table) (λ t. v.if-entry-table.false (sym (eqb-true x.name.node e.table t))) in
            let more = progress-other w c.args.self.now c.args.changes.now run c.requires.ordered c.args.at c.index-table.result.now (slice_get_read c.args.self.now.tables.items (length c.args.self.now.tables.items) c.args.at c.index-table.result.now refl c.requires.at c.index-table.ensures)
            c.loop-entry.entry-index c.loop-entry.placing c.loop-entry.index (c.loop-entry.invariant.come w run have) e at_e other in
            subst (λ i. Progress w b ch at x (k + 1) c.if-entry-table.placing i) (sym v.index-is) (subst (λ ys. Progress w b ch at x (k + 1) ys c.loop-entry.index) (sym v.placing-is) more)
      ];
  rows =
      let at_e = (slice_get-seen c.args.changes.now.come c.as_slice-entry-items.result.now c.loop-entry.entry-index c.entry-item.result c.as_slice-entry-items.ensures c.loop-entry-test.true c.entry-item.is) in
      let x = c.index-table.result.now in
      let e = c.entry-item.result in
      let b = c.args.self.now in
      let ch = c.args.changes.now in
      let Rows : List Coming → TableIndex → Type 0 = λ ys i. HasPlacedIn b.odd ch.gone b.tables.items c.args.at c.args.placing.now ys i in
      elim c.if-entry-table.branch [
        | then-entry-table+in_ok-coming+in-Some+in_ok-push-in-Some v ↦
            let w = c.requires.run.0 in
            let run = c.requires.run.1 in
            let own = eq-eqb x.name.node e.table (sym v.if-entry-table.true) in
            let came = v.in_ok-coming.ensures in
            let may_come = subst (MayCome b.odd c.args.at x e came.0) v.in-Some.is came.2 in
            let progress = c.loop-entry.invariant.come w run c.requires.run.2 in
            let more = progress-some w b ch run c.requires.ordered c.args.at x (slice_get_read c.args.self.now.tables.items (length c.args.self.now.tables.items) c.args.at c.index-table.result.now refl c.requires.at c.index-table.ensures)
            c.loop-entry.entry-index c.loop-entry.placing c.loop-entry.index progress e at_e own came.0 v.in-Some.coming v.place_one.new.index came.1 may_come in
            let seen = last-seen w b ch run _ c.loop-entry.placing v.in-Some.coming more.have in
            let may = progress-may w b ch run c.requires.ordered c.args.at x (slice_get_read c.args.self.now.tables.items (length c.args.self.now.tables.items) c.args.at c.index-table.result.now refl c.requires.at c.index-table.ensures)
            c.loop-entry.entry-index c.loop-entry.placing c.loop-entry.index progress e at_e own in
            subst (Rows c.if-entry-table.placing) (sym v.index-is)
            (subst (λ ys. Rows ys v.place_one.new.index) (sym (v.placing-is ∙ v.in_ok-push-in-Some.ensures.ok))
            (placed-more b.odd ch.gone b.tables.items c.args.at c.args.placing.now c.loop-entry.placing c.loop-entry.index v.place_one.new.index c.loop-entry.invariant.rows b.seed x (slice_get_read c.args.self.now.tables.items (length c.args.self.now.tables.items) c.args.at c.index-table.result.now refl c.requires.at c.index-table.ensures)
            e may came.0 v.in-Some.coming came.1 may_come seen))
        | else-entry-table v ↦ subst (Rows c.if-entry-table.placing) (sym v.index-is) (subst (λ ys. Rows ys c.loop-entry.index) (sym v.placing-is) c.loop-entry.invariant.rows)
      ];
}

pub returns-clause-index : goal.returns-clause-index
returns-clause-index c = λ all. c.loop-entry.invariant.rows

pub returns-clause-come : goal.returns-clause-come
returns-clause-come c = λ w run have.
    let low = c.loop-entry-test.false in
    let long = ap (λ (es : List Entry). length es) c.as_slice-entry-items.ensures in
    progress-end w c.args.self.now c.args.changes.now run c.requires.ordered c.args.at c.index-table.result.now (slice_get_read c.args.self.now.tables.items (length c.args.self.now.tables.items) c.args.at c.index-table.result.now refl c.requires.at c.index-table.ensures)
    c.loop-entry.entry-index c.loop-entry.placing c.loop-entry.index (omega (arith, low, long)) (c.loop-entry.invariant.come w run have)

pub index-table-requires : goal.index-table-requires
index-table-requires c = omega (arith, c.requires.at, c.args.self.now.tables.ok.0)
