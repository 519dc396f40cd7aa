use Rattle.std.proofs.Common.{◌<◌, ◌∙◌, ◌++◌, ◌∷◌, List, [], Option, Some, ap, arith, length, refl, subst, sym, take}
use Rattle.std.proofs.lemmas.List.{append-nil, take_all}
use Rattle.rmt_bits.proofs.ListLaws.{slice_get-seen}
use Rattle.rmt_ast.specs.declared.entry.Entry.{Entry}
use Rattle.rmt_ast.specs.Changes.{list_of}
use Rattle.rmt_lists.specs.Settled.{Extends}
use Rattle.rmt_lists.specs.Stands.{somes}
use Rattle.rmt_lists.proofs.ResultLaws.{on_err}
use Rattle.rmt_lists.proofs.SettleLaws.{extends_push, list_at, none_more, somes_at, somes_more}
use Rattle.rmt_lists.proofs.settle.add_each.Goals as goal
use Rattle.rmt_lists.proofs.settle.add_each.Goals.{in-Some+in_ok-copy+in_ok-push, in_default}

pub index_mut-requires : goal.index_mut-requires
index_mut-requires c =
    let at = slice_get-seen c.args.come.now c.args.come.now c.loop-place.place-index c.place-item.result refl c.loop-place-test.true c.place-item.is ∙ ap Some c.in-Some.is in
    let own : c.in-Some.entry.table < length c.args.lists.now.items =
    somes_at (λ (e : Entry). e.table < length c.args.lists.now.items) c.args.come.now c.loop-place.place-index c.in-Some.entry c.requires.tables at in
    omega (arith, own, c.loop-place.invariant.count, c.loop-place.lists.ok.0)

pub loop-place-preserved : goal.loop-place-preserved
loop-place-preserved c =
    let place = slice_get-seen c.args.come.now c.args.come.now c.loop-place.place-index c.place-item.result refl c.loop-place-test.true c.place-item.is in
    let old = c.args.lists.now.items in
    let lists = c.loop-place.lists.items in
    let part = somes (take c.loop-place.place-index c.args.come.now) in
    elim c.match-place.branch [
      | in-Some+in_ok-copy+in_ok-push w ↦
          let e = w.in-Some.entry in
          let at = place ∙ ap Some w.in-Some.is in
          let own : e.table < length old = somes_at (λ (x : Entry). x.table < length old) c.args.come.now c.loop-place.place-index e c.requires.tables at in
          let within : e.table < length lists = omega (arith, own, c.loop-place.invariant.count) in
          let here = list_at lists e.table w.index_mut.result.now within w.index_mut.ensures.value in
          let pushed = w.in_ok-push.ensures.ok ∙ ap (λ (es : List Entry). es ++ w.in_ok-copy.copy ∷ []) here ∙ ap (λ (x : Entry). list_of lists e.table ++ x ∷ []) w.in_ok-copy.ensures in
          let done = extends_push old lists part e w.push.new.self c.loop-place.invariant within pushed in
          rw (somes_more c.args.come.now c.loop-place.place-index e at, w.lists-is) done
      | in_default w ↦ rw (none_more c.args.come.now c.loop-place.place-index (place ∙ ap Some w.in_default.is), w.lists-is) c.loop-place.invariant
    ]

pub loop-place-init : goal.loop-place-init
loop-place-init c = record { count = refl; at = λ m. sym (append-nil (list_of c.args.lists.now.items m)) }

pub returns-clause-added : goal.returns-clause-added
returns-clause-added c = subst (λ (xs : List (Option Entry)). Extends c.args.lists.now.items (somes xs) c.loop-place.lists.items) (take_all c.loop-place.place-index c.args.come.now c.loop-place-test.false) c.loop-place.invariant

pub returns-in_err-copy-clause-some : goal.returns-in_err-copy-clause-some
returns-in_err-copy-clause-some c = on_err c.from_residual.result _ (c.loop-place.place-index, c.loop-place.invariant)
