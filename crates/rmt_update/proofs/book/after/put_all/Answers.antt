use Rattle.std.proofs.Common.{◌≡◌, ◌+◌, ◌++◌, ◌∷◌, [], ◌<◌, Some, length, take, refl, sym, ap, ◌∙◌, subst, arith}
use Rattle.std.specs.Prelude.{slice_get, slice_set}
use Rattle.std.proofs.lemmas.List.{length-set, take_all, take_more}
use Rattle.rmt_bits.proofs.ListLaws.{slice_get-seen}
use Rattle.rmt_ast.specs.declared.entry.Entry.{Entry}
use Rattle.rmt_update.specs.After.{AreOrders, with_come}
use Rattle.rmt_book.specs.Numbered.{IsNew, IsOrder}
use Rattle.rmt_book.specs.Seen.{HaveNumbers}
use Rattle.rmt_update.proofs.AfterLaws.{come-front, come-more}
use Rattle.rmt_update.proofs.book.after.put_all.Goals as goal

pub loop-entry-preserved : goal.loop-entry-preserved
loop-entry-preserved c =
    let orders = c.loop-entry.orders.items in
    let come = c.args.come.now in
    let i = c.loop-entry.entry-index in
    let e = c.entry-item.result in
    let m2 = c.put.new.ordered in
    let count = c.loop-entry.invariant.count in
    record {
      count = length-set orders e.table m2 ∙ count;
      put = λ own old have.
          let more : take (i + 1) come ≡ take i come ++ e ∷ [] = take_more come i e c.loop-entry-test.true ∙ ap (λ (x : Entry). take i come ++ x ∷ []) (sym c.entry-item.is) in
          let within = c.requires i e c.loop-entry-test.true in
          let same = ap (λ (x : Entry). x.table) c.entry-item.is in
          let inside : e.table < length c.args.orders.now.items = omega (arith, within, same) in
          let at : slice_get orders e.table ≡ Some c.index_mut.result.now = slice_get-seen orders orders e.table c.index_mut.result.now refl (omega (arith, inside, count)) c.index_mut.ensures.value in
          let front : HaveNumbers (with_come own (take i come ++ e ∷ []) e.table) = subst (λ es. HaveNumbers (with_come own es e.table)) more (come-front own come (i + 1) e.table (have e.table inside)) in
          subst (λ es. AreOrders (with_come own es) (slice_set orders e.table m2)) (sym more)
          (come-more own (take i come) e orders c.index_mut.result.now m2 (c.loop-entry.invariant.put own old have) at
          (λ xs order new. subst (λ (x : Entry). IsOrder (xs ++ x ∷ []) m2) c.in_ok-copy.ensures (c.in_ok-put.ensures xs order (subst (λ (x : Entry). IsNew x.number xs) (sym c.in_ok-copy.ensures) new))) front);
    }

pub returns-clause-put : goal.returns-clause-put
returns-clause-put c = λ own old have.
    let past = c.loop-entry-test.false in
    subst (λ es. AreOrders (with_come own es) c.loop-entry.orders.items) (take_all c.loop-entry.entry-index c.args.come.now (omega (arith, past))) (c.loop-entry.invariant.put own old have)
