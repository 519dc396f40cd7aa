use Rattle.std.proofs.Common.{◌≡◌, List, ap, sym, ◌∙◌, subst, length, arith}
use Rattle.std.proofs.lemmas.Iterator.Adapters.{YieldsList-from_vec}
use Rattle.std.proofs.lemmas.Iterator.Consumers.{YieldsList-end}
use Rattle.rmt_ast.specs.declared.entry.Entry.{Entry}
use Rattle.rmt_update.specs.After.{without_gone}
use Rattle.rmt_book.specs.Numbered.{IsOrder}
use Rattle.rmt_book.specs.Seen.{HaveNumbers}
use Rattle.rmt_update.proofs.AfterLaws.{left-more, left-same}
use Rattle.rmt_book.proofs.OrderedLaws.{map-same}
use Rattle.rmt_update.proofs.book.after.left_in.Goals as goal

pub returns : goal.returns
returns c = λ numbers same have.
    let list = c.args.list in
    let gives = c.into_iter-entry-iterator.ensures.into_iter_gives in
    let items = c.into_vec-entry-items.ensures in
    let ok = c.into_vec-entry-items.result.ok.0 in
    let long = ap (λ (es : List Entry). length es) items in
    let end = YieldsList-end (YieldsList-from_vec list (gives.0 ∙ items) (let l = gives.1 in omega (arith, l, ok, long))) c.loop-entry.yielded c.loop-entry.entry-iterator c.loop-entry.yielded_by
    c.next.result c.next.new.self c.in-None.is c.next.ensures.steps in
    let all : list ≡ c.loop-entry.yielded = sym (sym (map-same c.loop-entry.yielded) ∙ end.0) in
    subst (λ es. IsOrder (without_gone numbers es) c.loop-entry.ordered) (sym all) (c.loop-entry.invariant numbers same (subst (λ es. HaveNumbers (without_gone numbers es)) all have))

pub loop-entry-preserved-in-Continue-1 : goal.loop-entry-preserved-in-Continue-1
loop-entry-preserved-in-Continue-1 c = λ numbers same have.
    let e = c.in-Some.entry in
    left-more numbers c.loop-entry.yielded e c.loop-entry.ordered c.put.new.ordered (sym (same e.number) ∙ sym c.contains.ensures ∙ c.if-not-contains.true) (c.loop-entry.invariant numbers same)
    c.in_ok-put.ensures have

pub loop-entry-preserved : goal.loop-entry-preserved
loop-entry-preserved c = λ numbers same have.
    let e = c.in-Some.entry in
    let more = left-same numbers c.loop-entry.yielded e (sym (same e.number) ∙ sym c.contains.ensures ∙ c.if-not-contains.false) in
    subst (λ es. IsOrder es c.loop-entry.ordered) (sym more) (c.loop-entry.invariant numbers same (subst HaveNumbers more have))
