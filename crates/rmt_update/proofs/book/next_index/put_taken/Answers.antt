use Rattle.std.proofs.Common.{◌++◌, ◌∷◌, List, [], append_assoc, map, sym, ap, ◌∙◌, take}
use Rattle.std.proofs.lemmas.List.{map_more, take_all}
use Rattle.rmt_book.specs.declared.spot.BookSpot.{BookSpot}
use Rattle.rmt_update.specs.declared.book.placing.Coming.{Coming}
use Rattle.rmt_update.proofs.book.next_index.put_taken.Goals as goal

pub loop-coming-preserved : goal.loop-coming-preserved
loop-coming-preserved c =
    let spot_of : Coming → BookSpot = λ x. x.spot in
    let old = c.args.recent.now.items in
    let xs = c.args.come.now in
    let i = c.loop-coming.coming-index in
    let x = c.coming-item.result in
    let so_far = map spot_of (take i xs) in
    c.in_ok-push.ensures.items ∙ ap (λ (ss : List BookSpot). ss ++ x.spot ∷ []) c.loop-coming.invariant ∙ append_assoc old so_far (x.spot ∷ [])
    ∙ ap (λ (s : BookSpot). old ++ (so_far ++ s ∷ [])) (ap spot_of c.coming-item.is) ∙ ap (λ (ss : List BookSpot). old ++ ss) (sym (map_more spot_of xs i x c.loop-coming-test.true))

pub returns : goal.returns
returns c = c.loop-coming.invariant ∙ ap (λ (xs : List Coming). c.args.recent.now.items ++ map (λ (x : Coming). x.spot) xs) (take_all c.loop-coming.coming-index c.args.come.now c.loop-coming-test.false)
