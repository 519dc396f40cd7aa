use Rattle.std.proofs.Common.{◌≡◌, ◌∙◌, ◌++◌, ◌∷◌, ◌+◌, [], List, ap, subst, sym, take}
use Rattle.std.proofs.lemmas.List.{take_more}
use Rattle.rmt_ast.specs.declared.entry.Entry.{Entry}
use Rattle.rmt_lists.specs.declared.held.Held.{Held}
use Rattle.rmt_lists.specs.Holding.{Holds}
use Rattle.rmt_lists.specs.Stands.{AreHeld}
use Rattle.rmt_lists.proofs.NewLaws.{held_push}
use Rattle.rmt_lists.proofs.start.held_of.Goals as goal

pub loop-list-preserved : goal.loop-list-preserved
loop-list-preserved c =
    let lists = c.args.lists.now in
    let i = c.loop-list.list-index in
    let item = c.list-item.result in
    let more : take (i + 1) lists ≡ take i lists ++ item ∷ [] = take_more lists i item c.loop-list-test.true ∙ ap (λ (es : List Entry). take i lists ++ es ∷ []) (sym c.list-item.is) in
    let own = subst (λ (es : List Entry). Holds c.in_ok-held_in.field-0 es) c.as_slice.ensures c.in_ok-held_in.ensures in
    subst (λ (ls : List (List Entry)). AreHeld c.push.new.self.items ls) (sym more)
    (subst (λ (ts : List Held). AreHeld ts (take i lists ++ item ∷ [])) (sym c.in_ok-push.ensures.items) (held_push c.loop-list.held.items (take i lists) c.in_ok-held_in.field-0 item c.loop-list.invariant own))
