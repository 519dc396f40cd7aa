use Rattle.std.proofs.Common.{ℕ, List, map, ap, ◌∙◌}
use Rattle.std.proofs.lemmas.List.{take_all}
use Rattle.rmt_check.proofs.Finding.{gathered_more}
use Rattle.rmt_check.proofs.SeenNames.{told_ident, repeated_marks}
use Rattle.rmt_check.proofs.rules.repeats.repeated_names.Goals as goal

pub loop-item-preserved : goal.loop-item-preserved
loop-item-preserved g c =
    let ident = c.ident-ident.result.now in
    let name = c.as_slice.result in
    let told = ap (λ (n : List ℕ). record { place = ident.place; name = n }) c.as_slice.ensures ∙ c.ident-ident.ensures in
    gathered_more told_ident g.T.Labelled.ident_of c.loop-item.marks.items c.push.new.self.items (name, ident.place) c.args.items.now c.loop-item.item-index c.item-item.result
    c.in_ok-push.ensures.items told c.loop-item-test.true c.item-item.is c.loop-item.invariant

pub returns : goal.returns
returns g c =
    let names = map g.T.Labelled.ident_of c.args.items.now in
    rw (← repeated_marks c.loop-item.marks.items names (c.loop-item.invariant ∙ ap (map g.T.Labelled.ident_of) (take_all c.loop-item.item-index c.args.items.now c.loop-item-test.false)), ← c.as_slice-2.ensures.value) c.repeated.ensures
