use Rattle.std.proofs.Common.{◌++◌, [], ◌∷◌, List, ℕ, ap, ◌∙◌}
use Rattle.rmt_ast.specs.NameRules.{terms_of_name}
use Rattle.rmt_update.proofs.SmallLaws.{keys-more}
use Rattle.rmt_update.proofs.book.loading.keys_of.Goals as goal

pub loop-entry-preserved : goal.loop-entry-preserved
loop-entry-preserved c =
    let t = terms_of_name c.args.name.now in
    c.in_ok-push.ensures.ok ∙ ap (λ (k : List ℕ). c.loop-entry.keys ++ k ∷ []) c.from_vec.ensures
    ∙ keys-more t c.args.entries.now c.loop-entry.entry-index c.entry-item.result c.loop-entry.keys c.in_ok-key.key.items c.loop-entry-test.true c.entry-item.is c.loop-entry.invariant c.in_ok-key.ensures
