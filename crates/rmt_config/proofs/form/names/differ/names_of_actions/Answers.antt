use Rattle.std.proofs.Common.{[], ◌∷◌, ◌++◌, ap, ◌∙◌}
use Rattle.std.proofs.lemmas.List.{map_push}
use Rattle.rmt_ast.specs.declared.names.ActionName.{ActionName}
use Rattle.rmt_ast.specs.NameList.{bytes_of, seen}
use Rattle.rmt_config.proofs.LoopLaws.{mapped-all, mapped-more}
use Rattle.rmt_config.proofs.form.names.differ.names_of_actions.Goals as goal

pub loop-action-preserved : goal.loop-action-preserved
loop-action-preserved c =
    let old = c.loop-action.names.items in
    mapped-more [] c.args.actions.now c.loop-action.action-index (λ (x : ActionName). x.name) (seen old) (seen c.push.new.self.items) c.action-item.result c.action-item.result c.loop-action-test.true c.action-item.is
    (ap seen c.in_ok-push.ensures.items ∙ map_push bytes_of old c.as_slice.result ∙ ap (λ name. seen old ++ name ∷ []) c.as_slice.ensures) c.loop-action.invariant

pub returns : goal.returns
returns c = mapped-all [] c.args.actions.now c.loop-action.action-index (λ (x : ActionName). x.name) (seen c.loop-action.names.items) c.loop-action-test.false c.loop-action.invariant
