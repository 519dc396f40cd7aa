use Rattle.std.proofs.Common.{map, sym, ap, ◌∙◌}
use Rattle.std.specs.List.{list_all}
use Rattle.rmt_ast.specs.declared.names.ActionName.{ActionName}
use Rattle.rmt_ast.specs.NameRules.{action_names_differ, are_widths, differ, has_fields, has_names, has_params, has_size, may_have_ranks}
use Rattle.rmt_ast.specs.Naming.{has_key}
use Rattle.rmt_config.proofs.NameRuleLaws.{by_actions, if_ok-along}
use Rattle.rmt_config.proofs.form.names.table.table_is_formed.Goals as goal

pub returns : goal.returns
returns c =
    let t = c.args.table.now in
    if_ok-along c.action_names_differ.result _ _
    (ap (λ actions. differ (map (λ (a : ActionName). a.name) actions)) c.as_slice.ensures
    ∙ by_actions (has_key t.kind) (has_names t) (action_names_differ t) (are_widths t.keys) (has_fields t.kind t.keys) (list_all has_params t.actions) (has_size t)
    (may_have_ranks t.kind t.ranks) (sym c.fits_but_for_actions.ensures ∙ c.if-not-fits_but_for_actions.false))
    c.action_names_differ.ensures
