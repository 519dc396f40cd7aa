use Rattle.std.proofs.Common.{◌&&◌, sym, ap, ◌∙◌}
use Rattle.std.specs.List.{list_all}
use Rattle.std.proofs.lemmas.Result.{IfOk-weaker}
use Rattle.rmt_config.specs.Types.{Stage}
use Rattle.rmt_config.specs.NamesForm.{has_parts, is_made_so, is_named}
use Rattle.rmt_config.specs.TableForm.{Placed, placed_units}
use Rattle.rmt_config.proofs.NamePartLaws.{all-both, named-placed, with_names, without_names}
use Rattle.rmt_config.proofs.form.names.tables.tables_fit.Goals as goal

pub returns-then-not-stages_are_named : goal.returns-then-not-stages_are_named
returns-then-not-stages_are_named c =
    let config = c.args.config.now in
    let names = c.args.names.now in
    without_names (list_all (has_parts config) names.tables) (list_all (λ (p : Placed). is_named names p.unit) (placed_units config)) (list_all (is_made_so config) names.tables)
    (sym (named-placed names 0 config.stages) ∙ sym (ap (list_all (λ (stage : Stage). list_all (is_named names) stage.units)) c.as_slice.ensures)
    ∙ sym c.stages_are_named.ensures ∙ c.if-not-stages_are_named.true)

pub returns : goal.returns
returns c =
    let config = c.args.config.now in
    let names = c.args.names.now in
    let named = with_names (list_all (has_parts config) names.tables) (list_all (λ (p : Placed). is_named names p.unit) (placed_units config)) (list_all (is_made_so config) names.tables)
    (sym (named-placed names 0 config.stages) ∙ sym (ap (list_all (λ (stage : Stage). list_all (is_named names) stage.units)) c.as_slice.ensures)
    ∙ sym c.stages_are_named.ensures ∙ c.if-not-stages_are_named.false) in
    IfOk-weaker c.each_table_fits.result _ _
    (λ fit e. e ∙ ap (list_all (λ t. has_parts config t && is_made_so config t)) c.as_slice-2.ensures ∙ all-both (has_parts config) (is_made_so config) names.tables ∙ named)
    c.each_table_fits.ensures
