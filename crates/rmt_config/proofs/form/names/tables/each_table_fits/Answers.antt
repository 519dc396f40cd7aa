use Rattle.std.proofs.Common.{Bool, ◌&&◌, sym, ap, ◌∙◌}
use Rattle.rmt_ast.specs.declared.names.TableName.{TableName}
use Rattle.rmt_config.specs.NamesForm.{has_parts, is_made_so}
use Rattle.rmt_config.proofs.RowForm.{all_done, all_step, all_stop}
use Rattle.rmt_config.proofs.form.names.tables.each_table_fits.Goals as goal

pub returns-then-not-branch : goal.returns-then-not-branch
returns-then-not-branch c =
    let fits : TableName → Bool = λ t. has_parts c.args.config.now t && is_made_so c.args.config.now t in
    all_stop fits c.args.tables.now c.loop-table.table-index c.table-item.result _ c.loop-table-test.true
    (ap fits (sym c.table-item.is) ∙ sym c.in_ok-table_fits.ensures ∙ c.if-not-branch.true) c.loop-table.invariant

pub loop-table-preserved : goal.loop-table-preserved
loop-table-preserved c =
    let fits : TableName → Bool = λ t. has_parts c.args.config.now t && is_made_so c.args.config.now t in
    all_step fits c.args.tables.now c.loop-table.table-index c.table-item.result _ c.loop-table-test.true
    (ap fits (sym c.table-item.is) ∙ sym c.in_ok-table_fits.ensures ∙ c.if-not-branch.false) c.loop-table.invariant

pub returns : goal.returns
returns c =
    all_done (λ t. has_parts c.args.config.now t && is_made_so c.args.config.now t) c.args.tables.now c.loop-table.table-index _ c.loop-table-test.false c.loop-table.invariant
