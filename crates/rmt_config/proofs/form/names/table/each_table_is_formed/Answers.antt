use Rattle.std.proofs.Common.{sym, ap, ◌∙◌}
use Rattle.rmt_ast.specs.NameRules.{table_is_formed}
use Rattle.rmt_config.proofs.RowForm.{all_done, all_step, all_stop}
use Rattle.rmt_config.proofs.form.names.table.each_table_is_formed.Goals as goal

pub returns-then-not-branch : goal.returns-then-not-branch
returns-then-not-branch c =
    all_stop table_is_formed c.args.tables.now c.loop-table.table-index c.table-item.result _ c.loop-table-test.true
    (ap table_is_formed (sym c.table-item.is) ∙ sym c.in_ok-table_is_formed.ensures ∙ c.if-not-branch.true) c.loop-table.invariant

pub loop-table-preserved : goal.loop-table-preserved
loop-table-preserved c =
    all_step table_is_formed c.args.tables.now c.loop-table.table-index c.table-item.result _ c.loop-table-test.true
    (ap table_is_formed (sym c.table-item.is) ∙ sym c.in_ok-table_is_formed.ensures ∙ c.if-not-branch.false) c.loop-table.invariant

pub returns : goal.returns
returns c = all_done table_is_formed c.args.tables.now c.loop-table.table-index _ c.loop-table-test.false c.loop-table.invariant
