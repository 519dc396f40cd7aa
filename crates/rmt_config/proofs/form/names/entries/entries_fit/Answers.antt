use Rattle.std.proofs.Common.{◌<◌, ◌≤◌, List, length, get_or, sym, ap, subst, ◌∙◌}
use Rattle.std.specs.List.{list_all}
use Rattle.std.proofs.lemmas.Bool.{and_parts}
use Rattle.rmt_ast.specs.NameRules.{table_is_formed}
use Rattle.rmt_config.specs.NamesForm.{has_parts, is_filled_so, is_made_so}
use Rattle.rmt_ast.specs.declared.names.TableName.{TableName}
use Rattle.rmt_config.proofs.RowForm.{all_done, all_step, all_stop}
use Rattle.rmt_config.proofs.SpelledLists.{item-passes}
use Rattle.rmt_config.proofs.form.names.entries.entries_fit.Goals as goal

pub table_fits-requires-clause-alone : goal.table_fits-requires-clause-alone
table_fits-requires-clause-alone c =
    item-passes table_is_formed c.as_slice-table-items.result.now c.loop-table.table-index c.table-item.result c.table-item.result c.loop-table-test.true c.table-item.is
    (ap (list_all table_is_formed) c.as_slice-table-items.ensures ∙ (and_parts _ _ c.requires.alone).1)

pub table_fits-requires-clause-parts : goal.table_fits-requires-clause-parts
table_fits-requires-clause-parts c =
    item-passes (has_parts c.args.config.now) c.as_slice-table-items.result.now c.loop-table.table-index c.table-item.result c.table-item.result c.loop-table-test.true c.table-item.is
    (ap (list_all (has_parts c.args.config.now)) c.as_slice-table-items.ensures ∙ (and_parts _ _ c.requires.those).0)

pub table_fits-requires-clause-made : goal.table_fits-requires-clause-made
table_fits-requires-clause-made c =
    item-passes (is_made_so c.args.config.now) c.as_slice-table-items.result.now c.loop-table.table-index c.table-item.result c.table-item.result c.loop-table-test.true c.table-item.is
    (ap (list_all (is_made_so c.args.config.now)) c.as_slice-table-items.ensures ∙ c.requires.made)

pub returns-then-not-branch : goal.returns-then-not-branch
returns-then-not-branch c =
    let fits = is_filled_so c.args.config.now in
    let i = c.loop-table.table-index in
    let item = c.table-item.result in
    let e = c.as_slice-table-items.ensures in
    let is = ap (λ (ts : List TableName). get_or ts i item) (sym e) ∙ sym c.table-item.is in
    all_stop fits c.args.names.now.tables i item _ (subst (λ (ts : List TableName). i < length ts) e c.loop-table-test.true)
    (ap fits is ∙ sym c.in_ok-table_fits.ensures ∙ c.if-not-branch.true) c.loop-table.invariant

pub loop-table-preserved : goal.loop-table-preserved
loop-table-preserved c =
    let fits = is_filled_so c.args.config.now in
    let i = c.loop-table.table-index in
    let item = c.table-item.result in
    let e = c.as_slice-table-items.ensures in
    let is = ap (λ (ts : List TableName). get_or ts i item) (sym e) ∙ sym c.table-item.is in
    all_step fits c.args.names.now.tables i item _ (subst (λ (ts : List TableName). i < length ts) e c.loop-table-test.true)
    (ap fits is ∙ sym c.in_ok-table_fits.ensures ∙ c.if-not-branch.false) c.loop-table.invariant

pub returns : goal.returns
returns c =
    let i = c.loop-table.table-index in
    all_done (is_filled_so c.args.config.now) c.args.names.now.tables i _ (subst (λ (ts : List TableName). length ts ≤ i) c.as_slice-table-items.ensures c.loop-table-test.false) c.loop-table.invariant
