use Rattle.std.proofs.Common.{[], ◌∷◌, ◌++◌, ap, ◌∙◌}
use Rattle.std.proofs.lemmas.List.{map_push}
use Rattle.rmt_ast.specs.declared.names.TableName.{TableName}
use Rattle.rmt_ast.specs.NameList.{bytes_of, seen}
use Rattle.rmt_config.proofs.LoopLaws.{mapped-all, mapped-more}
use Rattle.rmt_config.proofs.form.names.differ.names_of_tables.Goals as goal

pub loop-table-preserved : goal.loop-table-preserved
loop-table-preserved c =
    let old = c.loop-table.names.items in
    mapped-more [] c.args.tables.now c.loop-table.table-index (λ (x : TableName). x.name) (seen old) (seen c.push.new.self.items) c.table-item.result c.table-item.result c.loop-table-test.true c.table-item.is
    (ap seen c.in_ok-push.ensures.items ∙ map_push bytes_of old c.as_slice.result ∙ ap (λ name. seen old ++ name ∷ []) c.as_slice.ensures) c.loop-table.invariant

pub returns : goal.returns
returns c = mapped-all [] c.args.tables.now c.loop-table.table-index (λ (x : TableName). x.name) (seen c.loop-table.names.items) c.loop-table-test.false c.loop-table.invariant
