use Rattle.std.proofs.Common.{◌≡◌, sym, refl, ◌∙◌, subst}
use Rattle.std.specs.List.{AllZip}
use Rattle.std.proofs.lemmas.Option.{same_Some}
use Rattle.rmt_ast.specs.declared.names.Names.{Names}
use Rattle.rmt_config.specs.NamesForm.{entries_spelled}
use Rattle.rmt_config.specs.RunCells.{own_cells}
use Rattle.rmt_book.specs.Listed.{IsTable}
use Rattle.rmt_update.proofs.BookLaws.{stands-at-first}
use Rattle.rmt_update.proofs.book.Book.new.Goals as goal

pub keep_index-requires : goal.keep_index-requires
keep_index-requires c =
    let k = c.args.config.now in
    let names = c.names_of.result.now in
    let zip = subst (λ (n : Names). AllZip (IsTable k) n.tables c.in_ok-tables.tables.items) c.in_ok-names.ensures c.in_ok-tables.ensures in
    (k, own_cells k, entries_spelled k names, stands-at-first k names _ c.requires.formed c.names_of.ensures zip refl refl c.node_count.ensures refl)

pub returns-clause-stands : goal.returns-clause-stands
returns-clause-stands c = λ names named.
    let k = c.args.config.now in
    let copy : c.in_ok-names.names ≡ c.names_of.result.now = c.in_ok-names.ensures in
    let same : c.names_of.result.now ≡ names = same_Some c.names_of.result.now names (sym c.names_of.ensures ∙ named) in
    let zip = subst (λ (n : Names). AllZip (IsTable k) n.tables c.in_ok-tables.tables.items) (copy ∙ same) c.in_ok-tables.ensures in
    c.in_ok-keep_index.ensures.stands k (own_cells k) (entries_spelled k names) (stands-at-first k names _ c.requires.formed named zip refl refl c.node_count.ensures refl)
