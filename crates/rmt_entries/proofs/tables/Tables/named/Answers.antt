use Rattle.std.proofs.Common.{◌∙◌, sym, ap, option_map}
use Rattle.std.proofs.lemmas.Option.{slice_get-map}
use Rattle.rmt_ast.specs.NameList.{number_of}
use Rattle.rmt_entries.specs.Tables.{table_named}
use Rattle.rmt_entries.specs.NamedTables.{name_of_table, seen_table, seen_tables}
use Rattle.rmt_ast.proofs.NameListLaws.{find_found, find_missing}
use Rattle.rmt_bits.proofs.OptionLaws.{copied-map}
use Rattle.rmt_entries.proofs.tables.Tables.named.Goals as goal

pub returns-in-Some : goal.returns-in-Some
returns-in-Some c =
    let named = ap (λ names. number_of names c.args.name.now) (sym c.self.invariant) ∙ sym c.number.ensures.number ∙ c.in-Some.is in
    copied-map seen_table c.get.result
    ∙ ap (option_map seen_table) (sym c.get.ensures.item) ∙ sym (slice_get-map seen_table c.self.inside.tables c.in-Some.place)
    ∙ sym (find_found name_of_table c.args.name.now (seen_tables c.self.inside.tables) c.in-Some.place named)
    ∙ ap (λ (ts : _). table_named ts c.args.name.now) c.self.view_is

pub returns-in-None : goal.returns-in-None
returns-in-None c =
    let named = ap (λ names. number_of names c.args.name.now) (sym c.self.invariant) ∙ sym c.number.ensures.number ∙ c.in-None.is in
    sym (find_missing name_of_table c.args.name.now (seen_tables c.self.inside.tables) named) ∙ ap (λ (ts : _). table_named ts c.args.name.now) c.self.view_is
