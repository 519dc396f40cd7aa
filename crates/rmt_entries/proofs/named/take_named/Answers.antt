use Rattle.std.proofs.Common.{◌∙◌, ap, option_map, refl, sym}
use Rattle.rmt_entries.specs.Entries.{of_table}
use Rattle.rmt_entries.specs.NamedLines.{key_of_table, named_table, named_tables}
use Rattle.rmt_entries.proofs.NamedLaws.{entry_words, found_narrow, found_readable, found_table, words_of_key}
use Rattle.rmt_entries.proofs.named.take_named.Goals as goal

pub returns-in-Some-clause-entry : goal.returns-in-Some-clause-entry
returns-in-Some-clause-entry c =
    let names = c.args.names.now in
    let name = c.in_ok-name.name.now in
    let found = found_table names name ∙ ap (option_map named_table) (sym c.in-Some.ensures) in
    entry_words (named_tables names) 0 name c.args.words.now c.take_name.new.words c.in_ok-name.ensures.name c.in_ok-name.ensures.more ∙ ap (of_table 0 c.take_name.new.words) found

pub returns-in-Some-clause-key : goal.returns-in-Some-clause-key
returns-in-Some-clause-key c =
    let names = c.args.names.now in
    let name = c.in_ok-name.name.now in
    let found = found_table names name ∙ ap (option_map named_table) (sym c.in-Some.ensures) in
    words_of_key (named_tables names) 0 name c.args.words.now c.take_name.new.words c.in_ok-name.ensures.name c.in_ok-name.ensures.more ∙ ap (key_of_table c.take_name.new.words) found

pub returns-in-Some-clause-narrow : goal.returns-in-Some-clause-narrow
returns-in-Some-clause-narrow c = found_narrow c.args.names.now c.in_ok-name.name.now c.in-Some.table.now c.requires (sym c.in-Some.ensures)

pub returns-in-Some-clause-readable : goal.returns-in-Some-clause-readable
returns-in-Some-clause-readable c few = found_readable c.args.names.now c.in_ok-name.name.now c.in-Some.table.now c.requires (sym c.in-Some.ensures) few

pub returns-in-None-clause-fault : goal.returns-in-None-clause-fault
returns-in-None-clause-fault c =
    let names = c.args.names.now in
    let name = c.in_ok-name.name.now in
    let found = found_table names name ∙ ap (option_map named_table) (sym c.in-None.ensures) in
    let here = entry_words (named_tables names) 0 name c.args.words.now c.take_name.new.words c.in_ok-name.ensures.name c.in_ok-name.ensures.more in
    let here_too = words_of_key (named_tables names) 0 name c.args.words.now c.take_name.new.words c.in_ok-name.ensures.name c.in_ok-name.ensures.more in
    (refl, (here ∙ ap (of_table 0 c.take_name.new.words) found, here_too ∙ ap (key_of_table c.take_name.new.words) found))
