-- The entries of the book are those that the configuration spells.
use Rattle.std.proofs.Common.{List, Some, ap, sym, subst, ◌∙◌}
use Rattle.rmt_ast.specs.declared.entry.Entry.{Entry}
use Rattle.rmt_ast.specs.declared.names.Names.{Names}
use Rattle.rmt_ast.specs.NameRules.{AreEntriesOf}
use Rattle.rmt_bits.proofs.OptionLaws.{IsSome-value}
use Rattle.rmt_config.specs.NamesForm.{entries_spelled}
use Rattle.rmt_config.specs.RunCells.{own_cells}
use Rattle.rmt_lists.specs.Running.{fresh}
use Rattle.rmt_lists.specs.Stands.{Stands}
use Rattle.rmt_update.proofs.SpelledEntries.{spelled_entries}
use Rattle.rmt_update_tests.proofs.PlanReady.{new_ready, small_numbers}
use Rattle.rmt_update_tests.proofs.plans.lists_of.Goals as goal

pub entries-requires : goal.entries-requires
entries-requires c =
    let config = c.args.config.now in
    let named = IsSome-value config.names c.requires.named in
    (config, own_cells config, entries_spelled config named.0, c.requires.new named.0 named.1)

pub new-requires-clause-entries : goal.new-requires-clause-entries
new-requires-clause-entries c =
    let config = c.args.config.now in
    let names = c.in-Ok.names in
    let named = c.in-Some.is ∙ ap (λ (n : Names). Some n) (sym c.in-Ok.ensures) in
    subst (AreEntriesOf names) (sym (c.in-Ok-entries.ensures.entries config (own_cells config) (entries_spelled config names) (c.requires.new names named)))
    (spelled_entries config names c.requires.formed named)

pub new-requires-clause-numbers : goal.new-requires-clause-numbers
new-requires-clause-numbers c = small_numbers c.in-Ok-entries.entries (sym c.all_are_small.ensures ∙ c.if-not-all_are_small.false)

pub returns-in-Ok-new : goal.returns-in-Ok-new
returns-in-Ok-new c =
    let config = c.args.config.now in
    let names = c.in-Ok.names in
    let named = c.in-Some.is ∙ ap (λ (n : Names). Some n) (sym c.in-Ok.ensures) in
    let same = c.in-Ok-entries.ensures.entries config (own_cells config) (entries_spelled config names) (c.requires.new names named) in
    new_ready config names c.in-Ok-new.lists c.args.book.now c.requires.formed named c.requires.new
    (subst (λ (es : List (List Entry)). Stands (fresh names es 200) c.in-Ok-new.lists) same c.in-Ok-new.ensures.stands)
