-- The entries that the cells spell, and the book of the cells.
use Rattle.std.proofs.Common.{◌≡◌, ◌<◌, List, [], sym, ap, subst, ◌∙◌}
use Rattle.std.specs.Prelude.{All, unwrap_or}
use Rattle.std.specs.List.{flat_map}
use Rattle.rmt_ast.specs.declared.entry.Entry.{Entry}
use Rattle.rmt_ast.specs.declared.names.Names.{Names}
use Rattle.rmt_ast.specs.Answers.{entry_numbers}
use Rattle.rmt_ast.specs.NameRules.{AreEntriesOf}
use Rattle.rmt_config.specs.NamesForm.{entries_spelled}
use Rattle.rmt_config.specs.RunCells.{own_cells}
use Rattle.rmt_update.specs.BookStands.{BookStands}
use Rattle.rmt_lists.specs.Running.{fresh}
use Rattle.rmt_lists.specs.Stands.{Stands}
use Rattle.rmt_update.proofs.SpelledEntries.{spelled_entries}
use Rattle.rmt_drive.specs.ChipEvents.{lists_in, names_in}
use Rattle.rmt_drive.specs.EventText.{most_additions}
use Rattle.rmt_drive.proofs.ComesStates.{lists_own, names_own}
use Rattle.rmt_drive.proofs.SpelledNumbers.{numbers_small}
use Rattle.rmt_drive.proofs.running.commits.commits_of.Goals as goal
use Rattle.rmt_drive.proofs.running.commits.commits_of.Goals.{In-Ok-entries}

-- the entries are those that the cells spell
entries_are : (c : In-Ok-entries) → c.in-Ok-entries.entries ≡ entries_spelled c.args.config.now c.in-Some.names
entries_are c =
    let k = c.args.config.now in
    c.in-Ok-entries.ensures.entries k (own_cells k) (entries_spelled k c.in-Some.names) (c.in-Ok-new.ensures.stands c.in-Some.names c.in-Some.is)

pub entries-requires : goal.entries-requires
entries-requires c =
    let k = c.args.config.now in
    (k, own_cells k, entries_spelled k c.in-Some.names, c.in-Ok-new.ensures.stands c.in-Some.names c.in-Some.is)

pub new-requires-2-clause-entries : goal.new-requires-2-clause-entries
new-requires-2-clause-entries c =
    subst (λ (ns : Names). AreEntriesOf ns c.in-Ok-entries.entries) (sym c.in-Ok.ensures)
    (subst (λ (es : List (List Entry)). AreEntriesOf c.in-Some.names es) (sym (entries_are c)) (spelled_entries c.args.config.now c.in-Some.names c.requires c.in-Some.is))

pub new-requires-2-clause-numbers : goal.new-requires-2-clause-numbers
new-requires-2-clause-numbers c =
    subst (λ (es : List (List Entry)). All (λ n. n < 4293918720) (flat_map entry_numbers es)) (sym (entries_are c)) (numbers_small c.args.config.now c.in-Some.names c.requires c.in-Some.is)

pub returns-in-Ok-new-2-clause-commits : goal.returns-in-Ok-new-2-clause-commits
returns-in-Ok-new-2-clause-commits c =
    let k = c.args.config.now in
    let own = lists_own k c.in-Some.names c.in-Some.is in
    let names_are : c.in-Ok.names ≡ names_in k = c.in-Ok.ensures ∙ sym (ap (λ o. unwrap_or o (record { tables = [] })) c.in-Some.is) in
    let stands = c.in-Ok-new.ensures.stands c.in-Some.names c.in-Some.is in
    let lists_are : c.in-Ok-entries.entries ≡ lists_in k = c.in-Ok-entries.ensures.entries k (own_cells k) (entries_spelled k c.in-Some.names) stands ∙ sym own in (
      names_own k c.in-Some.names c.in-Some.is,
      subst (λ (es : List (List Entry)). BookStands k (own_cells k) es c.in-Ok-new.book) (sym own) stands,
      subst (λ (ns : Names). Stands (fresh ns (lists_in k) most_additions) c.in-Ok-new-2.lists) names_are
          (subst (λ (es : List (List Entry)). Stands (fresh c.in-Ok.names es most_additions) c.in-Ok-new-2.lists) lists_are c.in-Ok-new-2.ensures.stands),
    )
