-- Lists and a book stand for one run from line to line.
use Rattle.std.proofs.Common.{◌≡◌, ℕ, ◌<◌, Bool, true, false, cond, leb, List, [], ◌∷◌, ◌++◌, length, Option, Some, None, Result, Ok, Err, refl, sym, ap, subst, ◌∙◌}
use Rattle.std.specs.Prelude.{All, drop, nat_lt}
use Rattle.std.specs.List.{flat_map, list_all}
use Rattle.std.proofs.lemmas.Bool.{ltb-true}
use Rattle.std.proofs.lemmas.List.Elements.{All-map}
use Rattle.std.proofs.lemmas.List.Sums.{fold-append}
use Rattle.rmt_bits.proofs.AllLaws.{All-flat_map, All-from_test}
use Rattle.rmt_bits.proofs.OptionLaws.{same_Ok}
use Rattle.rmt_ast.specs.declared.entry.Entry.{Entry}
use Rattle.rmt_ast.specs.declared.names.Names.{Names}
use Rattle.rmt_ast.specs.Answers.{entry_numbers}
use Rattle.rmt_ast.specs.Changes.{Adds, Change, Installed, Removes, at_first, changed, committed, list_of, key_of_entry, is_held}
use Rattle.rmt_ast.specs.EntryLists.{Terms}
use Rattle.rmt_ast.specs.NameRules.{AreEntriesOf, terms_named}
use Rattle.rmt_config.specs.declared.config.Config.{Config}
use Rattle.rmt_config.specs.Form.{Formed}
use Rattle.rmt_config.specs.NamesForm.{entries_spelled}
use Rattle.rmt_config.specs.RunCells.{RunCells, own_cells, with_version}
use Rattle.rmt_entries.specs.declared.named.EntryName.{EntryName}
use Rattle.rmt_entries.specs.NamedLines.{named_entry, named_key}
use Rattle.rmt_update.specs.declared.book.Book.{Book}
use Rattle.rmt_update.specs.declared.book.plan.Plan.{Plan}
use Rattle.rmt_lists.specs.declared.lists.Changes.{Changes}
use Rattle.rmt_lists.specs.declared.lists.Lists.{Lists}
use Rattle.rmt_update.specs.BookStands.{BookStands}
use Rattle.rmt_update.specs.Following.{IsNextAbove}
use Rattle.rmt_update.specs.Planned.{IsPlanned, MayChange, changed_lists}
use Rattle.rmt_lists.specs.Running.{AreChanges, Running, added_to, begins, commit_of, fresh, key_of_name, line_change, refusal_of, unless, with_entry, with_one, without_key, without_one}
use Rattle.rmt_lists.specs.Stands.{Stands, StandsFor}
use Rattle.rmt_update.proofs.FollowLaws.{entries_kept, first_above, lists_are, may_change, numbers_kept, own_below, turned_below}
use Rattle.rmt_update.proofs.SpelledEntries.{spelled_entries}
use Rattle.rmt_update_tests.specs.Planning.{AreReady, IsNew}

-- ---- a change

-- a run behind one change
record Follows (r next : Running) : Type 0 where
  pub change : Change
  pub names : next.names ≡ r.names
  pub last : next.last ≡ r.last
  pub now : next.now ≡ changed r.now change

module _ (r next : Running) where
  by_change : (change : Change) (after : Running) → after.names ≡ r.names → after.last ≡ r.last → after.now ≡ changed r.now change → after ≡ next → Follows r next
  by_change change after names last now same =
      subst (Follows r) same (record { change = change; names = names; last = last; now = now })

  by_entry : (e : Entry) (o : Option ℕ) → unless o (with_one r e) ≡ Ok next → Follows r next
  by_entry e None h = by_change (Adds e) (with_one r e) refl refl refl (same_Ok (with_one r e) next h)
  by_entry e (Some code) h = absurd (cc)

  by_terms : (e : Entry) (o : Option Terms) → added_to r e o ≡ Ok next → Follows r next
  by_terms e None h = absurd (cc)
  by_terms e (Some t) h = by_entry e (refusal_of t.kind t.size r.most r.taken (key_of_entry e) (list_of r.now.lists e.table)) h

  by_added : (o : Result Entry ℕ) → with_entry r o ≡ Ok next → Follows r next
  by_added (Err code) h = absurd (cc)
  by_added (Ok e) h = by_terms e (terms_named r.names e.table) h

  by_held : (k : EntryName) (there : Bool) → cond {A = Result Running ℕ} there (Ok (without_one r k.table (key_of_name k))) (Err 8) ≡ Ok next → Follows r next
  by_held k false h = absurd (cc)
  by_held k true h =
      by_change (Removes k.table (key_of_name k)) (without_one r k.table (key_of_name k)) refl refl refl (same_Ok (without_one r k.table (key_of_name k)) next h)

  by_removed : (o : Result EntryName ℕ) → without_key r o ≡ Ok next → Follows r next
  by_removed (Err code) h = absurd (cc)
  by_removed (Ok k) h = by_held k (is_held (key_of_name k) (list_of r.now.lists k.table)) h

  by_line : (text : List ℕ) → line_change r text ≡ Ok next → Follows r next
  by_line text h = by (leb 18444 (length text)) (begins 43 text) h
    where
      by : (long sign : Bool) → cond long (Err 5) (cond sign (with_entry r (named_entry r.names (drop 2 text))) (without_key r (named_key r.names (drop 2 text)))) ≡ Ok next → Follows r next
      by true sign h = absurd (cc)
      by false true h = by_added (named_entry r.names (drop 2 text)) h
      by false false h = by_removed (named_key r.names (drop 2 text)) h

module _ (l : Lists) (b : Book) (ready : AreReady l b) where
  above_now : IsNextAbove ready.run.now
  above_now = subst IsNextAbove (sym ready.now) (numbers_kept ready.before ready.changes ready.below).0

  change_ready : (text : List ℕ) (later : Lists) (next : Running) → line_change ready.run text ≡ Ok next → Stands next later → AreReady later b
  change_ready text later next h stands =
      let f = by_line ready.run next text h in
      let formed = ready.lists_are.formed in
      let entries = subst (λ (n : Names). AreEntriesOf n ready.run.now.lists) (sym ready.names_are) ready.entries in
      let names = f.names ∙ ready.names_are in
      record {
        config = ready.config;
        names = ready.names;
        cells = ready.cells;
        before = ready.before;
        changes = ready.changes ++ f.change ∷ [];
        run = next;
        named = ready.named;
        book_is = ready.book_is;
        lists_are = stands;
        names_are = names;
        last = f.last ∙ ready.last;
        now = f.now ∙ ap (λ (i : Installed). changed i f.change) ready.now ∙ sym (fold-append changed ready.before ready.changes (f.change ∷ []));
        entries = subst (λ (n : Names). AreEntriesOf n next.now.lists) names (entries_kept ready.run next text formed entries above_now h);
        below = ready.below;
        used = ready.used;
      }

-- lists that took a line still stand for the run of the book
pub changed_ready : (l later : Lists) (b : Book) (ready : AreReady l b) (text : List ℕ) → StandsFor (line_change ready.run text) later → AreReady later b
changed_ready l later b ready text stands = by (line_change ready.run text) refl stands
  where
    by : (o : Result Running ℕ) → line_change ready.run text ≡ o → StandsFor o later → AreReady later b
    by (Ok next) told h = change_ready l b ready text later next told h
    by (Err code) told h = absurd h

-- lists and a book that stand for what they stood for
still_ready : (l later : Lists) (b next : Book) (ready : AreReady l b) → Stands ready.run later → BookStands ready.config ready.cells ready.before.lists next → AreReady later next
still_ready l later b next ready lists book = record {
  config = ready.config;
  names = ready.names;
  cells = ready.cells;
  before = ready.before;
  changes = ready.changes;
  run = ready.run;
  named = ready.named;
  book_is = book;
  lists_are = lists;
  names_are = ready.names_are;
  last = ready.last;
  now = ready.now;
  entries = ready.entries;
  below = ready.below;
  used = ready.used;
}

-- lists that refused a line still do
pub refused_ready : (l later : Lists) (b : Book) (ready : AreReady l b) → Stands ready.run later → AreReady later b
refused_ready l later b ready stands = still_ready l later b b ready stands ready.book_is

-- ---- a commit

module _ (l : Lists) (b : Book) (ready : AreReady l b) (ch : Changes) (are : AreChanges ready.run.last ready.run.now.lists ch) where
  abbrev after : Installed
  after = committed ready.before ready.changes

  entries_after : AreEntriesOf ready.names after.lists
  entries_after = subst (λ (i : Installed). AreEntriesOf ready.names i.lists) ready.now ready.entries

  changes_are : AreChanges ready.before.lists after.lists ch
  changes_are =
      subst (λ (i : Installed). AreChanges ready.before.lists i.lists ch) ready.now (subst (λ (ls : List (List Entry)). AreChanges ls ready.run.now.lists ch) ready.last are)

  -- what the lists say of their changes is what the book takes
  pub may_plan : MayChange ready.config ready.names ready.cells ready.before.lists ch
  may_plan = may_change ready.config ready.names ready.cells ready.before ready.changes ch ready.used ready.below changes_are entries_after

  pub planned_ready : (later : Lists) (next_book : Book) (plan : Plan) (next : RunCells) → Stands (commit_of ready.run) later
      → IsPlanned ready.config ready.names ready.cells ready.before.lists (changed_lists ready.before.lists ch) plan next next_book → AreReady later next_book
  planned_ready later next_book plan next stands planned =
      let p = subst (λ (ls : List (List Entry)). IsPlanned ready.config ready.names ready.cells ready.before.lists ls plan next next_book)
      (lists_are ready.names ready.before ready.changes ch changes_are entries_after) planned in
      let numbers = numbers_kept ready.before ready.changes ready.below in
      record {
        config = ready.config;
        names = ready.names;
        cells = with_version next plan.seed;
        before = after;
        changes = [];
        run = commit_of ready.run;
        named = ready.named;
        book_is = p.stands;
        lists_are = stands;
        names_are = ready.names_are;
        last = ap (λ (i : Installed). i.lists) ready.now;
        now = ready.now;
        entries = ready.entries;
        below = numbers.0;
        used = turned_below ready.config ready.names ready.cells ready.before.lists after.lists plan.moved plan.seed next ready.before.next after.next p.makes ready.used numbers.1 numbers.0;
      }

-- a book that is as it was
pub kept_ready : (l : Lists) (b later : Book) (ready : AreReady l b) → BookStands ready.config ready.cells ready.before.lists later → AreReady l later
kept_ready l b later ready stands = still_ready l l b later ready ready.lists_are stands

-- ---- before the first line

pub small_numbers : (lists : List (List Entry)) → list_all (λ es. list_all (λ (e : Entry). nat_lt e.number 4293918720) es) lists ≡ true
    → All (λ n. n < 4293918720) (flat_map entry_numbers lists)
small_numbers lists small =
    All-flat_map (λ n. n < 4293918720) entry_numbers lists
    (All-from_test (λ (es : List Entry). All (λ n. n < 4293918720) (entry_numbers es)) (λ es. list_all (λ (e : Entry). nat_lt e.number 4293918720) es)
    (λ es h. All-map (λ n. n < 4293918720) (λ (e : Entry). e.number) es
    (All-from_test (λ (e : Entry). e.number < 4293918720) (λ (e : Entry). nat_lt e.number 4293918720) (λ e t. ltb-true e.number 4293918720 t) es h)) lists small)

pub new_ready : (c : Config) (names : Names) (l : Lists) (b : Book) → Formed c → c.names ≡ Some names → IsNew c b → Stands (fresh names (entries_spelled c names) 200) l → AreReady l b
new_ready c names l b formed named new stands = record {
  config = c;
  names = names;
  cells = own_cells c;
  before = at_first (entries_spelled c names);
  changes = [];
  run = fresh names (entries_spelled c names) 200;
  named = named;
  book_is = new names named;
  lists_are = stands;
  names_are = refl;
  last = refl;
  now = refl;
  entries = spelled_entries c names formed named;
  below = first_above (entries_spelled c names);
  used = own_below c names formed named;
}
