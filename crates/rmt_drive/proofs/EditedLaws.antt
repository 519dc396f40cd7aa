-- The entries of a text as its lines leave them: a line that is taken is a change that can be made where it stands.
use Rattle.std.proofs.Common.{◌≡◌, ℕ, ◌<◌, ◌&&◌, Bool, true, false, cond, leb, List, [], ◌∷◌, ◌++◌, length, Option, Some, None, Result, Ok, Err, refl, sym, ap, ◌∙◌, subst}
use Rattle.std.specs.Prelude.{All, IsSomeAnd, IsTrue, drop, option_and_then}
use Rattle.std.proofs.lemmas.Bool.{leb-false}
use Rattle.std.proofs.lemmas.List.Sums.{fold-append}
use Rattle.std.proofs.lemmas.Option.{none-some, same_Some}
use Rattle.rmt_bits.specs.Packet.{Packet}
use Rattle.rmt_ast.specs.declared.program.Program.{Program}
use Rattle.rmt_ast.specs.declared.program.Table.{Table}
use Rattle.rmt_ast.specs.declared.entry.Entry.{Entry}
use Rattle.rmt_ast.specs.declared.names.Names.{Names}
use Rattle.rmt_ast.specs.declared.program.Kind.{Kind}
use Rattle.rmt_ast.specs.declared.program.Kind.TheVariants as kind
use Rattle.rmt_ast.specs.Changes.{Adds, Change, Installed, Removes, at_first, changed, committed, list_of, key_of_entry, is_held}
use Rattle.rmt_ast.specs.EntryLists.{AreEntries, IsEntry, Terms, terms_of}
use Rattle.rmt_ast.specs.Events.{Arrives, Commits}
use Rattle.rmt_ast.specs.NameRules.{names_are_formed, terms_named}
use Rattle.rmt_ast.specs.Naming.{has_key, names_of}
use Rattle.rmt_ast.specs.WellFormed.{IsProgram}
use Rattle.rmt_entries.specs.declared.named.EntryName.{EntryName}
use Rattle.rmt_entries.specs.Entries.{has_keys_once}
use Rattle.rmt_entries.specs.NamedLines.{IsNamedEntry, named_entry, named_key}
use Rattle.rmt_bits.proofs.OptionLaws.{same_Ok}
use Rattle.rmt_entries.proofs.NamedLaws.{named_entry_law}
use Rattle.rmt_plain.specs.Stands.{entries_in}
use Rattle.rmt_plain.proofs.EventLaws.{entries_after-append}
use Rattle.rmt_refine.specs.Fit.{AreFitChanges, CanBeAdded, CanBeMade, has_once}
use Rattle.rmt_refine.specs.Units.{table_at}
use Rattle.rmt_refine.proofs.FitLaws.{commit_follows, first_below}
use Rattle.rmt_refine.proofs.NamedLaws.{keyed_terms, terms_named_is}
use Rattle.rmt_lists.specs.Running.{Running, added_to, begins, key_of_name, line_change, refusal_of, unless, with_entry, with_one, without_key, without_one}
use Rattle.rmt_drive.specs.EventText.{EventReading, added_by, change_said, removed_by, unread, with_change, with_commit, with_packet}
use Rattle.rmt_drive.specs.PlainRunning.{IsEdited, committed_by}

-- ---- what a line is that was taken

-- a line is one change, which can be made, and leaves the entries so
pub record IsChange (p : Program) (r next : Running) (said : List Change) : Type 0 where
  pub change : Change
  pub is_said : said ≡ change ∷ []
  pub names : next.names ≡ r.names
  pub last : next.last ≡ r.last
  pub now : next.now ≡ changed r.now change
  pub can : CanBeMade p r.now change

once_is : (k : Kind) → has_keys_once k ≡ has_once k
once_is kind.Keyless = refl
once_is kind.Exact = refl
once_is kind.Prefix = refl
once_is kind.Ternary = refl

module _ (p : Program) (names : Names) (lists : List (List Entry)) (are : names ≡ names_of p lists) where
  -- a table of the names is one of the program
  its_table : (n : ℕ) (t : Terms) → terms_named names n ≡ Some t → (table : Table) × (table_at p n ≡ Some table) × (terms_of p table ≡ t)
  its_table n t e = by (table_at p n) refl (sym (terms_named_is p lists n) ∙ ap (λ (ns : Names). terms_named ns n) (sym are) ∙ e)
    where
      keyed : (table : Table) (b : Bool) → cond b (Some (terms_of p table)) None ≡ Some t → terms_of p table ≡ t
      keyed table true h = same_Some (terms_of p table) t h
      keyed table false h = absurd (none-some t h)

      by : (o : Option Table) → table_at p n ≡ o → option_and_then (keyed_terms p) o ≡ Some t → (table : Table) × (table_at p n ≡ Some table) × (terms_of p table ≡ t)
      by None s h = absurd (none-some t h)
      by (Some table) s h = (table, s, keyed table (has_key table.kind) h)

  module _ (r next : Running) (same : r.names ≡ names) where
    -- an entry that is added
    one_added : (e : Entry) (t : Terms) → IsEntry e.table t e → terms_named names e.table ≡ Some t → unless (refusal_of t.kind t.size r.most r.taken (key_of_entry e) (list_of r.now.lists e.table)) (with_one r e) ≡ Ok next
        → IsChange p r next (Adds e ∷ [])
    one_added e t is told h = free (has_keys_once t.kind && is_held (key_of_entry e) es) refl (leb t.size (length es)) refl (leb r.most r.taken) h
      where
        es : List Entry
        es = list_of r.now.lists e.table

        table : (x : Table) × (table_at p e.table ≡ Some x) × (terms_of p x ≡ t)
        table = its_table e.table t told

        free : (once : Bool) → (has_keys_once t.kind && is_held (key_of_entry e) es) ≡ once → (full : Bool) → leb t.size (length es) ≡ full → (many : Bool)
            → unless (cond once (Some 6) (cond full (Some 7) (cond many (Some 9) None))) (with_one r e) ≡ Ok next → IsChange p r next (Adds e ∷ [])
        free true a full b many h = absurd (cc)
        free false a true b many h = absurd (cc)
        free false a false b true h = absurd (cc)
        free false a false b false h =
            let n = sym (same_Ok (with_one r e) next h) in
            let added : CanBeAdded t es e = record {
              is_entry = is;
              is_new = ap (λ (k : Bool). k && is_held (key_of_entry e) es) (sym (once_is t.kind)) ∙ a;
              has_room = leb-false t.size (length es) b;
            } in
            record {
              change = Adds e;
              is_said = refl;
              names = ap (λ (x : Running). x.names) n;
              last = ap (λ (x : Running). x.last) n;
              now = ap (λ (x : Running). x.now) n;
              can =
                  subst (λ (o : Option Table). IsSomeAnd o (λ (x : Table). CanBeAdded (terms_of p x) es e)) (sym table.1)
                  (subst (λ (u : Terms). CanBeAdded u es e) (sym table.2) added);
            }

    -- what an entry line says is added
    entry_added : IsTrue (names_are_formed names) → (text : List ℕ) → with_entry r (named_entry r.names text) ≡ Ok next → IsChange p r next (added_by (named_entry r.names text))
    entry_added formed text h = said (named_entry r.names text) (ap (λ (ns : Names). named_entry ns text) (sym same)) h
      where
        terms : (e : Entry) → IsNamedEntry names e → (o : Option Terms) → terms_named names e.table ≡ o → added_to r e o ≡ Ok next → IsChange p r next (Adds e ∷ [])
        terms e is None told h = absurd (cc)
        terms e is (Some t) told h = one_added e t (subst (λ (o : Option Terms). IsSomeAnd o (λ x. IsEntry e.table x e)) told is) told h

        said : (o : Result Entry ℕ) → named_entry names text ≡ o → with_entry r o ≡ Ok next → IsChange p r next (added_by o)
        said (Err code) is h = absurd (cc)
        said (Ok e) is h =
            terms e (named_entry_law names text e formed is) (terms_named r.names e.table) (ap (λ (ns : Names). terms_named ns e.table) (sym same)) h

    -- an entry that is removed
    one_removed : (k : EntryName) (there : Bool) → is_held (key_of_name k) (list_of r.now.lists k.table) ≡ there → cond {A = Result Running ℕ} there (Ok (without_one r k.table (key_of_name k))) (Err 8) ≡ Ok next
        → IsChange p r next (Removes k.table (key_of_name k) ∷ [])
    one_removed k false is h = absurd (cc)
    one_removed k true is h =
        let n = sym (same_Ok (without_one r k.table (key_of_name k)) next h) in
        record {
          change = Removes k.table (key_of_name k);
          is_said = refl;
          names = ap (λ (x : Running). x.names) n;
          last = ap (λ (x : Running). x.last) n;
          now = ap (λ (x : Running). x.now) n;
          can = is;
        }

    key_removed : (o : Result EntryName ℕ) → without_key r o ≡ Ok next → IsChange p r next (removed_by o)
    key_removed (Err code) h = absurd (cc)
    key_removed (Ok k) h = one_removed k (is_held (key_of_name k) (list_of r.now.lists k.table)) refl h

    -- a line that is taken
    pub line_changes : IsTrue (names_are_formed names) → (text : List ℕ) → line_change r text ≡ Ok next → IsChange p r next (change_said r.names text)
    line_changes formed text h = by (leb 18444 (length text)) (begins 43 text) h
      where
        by : (long sign : Bool) → cond long (Err 5) (cond sign (with_entry r (named_entry r.names (drop 2 text))) (without_key r (named_key r.names (drop 2 text)))) ≡ Ok next
            → IsChange p r next (cond sign (added_by (named_entry r.names (drop 2 text))) (removed_by (named_key r.names (drop 2 text))))
        by true sign h = absurd (cc)
        by false true h = entry_added formed (drop 2 text) h
        by false false h = key_removed (named_key r.names (drop 2 text)) h

-- ---- the entries of a text

-- changes that can be made, and one more
fit_more : (p : Program) (s : Installed) (changes : List Change) (change : Change) → AreFitChanges p s changes → CanBeMade p (committed s changes) change → AreFitChanges p s (changes ++ change ∷ [])
fit_more p s [] change fit can = (can, tt)
fit_more p s (c ∷ changes) change fit can = (fit.0, fit_more p (changed s c) changes change fit.1 can)

module _ (p : Program) (lists : List (List Entry)) where
  -- before the first line
  pub edited_first : AreEntries p lists → IsEdited p lists (unread p lists)
  edited_first entries = record {
    names = refl;
    last = refl;
    now = refl;
    fit = tt;
    entries = entries;
    below = first_below lists;
  }

  -- the commits of a text that goes on without one are the same
  moved : (said next : EventReading) → committed_by lists next ≡ committed_by lists said → next.run ≡ said.run → next.changes ≡ said.changes → IsEdited p lists said → IsEdited p lists next
  moved said next same run changes h = record {
    names = ap (λ (r : Running). r.names) run ∙ h.names;
    last = ap (λ (r : Running). r.last) run ∙ h.last ∙ ap (λ (s : Installed). s.lists) (sym same);
    now = ap (λ (r : Running). r.now) run ∙ h.now ∙ ap (λ (s : Installed). committed s said.changes) (sym same) ∙ ap (committed (committed_by lists next)) (sym changes);
    fit = subst (λ (cs : List Change). AreFitChanges p (committed_by lists next) cs) (sym changes) (subst (λ (s : Installed). AreFitChanges p s said.changes) (sym same) h.fit);
    entries = subst (λ (s : Installed). AreEntries p s.lists) (sym same) h.entries;
    below = subst (λ (s : Installed). All (λ (e : Entry). e.number < s.next) (entries_in s.lists)) (sym same) h.below;
  }

  pub edited_packet : (n : ℕ) (packet : Packet) (said : EventReading) → IsEdited p lists said → IsEdited p lists (with_packet n (Ok packet) said)
  edited_packet n packet said h = moved said (with_packet n (Ok packet) said) (entries_after-append (at_first lists) said.events (Arrives packet ∷ [])) refl refl h

  pub edited_change : (n : ℕ) (text : List ℕ) (next : Running) (said : EventReading) → IsTrue (names_are_formed said.run.names) → line_change said.run text ≡ Ok next → IsEdited p lists said
      → IsEdited p lists (with_change n text (Ok next) said)
  edited_change n text next said formed taken h =
      let c = line_changes p said.run.names lists h.names said.run next refl formed text taken in
      let s = committed_by lists said in
      let made : said.changes ++ change_said said.run.names text ≡ said.changes ++ c.change ∷ [] = ap (λ (cs : List Change). said.changes ++ cs) c.is_said in
      record {
        names = c.names ∙ h.names;
        last = c.last ∙ h.last;
        now = c.now ∙ ap (λ (i : Installed). changed i c.change) h.now ∙ sym (fold-append changed s said.changes (c.change ∷ [])) ∙ ap (committed s) (sym made);
        fit = subst (λ (cs : List Change). AreFitChanges p s cs) (sym made) (fit_more p s said.changes c.change h.fit (subst (λ (i : Installed). CanBeMade p i c.change) h.now c.can));
        entries = h.entries;
        below = h.below;
      }

  pub edited_commit : IsProgram p → (said : EventReading) → IsEdited p lists said → IsEdited p lists (with_commit said)
  edited_commit program said h =
      let s = committed_by lists said in
      let next : committed_by lists (with_commit said) ≡ committed s said.changes = entries_after-append (at_first lists) said.events (Commits said.changes ∷ []) in
      let follows = commit_follows p program s said.changes h.entries h.below h.fit in
      record {
        names = h.names;
        last = ap (λ (i : Installed). i.lists) (h.now ∙ sym next);
        now = h.now ∙ sym next;
        fit = tt;
        entries = subst (λ (i : Installed). AreEntries p i.lists) (sym next) follows.entries;
        below = subst (λ (i : Installed). All (λ (e : Entry). e.number < i.next) (entries_in i.lists)) (sym next) follows.below;
      }

  -- the entries behind a commit are well formed
  pub entries_committed : IsProgram p → (said : EventReading) → IsEdited p lists said → AreEntries p said.run.now.lists
  entries_committed program said h =
      subst (λ (i : Installed). AreEntries p i.lists) (sym h.now) (commit_follows p program (committed_by lists said) said.changes h.entries h.below h.fit).entries
