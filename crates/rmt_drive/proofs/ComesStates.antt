-- What holds of the entries and the cells of a run that has come so far, where its packets and commits were read from a text.
use Rattle.std.proofs.Common.{◌≡◌, ℕ, Bool, true, false, cond, leb, List, [], ◌∷◌, ◌++◌, length, Option, Some, None, Result, Ok, Err, refl, sym, ap, ◌∙◌, subst}
use Rattle.std.specs.Prelude.{IsTrue, drop, fold, is_some, option_map, unwrap_or, ⊤}
use Rattle.std.proofs.lemmas.Bool.{and_parts}
use Rattle.std.proofs.lemmas.List.Sums.{fold-append}
use Rattle.rmt_bits.proofs.OptionLaws.{same_Ok}
use Rattle.rmt_bits.specs.Packet.{Packet}
use Rattle.rmt_config.specs.declared.config.Config.{Config}
use Rattle.rmt_ast.specs.declared.entry.Entry.{Entry}
use Rattle.rmt_ast.specs.declared.names.Names.{Names}
use Rattle.rmt_ast.specs.Changes.{Adds, Change, Installed, Removes, at_first, changed, committed, list_of, key_of_entry, is_held}
use Rattle.rmt_ast.specs.EntryLists.{Terms}
use Rattle.rmt_ast.specs.Events.{Arrives, Commits, Event}
use Rattle.rmt_ast.specs.NameRules.{AreEntriesOf, names_are_formed, terms_named}
use Rattle.rmt_config.specs.Commits.{RunState}
use Rattle.rmt_config.specs.Form.{Formed}
use Rattle.rmt_config.specs.Limits.{IsWithinLimits}
use Rattle.rmt_config.specs.NamesForm.{entries_spelled}
use Rattle.rmt_config.specs.RunCells.{own_cells}
use Rattle.rmt_config.specs.RunInputs.{Input}
use Rattle.rmt_entries.specs.declared.named.EntryName.{EntryName}
use Rattle.rmt_entries.specs.NamedLines.{named_entry, named_key}
use Rattle.rmt_packets.specs.declared.line_kind.LineKind.{LineKind}
use Rattle.rmt_packets.specs.declared.line_kind.LineKind.TheVariants as line
use Rattle.rmt_packets.specs.LineKinds.{kind_of}
use Rattle.rmt_packets.specs.PacketText.{BadLine, packet_of}
use Rattle.rmt_plain.specs.Stands.{entries_after}
use Rattle.rmt_plain.proofs.EventLaws.{entries_after-append}
use Rattle.rmt_update.specs.Fitting.{AreFit}
use Rattle.rmt_update.specs.Following.{AreBelow, IsNextAbove}
use Rattle.rmt_lists.specs.Running.{Running, added_to, begins as begins_with, key_of_name, line_change, refusal_of, unless, with_entry, with_one, without_key, without_one}
use Rattle.rmt_update.proofs.BookLaws.{names-fit}
use Rattle.rmt_update.proofs.FitMakes.{makes_fit, version_fit}
use Rattle.rmt_update.proofs.FitOwn.{own_fit}
use Rattle.rmt_update.proofs.FollowLaws.{above_kept, entries_kept, first_above, numbers_kept, own_below, turned_below}
use Rattle.rmt_update.proofs.SpelledEntries.{spelled_entries}
use Rattle.rmt_drive.specs.ChipEvents.{Comes, arrived, begins, turned, lists_in, names_in}
use Rattle.rmt_drive.specs.ChipReading.{chip_reads_on, finds_none, read_by, unread_by, with_chip_commit, with_chip_line}
use Rattle.rmt_drive.specs.EventText.{EventReading, added_by, change_said, removed_by, with_bad, with_change, with_commit, with_packet}
use Rattle.rmt_drive.proofs.ChipReadLaws.{chip_more}

-- ---- what a line is that was taken

-- a line is one change, and leaves the entries so
pub record IsSaid (r next : Running) (said : List Change) : Type 0 where
  pub change : Change
  pub is_said : said ≡ change ∷ []
  pub names : next.names ≡ r.names
  pub last : next.last ≡ r.last
  pub now : next.now ≡ changed r.now change

module _ (r next : Running) where
  said_so : (change : Change) (after : Running) → after ≡ next → after.names ≡ r.names → after.last ≡ r.last → after.now ≡ changed r.now change → IsSaid r next (change ∷ [])
  said_so change after same names last now = record {
    change = change;
    is_said = refl;
    names = ap (λ (x : Running). x.names) (sym same) ∙ names;
    last = ap (λ (x : Running). x.last) (sym same) ∙ last;
    now = ap (λ (x : Running). x.now) (sym same) ∙ now;
  }

  unless_ok : (o : Option ℕ) (after : Running) → unless o after ≡ Ok next → after ≡ next
  unless_ok None after h = same_Ok after next h
  unless_ok (Some code) after h = absurd (cc)

  entry_said : (o : Result Entry ℕ) → with_entry r o ≡ Ok next → IsSaid r next (added_by o)
  entry_said (Err code) h = absurd (cc)
  entry_said (Ok e) h = by (terms_named r.names e.table) h
    where
      by : (t : Option Terms) → added_to r e t ≡ Ok next → IsSaid r next (Adds e ∷ [])
      by None h = absurd (cc)
      by (Some t) h =
          said_so (Adds e) (with_one r e) (unless_ok (refusal_of t.kind t.size r.most r.taken (key_of_entry e) (list_of r.now.lists e.table)) (with_one r e) h) refl refl refl

  key_said : (o : Result EntryName ℕ) → without_key r o ≡ Ok next → IsSaid r next (removed_by o)
  key_said (Err code) h = absurd (cc)
  key_said (Ok k) h = by (is_held (key_of_name k) (list_of r.now.lists k.table)) h
    where
      by : (there : Bool) → cond {A = Result Running ℕ} there (Ok (without_one r k.table (key_of_name k))) (Err 8) ≡ Ok next → IsSaid r next (Removes k.table (key_of_name k) ∷ [])
      by false h = absurd (cc)
      by true h = said_so (Removes k.table (key_of_name k)) (without_one r k.table (key_of_name k)) (same_Ok (without_one r k.table (key_of_name k)) next h) refl refl refl

  pub line_said : (text : List ℕ) → line_change r text ≡ Ok next → IsSaid r next (change_said r.names text)
  line_said text h = by (leb 18444 (length text)) (begins_with 43 text) h
    where
      by : (long sign : Bool) → cond long (Err 5) (cond sign (with_entry r (named_entry r.names (drop 2 text))) (without_key r (named_key r.names (drop 2 text)))) ≡ Ok next
          → IsSaid r next (cond sign (added_by (named_entry r.names (drop 2 text))) (removed_by (named_key r.names (drop 2 text))))
      by true sign h = absurd (cc)
      by false true h = entry_said (named_entry r.names (drop 2 text)) h
      by false false h = key_said (named_key r.names (drop 2 text)) h

-- ---- commits that leave well-formed entries

abbrev pub AreKept : Names → Installed → List Event → Type 0
AreKept names s [] = ⊤
AreKept names s ((Arrives packet) ∷ events) = AreKept names s events
AreKept names s ((Commits changes) ∷ events) = AreEntriesOf names (committed s changes).lists × AreKept names (committed s changes) events

pub kept_append : (names : Names) (s : Installed) (xs ys : List Event) → AreKept names s xs → AreKept names (entries_after s xs) ys → AreKept names s (xs ++ ys)
kept_append names s [] ys a b = b
kept_append names s ((Arrives packet) ∷ xs) ys a b = kept_append names s xs ys a b
kept_append names s ((Commits changes) ∷ xs) ys a b = (a.0, kept_append names (committed s changes) xs ys a.1 b)

pub kept_parts : (names : Names) (s : Installed) (xs ys : List Event) → AreKept names s (xs ++ ys) → AreKept names s xs × AreKept names (entries_after s xs) ys
kept_parts names s [] ys h = (tt, h)
kept_parts names s ((Arrives packet) ∷ xs) ys h = kept_parts names s xs ys h
kept_parts names s ((Commits changes) ∷ xs) ys h = let rest = kept_parts names (committed s changes) xs ys h.1 in ((h.0, rest.0), rest.1)

-- ---- what was read

-- what was read of a text with these names, for the entries with which it begins
pub record IsRead (names : Names) (lists : List (List Entry)) (said : EventReading) : Type 0 where
  pub names_are : said.run.names ≡ names
  pub last : said.run.last ≡ (entries_after (at_first lists) said.events).lists
  pub now : said.run.now ≡ committed (entries_after (at_first lists) said.events) said.changes
  pub kept : AreKept names (at_first lists) said.events
  pub was : AreEntriesOf names (entries_after (at_first lists) said.events).lists
  pub next : AreEntriesOf names said.run.now.lists
  pub above : IsNextAbove said.run.now

module _ (names : Names) (lists : List (List Entry)) where
  read_first : AreEntriesOf names lists → (said : EventReading) → said.events ≡ [] → said.changes ≡ [] → said.run.names ≡ names → said.run.last ≡ lists → said.run.now ≡ at_first lists → IsRead names lists said
  read_first are said events changes names_are last now = record {
    names_are = names_are;
    last = last ∙ ap (λ (es : List Event). (entries_after (at_first lists) es).lists) (sym events);
    now = now ∙ ap (λ (cs : List Change). committed (at_first lists) cs) (sym changes) ∙ ap (λ (es : List Event). committed (entries_after (at_first lists) es) said.changes) (sym events);
    kept = subst (AreKept names (at_first lists)) (sym events) tt;
    was = subst (λ (es : List Event). AreEntriesOf names (entries_after (at_first lists) es).lists) (sym events) are;
    next = subst (λ (i : Installed). AreEntriesOf names i.lists) (sym now) are;
    above = subst IsNextAbove (sym now) (first_above lists);
  }

  -- a bad line leaves all as it is
  read_bad : (n code : ℕ) (said : EventReading) → IsRead names lists said → IsRead names lists (with_bad n code said)
  read_bad n code said h = record {
    names_are = h.names_are;
    last = h.last;
    now = h.now;
    kept = h.kept;
    was = h.was;
    next = h.next;
    above = h.above;
  }

  read_packet : (n : ℕ) (o : Result Packet ℕ) (said : EventReading) → IsRead names lists said → IsRead names lists (with_packet n o said)
  read_packet n (Err code) said h = read_bad n code said h
  read_packet n (Ok packet) said h =
      let s = at_first lists in
      let same : entries_after s said.events ≡ entries_after s (said.events ++ Arrives packet ∷ []) = sym (entries_after-append s said.events (Arrives packet ∷ [])) in
      record {
        names_are = h.names_are;
        last = h.last ∙ ap (λ (i : Installed). i.lists) same;
        now = h.now ∙ ap (λ (i : Installed). committed i said.changes) same;
        kept = kept_append names s said.events (Arrives packet ∷ []) h.kept tt;
        was = subst (λ (i : Installed). AreEntriesOf names i.lists) same h.was;
        next = h.next;
        above = h.above;
      }

  module _ (formed : IsTrue (names_are_formed names)) where
    read_change : (n : ℕ) (text : List ℕ) (o : Result Running ℕ) (said : EventReading) → line_change said.run text ≡ o → IsRead names lists said → IsRead names lists (with_change n text o said)
    read_change n text (Err code) said e h = read_bad n code said h
    read_change n text (Ok run) said e h =
        let x = line_said said.run run text e in
        let s = entries_after (at_first lists) said.events in
        let form : IsTrue (names_are_formed said.run.names) = subst (λ (ns : Names). IsTrue (names_are_formed ns)) (sym h.names_are) formed in
        let are : AreEntriesOf said.run.names said.run.now.lists = subst (λ (ns : Names). AreEntriesOf ns said.run.now.lists) (sym h.names_are) h.next in
        let made : said.changes ++ change_said said.run.names text ≡ said.changes ++ x.change ∷ [] = ap (λ (cs : List Change). said.changes ++ cs) x.is_said in
        record {
          names_are = x.names ∙ h.names_are;
          last = x.last ∙ h.last;
          now = x.now ∙ ap (λ (i : Installed). changed i x.change) h.now ∙ sym (fold-append changed s said.changes (x.change ∷ [])) ∙ ap (committed s) (sym made);
          kept = h.kept;
          was = h.was;
          next = subst (λ (ns : Names). AreEntriesOf ns run.now.lists) (x.names ∙ h.names_are) (entries_kept said.run run text form are h.above e);
          above = above_kept said.run run text h.above e;
        }

    read_commit : (said : EventReading) → IsRead names lists said → IsRead names lists (with_commit said)
    read_commit said h =
        let s = at_first lists in
        let same : said.run.now ≡ entries_after s (said.events ++ Commits said.changes ∷ []) = h.now ∙ sym (entries_after-append s said.events (Commits said.changes ∷ [])) in
        let are : AreEntriesOf names (committed (entries_after s said.events) said.changes).lists = subst (λ (i : Installed). AreEntriesOf names i.lists) h.now h.next in
        record {
          names_are = h.names_are;
          last = ap (λ (i : Installed). i.lists) same;
          now = same;
          kept = kept_append names s said.events (Commits said.changes ∷ []) h.kept (are, tt);
          was = subst (λ (i : Installed). AreEntriesOf names i.lists) same h.next;
          next = h.next;
          above = h.above;
        }

    read_chip_commit : (full : Option ℕ) (n : ℕ) (said : EventReading) → IsRead names lists said → IsRead names lists (with_chip_commit full n said)
    read_chip_commit full n said h = by (finds_none full said.events)
      where
        by : (b : Bool) → IsRead names lists (cond b (with_bad n 10 said) (with_commit said))
        by true = read_bad n 10 said h
        by false = read_commit said h

    read_line : (named : Bool) (full : Option ℕ) (n : ℕ) (text : List ℕ) (k : LineKind) (said : EventReading) → IsRead names lists said → IsRead names lists (with_chip_line named full n text k said)
    read_line named full n text line.Packet said h = read_packet n (packet_of text) said h
    read_line true full n text line.Addition said h = read_change n text (line_change said.run text) said refl h
    read_line false full n text line.Addition said h = read_bad n 4 said h
    read_line true full n text line.Removal said h = read_change n text (line_change said.run text) said refl h
    read_line false full n text line.Removal said h = read_bad n 4 said h
    read_line true full n text line.Commit said h = read_chip_commit full n said h
    read_line false full n text line.Commit said h = read_bad n 4 said h

    read_more : (c : Config) (full : Option ℕ) (l : ℕ × List ℕ) (said : EventReading) → IsRead names lists said → IsRead names lists (chip_more c full said l)
    read_more c full l said h = by said.bad
      where
        by : (b : Option BadLine) → IsRead names lists (chip_reads_on (is_some c.names) full said b l)
        by (Some b) = h
        by None = read_line (is_some c.names) full l.0 l.1 (kind_of l.1) said h

    read_lines : (c : Config) (full : Option ℕ) (ls : List (ℕ × List ℕ)) (said : EventReading) → IsRead names lists said → IsRead names lists (fold (chip_more c full) said ls)
    read_lines c full [] said h = h
    read_lines c full (l ∷ ls) said h = read_lines c full ls (chip_more c full said l) (read_more c full l said h)

-- ---- where a run has come

-- its entries are those that its commits leave
pub come_entries : (c : Config) (names : Names) (lists : List (List Entry)) (events : List Event) (made : List Input) (r : RunState) → Comes c names lists events made r
    → r.entries ≡ entries_after (at_first lists) events
come_entries c names lists events made r begins = refl
come_entries c names lists events made r (arrived before inputs s packet h) =
    come_entries c names lists before inputs s h ∙ sym (entries_after-append (at_first lists) before (Arrives packet ∷ []))
come_entries c names lists events made r (turned before inputs s changes moved seed next writes h makes are) =
    ap (λ (i : Installed). committed i changes) (come_entries c names lists before inputs s h) ∙ sym (entries_after-append (at_first lists) before (Commits changes ∷ []))

-- the cells of a run fit, and their numbers, as those of its entries, are below the next one
pub record AreCells (c : Config) (r : RunState) : Type 0 where
  pub fit : AreFit c r.cells
  pub used : AreBelow c r.cells r.entries.next
  pub above : IsNextAbove r.entries

module _ (c : Config) (formed : Formed c) (small : IsWithinLimits c) (names : Names) (named : c.names ≡ Some names) (lists : List (List Entry)) (own : lists ≡ entries_spelled c names) where
  come_cells : (events : List Event) (made : List Input) (r : RunState) → Comes c names lists events made r → AreKept names (at_first lists) events → AreCells c r
  come_cells events made r begins kept = record {
    fit = own_fit c names formed named;
    used = subst (λ (ls : List (List Entry)). AreBelow c (own_cells c) (at_first ls).next) (sym own) (own_below c names formed named);
    above = first_above lists;
  }
  come_cells events made r (arrived before inputs s packet h) kept =
      let was = come_cells before inputs s h (kept_parts names (at_first lists) before (Arrives packet ∷ []) kept).0 in
      record { fit = was.fit; used = was.used; above = was.above }
  come_cells events made r (turned before inputs s changes moved seed next writes h makes are) kept =
      let parts = kept_parts names (at_first lists) before (Commits changes ∷ []) kept in
      let was = come_cells before inputs s h parts.0 in
      let after = committed s.entries changes in
      let entries : AreEntriesOf names after.lists = subst (λ (i : Installed). AreEntriesOf names (committed i changes).lists) (sym (come_entries c names lists before inputs s h)) parts.1.0 in
      let numbers = numbers_kept s.entries changes was.above in
      record {
        fit = version_fit c next seed (makes_fit c names s.cells s.entries.lists after.lists moved seed next formed small named entries was.fit makes);
        used = turned_below c names s.cells s.entries.lists after.lists moved seed next s.entries.next after.next makes was.used numbers.1 numbers.0;
        above = numbers.0;
      }

-- where a run of a configuration with names has come, by what was read of its text
pub record IsCome (c : Config) (said : EventReading) (r : RunState) : Type 0 where
  pub named : c.names ≡ Some (names_in c)
  pub names : said.run.names ≡ names_in c
  pub last : said.run.last ≡ r.entries.lists
  pub now : said.run.now ≡ committed r.entries said.changes
  pub entries : AreEntriesOf (names_in c) r.entries.lists
  pub next : AreEntriesOf (names_in c) (committed r.entries said.changes).lists
  pub below : IsNextAbove r.entries
  pub used : AreBelow c r.cells r.entries.next
  pub fit : AreFit c r.cells

-- a configuration with names has its own
pub names_own : (c : Config) (names : Names) → c.names ≡ Some names → c.names ≡ Some (names_in c)
names_own c names named = named ∙ ap (λ (o : Option Names). Some (unwrap_or o (record { tables = [] }))) (sym named)

pub lists_own : (c : Config) (names : Names) → c.names ≡ Some names → lists_in c ≡ entries_spelled c names
lists_own c names named = ap (λ (o : Option Names). unwrap_or (option_map (entries_spelled c) o) []) named

-- the names of a well-formed configuration keep the rules of names
pub names_formed : (c : Config) (names : Names) → Formed c → c.names ≡ Some names → IsTrue (names_are_formed names)
names_formed c names formed named =
    let fit = names-fit c names formed named in
    let made = and_parts _ _ (and_parts _ _ fit).0 in
    let those = and_parts _ _ made.0 in
    (and_parts _ _ (and_parts _ _ those.0).0).0

module _ (c : Config) (formed : Formed c) (small : IsWithinLimits c) (names : Names) (named : c.names ≡ Some names) where
  pub read_is : (full : Option ℕ) (lines : List (ℕ × List ℕ)) → IsRead (names_in c) (lists_in c) (read_by c full lines)
  read_is full lines =
      let own = names_own c names named in
      let are : AreEntriesOf (names_in c) (lists_in c) = subst (AreEntriesOf (names_in c)) (sym (lists_own c (names_in c) own)) (spelled_entries c (names_in c) formed own) in
      read_lines (names_in c) (lists_in c) (names_formed c (names_in c) formed own) c full lines (unread_by c) (read_first (names_in c) (lists_in c) are (unread_by c) refl refl refl refl refl)

  pub states : (full : Option ℕ) (lines : List (ℕ × List ℕ)) (made : List Input) (r : RunState) (said : EventReading) → read_by c full lines ≡ said
      → Comes c (names_in c) (lists_in c) said.events made r → IsCome c said r
  states full lines made r said same comes =
      let own = names_own c names named in
      let read : IsRead (names_in c) (lists_in c) said = subst (IsRead (names_in c) (lists_in c)) same (read_is full lines) in
      let are : r.entries ≡ entries_after (at_first (lists_in c)) said.events = come_entries c (names_in c) (lists_in c) said.events made r comes in
      let cells = come_cells c formed small (names_in c) own (lists_in c) (lists_own c (names_in c) own) said.events made r comes read.kept in
      let now : said.run.now ≡ committed r.entries said.changes = read.now ∙ ap (λ (i : Installed). committed i said.changes) (sym are) in
      record {
        named = own;
        names = read.names_are;
        last = read.last ∙ ap (λ (i : Installed). i.lists) (sym are);
        now = now;
        entries = subst (λ (i : Installed). AreEntriesOf (names_in c) i.lists) (sym are) read.was;
        next = subst (λ (i : Installed). AreEntriesOf (names_in c) i.lists) now read.next;
        below = cells.above;
        used = cells.used;
        fit = cells.fit;
      }
