-- What the chip reads and prints where its configuration carries a program with its entries, and has its names: what the program reads and answers.
use Rattle.std.proofs.Common.{◌≡◌, ℕ, ◌+◌, true, List, [], ◌∷◌, ◌++◌, length, map, replicate, Option, Some, None, Result, Ok, Err, refl, sym, ap, subst, ◌∙◌, append_assoc}
use Rattle.std.specs.Prelude.{IfSome, IsTrue, fold, is_some, option_map, unwrap_or}
use Rattle.std.specs.List.{flat_map}
use Rattle.std.proofs.lemmas.Bool.{and_parts}
use Rattle.rmt_bits.specs.Packet.{Packet}
use Rattle.rmt_bits.specs.declared.answer.Answer.{Answer}
use Rattle.rmt_config.specs.declared.config.Config.{Config}
use Rattle.rmt_ast.specs.declared.program.Program.{Program}
use Rattle.rmt_ast.specs.declared.entry.Entry.{Entry}
use Rattle.rmt_ast.specs.declared.names.Names.{Names}
use Rattle.rmt_ast.specs.Changes.{Installed, at_first, committed}
use Rattle.rmt_ast.specs.EntryLists.{AreEntries}
use Rattle.rmt_ast.specs.Events.{Arrives, Commits, Event, answers_of_events, counts_of_events}
use Rattle.rmt_ast.specs.NameRules.{names_are_formed}
use Rattle.rmt_ast.specs.Naming.{names_of}
use Rattle.rmt_ast.specs.WellFormed.{IsProgram}
use Rattle.rmt_config.specs.ChipRun.{Outcome}
use Rattle.rmt_config.specs.Commits.{RunState}
use Rattle.rmt_config.specs.Form.{Formed}
use Rattle.rmt_config.specs.Limits.{IsWithinLimits}
use Rattle.rmt_config.specs.NamesForm.{entries_spelled}
use Rattle.rmt_config.specs.RunInputs.{Idle, Input, counts_in, flight_in}
use Rattle.rmt_packets.specs.declared.line_kind.LineKind.{LineKind}
use Rattle.rmt_packets.specs.declared.line_kind.LineKind.TheVariants as line
use Rattle.rmt_packets.specs.LineKinds.{kind_of}
use Rattle.rmt_packets.specs.PacketText.{BadLine, packet_of}
use Rattle.rmt_packets.specs.AnswerLine.{answer_line}
use Rattle.rmt_bits.specs.declared.answer.Verdict.{Verdict}
use Rattle.rmt_plain.specs.Stands.{entries_after}
use Rattle.rmt_refine.specs.declared.map.Map.{Map}
use Rattle.rmt_refine.specs.Carries.{Carries}
use Rattle.rmt_refine.specs.EventRuns.{EventsAreAnswered, outcomes_in}
use Rattle.rmt_refine.specs.Fit.{AreFit}
use Rattle.rmt_refine.specs.Named.{NamesCarried}
use Rattle.rmt_refine.specs.RunsAs.{told_by_answer, told_by_outcome}
use Rattle.rmt_lists.specs.Running.{Running, line_change}
use Rattle.rmt_update.proofs.BookLaws.{names-fit}
use Rattle.rmt_drive.specs.declared.watch.Watch.TheVariants.{Answers}
use Rattle.rmt_drive.specs.ChipEvents.{Comes, empty_cycles, lists_in, names_in}
use Rattle.rmt_drive.specs.ChipReading.{chip_reads_on, read_by, unread_by, with_chip_line}
use Rattle.rmt_drive.specs.ChipText.{run_text}
use Rattle.rmt_drive.specs.EventText.{EventReading, events_of, most_additions, read_on, unread, with_bad, with_change, with_commit, with_line, with_packet}
use Rattle.rmt_drive.specs.PlainRunning.{IsEdited}
use Rattle.rmt_drive.specs.PlainText.{plain_lines}
use Rattle.rmt_drive.specs.SimText.{answer_lines, count_line, cycles_line, flight_line}
use Rattle.rmt_drive.proofs.ChipReadLaws.{chip_more}
use Rattle.rmt_drive.proofs.ComesLaws.{comes_to_end}
use Rattle.rmt_drive.proofs.EditedLaws.{edited_change, edited_commit, edited_first, edited_packet}
use Rattle.rmt_drive.proofs.EventTextLaws.{read_more}
use Rattle.rmt_drive.proofs.PacketLaws.{line_says}

-- ---- the texts

-- a line tells the verdict and the bytes
abbrev line_of : ℕ → Verdict × List ℕ → List ℕ
line_of n x = answer_line n (record { verdict = x.0; bytes = x.1; hits = [] })

lines_same : (n : ℕ) (os : List Outcome) (answers : List Answer) → map told_by_outcome os ≡ map told_by_answer answers → answer_lines n os ≡ plain_lines n answers
lines_same n [] [] e = refl
lines_same n [] (a ∷ answers) e = cc
lines_same n (o ∷ os) [] e = cc
lines_same n (o ∷ os) (a ∷ answers) e =
    let head : told_by_outcome o ≡ told_by_answer a = cc in
    let tail : map told_by_outcome os ≡ map told_by_answer answers = cc in
    ap (λ l. l ++ answer_lines (n + 1) os) (ap (line_of n) head) ∙ ap (λ l. answer_line n a ++ l) (lines_same (n + 1) os answers tail)

-- ---- packets that can come in, and changes that can be made

module _ (p : Program) (lists : List (List Entry)) where
  fit_append : (s : Installed) (xs ys : List Event) → AreFit p s xs → AreFit p (entries_after s xs) ys → AreFit p s (xs ++ ys)
  fit_append s [] ys a b = b
  fit_append s ((Arrives packet) ∷ xs) ys a b = (a.0, fit_append s xs ys a.1 b)
  fit_append s ((Commits changes) ∷ xs) ys a b = (a.0, fit_append (committed s changes) xs ys a.1 b)

  -- what was read so far
  record IsGood (said : EventReading) : Type 0 where
    edited : IsEdited p lists said
    fit : AreFit p (at_first lists) said.events

  good_bad : (n code : ℕ) (said : EventReading) → IsGood said → IsGood (with_bad n code said)
  good_bad n code said h = record {
    edited = record { names = h.edited.names; last = h.edited.last; now = h.edited.now; fit = h.edited.fit; entries = h.edited.entries; below = h.edited.below };
    fit = h.fit;
  }

  good_packet : (n : ℕ) (text : List ℕ) (o : Result Packet ℕ) (said : EventReading) → packet_of text ≡ o → IsGood said → IsGood (with_packet n o said)
  good_packet n text (Err code) said is h = good_bad n code said h
  good_packet n text (Ok packet) said is h = record {
    edited = edited_packet p lists n packet said h.edited;
    fit = fit_append (at_first lists) said.events (Arrives packet ∷ []) h.fit (line_says text packet is, tt);
  }

  module _ (program : IsProgram p) (formed : IsTrue (names_are_formed (names_of p lists))) where
    good_change : (n : ℕ) (text : List ℕ) (o : Result Running ℕ) (said : EventReading) → line_change said.run text ≡ o → IsGood said → IsGood (with_change n text o said)
    good_change n text (Err code) said is h = good_bad n code said h
    good_change n text (Ok run) said is h = record {
      edited = edited_change p lists n text run said (subst (λ (x : Names). IsTrue (names_are_formed x)) (sym h.edited.names) formed) is h.edited;
      fit = h.fit;
    }

    good_commit : (said : EventReading) → IsGood said → IsGood (with_commit said)
    good_commit said h = record {
      edited = edited_commit p lists program said h.edited;
      fit = fit_append (at_first lists) said.events (Commits said.changes ∷ []) h.fit (h.edited.fit, tt);
    }

    good_line : (n : ℕ) (text : List ℕ) (k : LineKind) (said : EventReading) → IsGood said → IsGood (with_line n text k said)
    good_line n text line.Packet said h = good_packet n text (packet_of text) said refl h
    good_line n text line.Addition said h = good_change n text (line_change said.run text) said refl h
    good_line n text line.Removal said h = good_change n text (line_change said.run text) said refl h
    good_line n text line.Commit said h = good_commit said h

    good_lines : (ls : List (ℕ × List ℕ)) (said : EventReading) → IsGood said → IsGood (fold read_more said ls)
    good_lines [] said h = h
    good_lines (l ∷ ls) said h = good_lines ls (read_more said l) (by said.bad)
      where
        by : (b : Option BadLine) → IsGood (read_on said b l)
        by (Some b) = h
        by None = good_line l.0 l.1 (kind_of l.1) said h

    -- the events of a text can come
    events_fit : AreEntries p lists → (ls : List (ℕ × List ℕ)) → AreFit p (at_first lists) (events_of p lists ls).events
    events_fit entries ls = (good_lines ls (unread p lists) (record { edited = edited_first p lists entries; fit = tt })).fit

-- ---- a configuration with a program's names

module _ (p : Program) (lists : List (List Entry)) (m : Map) (c : Config) (formed : Formed c) (named : c.names ≡ Some (names_of p lists)) (carries : Carries p lists m c) where
  names_same : names_in c ≡ names_of p lists
  names_same = ap (λ (o : Option Names). unwrap_or o (record { tables = [] })) named

  spelled : NamesCarried p lists c (names_of p lists)
  spelled = subst (λ (o : Option Names). IfSome o (NamesCarried p lists c)) named carries.names

  lists_same : lists_in c ≡ lists
  lists_same = ap (λ (o : Option Names). unwrap_or (option_map (entries_spelled c) o) []) named ∙ spelled.entries

  has_names : is_some c.names ≡ true
  has_names = ap is_some named

  first_same : unread_by c ≡ unread p lists
  first_same = λ i. record {
    events = [];
    changes = [];
    run = record { names = names_same i; last = lists_same i; now = at_first (lists_same i); taken = 0; most = most_additions };
    bad = None;
  }

  line_same : (n : ℕ) (text : List ℕ) (k : LineKind) (r : EventReading) → with_chip_line true None n text k r ≡ with_line n text k r
  line_same n text line.Packet r = refl
  line_same n text line.Addition r = refl
  line_same n text line.Removal r = refl
  line_same n text line.Commit r = refl

  more_same : (r : EventReading) (l : ℕ × List ℕ) → chip_more c None r l ≡ read_more r l
  more_same r l = by r.bad
    where
      by : (b : Option BadLine) → chip_reads_on (is_some c.names) None r b l ≡ read_on r b l
      by (Some b) = refl
      by None = ap (λ t. with_chip_line t None l.0 l.1 (kind_of l.1) r) has_names ∙ line_same l.0 l.1 (kind_of l.1) r

  lines_read : (ls : List (ℕ × List ℕ)) (r : EventReading) → fold (chip_more c None) r ls ≡ fold read_more r ls
  lines_read [] r = refl
  lines_read (l ∷ ls) r = ap (λ (x : EventReading). fold (chip_more c None) x ls) (more_same r l) ∙ lines_read ls (read_more r l)

  -- the chip reads what the program reads
  pub read_same : (ls : List (ℕ × List ℕ)) → read_by c None ls ≡ events_of p lists ls
  read_same ls = ap (λ (x : EventReading). fold (chip_more c None) x ls) first_same ∙ lines_read ls (unread p lists)

  names_formed : IsTrue (names_are_formed (names_of p lists))
  names_formed =
      let fit = names-fit c (names_of p lists) formed named in
      let made = and_parts _ _ (and_parts _ _ fit).0 in
      let those = and_parts _ _ made.0 in
      (and_parts _ _ (and_parts _ _ those.0).0).0

  -- and prints its answers and counters, and then the cycles and the flight
  pub record PrintsSo (events : List Event) (text : List ℕ) : Type 0 where
    pub cycles : ℕ
    pub flight : ℕ
    pub text_is : text ≡ (plain_lines 0 (answers_of_events p lists events) ++ flat_map count_line (counts_of_events p lists events)) ++ (cycles_line cycles ++ flight_line flight)

  pub prints_so : EventsAreAnswered → IsProgram p → AreEntries p lists → IsWithinLimits c → (ls : List (ℕ × List ℕ)) (made : List Input) (r : RunState)
      → Comes c (names_in c) (lists_in c) (read_by c None ls).events made r → PrintsSo (events_of p lists ls).events (run_text Answers c made (empty_cycles r) None)
  prints_so answered program entries small ls made r comes =
      let events = (events_of p lists ls).events in
      let whole = made ++ replicate (empty_cycles r) Idle in
      let same : (read_by c None ls).events ≡ events = ap (λ (x : EventReading). x.events) (read_same ls) in
      let come : Comes c (names_of p lists) lists events made r =
      subst (λ (es : List Event). Comes c (names_of p lists) lists es made r) same
      (subst (λ (x : Names). Comes c x lists (read_by c None ls).events made r) names_same
      (subst (λ (x : List (List Entry)). Comes c (names_in c) x (read_by c None ls).events made r) lists_same comes)) in
      let a =
      answered p lists m c (names_of p lists) events whole program entries carries formed small named (events_fit p lists program names_formed entries ls)
      (comes_to_end c (names_of p lists) lists events made r come) in
      let lines : answer_lines 0 (outcomes_in c whole) ≡ plain_lines 0 (answers_of_events p lists events) = lines_same 0 (outcomes_in c whole) (answers_of_events p lists events) a.answers in
      let last = cycles_line (length whole) ++ flight_line (flight_in c whole) in
      record {
        cycles = length whole;
        flight = flight_in c whole;
        text_is =
            ap (λ l. l ++ (flat_map count_line (counts_in c whole) ++ last)) lines
            ∙ ap (λ cs. plain_lines 0 (answers_of_events p lists events) ++ (flat_map count_line cs ++ last)) a.counters
            ∙ sym (append_assoc (plain_lines 0 (answers_of_events p lists events)) (flat_map count_line (counts_of_events p lists events)) last);
      }
