-- The lines of a plain run, one line of a packet text after another.
use Rattle.std.proofs.Common.{◌≡◌, ◌≢◌, ℕ, ◌+◌, List, [], ◌∷◌, ◌++◌, length, Option, Some, None, Result, Ok, Err, sym, refl, ap, ◌∙◌, subst, arith, append_assoc, append-nil, length-append}
use Rattle.std.specs.Prelude.{IsTrue, fold, map}
use Rattle.rmt_bits.specs.Packet.{Packet}
use Rattle.rmt_bits.specs.declared.answer.Answer.{Answer}
use Rattle.rmt_io.specs.Outside.{ShelfState, SinkState}
use Rattle.rmt_ast.specs.declared.program.Program.{Program}
use Rattle.rmt_ast.specs.declared.entry.Entry.{Entry}
use Rattle.rmt_ast.specs.Answers.{answer_of}
use Rattle.rmt_ast.specs.Changes.{at_first, committed}
use Rattle.rmt_ast.specs.EntryLists.{AreEntries}
use Rattle.rmt_ast.specs.Events.{Arrives, Commits, Event, Met, answers_of_events, lists_from, met_from}
use Rattle.rmt_packets.specs.AnswerLine.{answer_line}
use Rattle.rmt_packets.specs.PacketText.{BadLine}
use Rattle.rmt_plain.specs.declared.plain.Plain.{Plain}
use Rattle.rmt_plain.specs.Stands.{FollowOn, HasMet, HasTaken, entries_after, meets}
use Rattle.rmt_plain.proofs.EventLaws.{answers-append, follows_on, taken_commit, taken_packet}
use Rattle.rmt_lists.specs.declared.lists.Lists.{Lists}
use Rattle.rmt_lists.specs.Running.{Running, line_change}
use Rattle.rmt_lists.specs.Stands.{Stands, StandsFor}
use Rattle.rmt_drive.specs.declared.plain_run.PlainRun.{PlainRun}
use Rattle.rmt_runs.specs.declared.fault.Bad.{Bad}
use Rattle.rmt_runs.specs.declared.fault.RunFault.{RunFault}
use Rattle.rmt_runs.specs.declared.fault.RunFault.TheVariants.{TooLong, Write}
use Rattle.rmt_runs.specs.declared.waiting.Waiting.{Waiting}
use Rattle.rmt_drive.specs.EventText.{EventReading, events_of, with_bad, with_change, with_changes, with_commit, with_packet}
use Rattle.rmt_drive.specs.PlainRunning.{BreaksOver, Goes, Leaves, StandsOver, StopsOver, committed_by, ended_at, event_lines}
use Rattle.rmt_drive.specs.PlainText.{plain_end, plain_lines, plain_text}
use Rattle.rmt_runs.specs.Printing.{GainsFront}
use Rattle.rmt_runs.specs.TextLines.{BreaksOff, EndsBy, ReadPast, WereRead, amid, between, lines_within}
use Rattle.rmt_runs.specs.Cuts.{Cut}
use Rattle.rmt_drive.specs.RunEnd.{BreaksBy, ReadsAllBy}
use Rattle.rmt_drive.specs.Runs.{Way, said_within}
use Rattle.rmt_runs.specs.Waiting.{Written}
use Rattle.rmt_drive.proofs.EditedLaws.{edited_change, edited_commit, edited_packet, entries_committed}
use Rattle.rmt_runs.proofs.FrontLaws.{gains_more}
use Rattle.rmt_drive.proofs.EventTextLaws.{bad_stays, events_append, lines_grow, read_more, said_so}
use Rattle.rmt_drive.proofs.RunsLaws.{told_by, told_first}
use Rattle.rmt_runs.proofs.WaitingLaws.{some_more, written_front, written_more, written_on}

plain_lines-append : (n : ℕ) (xs ys : List Answer) → plain_lines n (xs ++ ys) ≡ plain_lines n xs ++ plain_lines (n + length xs) ys
plain_lines-append n [] ys = let same : n + 0 ≡ n = omega arith in rw same refl
plain_lines-append n (x ∷ xs) ys =
    let same : n + 1 + length xs ≡ n + length (x ∷ xs) = omega arith in
    ap (λ l. answer_line n x ++ l) (plain_lines-append (n + 1) xs ys)
    ∙ sym (append_assoc (answer_line n x) (plain_lines (n + 1) xs) (plain_lines (n + 1 + length xs) ys))
    ∙ ap (λ m. plain_lines n (x ∷ xs) ++ plain_lines m ys) same

module _ (p : Program) (lists : List (List Entry)) where
  -- the answers to packets and commits
  abbrev answers : List Event → List Answer
  answers events = answers_of_events p lists events

  -- those to further ones come behind
  abbrev behind : List Event → List Event → List Answer
  behind done more = map (λ (m : Met). answer_of p m.lists m.packet) (met_from (entries_after (at_first lists) done) more)

  -- and so do their lines
  lines_more : (done more : List Event) → event_lines p lists (done ++ more) ≡ event_lines p lists done ++ plain_lines (length (answers done)) (behind done more)
  lines_more done more =
      let many : 0 + length (answers done) ≡ length (answers done) = omega arith in
      ap (plain_lines 0) (answers-append p lists done more) ∙ plain_lines-append 0 (answers done) (behind done more)
      ∙ ap (λ n. event_lines p lists done ++ plain_lines n (behind done more)) many

  -- ---- what a line leaves

  -- a packet is answered, and its line waits
  pub goes_packet : (said : EventReading) (old new : PlainRun) (before now : SinkState) (n : ℕ) (packet : Packet) → Goes p lists said old before now
      → HasMet p (lists_from (at_first lists) said.events) (committed_by lists said).lists (met_from (at_first lists) said.events ++ meets (committed_by lists said).lists packet ∷ []) new.plain
      → new.lists ≡ old.lists → new.answered ≡ old.answered + 1 → new.waiting.lines.items ≡ old.waiting.lines.items ++ answer_line old.answered (answer_of p (committed_by lists said).lists packet)
      → Goes p lists (with_packet n (Ok packet) said) new before now
  goes_packet said old new before now n packet g met same count waits =
      let answer = answer_of p (committed_by lists said).lists packet in
      let one : answers (said.events ++ Arrives packet ∷ []) ≡ answers said.events ++ answer ∷ [] = answers-append p lists said.events (Arrives packet ∷ []) in
      let line : plain_lines (length (answers said.events)) (answer ∷ []) ≡ answer_line old.answered answer =
      append-nil (answer_line (length (answers said.events)) answer) ∙ ap (λ k. answer_line k answer) (sym g.numbered) in
      let lines : event_lines p lists (said.events ++ Arrives packet ∷ []) ≡ event_lines p lists said.events ++ answer_line old.answered answer =
      lines_more said.events (Arrives packet ∷ []) ∙ ap (λ l. event_lines p lists said.events ++ l) line in
      record {
        good = g.good;
        edited = edited_packet p lists n packet said g.edited;
        takes = taken_packet p lists said.events packet new.plain met;
        stands = subst (λ (l : Lists). Stands said.run l) (sym same) g.stands;
        numbered = omega (arith, count, g.numbered, ap length one, length-append (answers said.events) (answer ∷ []));
        written =
            subst (λ (l : List ℕ). Written l new.waiting.lines.items before now) (sym lines)
            (subst (λ (w : List ℕ). Written (event_lines p lists said.events ++ answer_line old.answered answer) w before now) (sym waits) (written_more g.written (answer_line old.answered answer)));
      }

  -- a change is made
  pub goes_change : (said : EventReading) (old new : PlainRun) (before now : SinkState) (n : ℕ) (text : List ℕ) (next : Running) → Goes p lists said old before now → line_change said.run text ≡ Ok next
      → Stands next new.lists → new.plain ≡ old.plain → new.answered ≡ old.answered → new.waiting ≡ old.waiting → Goes p lists (with_change n text (Ok next) said) new before now
  goes_change said old new before now n text next g made stands plain count waits = record {
    good = g.good;
    edited = edited_change p lists n text next said g.stands.formed made g.edited;
    takes = subst (λ (x : Plain). HasTaken p lists said.events x) (sym plain) g.takes;
    stands = stands;
    numbered = count ∙ g.numbered;
    written = subst (λ (w : Waiting). Written (event_lines p lists said.events) w.lines.items before now) (sym waits) g.written;
  }

  pub goes_changed : (said : EventReading) (old new : PlainRun) (before now : SinkState) (n : ℕ) (text : List ℕ) → Goes p lists said old before now → StandsFor (line_change said.run text) new.lists
      → new.plain ≡ old.plain → new.answered ≡ old.answered → new.waiting ≡ old.waiting → Goes p lists (with_change n text (line_change said.run text) said) new before now
  goes_changed said old new before now n text g stands plain count waits = by (line_change said.run text) refl stands
    where
      by : (o : Result Running ℕ) → line_change said.run text ≡ o → StandsFor o new.lists → Goes p lists (with_change n text o said) new before now
      by (Ok next) is st = goes_change said old new before now n text next g is st plain count waits
      by (Err code) is st = absurd st

  -- a run that is as before
  pub goes_still : (said : EventReading) (old new : PlainRun) (before now : SinkState) → Goes p lists said old before now → Stands said.run new.lists
      → new.plain ≡ old.plain → new.answered ≡ old.answered → new.waiting ≡ old.waiting → Goes p lists said new before now
  goes_still said old new before now g stands plain count waits = record {
    good = g.good;
    edited = g.edited;
    takes = subst (λ (x : Plain). HasTaken p lists said.events x) (sym plain) g.takes;
    stands = stands;
    numbered = count ∙ g.numbered;
    written = subst (λ (w : Waiting). Written (event_lines p lists said.events) w.lines.items before now) (sym waits) g.written;
  }

  -- some of the lines that wait are written
  pub goes_written : (said : EventReading) (old new : PlainRun) (before mid now : SinkState) → Goes p lists said old before mid → Written old.waiting.lines.items new.waiting.lines.items mid now
      → new.plain ≡ old.plain → new.lists ≡ old.lists → new.answered ≡ old.answered → Goes p lists said new before now
  goes_written said old new before mid now g wrote plain same count = record {
    good = g.good;
    edited = g.edited;
    takes = subst (λ (x : Plain). HasTaken p lists said.events x) (sym plain) g.takes;
    stands = subst (λ (l : Lists). Stands said.run l) (sym same) g.stands;
    numbered = count ∙ g.numbered;
    written = written_on g.written wrote;
  }

  pub leaves_written : (n : ℕ) (said next : EventReading) (old new : PlainRun) (before mid now : SinkState) (code : Option ℕ) → Leaves p lists n said next old before mid code
      → Written old.waiting.lines.items new.waiting.lines.items mid now → new.plain ≡ old.plain → new.lists ≡ old.lists → new.answered ≡ old.answered → Leaves p lists n said next new before now code
  leaves_written n said next old new before mid now None h wrote plain same count = goes_written next old new before mid now h wrote plain same count
  leaves_written n said next old new before mid now (Some code) h wrote plain same count = (h.0, goes_written said old new before mid now h.1 wrote plain same count)

  -- the lines that a line leaves, of which some wait
  pub leaves_lines : (n : ℕ) (said next : EventReading) (run : PlainRun) (before now : SinkState) (code : Option ℕ) → Leaves p lists n said next run before now code
      → Written (event_lines p lists next.events) run.waiting.lines.items before now
  leaves_lines n said next run before now None h = h.written
  leaves_lines n said next run before now (Some code) h = subst (λ (x : EventReading). Written (event_lines p lists x.events) run.waiting.lines.items before now) (sym h.0) h.1.written

  -- the changes take effect
  pub goes_commit : (said : EventReading) (old new : PlainRun) (before now : SinkState) (entries : List (List Entry)) → Goes p lists said old before now → entries ≡ said.run.now.lists
      → (AreEntries p entries → FollowOn (lists_from (at_first lists) said.events) (committed_by lists said).lists entries
      → HasMet p (lists_from (at_first lists) said.events ++ entries ∷ []) entries (met_from (at_first lists) said.events) new.plain)
      → Stands (with_commit said).run new.lists → new.answered ≡ old.answered → new.waiting ≡ old.waiting → Goes p lists (with_commit said) new before now
  goes_commit said old new before now entries g are met stands count waits =
      let program = g.takes.well_formed in
      let s = committed_by lists said in
      let is : entries ≡ (committed s said.changes).lists = are ∙ ap (λ i. i.lists) g.edited.now in
      let followed = follows_on lists said.events said.changes in
      let later : HasMet p (lists_from (at_first lists) said.events ++ (committed s said.changes).lists ∷ []) (committed s said.changes).lists (met_from (at_first lists) said.events) new.plain =
      subst (λ (es : List (List Entry)). HasMet p (lists_from (at_first lists) said.events ++ es ∷ []) es (met_from (at_first lists) said.events) new.plain) is
      (met (subst (AreEntries p) (sym are) (entries_committed p lists program said g.edited)) (subst (FollowOn (lists_from (at_first lists) said.events) s.lists) (sym is) followed)) in
      let none : answers (said.events ++ Commits said.changes ∷ []) ≡ answers said.events =
      answers-append p lists said.events (Commits said.changes ∷ []) ∙ append-nil (answers said.events) in
      record {
        good = g.good;
        edited = edited_commit p lists program said g.edited;
        takes = taken_commit p lists said.events said.changes new.plain later;
        stands = stands;
        numbered = count ∙ g.numbered ∙ ap length (sym none);
        written =
            subst (λ (l : List ℕ). Written l new.waiting.lines.items before now) (sym (ap (plain_lines 0) none))
            (subst (λ (w : Waiting). Written (event_lines p lists said.events) w.lines.items before now) (sym waits) g.written);
      }

  -- ---- a run that is cut off

  -- before or behind a line
  pub cut_before : (said next : EventReading) (run : PlainRun) (before now : SinkState) (fault : RunFault) (more : List Event) → next.events ≡ said.events ++ more
      → Goes p lists said run before now → (fault ≡ Write → ⊥) → Cut (event_lines p lists next.events) before now fault
  cut_before said next run before now fault more grows g other =
      let lines : event_lines p lists next.events ≡ event_lines p lists said.events ++ plain_lines (length (answers said.events)) (behind said.events more) =
      ap (event_lines p lists) grows ∙ lines_more said.events more in
      record {
        front = λ t. subst (λ (l : List ℕ). GainsFront before.bytes now.bytes l) (sym lines) (gains_more _ _ _ _ (written_front g.written t));
        some = λ e. absurd (other e);
      }

  -- the lines of a front of what a text says are a front of its text
  text_more : (done more : List Event) (reading : EventReading) → reading.events ≡ done ++ more → (later : List ℕ) × (plain_text p lists reading ≡ event_lines p lists done ++ later)
  text_more done more reading e =
      let rest = plain_lines (length (answers done)) (behind done more) in
      let last = plain_end p lists reading.events reading.bad in
      (rest ++ last, ap (λ es. event_lines p lists es ++ last) e ∙ ap (λ l. l ++ last) (lines_more done more) ∙ append_assoc (event_lines p lists done) rest last)

  abbrev way : Way EventReading
  way = with_changes p lists

  breaks : (limit : ℕ) (text : List ℕ) (lines : List (ℕ × List ℕ)) (before now : SinkState) (fault : RunFault) → WereRead limit text lines → Cut (event_lines p lists (events_of p lists lines).events) before now fault
      → (fault ≡ TooLong → ReadPast limit text lines × ((events_of p lists lines).bad ≡ None)) → BreaksBy way (plain_text p lists) limit text before now fault
  breaks limit text lines before now fault w cut far =
      let said = events_of p lists lines in
      let front = told_first way limit text w.gave w.more w.first (way.bad (said_within way limit text)) in
      let grows = lines_grow said front.0 in
      let told : (told_by way limit text).events ≡ said.events ++ grows.0 =
      ap (λ (x : EventReading). x.events) (front.1 ∙ events_append p lists w.gave front.0 ∙ ap (λ (x : EventReading). fold read_more x front.0) (said_so p lists w.gave lines w.fronts)) ∙ grows.1 in
      let more = text_more said.events grows.0 (told_by way limit text) told in
      record {
        front = λ t. subst (λ (l : List ℕ). GainsFront before.bytes now.bytes l) (sym more.1) (gains_more _ _ _ more.0 (cut.front t));
        some = λ e. subst (λ (l : List ℕ). l ≢ []) (sym more.1) (some_more _ more.0 (cut.some e));
        long = λ e. (far e).0.long;
        within = λ e. ap (λ (x : EventReading). x.bad) (said_so p lists (lines_within limit text) lines (far e).0.fronts) ∙ (far e).1;
      }

  -- between two lines, or at one
  pub broke : (shelf : ShelfState) (limit : ℕ) (run : PlainRun) (before now : SinkState) (fault : RunFault) → IsTrue shelf.tells
      → BreaksOff shelf limit (λ lines. StandsOver (p, lists) lines run before now) (λ lines line. BreaksOver (p, lists) lines line before now fault) fault
      → BreaksBy way (plain_text p lists) limit shelf.rest before now fault
  broke shelf limit run before now fault t (between lines goes other read) =
      breaks limit shelf.rest lines before now fault (read t).0 (record { front = written_front goes.written; some = λ e. absurd (other e) }) (λ e. ((read t).1 e, goes.good))
  broke shelf limit run before now fault t (amid lines line cut other read) = breaks limit shelf.rest (lines ++ line ∷ []) before now fault (read t).1 cut (λ e. absurd (other e))

  -- ---- a run that came to an end

  -- a line that was good, and one that was bad
  pub leaves_good : (n : ℕ) (said next : EventReading) (run : PlainRun) (before now : SinkState) (code : Option ℕ) → code ≡ None → Leaves p lists n said next run before now code → Goes p lists next run before now
  leaves_good n said next run before now code is h = subst (λ (o : Option ℕ). Leaves p lists n said next run before now o) is h

  pub goes_as : (next same : EventReading) (run : PlainRun) (before now : SinkState) → same ≡ next → Goes p lists next run before now → Goes p lists same run before now
  goes_as next same run before now is h = subst (λ (r : EventReading). Goes p lists r run before now) (sym is) h

  pub leaves_bad : (n : ℕ) (said next : EventReading) (run : PlainRun) (before now : SinkState) (code : Option ℕ) (found : ℕ) → code ≡ Some found → Leaves p lists n said next run before now code
      → (next ≡ with_bad n found said) × Goes p lists said run before now
  leaves_bad n said next run before now code found is h = subst (λ (o : Option ℕ). Leaves p lists n said next run before now o) is h

  -- what was read, and no bad line
  pub good_end : (said : EventReading) → said.bad ≡ None → said ≡ ended_at None said
  good_end said good = ap (λ (b : Option BadLine). record said { bad = b }) good

  -- at its last line, or at a bad one
  pub ended : (shelf : ShelfState) (limit : ℕ) (run : PlainRun) (before now : SinkState) (bad : Option Bad) → IsTrue shelf.tells
      → EndsBy shelf limit (λ lines. StandsOver (p, lists) lines run before now) (λ lines line code. StopsOver (p, lists) lines line code run before now) bad
      → (said : EventReading) × ReadsAllBy way limit shelf.rest (ended_at bad said) × Goes p lists said run before now
  ended shelf limit run before now None t h =
      let said = events_of p lists h.lines in
      (said, record { says = said_so p lists (lines_within limit shelf.rest) h.lines (h.read t).fronts ∙ good_end said h.stands.good; ends = λ e. (h.read t).whole }, h.stands)
  ended shelf limit run before now (Some bad) t h =
      let said = events_of p lists h.lines in
      let w = h.read t in
      let at : events_of p lists w.gave ≡ with_bad bad.line bad.code said = said_so p lists w.gave (h.lines ++ (bad.line, h.text) ∷ []) w.fronts ∙ h.stops.0 in
      let says : said_within way limit shelf.rest ≡ with_bad bad.line bad.code said =
      ap (events_of p lists) w.first ∙ events_append p lists w.gave w.more ∙ ap (λ (x : EventReading). fold read_more x w.more) at
      ∙ bad_stays (with_bad bad.line bad.code said) (record { code = bad.code; line = bad.line }) w.more refl in
      (said, record { says = says; ends = λ e. absurd (cc) }, h.stops.1)
