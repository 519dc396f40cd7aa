-- Where a run over a text has come so far, there is a run over the whole text that begins with its inputs, and so prints at first what it printed.
use Rattle.std.proofs.Common.{◌≡◌, ℕ, ◌+◌, ◌-◌, ◌≤◌, Bool, true, ltb, List, [], ◌∷◌, ◌++◌, length, Option, Some, None, refl, sym, ap, ◌∙◌, subst, arith, append_assoc, append-nil}
use Rattle.std.specs.Prelude.{fold, is_some, replicate}
use Rattle.std.proofs.lemmas.Bool.{lt-ltb}
use Rattle.std.proofs.lemmas.List.{replicate-append-replicate}
use Rattle.std.proofs.lemmas.Option.{none-some}
use Rattle.rmt_bits.specs.Lines.{numbered_lines}
use Rattle.rmt_config.specs.declared.config.Config.{Config}
use Rattle.rmt_ast.specs.Changes.{committed}
use Rattle.rmt_chip.proofs.FormedRuns.{runnable}
use Rattle.rmt_config.specs.ChipRun.{latency_of}
use Rattle.rmt_config.specs.declared.cell_write.CellWrite.{CellWrite}
use Rattle.rmt_config.specs.Commits.{AreWrites, Makes, RunState, behind_commit}
use Rattle.rmt_config.specs.Form.{Formed}
use Rattle.rmt_config.specs.Limits.{IsWithinLimits}
use Rattle.rmt_config.specs.RunCells.{RunCells}
use Rattle.rmt_config.specs.RunInputs.{Idle, Input, start_of}
use Rattle.rmt_packets.specs.declared.line_kind.LineKind.{LineKind}
use Rattle.rmt_packets.specs.declared.line_kind.LineKind.TheVariants as line
use Rattle.rmt_packets.specs.LineKinds.{kind_of}
use Rattle.rmt_packets.specs.PacketText.{BadLine}
use Rattle.rmt_runs.specs.TextLines.{ReadPast, ReadWhole, WereRead, lines_within}
use Rattle.rmt_runs.proofs.LineLaws.{whole_more}
use Rattle.rmt_drive.specs.declared.status.Status.TheVariants.{TooLong}
use Rattle.rmt_drive.specs.declared.watch.Watch.{Watch}
use Rattle.rmt_drive.specs.declared.watch.Watch.TheVariants.{Answers, Vectors}
use Rattle.rmt_drive.specs.ChipEvents.{Comes, begins, commit_cycles, empty_cycles, turned, lists_in, names_in}
use Rattle.rmt_drive.specs.ChipReading.{by_chip, read_by, with_chip_line}
use Rattle.rmt_drive.specs.ChipRuns.{EndsFull, RunsChip, RunsSo, bad_within, told_of}
use Rattle.rmt_drive.specs.ChipText.{all_cycles, end_of, lines_of, run_text}
use Rattle.rmt_drive.specs.EventText.{EventReading, with_bad, with_commit}
use Rattle.rmt_drive.specs.Files.{Files}
use Rattle.rmt_drive.specs.Given.{Given, told}
use Rattle.rmt_drive.specs.RunEnd.{ReadsAllBy}
use Rattle.rmt_drive.specs.Runs.{run_status, told_within}
use Rattle.rmt_drive.proofs.ChipExtendsLines.{Extension, HasCome, IsBehind, behind_less, behind_same, extend}
use Rattle.rmt_drive.proofs.ChipReadLaws.{chip_append, chip_line, chip_more, chip_stays, said_so}
use Rattle.rmt_drive.proofs.ChipTextLaws.{lines_begin, start_within}
use Rattle.rmt_drive.proofs.RunLaws.{Begins, begins_then}
use Rattle.rmt_drive.proofs.RunsLaws.{told_all}

-- ---- what is told of a text

module _ (c : Config) (full : Option ℕ) (limit : ℕ) (text : List ℕ) where
  -- where a line within the limit is bad, the lines within it are told, and else all
  told_bad : (b : BadLine) → (read_by c full (lines_within limit text)).bad ≡ Some b → told_of c full limit text ≡ read_by c full (lines_within limit text)
  told_bad b e = ap (λ (o : Option BadLine). told_within (by_chip c full) limit text o) e

  told_good : (read_by c full (lines_within limit text)).bad ≡ None → told_of c full limit text ≡ read_by c full (numbered_lines 1 text)
  told_good e = ap (λ (o : Option BadLine). told_within (by_chip c full) limit text o) e

-- a run that ends with no bad line has no commit that finds no room
not_full : (c : Config) (r : RunState) (said : EventReading) (full : Option ℕ) → EndsFull c r said full → said.bad ≡ None → full ≡ None
not_full c r said None ends good = refl
not_full c r said (Some k) ends good = absurd (none-some (record { code = 10; line = ends.0 }) (sym good ∙ ends.1))

-- ---- what a run prints begins with the lines of its cycles

-- the stages of a configuration begin before packets leave
pub formed_starts : (c : Config) → Formed c → IsWithinLimits c → (k : ℕ) → start_of c k ≤ latency_of c.stages
formed_starts c formed small = start_within c (runnable c formed.items small).stages

module _ (c : Config) (formed : Formed c) (small : IsWithinLimits c) (watch : Watch) where
  begin_of : (made later all : List Input) → all ≡ made ++ later → Begins (lines_of watch c made) (lines_of watch c all)
  begin_of made later all is =
      subst (λ (is : List Input). Begins (lines_of watch c made) (lines_of watch c is)) (sym is) (lines_begin c (formed_starts c formed small) watch made later)

  text_begins : (made later : List Input) (empty : ℕ) (bad : Option BadLine) → (rest : List Input) → all_cycles watch later empty bad ≡ made ++ rest
      → Begins (lines_of watch c made) (run_text watch c later empty bad)
  text_begins made later empty bad rest is =
      let all = all_cycles watch later empty bad in
      begins_then (begin_of made rest all is) (record { more = end_of watch c all bad; text_is = refl })

  -- of a run that made these inputs and more
  pub run_begins : (made later : List Input) (empty : ℕ) (bad : Option BadLine) → Begins (lines_of watch c made) (run_text watch c (made ++ later) empty bad)
  run_begins made later empty bad = by watch bad refl refl
    where
      by : (w : Watch) (b : Option BadLine) → watch ≡ w → bad ≡ b → Begins (lines_of watch c made) (run_text watch c (made ++ later) empty bad)
      by Answers b is are =
          text_begins made (made ++ later) empty bad (later ++ replicate empty Idle) (ap (λ (v : Watch). all_cycles v (made ++ later) empty bad) is ∙ append_assoc made later (replicate empty Idle))
      by (Vectors cycle) None is are =
          text_begins made (made ++ later) empty bad (later ++ replicate empty Idle)
          (ap (λ (v : Watch). all_cycles v (made ++ later) empty bad) is ∙ ap (all_cycles (Vectors cycle) (made ++ later) empty) are ∙ append_assoc made later (replicate empty Idle))
      by (Vectors cycle) (Some b) is are =
          text_begins made (made ++ later) empty bad later (ap (λ (v : Watch). all_cycles v (made ++ later) empty bad) is ∙ ap (all_cycles (Vectors cycle) (made ++ later) empty) are)

  -- of some of the cycles at its end
  pub ends_begin : (made : List Input) (empty : ℕ) (bad : Option BadLine) (count : ℕ) → count ≤ empty → all_cycles watch made empty bad ≡ made ++ replicate empty Idle
      → Begins (lines_of watch c (made ++ replicate count Idle)) (run_text watch c made empty bad)
  ends_begin made empty bad count le is =
      let all : count + (empty - count) ≡ empty = omega (arith, le) in
      let idles : replicate empty Idle ≡ replicate count Idle ++ replicate (empty - count) Idle = ap (λ n. replicate n Idle) (sym all) ∙ sym (replicate-append-replicate count (empty - count) Idle) in
      text_begins (made ++ replicate count Idle) made empty bad (replicate (empty - count) Idle)
      (is ∙ ap (λ (is : List Input). made ++ is) idles ∙ sym (append_assoc made (replicate count Idle) (replicate (empty - count) Idle)))

-- ---- a run over the whole text

-- a run over a text that begins with these inputs
pub record RunsOn (watch : Watch) (files : Files) (c : Config) (limit : ℕ) (text : List ℕ) (made : List Input) : Type 0 where
  pub full : Option ℕ
  pub later : List Input
  pub state : RunState
  pub given : Given
  pub runs : RunsSo watch files c limit text full (made ++ later) state given
  pub begins : Begins (lines_of watch c made) given.text

-- and one whose commit that finds no room, if there is one, stands behind these lines
record RunsBehind (watch : Watch) (files : Files) (c : Config) (limit : ℕ) (text : List ℕ) (made : List Input) (gave : List (ℕ × List ℕ)) : Type 0 where
  on : RunsOn watch files c limit text made
  behind : IsBehind c on.full gave

module _ (c : Config) (formed : Formed c) (small : IsWithinLimits c) (watch : Watch) (files : Files) (limit : ℕ) (text : List ℕ) where
  so : (made later : List Input) (full : Option ℕ) (state : RunState) (said : EventReading) (gave : List (ℕ × List ℕ)) → told_of c full limit text ≡ said
      → HasCome c said.events (made ++ later) state → EndsFull c state said full → IsBehind c full gave → RunsBehind watch files c limit text made gave
  so made later full state said gave is comes ends behind =
      let bad = (told_of c full limit text).bad in
      record {
        on =
            record {
              full = full;
              later = later;
              state = state;
              given = told files (run_status (ltb limit (length text)) (bad_within c full limit text)) (run_text watch c (made ++ later) (empty_cycles state) bad);
              runs =
                  record {
                    comes = subst (λ (x : EventReading). HasCome c x.events (made ++ later) state) (sym is) comes;
                    ends = subst (λ (x : EventReading). EndsFull c state x full) (sym is) ends;
                    given_is = refl;
                  };
              begins = run_begins c formed small watch made later (empty_cycles state) bad;
            };
        behind = behind;
      }

  -- behind the lines within the limit none is bad: so all are told
  past : (made later : List Input) (gave more : List (ℕ × List ℕ)) (state : RunState) → lines_within limit text ≡ gave ++ more → (read_by c None (gave ++ more)).bad ≡ None
      → HasCome c (read_by c None (gave ++ more)).events (made ++ later) state → RunsBehind watch files c limit text made gave
  past made later gave more state is good comes =
      let w = whole_more limit text in
      let x = extend c formed small w.0 (gave ++ more) (made ++ later) state good comes in
      let same : read_by c x.full (lines_within limit text) ≡ read_by c None (gave ++ more) = ap (read_by c x.full) is ∙ behind_same c x.full (gave ++ more) x.behind in
      let all : numbered_lines 1 text ≡ (gave ++ more) ++ w.0 = w.1 ∙ ap (λ (ls : List (ℕ × List ℕ)). ls ++ w.0) is in
      let said : told_of c x.full limit text ≡ read_by c x.full ((gave ++ more) ++ w.0) =
      told_good c x.full limit text (ap (λ (y : EventReading). y.bad) same ∙ good) ∙ ap (read_by c x.full) all in
      so made (later ++ x.later) x.full x.state (read_by c x.full ((gave ++ more) ++ w.0)) gave said
      (subst (λ (is : List Input). HasCome c (read_by c x.full ((gave ++ more) ++ w.0)).events is x.state) (append_assoc made later x.later) x.comes) x.ends (behind_less c x.full gave more x.behind)

  extended : (gave more : List (ℕ × List ℕ)) (made : List Input) (r : RunState) → lines_within limit text ≡ gave ++ more → (read_by c None gave).bad ≡ None
      → HasCome c (read_by c None gave).events made r → RunsBehind watch files c limit text made gave
  extended gave more made r is good comes =
      let x = extend c formed small more gave made r good comes in
      by x (read_by c x.full (gave ++ more)).bad refl
    where
      by : (x : Extension c gave more made) (b : Option BadLine) → (read_by c x.full (gave ++ more)).bad ≡ b → RunsBehind watch files c limit text made gave
      by x (Some b) e =
          let same : read_by c x.full (lines_within limit text) ≡ read_by c x.full (gave ++ more) = ap (read_by c x.full) is in
          so made x.later x.full x.state (read_by c x.full (gave ++ more)) gave (told_bad c x.full limit text b (ap (λ (y : EventReading). y.bad) same ∙ e) ∙ same) x.comes x.ends x.behind
      by x None e =
          let none : x.full ≡ None = not_full c x.state (read_by c x.full (gave ++ more)) x.full x.ends e in
          past made x.later gave more x.state is (ap (λ (f : Option ℕ). (read_by c f (gave ++ more)).bad) (sym none) ∙ e)
          (subst (λ (f : Option ℕ). HasCome c (read_by c f (gave ++ more)).events (made ++ x.later) x.state) none x.comes)

  -- each text has a run
  pub always : (g : Given) × RunsChip watch files c limit text g
  always =
      let x = (extended [] (lines_within limit text) [] _ refl refl begins).on in
      (x.given, (x.full, x.later, x.state, x.runs))

  -- ---- by how far its reader has come

  -- at a line's end
  pub goes_on : (lines : List (ℕ × List ℕ)) → WereRead limit text lines → (read_by c None lines).bad ≡ None
      → (made : List Input) (r : RunState) → Comes c (names_in c) (lists_in c) (read_by c None lines).events made r → RunsOn watch files c limit text made
  goes_on lines w good made r comes =
      let same = said_so c None w.gave lines w.fronts in
      (extended w.gave w.more made r w.first (ap (λ (x : EventReading). x.bad) same ∙ good) (subst (λ (x : EventReading). HasCome c x.events made r) (sym same) comes)).on

  -- at the last one within the limit, where the text goes on
  pub goes_on_long : (lines : List (ℕ × List ℕ)) → ReadPast limit text lines → (read_by c None lines).bad ≡ None
      → (made : List Input) (r : RunState) → Comes c (names_in c) (lists_in c) (read_by c None lines).events made r → (x : RunsOn watch files c limit text made) × (x.given.status ≡ TooLong)
  goes_on_long lines far good made r comes =
      let all = lines_within limit text in
      let same = said_so c None all lines far.fronts in
      let fine : (read_by c None all).bad ≡ None = ap (λ (x : EventReading). x.bad) same ∙ good in
      let x = extended all [] made r (sym (append-nil all)) fine (subst (λ (y : EventReading). HasCome c y.events made r) (sym same) comes) in
      let read : bad_within c x.on.full limit text ≡ None = ap (λ (y : EventReading). y.bad) (behind_same c x.on.full all x.behind) ∙ fine in (
        x.on,
        ap (λ (g : Given). g.status) x.on.runs.given_is ∙ ap (λ (b : Bool). run_status b (bad_within c x.on.full limit text)) (lt-ltb limit (length text) far.long) ∙ ap (run_status true) read,
      )

  -- with a line at hand that is taken already
  pub goes_on_at : (lines : List (ℕ × List ℕ)) (n : ℕ) (line : List ℕ) → WereRead limit text (lines ++ (n, line) ∷ []) → (read_by c None lines).bad ≡ None
      → (next : EventReading) → with_chip_line (is_some c.names) None n line (kind_of line) (read_by c None lines) ≡ next → next.bad ≡ None
      → (made : List Input) (r : RunState) → Comes c (names_in c) (lists_in c) next.events made r → RunsOn watch files c limit text made
  goes_on_at lines n line w good next next_is fine made r comes =
      let is : read_by c None (lines ++ (n, line) ∷ []) ≡ next = chip_line c None lines n line good ∙ next_is in
      goes_on (lines ++ (n, line) ∷ []) w (ap (λ (x : EventReading). x.bad) is ∙ fine) made r (subst (λ (x : EventReading). Comes c (names_in c) (lists_in c) x.events made r) (sym is) comes)

  -- where fewer inputs were made
  pub runs_on_less : (made part : List Input) → RunsOn watch files c limit text (made ++ part) → RunsOn watch files c limit text made
  runs_on_less made part x = record {
    full = x.full;
    later = part ++ x.later;
    state = x.state;
    given = x.given;
    runs = subst (λ (is : List Input). RunsSo watch files c limit text x.full is x.state x.given) (append_assoc made part x.later) x.runs;
    begins = begins_then (begin_of c formed small watch made part (made ++ part) refl) x.begins;
  }

  -- amid the cycles of the commit at hand
  pub goes_on_amid : (lines : List (ℕ × List ℕ)) (n : ℕ) (text_line : List ℕ) → WereRead limit text (lines ++ (n, text_line) ∷ []) → (read_by c None lines).bad ≡ None
      → is_some c.names ≡ true → kind_of text_line ≡ line.Commit
      → (made : List Input) (r : RunState) → Comes c (names_in c) (lists_in c) (read_by c None lines).events made r
      → (moved : Bool) (seed : ℕ) (next : RunCells) (writes : List CellWrite)
      → Makes c (names_in c) r.cells r.entries.lists (committed r.entries (read_by c None lines).changes).lists moved seed next → AreWrites c r.cells next writes
      → (part others : List Input) → commit_cycles r moved seed writes ≡ part ++ others → RunsOn watch files c limit text (made ++ part)
  goes_on_amid lines n text_line w good named kind made r comes moved seed next writes makes are part others cut =
      let said = read_by c None lines in
      let commit : with_chip_line (is_some c.names) None n text_line (kind_of text_line) said ≡ with_commit said =
      ap (λ (k : LineKind). with_chip_line (is_some c.names) None n text_line k said) kind
      ∙ ap (λ (b : Bool). with_chip_line b None n text_line line.Commit said) named in
      let all : made ++ commit_cycles r moved seed writes ≡ (made ++ part) ++ others = ap (λ (is : List Input). made ++ is) cut ∙ sym (append_assoc made part others) in
      runs_on_less (made ++ part) others
      (goes_on_at lines n text_line w good (with_commit said) commit good ((made ++ part) ++ others) (behind_commit r said.changes moved seed writes next)
      (subst (λ (is : List Input). HasCome c (with_commit said).events is (behind_commit r said.changes moved seed writes next)) all (turned said.events made r said.changes moved seed next writes comes makes are)))

-- ---- a text that was read to its end or to a bad line

module _ (c : Config) (limit : ℕ) (text : List ℕ) where
  pub chip_whole : (lines : List (ℕ × List ℕ)) → ReadWhole limit text lines → ReadsAllBy (by_chip c None) limit text (read_by c None lines)
  chip_whole lines all = record { says = said_so c None (lines_within limit text) lines all.fronts; ends = λ e. all.whole }

  pub chip_bad : (full : Option ℕ) (lines : List (ℕ × List ℕ)) (n : ℕ) (line : List ℕ) (code : ℕ) (said : EventReading) → WereRead limit text (lines ++ (n, line) ∷ [])
      → read_by c full (lines ++ (n, line) ∷ []) ≡ with_bad n code said → ReadsAllBy (by_chip c full) limit text (with_bad n code said)
  chip_bad full lines n line code said w is =
      record {
        says = ap (read_by c full) w.first ∙ chip_append c full w.gave w.more
            ∙ ap (λ (x : EventReading). fold (chip_more c full) x w.more) (said_so c full w.gave (lines ++ (n, line) ∷ []) w.fronts ∙ is)
            ∙ chip_stays c full (with_bad n code said) (record { code = code; line = n }) w.more refl;
        ends = λ e. absurd (none-some (record { code = code; line = n }) (sym e));
      }

  -- what is told then, and what is given
  chip_told : (full : Option ℕ) (said : EventReading) → ReadsAllBy (by_chip c full) limit text said → told_of c full limit text ≡ said
  chip_told full said r = told_all (by_chip c full) limit text said r

  pub ran_so : (watch : Watch) (files : Files) (full : Option ℕ) (said : EventReading) → ReadsAllBy (by_chip c full) limit text said → (made : List Input) (r : RunState)
      → Comes c (names_in c) (lists_in c) said.events made r → EndsFull c r said full
      → RunsSo watch files c limit text full made r (told files (run_status (ltb limit (length text)) said.bad) (run_text watch c made (empty_cycles r) said.bad))
  ran_so watch files full said reads made r comes ends =
      let is = chip_told full said reads in
      let bad : bad_within c full limit text ≡ said.bad = ap (λ (x : EventReading). x.bad) reads.says in
      record {
        comes = subst (λ (x : EventReading). HasCome c x.events made r) (sym is) comes;
        ends = subst (λ (x : EventReading). EndsFull c r x full) (sym is) ends;
        given_is =
            ap (λ (b : Option BadLine). told files (run_status (ltb limit (length text)) b) (run_text watch c made (empty_cycles r) said.bad)) (sym bad)
            ∙ ap (λ (b : Option BadLine). told files (run_status (ltb limit (length text)) (bad_within c full limit text)) (run_text watch c made (empty_cycles r) b)) (ap (λ (x : EventReading). x.bad) (sym is));
      }
