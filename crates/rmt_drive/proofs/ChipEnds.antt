-- How a run of the chip begins, and how it ends.
use Rattle.std.proofs.Common.{◌≡◌, ◌≢◌, ◌⊎◌, inl, inr, ⊎_elim, ℕ, List, [], ◌++◌, length, ltb, Option, Some, None, refl, sym, ap, ◌∙◌, subst, arith}
use Rattle.std.specs.Prelude.{IsTrue, replicate}
use Rattle.std.proofs.lemmas.Option.{none-some}
use Rattle.rmt_bits.specs.Lines.{numbered_lines}
use Rattle.rmt_io.specs.Outside.{Gained, PrintingFailed, SinkState}
use Rattle.rmt_config.specs.declared.config.Config.{Config}
use Rattle.rmt_config.specs.Commits.{RunState}
use Rattle.rmt_config.specs.Limits.{IsWithinLimits}
use Rattle.rmt_config.specs.RunInputs.{Idle, Input}
use Rattle.rmt_refine.specs.RunStates.{first_state}
use Rattle.rmt_chip.specs.declared.chip.Chip.{Chip}
use Rattle.rmt_chip.specs.Stands.{Stands}
use Rattle.rmt_chip.proofs.StandsLaws.{no_limit}
use Rattle.rmt_packets.specs.PacketText.{BadLine}
use Rattle.rmt_runs.specs.declared.fault.Bad.{Bad}
use Rattle.rmt_runs.specs.declared.fault.RunFault.{RunFault}
use Rattle.rmt_runs.specs.declared.fault.RunFault.TheVariants as fault
use Rattle.rmt_drive.specs.declared.running.commits.Commits.{Commits}
use Rattle.rmt_drive.specs.declared.running.state.Run.{Run}
use Rattle.rmt_drive.specs.declared.status.Status.{Status}
use Rattle.rmt_drive.specs.declared.status.Status.TheVariants as status
use Rattle.rmt_drive.specs.declared.watch.Watch.{Watch}
use Rattle.rmt_drive.specs.ChipEvents.{Comes, begins, empty_cycles, lists_in, names_in}
use Rattle.rmt_drive.specs.ChipReading.{by_chip, read_by, unread_by}
use Rattle.rmt_drive.specs.ChipRuns.{EndsFull, RanWhole, RunsChip, RunsSo}
use Rattle.rmt_drive.specs.ChipText.{end_of, lines_of, run_text}
use Rattle.rmt_drive.specs.CommitsOf.{AreCommitsOf}
use Rattle.rmt_drive.specs.Ends.{Answered, AreSame, Outside, PrintsAll}
use Rattle.rmt_drive.specs.EventText.{EventReading}
use Rattle.rmt_drive.specs.Given.{Given, told}
use Rattle.rmt_runs.specs.Printing.{GainedFront}
use Rattle.rmt_drive.specs.RunEnd.{ReadsAllBy, bad_line, status_of_end, status_of_fault}
use Rattle.rmt_drive.specs.Running.{AreCommitsAt, BreaksRun, Follows, IsFew}
use Rattle.rmt_drive.specs.ChipCycles.{Goes}
use Rattle.rmt_drive.specs.Runs.{run_status}
use Rattle.rmt_drive.proofs.ChipExtends.{ran_so}
use Rattle.rmt_drive.proofs.ComesLaws.{comes_to_end}
use Rattle.rmt_drive.proofs.DrainLaws.{ran_whole}
use Rattle.rmt_drive.proofs.EndLaws.{IsEnding, run_answered}
use Rattle.rmt_runs.proofs.ReaderLaws.{within_short}
use Rattle.rmt_drive.proofs.RunsLaws.{is_ending, not_written, status_all}

-- ---- before the first line

pub small_chip : (c : Config) (inputs : List Input) (chip : Chip) → Stands c inputs chip → IsWithinLimits c
small_chip c inputs chip s = subst IsWithinLimits s.config_is (no_limit chip.config chip.limits)

commits_first : (c : Config) (commits : Option Commits) → AreCommitsOf c commits → AreCommitsAt c (unread_by c) (first_state c (lists_in c)) commits
commits_first c None h = (refl, refl, refl)
commits_first c (Some commits) h = h

pub follows_first : (w : Watch) (c : Config) (run : Run) (chip : Chip) (commits : Option Commits) (now : SinkState) → Stands c [] chip → AreCommitsOf c commits → Goes w c [] run chip now now
    → Follows w c (unread_by c) run chip commits now now
follows_first w c run chip commits now stands of goes = record {
  made = [];
  state = first_state c (lists_in c);
  come = record {
    formed = stands.formed;
    small = small_chip c [] chip stands;
    lines = [];
    read = refl;
    good = refl;
    comes = begins;
    knows = commits_first c commits of;
  };
  goes = goes;
}

pub few_first : (w : Watch) (c : Config) (run : Run) (chip : Chip) (before now : SinkState) → Goes w c [] run chip before now → IsFew 0 run chip
few_first w c run chip before now g = record {
  entered = let e : chip.entered ≡ 0 = g.stands.entered_is in omega (arith, e);
  versions = let e : chip.version ≡ 0 = g.stands.version_is in omega (arith, e);
  cycles = let e : run.cycles ≡ 0 = g.clocked in omega (arith, e);
}

-- ---- a run that came to the end of its lines

module _ (c : Config) (limit : ℕ) (text : List ℕ) (full : Option ℕ) (said : EventReading) (made : List Input) (r : RunState)
    (reads : ReadsAllBy (by_chip c full) limit text said) (comes : Comes c (names_in c) (lists_in c) said.events made r) (ends : EndsFull c r said full) where
  -- where no line was bad, all of it was read
  read_whole : said.bad ≡ None → read_by c None (numbered_lines 1 text) ≡ said
  read_whole good = by full reads ends
    where
      by : (f : Option ℕ) → ReadsAllBy (by_chip c f) limit text said → EndsFull c r said f → read_by c None (numbered_lines 1 text) ≡ said
      by None reads ends = sym (ap (read_by c None) (within_short limit text (reads.ends good))) ∙ reads.says
      by (Some before) reads ends = absurd (none-some _ (sym good ∙ ends.1))

  pub ran_all : (w : Watch) (chip : Chip) (before now : SinkState) → said.bad ≡ None → Stands c (made ++ replicate (empty_cycles r) Idle) chip → Gained before now (run_text w c made (empty_cycles r) None)
      → RanWhole w c text chip before now
  ran_all w chip before now good stands gained =
      let whole = read_whole good in
      record {
        inputs = made ++ replicate (empty_cycles r) Idle;
        good = ap (λ (x : EventReading). x.bad) whole ∙ good;
        runs = comes_to_end c (names_in c) (lists_in c) (read_by c None (numbered_lines 1 text)).events made r (subst (λ (x : EventReading). Comes c (names_in c) (lists_in c) x.events made r) (sym whole) comes);
        stands = stands;
        gained = subst (λ (l : List Input). Gained before now (lines_of w c l ++ end_of w c l None)) (ran_whole w made (empty_cycles r)) gained;
      }

  module _ (before after : Outside) (w : Watch) (bad : Option Bad) (is : said.bad ≡ bad_line bad) (same : AreSame after.shelf.files before.shelf.files) where
    abbrev printed : List ℕ
    printed = run_text w c made (empty_cycles r) (bad_line bad)

    abbrev gives : Given → Type 0
    gives = RunsChip w before.shelf.files c limit text

    status_is : run_status (ltb limit (length text)) said.bad ≡ status_of_end bad
    status_is = sym (ap (λ (x : EventReading). run_status (ltb limit (length text)) x.bad) reads.says) ∙ status_all (by_chip c full) limit text said reads bad is

    gives_so : gives (told before.shelf.files (status_of_end bad) printed)
    gives_so =
        let files = before.shelf.files in
        let long = ltb limit (length text) in
        let text_is : told files (run_status long said.bad) (run_text w c made (empty_cycles r) said.bad) ≡ told files (run_status long said.bad) printed =
        ap (λ (b : Option BadLine). told files (run_status long said.bad) (run_text w c made (empty_cycles r) b)) is in
        (full, made, r, subst (λ (g : Given). RunsSo w files c limit text full made r g) (text_is ∙ ap (λ (s : Status). told files s printed) status_is) (ran_so c limit text w files full said reads made r comes ends))

    ending : IsEnding (status_of_end bad)
    ending = subst IsEnding status_is (is_ending (ltb limit (length text)) said.bad)

    pub taken_answered : (result : Status) → (result ≡ status_of_end bad) ⊎ (result ≡ status.WriteFault) ⊎ (result ≡ status.NoMemory) → (result ≡ status.WriteFault → printed ≢ [])
        → (result ≡ status_of_end bad → Gained before.sink after.sink printed) → GainedFront before.sink after.sink printed → (result ≡ status.WriteFault → PrintingFailed before.sink after.sink) → Answered before after gives result
    taken_answered result possible some whole front failed = ⊎_elim (λ e. ended (inl e)) (λ h. ⊎_elim (λ e. ended (inr e)) (λ e. subst (λ (s : Status). Answered before after gives s) (sym e) without) h) possible
      where
        ended : (result ≡ status_of_end bad) ⊎ (result ≡ status.WriteFault) → Answered before after gives result
        ended how = run_answered before after gives (status_of_end bad) result printed gives_so same ending some how (λ e _. whole e) front failed

        without : Answered before after gives status.NoMemory
        without = record { files = inl same; front = λ g h. (told before.shelf.files (status_of_end bad) printed, gives_so, front); steady = λ _ e. absurd (cc) }

-- ---- one that broke off

module _ (before after : Outside) (w : Watch) (c : Config) (limit : ℕ) (text : List ℕ) where
  abbrev gave : Given → Type 0
  gave = RunsChip w before.shelf.files c limit text

  pub broken_answered : (f : RunFault) → BreaksRun w before.shelf.files c limit text before.sink after.sink f → AreSame after.shelf.files before.shelf.files → (f ≡ fault.Write → PrintingFailed before.sink after.sink)
      → (f ≡ fault.Read → IsTrue before.shelf.steady → ⊥) → Answered before after gave (status_of_fault f)
  broken_answered fault.NoMemory b same failed never = record { files = inl same; front = λ g h. (b.given, b.runs, b.front); steady = λ _ e. absurd (cc) }
  broken_answered fault.Read b same failed never = record { files = inl same; front = λ g h. (b.given, b.runs, b.front); steady = λ steady _. absurd (never refl steady) }
  broken_answered fault.Write b same failed never =
      let is = b.runs.3.given_is in
      let st = b.given.status in
      let to : b.given ≡ told before.shelf.files st b.given.text = is ∙ ap (λ (g : Given). told before.shelf.files g.status g.text) (sym is) in
      let status_is = ap (λ (g : Given). g.status) is in
      run_answered before after gave st status.WriteFault b.given.text (subst gave to b.runs) same (subst IsEnding (sym status_is) (is_ending (ltb limit (length text)) _))
      (λ _. b.some refl) (inr refl) (λ e. absurd (not_written (ltb limit (length text)) _ (e ∙ status_is))) b.front (λ _. failed refl)
  broken_answered fault.TooLong b same failed never =
      let is = b.runs.3.given_is in
      let to : b.given ≡ told before.shelf.files status.TooLong b.given.text =
      is ∙ ap (λ (g : Given). told before.shelf.files g.status g.text) (sym is) ∙ ap (λ (s : Status). told before.shelf.files s b.given.text) (b.long refl) in
      run_answered before after gave status.TooLong status.TooLong b.given.text (subst gave to b.runs) same (inr refl) (λ e. absurd (cc)) (inl refl) (λ e all. absurd (never_all all)) b.front (λ e. absurd (cc))
    where
      never_all : PrintsAll status.TooLong → ⊥
      never_all all = grind arith

-- a run that broke off is not done
pub not_done : (f : RunFault) → status_of_fault f ≡ status.Done → ⊥
not_done fault.NoMemory e = cc
not_done fault.Write e = cc
not_done fault.Read e = cc
not_done fault.TooLong e = cc
