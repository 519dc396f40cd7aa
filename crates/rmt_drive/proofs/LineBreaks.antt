-- What a run that breaks off at a line, or comes to the end of its lines, has to do with a run over the whole text.
use Rattle.std.proofs.Common.{◌≡◌, ⊎_elim, ℕ, List, [], ◌∷◌, ◌++◌, Option, Some, None, refl, sym, ap, ◌∙◌, subst}
use Rattle.std.specs.Prelude.{IsTrue}
use Rattle.rmt_io.specs.Outside.{ShelfState, SinkState}
use Rattle.rmt_config.specs.declared.config.Config.{Config}
use Rattle.rmt_config.specs.Commits.{RunState}
use Rattle.rmt_config.specs.Form.{Formed}
use Rattle.rmt_config.specs.Limits.{IsWithinLimits}
use Rattle.rmt_config.specs.RunInputs.{Input}
use Rattle.rmt_chip.specs.declared.chip.Chip.{Chip}
use Rattle.rmt_packets.specs.PacketText.{BadLine}
use Rattle.rmt_runs.specs.declared.fault.Bad.{Bad}
use Rattle.rmt_runs.specs.declared.fault.RunFault.{RunFault}
use Rattle.rmt_runs.specs.declared.fault.RunFault.TheVariants as fault
use Rattle.rmt_drive.specs.declared.running.commits.Commits.{Commits}
use Rattle.rmt_drive.specs.declared.running.state.Run.{Run}
use Rattle.rmt_drive.specs.declared.watch.Watch.{Watch}
use Rattle.rmt_drive.specs.ChipEvents.{Comes, lists_in, names_in}
use Rattle.rmt_drive.specs.ChipReading.{commits_in, read_by}
use Rattle.rmt_drive.specs.ChipText.{lines_of}
use Rattle.rmt_drive.specs.EventText.{EventReading, with_bad}
use Rattle.rmt_drive.specs.Files.{Files}
use Rattle.rmt_runs.specs.TextLines.{BreaksOff, EndsBy, ReadPast, WereRead}
use Rattle.rmt_runs.specs.TextLines as cuts
use Rattle.rmt_runs.specs.Cuts.{Cut}
use Rattle.rmt_drive.specs.RunEnd.{bad_line}
use Rattle.rmt_drive.specs.Running.{BreaksAt, BreaksOver, BreaksRun, Follows, IsFull, Leaves, StandsOver, Stopped, StopsOver, Taken, ahead, amid, behind, with_text}
use Rattle.rmt_drive.proofs.ChipExtends.{RunsOn, chip_bad, chip_whole, goes_on, goes_on_amid, goes_on_at, goes_on_long}
use Rattle.rmt_drive.proofs.ChipReadLaws.{chip_line, full_text}
use Rattle.rmt_drive.proofs.RunLaws.{cut_begins}
use Rattle.rmt_runs.proofs.WaitingLaws.{written_front}

module _ (c : Config) (formed : Formed c) (small : IsWithinLimits c) (w : Watch) (files : Files) (limit : ℕ) (text : List ℕ) where
  -- a run that was cut off is one of which a run over the whole text goes on
  breaks_so : (made : List Input) (before now : SinkState) (f : RunFault) → (f ≡ fault.TooLong → ⊥) → RunsOn w files c limit text made → Cut (lines_of w c made) before now f
      → BreaksRun w files c limit text before now f
  breaks_so made before now f other x cut =
      let whole = cut_begins x.begins cut in
      record {
        given = x.given;
        runs = (x.full, made ++ x.later, x.state, x.runs);
        front = whole.front;
        some = whole.some;
        long = λ e. absurd (other e);
      }

  -- a run that was cut off while no line was at hand; with TooLong the text goes on behind its limit
  breaks_between : (lines : List (ℕ × List ℕ)) → WereRead limit text lines → (read_by c None lines).bad ≡ None → (made : List Input) (r : RunState) → Comes c (names_in c) (lists_in c) (read_by c None lines).events made r
      → (before now : SinkState) (f : RunFault) → Cut (lines_of w c made) before now f → (f ≡ fault.TooLong → ReadPast limit text lines) → BreaksRun w files c limit text before now f
  breaks_between lines read good made r comes before now f cut far = by f cut far
    where
      on : RunsOn w files c limit text made
      on = goes_on c formed small w files limit text lines read good made r comes

      by : (f : RunFault) → Cut (lines_of w c made) before now f → (f ≡ fault.TooLong → ReadPast limit text lines) → BreaksRun w files c limit text before now f
      by fault.NoMemory cut far = breaks_so made before now fault.NoMemory (λ e. cc) on cut
      by fault.Write cut far = breaks_so made before now fault.Write (λ e. cc) on cut
      by fault.Read cut far = breaks_so made before now fault.Read (λ e. cc) on cut
      by fault.TooLong cut far =
          let x = goes_on_long c formed small w files limit text lines (far refl) good made r comes in
          let whole = cut_begins x.0.begins cut in
          record {
            given = x.0.given;
            runs = (x.0.full, made ++ x.0.later, x.0.state, x.0.runs);
            front = whole.front;
            some = whole.some;
            long = λ e. x.1;
          }

  -- the run behind the inputs at which it broke off
  runs_at : (lines : List (ℕ × List ℕ)) (n : ℕ) (line : List ℕ) → WereRead limit text lines → WereRead limit text (lines ++ (n, line) ∷ []) → (read_by c None lines).bad ≡ None
      → (made : List Input) → BreaksAt c n line (read_by c None lines) made → RunsOn w files c limit text made
  runs_at lines n line read at good all (ahead made r comes) = goes_on c formed small w files limit text lines read good made r comes
  runs_at lines n line read at good all (behind made r fine comes) =
      goes_on_at c formed small w files limit text lines n line at good (with_text c n line (read_by c None lines)) refl fine made r comes
  runs_at lines n line read at good all (amid first r moved seed next writes part more named kind comes makes are parts) =
      goes_on_amid c formed small w files limit text lines n line at good named kind first r comes moved seed next writes makes are part more parts

-- a run that broke off between two lines, or at one
pub broke : (w : Watch) (c : Config) (formed : Formed c) (small : IsWithinLimits c) (shelf : ShelfState) (limit : ℕ) (run : Run) (chip : Chip) (commits : Option Commits) (before now : SinkState) (f : RunFault) → IsTrue shelf.tells
    → BreaksOff shelf limit (λ lines. StandsOver (w, c) lines run chip commits before now) (λ lines line. BreaksOver (w, c) lines line before now f) f → BreaksRun w shelf.files c limit shelf.rest before now f
broke w c formed small shelf limit run chip commits before now f t (cuts.between lines h other read) =
    breaks_between c formed small w shelf.files limit shelf.rest lines (read t).0 h.come.good h.made h.state h.come.comes before now f (record { front = written_front h.goes.written; some = λ e. absurd (other e) }) (read t).1
broke w c formed small shelf limit run chip commits before now f t (cuts.amid lines line left other read) =
    breaks_so c formed small w shelf.files limit shelf.rest left.1.made before now f other (runs_at c formed small w shelf.files limit shelf.rest lines line.0 line.1 (read t).0 (read t).1 left.0 left.1.made left.1.at) left.1.cut

-- ---- a run that comes to the end of its lines, or to a bad one

pub ended : (w : Watch) (c : Config) (limit : ℕ) (shelf : ShelfState) (run : Run) (chip : Chip) (commits : Option Commits) (before now : SinkState) (bad : Option Bad)
    → EndsBy shelf limit (λ lines. StandsOver (w, c) lines run chip commits before now) (λ lines line code. StopsOver (w, c) lines line code run chip before now) bad
    → Taken w c limit shelf (bad_line bad) run chip before now
ended w c limit shelf run chip commits before now None h = record {
  full = None;
  said = read_by c None h.lines;
  made = h.stands.made;
  state = h.stands.state;
  came = record { comes = h.stands.come.comes; goes = h.stands.goes };
  ends = tt;
  bad_is = h.stands.come.good;
  reads = λ t. chip_whole c limit shelf.rest h.lines (h.read t);
}
ended w c limit shelf run chip commits before now (Some bad) h = ⊎_elim says full s.bad
  where
    said : EventReading
    said = read_by c None h.lines

    good : said.bad ≡ None
    good = h.stops.0

    s : Stopped w c bad.line h.text said bad.code run chip before now
    s = h.stops.1

    says : with_text c bad.line h.text said ≡ with_bad bad.line bad.code said → Taken w c limit shelf (bad_line (Some bad)) run chip before now
    says is = record {
      full = None;
      said = with_bad bad.line bad.code said;
      made = s.made;
      state = s.state;
      came = record { comes = s.comes; goes = s.goes };
      ends = tt;
      bad_is = refl;
      reads = λ t. chip_bad c limit shelf.rest None h.lines bad.line h.text bad.code said (h.read t) (chip_line c None h.lines bad.line h.text good ∙ is);
    }

    full : IsFull c h.text said s.state bad.code → Taken w c limit shelf (bad_line (Some bad)) run chip before now
    full f = record {
      full = Some (commits_in said.events);
      said = with_bad bad.line 10 said;
      made = s.made;
      state = s.state;
      came = record { comes = s.comes; goes = s.goes };
      ends = (bad.line, refl, f.refused);
      bad_is = ap (λ (k : ℕ). Some (record { code = k; line = bad.line })) (sym f.code_is);
      reads = λ t. chip_bad c limit shelf.rest (Some (commits_in said.events)) h.lines bad.line h.text 10 said (h.read t) (full_text c h.lines bad.line h.text f.named good f.kind);
    }

-- a run and a chip that are those of a taker
pub taken_as : {w : Watch} {c : Config} {limit : ℕ} {shelf : ShelfState} {bad : Option BadLine} {run was : Run} {chip first : Chip} {before now : SinkState} → was ≡ run → first ≡ chip
    → Taken w c limit shelf bad run chip before now → Taken w c limit shelf bad was first before now
taken_as {w} {c} {limit} {shelf} {bad} {run} {was} {chip} {first} {before} {now} runs chips t =
    subst (λ (x : Run). Taken w c limit shelf bad x first before now) (sym runs) (subst (λ (x : Chip). Taken w c limit shelf bad run x before now) (sym chips) t)

-- ---- what a line leaves

pub leaves_good : (w : Watch) (c : Config) (n : ℕ) (text : List ℕ) (said : EventReading) (run : Run) (chip : Chip) (commits : Option Commits) (before now : SinkState) (code : Option ℕ) → code ≡ None
    → Leaves w c n text said run chip commits before now code → Follows w c (with_text c n text said) run chip commits before now
leaves_good w c n text said run chip commits before now code is h = subst (λ (o : Option ℕ). Leaves w c n text said run chip commits before now o) is h

pub leaves_bad : (w : Watch) (c : Config) (n : ℕ) (text : List ℕ) (said : EventReading) (run : Run) (chip : Chip) (commits : Option Commits) (before now : SinkState) (code : Option ℕ) (found : ℕ) → code ≡ Some found
    → Leaves w c n text said run chip commits before now code → Stopped w c n text said found run chip before now
leaves_bad w c n text said run chip commits before now code found is h = subst (λ (o : Option ℕ). Leaves w c n text said run chip commits before now o) is h
