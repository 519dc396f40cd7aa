-- The end of a run of the chip.
use Rattle.std.proofs.Common.{◌≡◌, ◌⊎◌, inl, inr, ℕ, ◌-◌, ◌≤◌, Bool, true, cond, List, ◌++◌, Option, Some, None, sym, refl, ap, ◌∙◌, subst, arith, append_assoc, codes}
use Rattle.std.specs.Prelude.{replicate}
use Rattle.std.specs.Fmt.{decimal}
use Rattle.rmt_io.specs.Outside.{SinkState}
use Rattle.rmt_ast.specs.Events.{Event}
use Rattle.rmt_config.specs.declared.config.Config.{Config}
use Rattle.rmt_config.specs.Commits.{RunState, waits}
use Rattle.rmt_config.specs.RunInputs.{Idle, Input}
use Rattle.rmt_chip.specs.declared.chip.Chip.{Chip}
use Rattle.rmt_packets.specs.PacketText.{BadLine}
use Rattle.rmt_runs.specs.declared.fault.Bad.{Bad}
use Rattle.rmt_runs.specs.declared.fault.RunFault.{RunFault}
use Rattle.rmt_runs.specs.declared.fault.RunFault.TheVariants as fault
use Rattle.rmt_drive.specs.declared.status.Status.{Status}
use Rattle.rmt_drive.specs.declared.status.Status.TheVariants as status
use Rattle.rmt_drive.specs.declared.running.state.Run.{Run}
use Rattle.rmt_drive.specs.declared.watch.Watch.{Watch}
use Rattle.rmt_drive.specs.declared.watch.Watch.TheVariants as watch
use Rattle.rmt_drive.specs.ChipEvents.{Comes, empty_cycles, lists_in, names_in}
use Rattle.rmt_drive.specs.ChipText.{all_cycles, end_of, lines_of, run_text}
use Rattle.rmt_drive.specs.RunEnd.{bad_line, status_of_end, status_of_fault}
use Rattle.rmt_drive.specs.ChipCycles.{Goes}
use Rattle.rmt_drive.specs.SimText.{cycles_line, flight_line}
use Rattle.rmt_runs.specs.Waiting.{Written}
use Rattle.rmt_drive.proofs.ChipTextLaws.{lines_begin, starts}
use Rattle.rmt_drive.proofs.FlyingLaws.{is_there}
use Rattle.rmt_drive.proofs.RunLaws.{Begins}
use Rattle.rmt_drive.proofs.WaitLaws.{idle_front}
use Rattle.rmt_runs.proofs.WaitingLaws.{written_more}

-- two lines in one text
pub cycle_text : (n f : ℕ) → codes "cycles " ++ (decimal n ++ (codes "\nflight " ++ (decimal f ++ codes "\n"))) ≡ cycles_line n ++ flight_line f
cycle_text n f = ap (λ l. codes "cycles " ++ l) (sym (append_assoc (decimal n) (codes "\n") (flight_line f)))

-- a run that waits for all packets runs empty
pub waits_all : (c : Config) (events : List Event) (made : List Input) (r : RunState) → Comes c (names_in c) (lists_in c) events made r → waits r true ≡ empty_cycles r
waits_all c events made r h = let least = (is_there c (names_in c) (lists_in c) events made r h).at.least in omega (arith, least)

-- the lines of some of the cycles with nothing stand at the front of those of all
pub idles_begin : (w : Watch) (c : Config) (made : List Input) (run : Run) (chip : Chip) (before now : SinkState) (count empty : ℕ) → count ≤ empty → Goes w c made run chip before now
    → Begins (lines_of w c (made ++ replicate count Idle)) (lines_of w c (made ++ replicate empty Idle))
idles_begin w c made run chip before now count empty le g =
    let rest = replicate (empty - count) Idle in
    let same : (made ++ replicate count Idle) ++ rest ≡ made ++ replicate empty Idle =
    append_assoc made (replicate count Idle) rest ∙ ap (λ (l : List Input). made ++ l) (sym (idle_front count empty le)) in
    subst (λ (l : List Input). Begins (lines_of w c (made ++ replicate count Idle)) (lines_of w c l)) same (lines_begin c (starts c made chip g.stands) w (made ++ replicate count Idle) rest)

-- the cycles of a run, where those of the watch that it has are known
pub ran_as : (w : Watch) (c : Config) (made : List Input) (run : Run) (chip : Chip) (before now : SinkState) (empty : ℕ) (bad : Option BadLine) (b : Bool)
    → all_cycles run.watch made empty bad ≡ cond b (made ++ replicate empty Idle) made → Goes w c made run chip before now → all_cycles w made empty bad ≡ cond b (made ++ replicate empty Idle) made
ran_as w c made run chip before now empty bad b is g = subst (λ (v : Watch). all_cycles v made empty bad ≡ cond b (made ++ replicate empty Idle) made) g.watches is

-- of all that a run prints what waits and the last lines are left
pub all_written : (w : Watch) (c : Config) (made : List Input) (empty : ℕ) (bad : Option BadLine) (run : Run) (chip : Chip) (before mid : SinkState) (last : List ℕ)
    → Goes w c (all_cycles w made empty bad) run chip before mid → last ≡ end_of run.watch c (all_cycles w made empty bad) bad
    → Written (run_text w c made empty bad) (run.waiting.lines.items ++ last) before mid
all_written w c made empty bad run chip before mid last g is =
    let all = all_cycles w made empty bad in
    subst (λ (l : List ℕ). Written (lines_of w c all ++ l) (run.waiting.lines.items ++ last) before mid) (is ∙ ap (λ (v : Watch). end_of v c all bad) g.watches) (written_more g.written last)

-- the lines of a run stand at the front of its text
pub text_begins : (w : Watch) (c : Config) (made : List Input) (empty : ℕ) (bad : Option BadLine) → Begins (lines_of w c (all_cycles w made empty bad)) (run_text w c made empty bad)
text_begins w c made empty bad = record { more = end_of w c (all_cycles w made empty bad) bad; text_is = refl }

-- where no line was bad the chip was clocked to the end of the run
pub ran_whole : (w : Watch) (made : List Input) (empty : ℕ) → all_cycles w made empty None ≡ made ++ replicate empty Idle
ran_whole watch.Answers made empty = refl
ran_whole (watch.Vectors cycle) made empty = refl

-- a run that came to its end had no bad line
pub ended_done : (bad : Option Bad) → status_of_end bad ≡ status.Done → bad_line bad ≡ None
ended_done None e = refl
ended_done (Some bad) e = absurd (cc)

-- a fault of writing alone has this status
pub write_alone : (f : RunFault) → status_of_fault f ≡ status.WriteFault → f ≡ fault.Write
write_alone fault.NoMemory e = absurd (cc)
write_alone fault.Write e = refl
write_alone fault.Read e = absurd (cc)
write_alone fault.TooLong e = absurd (cc)

pub ended_as : (r s : Status) → r ≡ status.Done → (r ≡ s) ⊎ (r ≡ status.WriteFault) → s ≡ status.Done
ended_as r s d (inl e) = sym e ∙ d
ended_as r s d (inr w) = absurd (cc)

pub ended_was : (bad : Option Bad) (r : Status) → r ≡ status.Done → (r ≡ status_of_end bad) ⊎ (r ≡ status.WriteFault) ⊎ (r ≡ status.NoMemory) → status_of_end bad ≡ status.Done
ended_was bad r d (inl e) = sym e ∙ d
ended_was bad r d (inr (inl w)) = absurd (cc)
ended_was bad r d (inr (inr m)) = absurd (cc)
