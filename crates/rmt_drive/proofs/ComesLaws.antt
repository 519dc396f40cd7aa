-- A run that has come so far goes on as `RunsTo` tells.
use Rattle.std.proofs.Common.{◌≡◌, ℕ, List, [], ◌∷◌, ◌++◌, Bool, sym, ap, ◌∙◌, subst, append_assoc, append-nil}
use Rattle.std.specs.Prelude.{map, replicate}
use Rattle.rmt_ast.specs.declared.entry.Entry.{Entry}
use Rattle.rmt_ast.specs.declared.names.Names.{Names}
use Rattle.rmt_ast.specs.Events.{Arrives, Commits, Event}
use Rattle.rmt_config.specs.declared.config.Config.{Config}
use Rattle.rmt_config.specs.declared.cell_write.CellWrite.{CellWrite}
use Rattle.rmt_config.specs.Commits.{RunState, RunsFrom, RunsTo, arrives, commits, ends, waits}
use Rattle.rmt_config.specs.RunInputs.{Enters, Idle, Input, Turns, Writes}
use Rattle.rmt_drive.specs.ChipEvents.{Comes, arrived, begins, commit_cycles, empty_cycles, turned}

-- the inputs of a commit's cycles, and those behind them
commit_then : (r : RunState) (moved : Bool) (seed : ℕ) (writes : List CellWrite) (later : List Input)
    → commit_cycles r moved seed writes ++ later ≡ (replicate (waits r moved) Idle ++ map Writes writes) ++ Turns seed ∷ later
commit_then r moved seed writes later =
    let idles = replicate (waits r moved) Idle in
    let changes = map Writes writes in
    append_assoc idles (changes ++ Turns seed ∷ []) later ∙ ap (λ (xs : List Input). idles ++ xs) (append_assoc changes (Turns seed ∷ []) later)
    ∙ sym (append_assoc idles changes (Turns seed ∷ later))

module _ (c : Config) (names : Names) (lists : List (List Entry)) where
  pub comes_then : (events : List Event) (made : List Input) (r : RunState) → Comes c names lists events made r → (more : List Event) (later : List Input) → RunsFrom c names r more later
      → RunsTo c names lists (events ++ more) (made ++ later)
  comes_then events made r begins more later rest = rest
  comes_then events made r (arrived before inputs s packet h) more later rest =
      subst (λ (es : List Event). RunsTo c names lists es ((inputs ++ Enters packet ∷ []) ++ later)) (sym (append_assoc before (Arrives packet ∷ []) more))
      (subst (λ (is : List Input). RunsTo c names lists (before ++ Arrives packet ∷ more) is) (sym (append_assoc inputs (Enters packet ∷ []) later))
      (comes_then before inputs s h (Arrives packet ∷ more) (Enters packet ∷ later) (arrives s packet more later rest)))
  comes_then events made r (turned before inputs s changes moved seed next writes h makes are) more later rest =
      let whole = append_assoc inputs (commit_cycles s moved seed writes) later ∙ ap (λ (is : List Input). inputs ++ is) (commit_then s moved seed writes later) in
      subst (λ (es : List Event). RunsTo c names lists es ((inputs ++ commit_cycles s moved seed writes) ++ later)) (sym (append_assoc before (Commits changes ∷ []) more))
      (subst (λ (is : List Input). RunsTo c names lists (before ++ Commits changes ∷ more) is) (sym whole)
      (comes_then before inputs s h (Commits changes ∷ more) _ (commits s changes more later moved seed next writes makes are rest)))

  -- a run that comes to its end
  pub comes_to_end : (events : List Event) (made : List Input) (r : RunState) → Comes c names lists events made r → RunsTo c names lists events (made ++ replicate (empty_cycles r) Idle)
  comes_to_end events made r h =
      subst (λ (es : List Event). RunsTo c names lists es (made ++ replicate (empty_cycles r) Idle)) (append-nil events) (comes_then events made r h [] (replicate (empty_cycles r) Idle) (ends r))
