-- What a run that has come so far plans for its next commit.
use Rattle.std.proofs.Common.{◌≡◌, List, Some, None, subst}
use Rattle.rmt_ast.specs.declared.entry.Entry.{Entry}
use Rattle.rmt_ast.specs.Changes.{Installed, committed}
use Rattle.rmt_config.specs.declared.config.Config.{Config}
use Rattle.rmt_config.specs.Commits.{RunState}
use Rattle.rmt_config.specs.RunCells.{RunCells}
use Rattle.rmt_config.specs.RunInputs.{Input}
use Rattle.rmt_update.specs.declared.book.plan.Plan.{Plan}
use Rattle.rmt_lists.specs.declared.fault.UpdateFault.{UpdateFault}
use Rattle.rmt_lists.specs.declared.fault.UpdateFault.TheVariants.{NoMemory, LoadFull}
use Rattle.rmt_lists.specs.declared.lists.Changes.{Changes}
use Rattle.rmt_update.specs.Planned.{IsPlanned, IsUnplanned, MayChange, changed_lists}
use Rattle.rmt_lists.specs.Running.{AreChanges, commit_of}
use Rattle.rmt_lists.specs.Stands.{Stands}
use Rattle.rmt_update.proofs.FitMakes.{makes_fit}
use Rattle.rmt_update.proofs.FollowLaws.{lists_are, may_change}
use Rattle.rmt_drive.specs.declared.running.commits.Commits.{Commits}
use Rattle.rmt_drive.specs.ChipEvents.{names_in}
use Rattle.rmt_drive.specs.EventText.{EventReading}
use Rattle.rmt_drive.specs.Running.{HasCome, IsPlannedAt, IsUnplannedAt}
use Rattle.rmt_drive.proofs.ComesStates.{IsCome, states}
use Rattle.rmt_drive.proofs.TakenLaws.{writes_taken}

module _ (c : Config) (said : EventReading) (made : List Input) (r : RunState) (commits : Commits) (h : HasCome c said made r (Some commits)) where
  abbrev named : c.names ≡ Some (names_in c)
  named = h.knows.0

  is_come : IsCome c said r
  is_come = states c h.formed h.small (names_in c) named None h.lines made r said h.read h.comes

  -- the lists that the next commit leaves
  abbrev after : List (List Entry)
  after = (committed r.entries said.changes).lists

  -- what changed since the last commit, by a run's lists
  changes_are : (ch : Changes) → AreChanges said.run.last said.run.now.lists ch → AreChanges r.entries.lists after ch
  changes_are ch are =
      subst (λ (i : Installed). AreChanges r.entries.lists i.lists ch) is_come.now (subst (λ (l : List (List Entry)). AreChanges l said.run.now.lists ch) is_come.last are)

  pub may_plan : (ch : Changes) → AreChanges said.run.last said.run.now.lists ch → MayChange c (names_in c) r.cells r.entries.lists ch
  may_plan ch are = may_change c (names_in c) r.cells r.entries said.changes ch is_come.used is_come.below (changes_are ch are) is_come.next

  left_are : (ch : Changes) → AreChanges said.run.last said.run.now.lists ch → changed_lists r.entries.lists ch ≡ after
  left_are ch are = lists_are (names_in c) r.entries said.changes ch (changes_are ch are) is_come.next

  pub planned_so : (ch : Changes) → AreChanges said.run.last said.run.now.lists ch → (plan : Plan) (next : RunCells) (later : Commits)
      → IsPlanned c (names_in c) r.cells r.entries.lists (changed_lists r.entries.lists ch) plan next later.book → Stands (commit_of said.run) later.lists → IsPlannedAt c said r plan later
  planned_so ch are plan next later planned stands =
      let p = subst (λ (l : List (List Entry)). IsPlanned c (names_in c) r.cells r.entries.lists l plan next later.book) (left_are ch are) planned in
      let fit = makes_fit c (names_in c) r.cells r.entries.lists after plan.moved plan.seed next h.formed h.small named is_come.next is_come.fit p.makes in
      record {
        next = next;
        makes = p.makes;
        writes = p.writes;
        taken = writes_taken c r.cells next plan.writes.items fit p.writes p.sizes;
        knows = (named, p.stands, stands);
      }

  pub unplanned_so : (ch : Changes) → AreChanges said.run.last said.run.now.lists ch → (f : UpdateFault)
      → IsUnplanned c (names_in c) r.cells r.entries.lists (changed_lists r.entries.lists ch) f → IsUnplannedAt c said r f
  unplanned_so ch are f un = by f (subst (λ (l : List (List Entry)). IsUnplanned c (names_in c) r.cells r.entries.lists l f) (left_are ch are) un)
    where
      by : (f : UpdateFault) → IsUnplanned c (names_in c) r.cells r.entries.lists after f → IsUnplannedAt c said r f
      by NoMemory u = tt
      by (LoadFull node members count) u = record { moves = u.0; full = λ seed placed few filled. u.1 seed few (placed, filled) }
