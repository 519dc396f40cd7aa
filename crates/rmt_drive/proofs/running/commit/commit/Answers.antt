-- The commit is planned and made, or it finds no room.
use Rattle.std.proofs.Common.{◌≡◌, ◌++◌, ℕ, List, Some, sym, arith, subst}
use Rattle.std.specs.Prelude.{All}
use Rattle.rmt_config.specs.declared.cell_write.CellWrite.{CellWrite}
use Rattle.rmt_config.specs.declared.config.Config.{Config}
use Rattle.rmt_config.specs.Commits.{RunState}
use Rattle.rmt_memory.specs.Writable.{IsTaken}
use Rattle.rmt_lists.specs.declared.fault.UpdateFault.{UpdateFault}
use Rattle.rmt_lists.specs.declared.fault.UpdateFault.TheVariants.{LoadFull}
use Rattle.rmt_drive.specs.ChipEvents.{IsRefused, commit_cycles, names_in}
use Rattle.rmt_drive.specs.EventText.{EventReading}
use Rattle.rmt_drive.specs.ChipCycles.{Goes}
use Rattle.rmt_drive.specs.Running.{IsUnplannedAt}
use Rattle.rmt_drive.proofs.FollowsLaws.{few_commit, follows_commit, left_ahead, left_commit, stops_full}
use Rattle.rmt_drive.proofs.running.commit.commit.Goals as goal

of_full : (k : Config) (said : EventReading) (r : RunState) (f : UpdateFault) (node members count : ℕ) → f ≡ LoadFull node members count → IsUnplannedAt k said r f → IsRefused k (names_in k) r said.changes
of_full k said r f node members count e h = subst (IsUnplannedAt k said r) e h

pub plan-requires : goal.plan-requires
plan-requires g c = let f = c.requires.follows in (f.1, f.2, f.4.made, f.4.state, f.4.come)

pub change_cells-requires-clause-came : goal.change_cells-requires-clause-came
change_cells-requires-clause-came g c =
    let f = c.requires.follows in
    let planned = c.in-Ok.ensures.planned f.1 f.2 f.4.made f.4.state f.4.come in (
      f.0,
      f.1,
      f.2.events,
      f.4.made,
      f.4.state,
      f.3,
      record { comes = f.4.come.comes; goes = f.4.goes },
      subst (λ (ws : List CellWrite). All (IsTaken f.1.stages) ws) (sym c.as_slice.ensures.value) planned.taken,
    )

pub change_cells-requires-clause-entered : goal.change_cells-requires-clause-entered
change_cells-requires-clause-entered g c = let few = c.requires.few in omega (arith, few.1, few.2.entered)

pub change_cells-requires-clause-versions : goal.change_cells-requires-clause-versions
change_cells-requires-clause-versions g c = let few = c.requires.few in omega (arith, few.1, few.2.versions)

pub change_cells-requires-clause-cycles : goal.change_cells-requires-clause-cycles
change_cells-requires-clause-cycles g c = let few = c.requires.few in omega (arith, few.1, few.2.cycles)

pub returns-in-Ok-change_cells-clause-ok : goal.returns-in-Ok-change_cells-clause-ok
returns-in-Ok-change_cells-clause-ok g c = λ w k said number text before kind f.
    let plan = c.in-Ok.plan in
    let now = g.O.Sink.state c.change_cells.new.out in
    let planned = c.in-Ok.ensures.planned k said f.made f.state f.come in
    let goes = c.in-Ok-change_cells.ensures.ok w k said.events f.made f.state before (record { comes = f.come.comes; goes = f.goes }) in
    follows_commit w k number text said plan c.args.commits.now c.plan.new.commits c.args.chip.now c.change_cells.new.chip c.args.run.now c.change_cells.new.run before (g.O.Sink.state c.args.out.now) now kind f planned
    (subst (λ (ws : List CellWrite). Goes w k (f.made ++ commit_cycles f.state plan.moved plan.seed ws) c.change_cells.new.run c.change_cells.new.chip before now) c.as_slice.ensures.value goes)

pub returns-in-Ok-change_cells-clause-few : goal.returns-in-Ok-change_cells-clause-few
returns-in-Ok-change_cells-clause-few g c = λ lines few.
    let f = c.requires.follows in
    let plan = c.in-Ok.plan in
    few_commit f.0 f.1 f.4.made c.args.run.now c.change_cells.new.run c.args.chip.now c.change_cells.new.chip f.3 (g.O.Sink.state c.args.out.now) (g.O.Sink.state c.change_cells.new.out) f.4.goes f.4.state plan.moved plan.seed
    c.as_slice.result.now
    (c.in-Ok-change_cells.ensures.ok f.0 f.1 f.2.events f.4.made f.4.state f.3 (record { comes = f.4.come.comes; goes = f.4.goes })) c.in-Ok-change_cells.ensures.cycles lines few

pub returns-in-Ok-clause-cut : goal.returns-in-Ok-clause-cut
returns-in-Ok-clause-cut g c = λ w k said number text before kind f.
    let plan = c.in-Ok.plan in
    let planned = c.in-Ok.ensures.planned k said f.made f.state f.come in
    let part = c.in-Err.ensures.cut w k said.events f.made f.state before (record { comes = f.come.comes; goes = f.goes }) in
    left_commit w k number text said plan c.args.commits.now c.plan.new.commits c.args.chip.now c.args.run.now before (g.O.Sink.state c.args.out.now) (g.O.Sink.state c.change_cells.new.out) c.in-Err.fault kind f planned part.0 part.1
    (subst (λ (ws : List CellWrite). commit_cycles f.state plan.moved plan.seed ws ≡ part.0 ++ part.1) c.as_slice.ensures.value part.2) part.3

pub returns-in-Err-NoMemory-clause-cut : goal.returns-in-Err-NoMemory-clause-cut
returns-in-Err-NoMemory-clause-cut g c = λ w k said number text before kind f.
    left_ahead w k number text said c.args.run.now c.args.chip.now (Some c.args.commits.now) before (g.O.Sink.state c.args.out.now) _ (λ e. cc) f

pub returns-clause-ok : goal.returns-clause-ok
returns-clause-ok g c = λ w k said number text before kind f.
    stops_full w k number text said c.args.run.now c.args.chip.now c.args.commits.now before (g.O.Sink.state c.args.out.now) kind f
    (of_full k said f.state c.in-Err-LoadFull.field-0 _ _ _ c.in-Err-LoadFull.field-0-is (c.in-Err-LoadFull.ensures.refused k said f.made f.state f.come))
