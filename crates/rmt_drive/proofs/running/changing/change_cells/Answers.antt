-- It waits, changes cells, and makes the next version the current one.
use Rattle.std.proofs.Common.{◌≡◌, ◌-◌, ◌++◌, ◌∷◌, [], List, arith, sym, subst, ◌∙◌, append_assoc, append-nil}
use Rattle.std.proofs.lemmas.Result.{IfErr-weaker}
use Rattle.std.specs.Prelude.{map, replicate}
use Rattle.rmt_io.proofs.OutsideLaws.{only_printed_trans}
use Rattle.rmt_config.specs.Commits.{waits}
use Rattle.rmt_config.specs.RunInputs.{Idle, Input, Turns, Writes}
use Rattle.rmt_drive.specs.ChipEvents.{commit_cycles}
use Rattle.rmt_drive.specs.ChipText.{lines_of}
use Rattle.rmt_runs.specs.Cuts.{Cut}
use Rattle.rmt_drive.specs.ChipCycles.{Goes}
use Rattle.rmt_drive.proofs.LineLaws.{ok_then, prints_later}
use Rattle.rmt_drive.proofs.TurnLaws.{came_chip, few_numbered}
use Rattle.rmt_drive.proofs.WaitLaws.{commit_whole, counts_still, entered_still, waiting_part, writing_part}
use Rattle.rmt_drive.proofs.running.changing.change_cells.Goals as goal

pub wait-requires : goal.wait-requires
wait-requires g c =
    let s = c.requires.came in
    record {
      may = record {
        came = (s.0, s.1, s.2, s.3, s.4, s.5, came_chip s.6 c.reserve.new.self (c.reserve.ensures.stands s.1 s.3 s.6.goes.stands));
        entered = omega (arith, (c.reserve.ensures.stands s.1 s.3 s.6.goes.stands).entered_is, s.6.goes.stands.entered_is, c.requires.entered);
        cycles = omega (arith, c.requires.cycles);
      };
    }

pub returns-in-Err-clause-cut : goal.returns-in-Err-clause-cut
returns-in-Err-clause-cut g c = λ w k events made r before h.
    let x = c.in-Err.ensures.cut w k events made r before (came_chip h c.reserve.new.self (c.reserve.ensures.stands k made h.goes.stands)) in (
      replicate x.0 Idle,
      replicate (waits r c.args.moved - x.0) Idle ++ (map Writes c.args.writes.now ++ Turns c.args.seed ∷ []),
      waiting_part r c.args.moved c.args.seed c.args.writes.now x.0 x.1,
      x.2,
    )

pub write_cells-requires-clause-goes : goal.write_cells-requires-clause-goes
write_cells-requires-clause-goes g c =
    let s = c.requires.came in (
      s.0,
      s.1,
      s.3 ++ replicate (waits s.4 c.args.moved) Idle,
      s.5,
      c.in-Ok-wait.ensures.ok s.0 s.1 s.2 s.3 s.4 s.5 (came_chip s.6 c.reserve.new.self (c.reserve.ensures.stands s.1 s.3 s.6.goes.stands)),
      s.7,
    )

pub write_cells-requires-clause-entered : goal.write_cells-requires-clause-entered
write_cells-requires-clause-entered g c =
    let s = c.requires.came in
    let go = c.in-Ok-wait.ensures.ok s.0 s.1 s.2 s.3 s.4 s.5 (came_chip s.6 c.reserve.new.self (c.reserve.ensures.stands s.1 s.3 s.6.goes.stands)) in
    omega (arith, entered_still s.1 s.3 (waits s.4 c.args.moved) c.args.chip.now c.wait.new.chip s.6.goes.stands go.stands, c.requires.entered)

pub returns-in-Err-write_cells-clause-cut : goal.returns-in-Err-write_cells-clause-cut
returns-in-Err-write_cells-clause-cut g c = λ w k events made r before h.
    let idles = replicate (waits r c.args.moved) Idle in
    let go = c.in-Ok-wait.ensures.ok w k events made r before (came_chip h c.reserve.new.self (c.reserve.ensures.stands k made h.goes.stands)) in
    let x = c.in-Err-write_cells.ensures.cut w k (made ++ idles) before go in (
      idles ++ x.0,
      x.1 ++ Turns c.args.seed ∷ [],
      writing_part r c.args.moved c.args.seed c.args.writes.now x.0 x.1 x.2,
      subst (λ (l : List Input). Cut (lines_of w k l) before (g.O.Sink.state c.write_cells.new.out) c.in-Err-write_cells.fault) (append_assoc made idles x.0) x.3,
    )

pub returns-in-Err-write_cells-clause-prints : goal.returns-in-Err-write_cells-clause-prints
returns-in-Err-write_cells-clause-prints g c = prints_later c.wait.ensures.prints.only_printed c.in-Err-write_cells.ensures.prints

pub turn-requires-clause-may : goal.turn-requires-clause-may
turn-requires-clause-may g c =
    let s = c.requires.came in
    let n = waits s.4 c.args.moved in
    let written = c.in-Ok-write_cells.ensures.ok s.0 s.1 (s.3 ++ replicate n Idle) s.5 (c.in-Ok-wait.ensures.ok s.0 s.1 s.2 s.3 s.4 s.5 (came_chip s.6 c.reserve.new.self (c.reserve.ensures.stands s.1 s.3 s.6.goes.stands))) in
    omega (arith, (counts_still s.1 s.3 n c.args.writes.now c.args.chip.now c.write_cells.new.chip s.6.goes.stands written.stands).1, c.requires.versions)

pub turn-requires-clause-answered : goal.turn-requires-clause-answered
turn-requires-clause-answered g c =
    let s = c.requires.came in
    let n = waits s.4 c.args.moved in
    let written = c.in-Ok-write_cells.ensures.ok s.0 s.1 (s.3 ++ replicate n Idle) s.5 (c.in-Ok-wait.ensures.ok s.0 s.1 s.2 s.3 s.4 s.5 (came_chip s.6 c.reserve.new.self (c.reserve.ensures.stands s.1 s.3 s.6.goes.stands))) in
    omega (arith, few_numbered written, (counts_still s.1 s.3 n c.args.writes.now c.args.chip.now c.write_cells.new.chip s.6.goes.stands written.stands).0, c.requires.entered)

pub returns-clause-ok : goal.returns-clause-ok
returns-clause-ok g c =
    ok_then c.turn.result
    (λ turned w k events made r before h.
    let idles = replicate (waits r c.args.moved) Idle in
    let go = c.in-Ok-wait.ensures.ok w k events made r before (came_chip h c.reserve.new.self (c.reserve.ensures.stands k made h.goes.stands)) in
    subst (λ (l : List Input). Goes w k l c.turn.new.run c.turn.new.chip before (g.O.Sink.state c.turn.new.out)) (commit_whole made r c.args.moved c.args.seed c.args.writes.now)
    (turned w k ((made ++ idles) ++ map Writes c.args.writes.now) before (c.in-Ok-write_cells.ensures.ok w k (made ++ idles) before go)))
    c.turn.ensures.ok

pub returns-clause-cut : goal.returns-clause-cut
returns-clause-cut g c =
    IfErr-weaker c.turn.result _ _
    (λ fault cut w k events made r before h.
    let idles = replicate (waits r c.args.moved) Idle in
    let go = c.in-Ok-wait.ensures.ok w k events made r before (came_chip h c.reserve.new.self (c.reserve.ensures.stands k made h.goes.stands)) in (
      commit_cycles r c.args.moved c.args.seed c.args.writes.now,
      [],
      sym (append-nil (commit_cycles r c.args.moved c.args.seed c.args.writes.now)),
      subst (λ (l : List Input). Cut (lines_of w k l) before (g.O.Sink.state c.turn.new.out) fault) (commit_whole made r c.args.moved c.args.seed c.args.writes.now)
          (cut w k ((made ++ idles) ++ map Writes c.args.writes.now) before (c.in-Ok-write_cells.ensures.ok w k (made ++ idles) before go)),
    ))
    c.turn.ensures.cut

pub returns-clause-prints : goal.returns-clause-prints
returns-clause-prints g c = prints_later (only_printed_trans c.wait.ensures.prints.only_printed c.write_cells.ensures.prints.only_printed) c.turn.ensures.prints
