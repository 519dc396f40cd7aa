-- One cycle, with what is watched of it.
use Rattle.std.proofs.Common.{◌≡◌, ◌+◌, refl, arith}
use Rattle.rmt_drive.specs.ChipCycles.{input_for}
use Rattle.rmt_drive.proofs.LineLaws.{ok_then}
use Rattle.rmt_drive.proofs.TurnLaws.{clocked_so, goes_answer, goes_past, goes_vectors}
use Rattle.rmt_drive.proofs.running.turn.run_cycle.Goals as goal

pub returns-in-Answers-clause-ok : goal.returns-in-Answers-clause-ok
returns-in-Answers-clause-ok c =
    let old = c.args.run.now in
    let x = input_for c.args.input in
    ok_then c.add_answer.result
    (λ line w k made before now g.
    goes_answer w k made x old _ c.args.chip.now _ before now _ _ c.bytes.result.now c.in-Answers.is c.bytes.ensures
    (clocked_so k made x old _ _ c.clock-left.result c.clock-left.new.leaving c.is_some.result c.from.result c.entered.result c.saturating_sub.result c.max-run.result (c.clock-left.ensures.stands k made g.stands) (c.clock-left.ensures.answers k made g.stands) refl refl refl refl c.is_some.ensures c.from.ensures c.entered.ensures c.saturating_sub.ensures c.max-run.ensures) line g)
    c.add_answer.ensures

pub returns-then-run-from-clause-ok : goal.returns-then-run-from-clause-ok
returns-then-run-from-clause-ok c =
    let old = c.args.run.now in
    let x = input_for c.args.input in
    let reached : old.cycles + 1 ≡ c.in-Vectors.cycle + 1 = omega (arith, c.if-run-from.true, c.from-in-Vectors.ensures) in
    ok_then c.add_vectors.result
    (λ lines w k made before now g.
    goes_vectors w k made x old _ c.args.chip.now _ before now _ _ c.in-Vectors.cycle c.in-Vectors.is reached
    (clocked_so k made x old _ _ c.clock-left.result c.clock-left.new.leaving c.is_some.result c.from.result c.entered.result c.saturating_sub.result c.max-run.result (c.clock-left.ensures.stands k made g.stands) (c.clock-left.ensures.answers k made g.stands) refl refl refl refl c.is_some.ensures c.from.ensures c.entered.ensures c.saturating_sub.ensures c.max-run.ensures)
    (λ all stands. lines k all stands) g)
    c.add_vectors.ensures

pub returns-else-run-from-clause-ok : goal.returns-else-run-from-clause-ok
returns-else-run-from-clause-ok c = λ w k made before now g.
    let old = c.args.run.now in
    let x = input_for c.args.input in
    let other : old.cycles + 1 ≡ c.in-Vectors.cycle + 1 → ⊥ = λ e. absurd (omega (arith, c.if-run-from.false, c.from-in-Vectors.ensures, e)) in
    goes_past w k made x old _ c.args.chip.now _ before now _ _ c.in-Vectors.cycle c.in-Vectors.is other
    (clocked_so k made x old _ _ c.clock-left.result c.clock-left.new.leaving c.is_some.result c.from.result c.entered.result c.saturating_sub.result c.max-run.result (c.clock-left.ensures.stands k made g.stands) (c.clock-left.ensures.answers k made g.stands) refl refl refl refl c.is_some.ensures c.from.ensures c.entered.ensures c.saturating_sub.ensures c.max-run.ensures) refl g
