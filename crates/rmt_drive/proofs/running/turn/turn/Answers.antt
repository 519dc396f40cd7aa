-- One cycle, and what of its lines was written.
use Rattle.std.proofs.Common.{[], ◌∷◌, refl}
use Rattle.rmt_drive.specs.ChipCycles.{input_for}
use Rattle.rmt_drive.proofs.ChipTextLaws.{lines_begin, starts}
use Rattle.rmt_drive.proofs.RunLaws.{front_begins}
use Rattle.rmt_drive.proofs.TurnLaws.{goes_written}
use Rattle.rmt_runs.proofs.WaitingLaws.{front_on, some_lines, written_front}
use Rattle.rmt_drive.proofs.running.turn.turn.Goals as goal

pub returns-in_default-clause-cut : goal.returns-in_default-clause-cut
returns-in_default-clause-cut g c = λ w k made before h. record {
  front = front_begins (lines_begin k (starts k made c.args.chip.now h.stands) w made (input_for c.args.input ∷ [])) before (g.O.Sink.state c.args.out.now) (written_front h.written);
  some = λ e. absurd (cc);
}

pub returns-in-Ok-write_many-clause-ok : goal.returns-in-Ok-write_many-clause-ok
returns-in-Ok-write_many-clause-ok g c = λ w k made before h.
    goes_written w k _ c.run_cycle.new.run _ c.run_cycle.new.chip before (g.O.Sink.state c.args.out.now) (g.O.Sink.state c.write_many.new.out) refl refl refl refl c.in-Ok-write_many.ensures.written
    (c.in-Ok.ensures.ok w k made before (g.O.Sink.state c.args.out.now) h)

pub returns-in-Err-clause-cut : goal.returns-in-Err-clause-cut
returns-in-Err-clause-cut g c = λ w k made before h.
    let mid = c.in-Ok.ensures.ok w k made before (g.O.Sink.state c.args.out.now) h in
    record { front = front_on mid.written (g.O.Sink.state c.write_many.new.out) c.in-Err.ensures.front; some = λ e. some_lines mid.written c.in-Err.ensures.some }
