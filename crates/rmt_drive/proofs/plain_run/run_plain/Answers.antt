-- A run that ended early, and one that came to the end of what may be read.
use Rattle.std.proofs.Common.{Err, ap, refl, arith, rules}
use Rattle.rmt_io.proofs.OutsideLaws.{only_printed_trans, printing_failed_later}
use Rattle.rmt_drive.specs.EventText.{with_changes}
use Rattle.rmt_drive.specs.PlainRunning.{ended_at}
use Rattle.rmt_drive.specs.PlainText.{plain_text}
use Rattle.rmt_drive.proofs.PlainRunLaws.{broke, ended}
use Rattle.rmt_drive.proofs.RunsLaws.{broken_answered, finished_answered}
use Rattle.rmt_drive.proofs.plain_run.run_plain.Goals as goal

pub take_all-requires-clause-starts : goal.take_all-requires-clause-starts
take_all-requires-clause-starts g c = let s = c.requires.starts in ((s.0, s.1), s.2)

pub take_all-requires-clause-few : goal.take_all-requires-clause-few
take_all-requires-clause-few g c = omega (arith, c.requires.starts.2.numbered)

pub returns-in-Err-clause-answered : goal.returns-in-Err-clause-answered
returns-in-Err-clause-answered g c = λ t p lists goes.
    let shelf = g.F.Shelf.state c.args.shelf.now in
    rw c.fault_status.ensures
    (broken_answered _ _ (with_changes p lists) (plain_text p lists) c.args.limit shelf.rest c.in-Err.fault
    (broke p lists shelf c.args.limit c.take_all.new.taker (g.O.Sink.state c.args.out.now) (g.O.Sink.state c.take_all.new.out) c.in-Err.fault t (c.in-Err.ensures.broken (p, lists) goes)) c.take_all.ensures.only_read.files
    (λ e. c.in-Err.ensures.write_fault (ap Err e)) (λ e. c.in-Err.ensures.never_fails (ap Err e)))

pub returns-in-Ok-clause-answered : goal.returns-in-Ok-clause-answered
returns-in-Ok-clause-answered g c = λ t p lists goes.
    let shelf = g.F.Shelf.state c.args.shelf.now in
    let before = g.O.Sink.state c.args.out.now in
    let r = ended p lists shelf c.args.limit c.take_all.new.taker before (g.O.Sink.state c.take_all.new.out) c.in-Ok.bad t (c.in-Ok.ensures.ended (p, lists) goes) in
    let e = c.finish.ensures in
    finished_answered _ _ (with_changes p lists) (plain_text p lists) c.args.limit shelf.rest (ended_at c.in-Ok.bad r.0) c.in-Ok.bad c.finish.result r.1 refl
    c.take_all.ensures.only_read.files e.possible
    (λ w. e.some w p lists r.0 before r.2) (λ d. e.printed d p lists r.0 before r.2) (e.front p lists r.0 before r.2)
    (λ w. printing_failed_later (g.O.Sink.state c.finish.new.out) c.take_all.ensures.only_printed (e.failed w))

pub returns-in-Ok-clause-befalls : goal.returns-in-Ok-clause-befalls
returns-in-Ok-clause-befalls g c = record {
  read_fault = search rules;
  never_fails = search rules;
  write_fault = λ e. printing_failed_later (g.O.Sink.state c.finish.new.out) c.take_all.ensures.only_printed (c.finish.ensures.failed e);
  only_read = c.take_all.ensures.only_read;
  only_printed = only_printed_trans c.take_all.ensures.only_printed c.finish.ensures.only_printed;
}
