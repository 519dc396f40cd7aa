-- What a line leaves, and what of the lines that wait was written.
use Rattle.std.proofs.Common.{◌++◌, ◌∷◌, [], refl, sym, ap, subst, ◌∙◌, arith}
use Rattle.rmt_packets.specs.LineKinds.{kind_of}
use Rattle.rmt_runs.specs.Cuts.{Cut}
use Rattle.rmt_runs.specs.declared.fault.RunFault.TheVariants.{Write}
use Rattle.rmt_runs.proofs.WaitingLaws.{front_on, some_lines}
use Rattle.rmt_drive.specs.EventText.{EventReading, events_of, with_line}
use Rattle.rmt_drive.specs.PlainRunning.{event_lines}
use Rattle.rmt_drive.proofs.EventTextLaws.{events_append, events_more, lines_grow}
use Rattle.rmt_drive.proofs.PlainRunLaws.{cut_before, goes_as, leaves_bad, leaves_good, leaves_lines, leaves_written}
use Rattle.rmt_drive.proofs.plain_run.line.PlainRunTakesLines.take_line.Goals as goal

pub take-requires-clause-goes : goal.take-requires-clause-goes
take-requires-clause-goes g c = let h = c.requires.stands in (h.0.0, h.0.1, events_of h.0.0 h.0.1 h.1, h.2, g.O.Sink.state c.args.out.now, h.3)

pub take-requires-clause-few : goal.take-requires-clause-few
take-requires-clause-few g c = omega (arith, c.requires.few.1, c.requires.few.2)

pub returns-in_default-clause-cut : goal.returns-in_default-clause-cut
returns-in_default-clause-cut g c = λ x lines number before h.
    let said = events_of x.0 x.1 lines in
    let line = (number, c.args.line.now) ∷ [] in
    let grows = lines_grow said line in
    cut_before x.0 x.1 said (events_of x.0 x.1 (lines ++ line)) c.args.self.now before (g.O.Sink.state c.args.out.now) _ grows.0
    (ap (λ (r : EventReading). r.events) (events_append x.0 x.1 lines line) ∙ grows.1) h (λ e. cc)

pub returns-in-Ok-write_many-clause-taken : goal.returns-in-Ok-write_many-clause-taken
returns-in-Ok-write_many-clause-taken g c = λ e x lines number before h.
    let text = c.args.line.now in
    let said = events_of x.0 x.1 lines in
    let next = with_line number text (kind_of text) said in
    let mid = g.O.Sink.state c.args.out.now in
    let now = g.O.Sink.state c.write_many.new.out in
    goes_as x.0 x.1 next (events_of x.0 x.1 (lines ++ (number, text) ∷ [])) _ before now (events_more x.0 x.1 lines number text h.good)
    (leaves_good x.0 x.1 number said next _ before now c.in-Ok.code e
    (leaves_written x.0 x.1 number said next c.take.new.run _ before mid now c.in-Ok.code (c.in-Ok.ensures.ok x.0 x.1 said number before mid h) c.in-Ok-write_many.ensures.written refl refl refl))

pub returns-in-Ok-write_many-clause-stopped : goal.returns-in-Ok-write_many-clause-stopped
returns-in-Ok-write_many-clause-stopped g c = λ bad e x lines number before h.
    let text = c.args.line.now in
    let said = events_of x.0 x.1 lines in
    let next = with_line number text (kind_of text) said in
    let mid = g.O.Sink.state c.args.out.now in
    let now = g.O.Sink.state c.write_many.new.out in
    let left = leaves_bad x.0 x.1 number said next _ before now c.in-Ok.code bad e
    (leaves_written x.0 x.1 number said next c.take.new.run _ before mid now c.in-Ok.code (c.in-Ok.ensures.ok x.0 x.1 said number before mid h) c.in-Ok-write_many.ensures.written refl refl refl) in
    (events_more x.0 x.1 lines number text h.good ∙ left.0, left.1)

pub returns-in-Err-clause-cut : goal.returns-in-Err-clause-cut
returns-in-Err-clause-cut g c = λ x lines number before h.
    let text = c.args.line.now in
    let said = events_of x.0 x.1 lines in
    let next = with_line number text (kind_of text) said in
    let mid = g.O.Sink.state c.args.out.now in
    let wrote = leaves_lines x.0 x.1 number said next c.take.new.run before mid c.in-Ok.code (c.in-Ok.ensures.ok x.0 x.1 said number before mid h) in
    subst (λ (r : EventReading). Cut (event_lines x.0 x.1 r.events) before (g.O.Sink.state c.write_many.new.out) Write) (sym (events_more x.0 x.1 lines number text h.good))
    (record { front = front_on wrote (g.O.Sink.state c.write_many.new.out) c.in-Err.ensures.front; some = λ e. some_lines wrote c.in-Err.ensures.some })
