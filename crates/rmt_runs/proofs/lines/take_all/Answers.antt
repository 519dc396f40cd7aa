-- One line after another.
use Rattle.std.proofs.Common.{◌+◌, ◌++◌, ◌∷◌, [], ℕ, Err, arith, refl, sym, ap, subst, ◌∙◌}
use Rattle.rmt_io.proofs.OutsideLaws.{only_printed_refl, only_printed_trans, only_read_refl, only_read_trans, tells_later}
use Rattle.rmt_runs.specs.TextLines.{WereRead, amid, between, lines_within}
use Rattle.rmt_runs.proofs.LineLaws.{not_too_long, not_write, read_past, read_whole}
use Rattle.rmt_runs.proofs.ReaderLaws.{at_read, fronts_more, gave_read, line_given}
use Rattle.rmt_runs.proofs.lines.take_all.Goals as goal

pub loop-frame-init : goal.loop-frame-init
loop-frame-init g c = record {
  lines = [];
  stands = λ x h. h;
  reads = λ t. ([], c.in-Ok.ensures.lines (g.F.Shelf.state c.args.shelf.now).rest, refl);
  few = subst (λ (n : ℕ). g.T.TakesLines.IsFew n c.args.taker.now) (sym c.in-Ok.ensures.given) c.requires.few;
  given = omega (arith, c.in-Ok.ensures.given);
  lent = refl;
  only_read = only_read_refl (g.F.Shelf.state c.args.shelf.now);
  only_printed = only_printed_refl (g.O.Sink.state c.args.out.now);
}

pub take_line-requires-clause-stands : goal.take_line-requires-clause-stands
take_line-requires-clause-stands g c =
    let s = c.requires.starts in
    (s.0, c.loop-frame.invariant.lines, g.O.Sink.state c.args.out.now, c.loop-frame.invariant.stands s.0 s.1)

pub take_line-requires-clause-few : goal.take_line-requires-clause-few
take_line-requires-clause-few g c = (c.loop-frame.reader.given, omega (arith, c.loop-frame.invariant.given), c.loop-frame.invariant.few)

pub returns-in_default-clause-broken : goal.returns-in_default-clause-broken
returns-in_default-clause-broken g c = λ x h. between [] h (λ e. absurd (cc)) (λ t. (record { gave = []; more = lines_within c.args.limit (g.F.Shelf.state c.args.shelf.now).rest; fronts = refl; first = refl }, λ e. absurd (cc)))

pub returns-in-Err-clause-broken : goal.returns-in-Err-clause-broken
returns-in-Err-clause-broken g c = λ x h.
    let i = c.loop-frame.invariant in
    let text = (g.F.Shelf.state c.args.shelf.now).rest in
    between i.lines (i.stands x h) (λ e. not_write c.in-Err.fault c.in-Err.ensures.asks.either e)
    (λ t.
    let r = i.reads t in (
      gave_read c.args.limit text (g.F.Shelf.state c.loop-frame.shelf).rest r.0 i.lines c.loop-frame.reader r.1 r.2,
      λ e.
          let far = c.in-Err.ensures.next.too_long (ap Err e) (tells_later i.only_read t) c.args.limit text r.0 r.1 in
          read_past c.args.limit text r.0 i.lines far.long far.within r.2,
    ))

pub returns-in-Err-take_line-clause-broken : goal.returns-in-Err-take_line-clause-broken
returns-in-Err-take_line-clause-broken g c = λ x h.
    let i = c.loop-frame.invariant in
    let text = (g.F.Shelf.state c.args.shelf.now).rest in
    let reader = c.next_line.new.self in
    let n = reader.lines.number in
    let front = c.line.result.now in
    amid i.lines (n, front) (c.in-Err-take_line.ensures.cut x i.lines n (g.O.Sink.state c.args.out.now) (i.stands x h)) (λ e. not_too_long c.in-Err-take_line.fault c.in-Err-take_line.ensures.either e)
    (λ t.
    let r = i.reads t in
    let at = c.in-Ok-true.ensures.next.line c.in-Ok-true.field-0-test (tells_later i.only_read t) c.args.limit text r.0 r.1 in
    (gave_read c.args.limit text (g.F.Shelf.state c.loop-frame.shelf).rest r.0 i.lines c.loop-frame.reader r.1 r.2, at_read c.args.limit text (g.F.Shelf.state c.next_line.new.shelf).rest r.0 i.lines reader at r.2 front c.line.ensures))

pub loop-frame-preserved : goal.loop-frame-preserved
loop-frame-preserved g c =
    let i = c.loop-frame.invariant in
    let text = (g.F.Shelf.state c.args.shelf.now).rest in
    let reader = c.next_line.new.self in
    let n = reader.lines.number in
    let front = c.line.result.now in
    record {
      lines = i.lines ++ (n, front) ∷ [];
      stands = λ x h. c.in-Ok-None.ensures.taken c.in-Ok-None.field-0-is x i.lines n (g.O.Sink.state c.args.out.now) (i.stands x h);
      reads = λ t.
          let r = i.reads t in
          let at = c.in-Ok-true.ensures.next.line c.in-Ok-true.field-0-test (tells_later i.only_read t) c.args.limit text r.0 r.1 in (
            r.0 ++ (n, at.line) ∷ [],
            line_given c.args.limit text (g.F.Shelf.state c.next_line.new.shelf).rest r.0 reader reader at refl refl refl refl,
            fronts_more r.0 i.lines n at.line front r.2 (c.line.ensures ∙ at.front),
          );
      few = subst (λ (m : ℕ). g.T.TakesLines.IsFew m c.take_line.new.self) (sym (c.in-Ok-true.ensures.given c.in-Ok-true.field-0-test)) (c.in-Ok-None.ensures.few c.loop-frame.reader.given i.few);
      given = omega (arith, c.in-Ok-true.ensures.few);
      lent = c.take_line.ensures.lent ∙ i.lent;
      only_read = only_read_trans i.only_read c.next_line.ensures.asks.only_read;
      only_printed = only_printed_trans i.only_printed c.take_line.ensures.only_printed;
    }

pub returns-in-Ok-false-clause-ended : goal.returns-in-Ok-false-clause-ended
returns-in-Ok-false-clause-ended g c = λ x h.
    let i = c.loop-frame.invariant in
    let text = (g.F.Shelf.state c.args.shelf.now).rest in
    record {
      lines = i.lines;
      stands = i.stands x h;
      read = λ t.
          let r = i.reads t in
          read_whole c.args.limit text r.0 i.lines (c.in-Ok-false.ensures.next.end c.in-Ok-false.field-0-test (tells_later i.only_read t) c.args.limit text r.0 r.1) r.2;
    }

pub returns-in-Ok-Some-clause-ended : goal.returns-in-Ok-Some-clause-ended
returns-in-Ok-Some-clause-ended g c = λ x h.
    let i = c.loop-frame.invariant in
    let text = (g.F.Shelf.state c.args.shelf.now).rest in
    let number = c.number-line.result in
    let front = c.line.result.now in
    record {
      lines = i.lines;
      text = front;
      stops = c.in-Ok-Some.ensures.stopped c.in-Ok-Some.code c.in-Ok-Some.field-0-is x i.lines number (g.O.Sink.state c.args.out.now) (i.stands x h);
      read = λ t.
          let r = i.reads t in
          let at = c.in-Ok-true.ensures.next.line c.in-Ok-true.field-0-test (tells_later i.only_read t) c.args.limit text r.0 r.1 in
          subst (λ (n : ℕ). WereRead c.args.limit text (i.lines ++ (n, front) ∷ [])) (sym c.number-line.ensures)
          (at_read c.args.limit text (g.F.Shelf.state c.next_line.new.shelf).rest r.0 i.lines c.next_line.new.self at r.2 front c.line.ensures);
    }

pub returns-in-Ok-false-clause-few : goal.returns-in-Ok-false-clause-few
returns-in-Ok-false-clause-few g c = (c.loop-frame.reader.given, c.loop-frame.invariant.given, c.loop-frame.invariant.few)

pub returns-in-Ok-Some-clause-few : goal.returns-in-Ok-Some-clause-few
returns-in-Ok-Some-clause-few g c = (c.loop-frame.reader.given + 1, omega (arith, c.in-Ok-true.ensures.given c.in-Ok-true.field-0-test, c.in-Ok-true.ensures.few), c.in-Ok-Some.ensures.few c.loop-frame.reader.given c.loop-frame.invariant.few)

pub returns-in-Ok-Some-clause-only_printed : goal.returns-in-Ok-Some-clause-only_printed
returns-in-Ok-Some-clause-only_printed g c = only_printed_trans c.loop-frame.invariant.only_printed c.take_line.ensures.only_printed

pub returns-in-Err-take_line-clause-only_printed : goal.returns-in-Err-take_line-clause-only_printed
returns-in-Err-take_line-clause-only_printed g c = only_printed_trans c.loop-frame.invariant.only_printed c.take_line.ensures.only_printed
