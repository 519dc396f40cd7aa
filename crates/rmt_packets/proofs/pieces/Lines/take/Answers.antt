use Rattle.std.proofs.Common.{◌∙◌, refl, length-take, arith}
use Rattle.rmt_packets.proofs.StandsLaws.{Steps, after_ends, after_none, after_open, after_stands, ended_to, none_whole, stands_to}
use Rattle.rmt_packets.proofs.pieces.Lines.take.Goals as goal
use Rattle.rmt_packets.proofs.pieces.Lines.take.Goals.{Then-feed}

pub returns-then-to-piece-clause-stands : goal.returns-then-to-piece-clause-stands
returns-then-to-piece-clause-stands c =
    λ text h.
    let l = c.loop-from in
    rw c.grow.ensures (stands_to text c.args.piece.now l.from c.line_end-to.result l.self c.line_end-to.ensures.place (l.invariant.stands text h) l.invariant.going_on)

pub returns-then-to-piece-clause-none : goal.returns-then-to-piece-clause-none
returns-then-to-piece-clause-none c =
    λ text h _.
    let l = c.loop-from in
    none_whole text c.args.piece.now c.line_end-to.result (omega arith) (ended_to text c.args.piece.now l.from c.line_end-to.result c.line_end-to.ensures.place (l.invariant.none text h))

-- what the reader did up to a line feed that ends a packet line, and up to another one
steps : (c : Then-feed) → Steps c.args.piece.now c.loop-from.from c.line_end-to.result c.loop-from.self c.grow.new.self c.feed.new.self
steps c = record { going_on = c.loop-from.invariant.going_on; place = c.line_end-to.ensures.place; inside = omega arith; grows = c.grow.ensures; takes_feed = c.feed.ensures.state }

pub returns-then-feed-clause-stands : goal.returns-then-feed-clause-stands
returns-then-feed-clause-stands c =
    let l = c.loop-from in
    λ text h. after_stands text c.args.piece.now l.from c.line_end-to.result l.self c.grow.new.self c.feed.new.self (steps c) (l.invariant.stands text h)

pub returns-then-feed-clause-ready : goal.returns-then-feed-clause-ready
returns-then-feed-clause-ready c =
    let l = c.loop-from in
    λ text h _. after_ends text c.args.piece.now l.from c.line_end-to.result l.self c.grow.new.self c.feed.new.self (steps c) (l.invariant.stands text h) (c.if-feed.ensures.ready refl) (l.invariant.none text h)

pub loop-from-preserved : goal.loop-from-preserved
loop-from-preserved c =
    let l = c.loop-from in
    let piece = c.args.piece.now in
    let to = c.line_end-to.result in
    let s : Steps piece l.from to l.self c.grow.new.self c.feed.new.self =
    record { going_on = l.invariant.going_on; place = c.line_end-to.ensures.place; inside = omega arith; grows = c.grow.ensures; takes_feed = c.feed.ensures.state } in
    let passed = c.if-feed.ensures.passed_over refl in
    let kept = after_open piece l.from to l.self c.grow.new.self c.feed.new.self s passed in
    record {
      within = omega arith;
      going_on = kept.0;
      not_ready = kept.1 ∙ l.invariant.not_ready;
      taken = omega (arith, kept.2, l.invariant.taken, length-take to piece, length-take l.from piece);
      stands = λ text h. after_stands text piece l.from to l.self c.grow.new.self c.feed.new.self s (l.invariant.stands text h);
      none = λ text h. after_none text piece l.from to l.self c.grow.new.self c.feed.new.self s (l.invariant.stands text h) passed (l.invariant.none text h);
    }

pub returns-clause-none : goal.returns-clause-none
returns-clause-none c = λ text h _. none_whole text c.args.piece.now c.loop-from.from c.loop-from-test.false (c.loop-from.invariant.none text h)
