use Rattle.std.proofs.Common.{◌+◌, ◌-◌, length, sym, ◌∙◌, arith}
use Rattle.rmt_ast.specs.Walk as spec
use Rattle.rmt_plain.specs.Walking.{reached_in}
use Rattle.rmt_plain.proofs.WalkLaws.{walk_from_more}
use Rattle.rmt_plain.proofs.walk.walk.Goals as goal

pub loop-k-preserved : goal.loop-k-preserved
loop-k-preserved c =
    let p = c.args.program.now in
    let frame = c.args.frame.now in
    let was = reached_in frame c.loop-k.reached in
    let found = c.in-Some.ensures.item in
    record {
      within = c.in-Go.ensures.within;
      rest =
          sym (c.in-Go.ensures.walk (spec.walk_from (length p.headers - (c.loop-k._k + 1)) p frame))
          ∙ sym (walk_from_more p frame c.loop-k._k c.loop-k.number was _ (omega arith) found)
          ∙ c.loop-k.invariant.rest;
    }

pub returns-in-Short-clause-walk : goal.returns-in-Short-clause-walk
returns-in-Short-clause-walk c =
    let p = c.args.program.now in
    let frame = c.args.frame.now in
    let was = reached_in frame c.loop-k.reached in
    let found = c.in-Some.ensures.item in
    sym (c.in-Short.ensures.walk (spec.walk_from (length p.headers - (c.loop-k._k + 1)) p frame))
    ∙ sym (walk_from_more p frame c.loop-k._k c.loop-k.number was _ (omega arith) found) ∙ c.loop-k.invariant.rest

pub returns-in-Reject-clause-walk : goal.returns-in-Reject-clause-walk
returns-in-Reject-clause-walk c =
    let p = c.args.program.now in
    let frame = c.args.frame.now in
    let was = reached_in frame c.loop-k.reached in
    let found = c.in-Some.ensures.item in
    sym (c.in-Reject.ensures.walk (spec.walk_from (length p.headers - (c.loop-k._k + 1)) p frame))
    ∙ sym (walk_from_more p frame c.loop-k._k c.loop-k.number was _ (omega arith) found) ∙ c.loop-k.invariant.rest

pub returns-in-Accept-clause-walk : goal.returns-in-Accept-clause-walk
returns-in-Accept-clause-walk c =
    let p = c.args.program.now in
    let frame = c.args.frame.now in
    let was = reached_in frame c.loop-k.reached in
    let found = c.in-Some.ensures.item in
    sym (c.in-Accept.ensures.walk (spec.walk_from (length p.headers - (c.loop-k._k + 1)) p frame))
    ∙ sym (walk_from_more p frame c.loop-k._k c.loop-k.number was _ (omega arith) found) ∙ c.loop-k.invariant.rest
