use Rattle.std.proofs.Common.{◌≡◌, length, ap, sym, ◌∙◌, arith}
use Rattle.std.proofs.lemmas.Result.{IfOk-weaker}
use Rattle.rmt_ast.specs.Walk as walk
use Rattle.rmt_plain.specs.Walking.{reached_in}
use Rattle.rmt_plain.proofs.AnswerLaws.{accepted_answers}
use Rattle.rmt_plain.proofs.answer.answer.Goals as goal

pub walk-requires-clause-inside : goal.walk-requires-clause-inside
walk-requires-clause-inside c =
    let first : c.in_ok-reached.reached.at ≡ 0 = ap (λ (r : walk.Reached). r.at) (c.in_ok-reached.ensures c.args.frame.now) in
    omega arith

pub returns-in-Accept : goal.returns-in-Accept
returns-in-Accept c =
    let p = c.args.program.now in
    let frame = c.args.frame.now in
    let reached = reached_in frame c.walk.new.reached in
    let walked : walk.walk p c.args.port frame ≡ walk.Accept reached =
    sym (c.in-Accept.ensures.walk ∙ ap (walk.walk_from (length p.headers) p frame 0) (c.in_ok-reached.ensures frame)) in
    IfOk-weaker c.accepted.result _ _
    (λ a h lists program entries ready below.
    accepted_answers p lists c.args.lookups.now (record { port = c.args.port; frame = frame }) reached a c.requires program entries ready below walked (h program.fields))
    c.accepted.ensures
