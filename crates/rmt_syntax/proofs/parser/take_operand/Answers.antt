use Rattle.rmt_syntax.proofs.Words.{◌≡◌, ◌∙◌, sym, ap, suc, ◌∷◌, [], ◌++◌, Some, arith, add-one, slice_get, Token, leaf, opens, marks_of, Whole}
use Rattle.rmt_syntax.proofs.Words.rule
use Rattle.rmt_syntax.proofs.Operands.{lone_stands, field_stands}
use Rattle.rmt_syntax.proofs.Machine.{room}
use Rattle.rmt_syntax.proofs.BeforeLaws.{ends_at, arrives_next, at_phrase}
use Rattle.rmt_syntax.proofs.parser.take_operand.Goals as goal

pub take_field-requires-clause-room : goal.take_field-requires-clause-room
take_field-requires-clause-room c = omega (arith, room c.requires.stands)

pub returns-in_ok-take_field-clause-ok : goal.returns-in_ok-take_field-clause-ok
returns-in_ok-take_field-clause-ok c =
    let here = c.token_at-token.ensures in
    let e = c.in_ok-take_field.ensures in
    let p = at_phrase c.args.reader.now (Whole rule.Leaf) c.requires.next c.requires.then c.requires.stands in
    let dot = c.is_dot.ensures.dot c.if-is_dot.true in
    let there : slice_get c.args.tokens.now (suc c.args.at) ≡ Some dot.0 = ap (slice_get c.args.tokens.now) (sym (add-one c.args.at)) ∙ dot.1 in
    arrives_next c.take_field.new.self (e.goals p.0 p.1) (e.marks ∙ ap (λ (v : Token). marks_of c.args.reader.now ++ opens rule.Field ∷ leaf v ∷ []) c.in_ok-name.ensures.token) e.depth
    (field_stands here (ends_at _ _ _ c.requires.ends here) (c.requires.name _ here) there dot.2 p.2)

pub returns-in_ok-take_name-clause-ok : goal.returns-in_ok-take_name-clause-ok
returns-in_ok-take_name-clause-ok c =
    let here = c.token_at-token.ensures in
    let e = c.in_ok-take_name.ensures in
    let p = at_phrase c.args.reader.now (Whole rule.Leaf) c.requires.next c.requires.then c.requires.stands in
    arrives_next c.take_name.new.self (e.goals p.0 p.1) (e.marks ∙ ap (λ (v : Token). marks_of c.args.reader.now ++ leaf v ∷ []) c.in_ok-name.ensures.token) e.depth
    (lone_stands here (ends_at _ _ _ c.requires.ends here) (c.requires.name _ here)
    (λ u k. c.is_dot.ensures.other c.if-is_dot.false u (ap (slice_get c.args.tokens.now) (add-one c.args.at) ∙ k)) p.2)
