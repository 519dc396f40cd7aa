use Rattle.rmt_syntax.proofs.Words.{◌≡◌, ◌∙◌, sym, ap, ◌∷◌, [], ◌++◌, Token, leaf, One, goals_of, marks_of}
use Rattle.rmt_syntax.proofs.Faults.{fails_one}
use Rattle.rmt_syntax.proofs.Machine.{take_stands}
use Rattle.rmt_syntax.proofs.BeforeLaws.{ends_at, arrives_next, refused, at_part}
use Rattle.rmt_syntax.proofs.parser.take_part.Goals as goal

pub returns-then-not-is_kind-clause-err : goal.returns-then-not-is_kind-clause-err
returns-then-not-is_kind-clause-err c =
    let p = at_part c.args.reader.now (One c.args.wanted) c.requires.next c.requires.stands in
    refused c.token_at-token.ensures c.fault_at.ensures p.2
    (fails_one c.token_at-token.ensures (c.is_kind.ensures.no c.if-not-is_kind.true) p.2)

pub returns-clause-ok : goal.returns-clause-ok
returns-clause-ok c =
    let e = c.in_ok-take.ensures in
    let p = at_part c.args.reader.now (One c.args.wanted) c.requires.next c.requires.stands in
    let same : goals_of c.take.new.self ≡ p.0 = cc (sym (e.goals (One c.args.wanted) c.requires.next) ∙ p.1) in
    arrives_next c.take.new.self same (e.marks ∙ ap (λ (v : Token). marks_of c.args.reader.now ++ leaf v ∷ []) c.in_ok-copy.ensures.token) e.depth
    (take_stands c.token_at-token.ensures (ends_at _ _ _ c.requires.ends c.token_at-token.ensures) (c.is_kind.ensures.yes c.if-not-is_kind.false) p.2)
