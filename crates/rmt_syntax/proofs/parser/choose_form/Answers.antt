use Rattle.rmt_syntax.proofs.Words.{◌∙◌, sym, ap, refl, arith, choice_of, weight}
use Rattle.rmt_syntax.proofs.Choosing.{choose_stands, choose_lowers}
use Rattle.rmt_syntax.proofs.Faults.{fails_phrase}
use Rattle.rmt_syntax.proofs.BeforeLaws.{arrives, refused, at_phrase}
use Rattle.rmt_syntax.proofs.parser.choose_form.Goals as goal

pub returns-in-Some-clause-ok : goal.returns-in-Some-clause-ok
returns-in-Some-clause-ok c =
    let r = c.args.reader.now in
    let e = c.choose.ensures in
    let p = at_phrase r r.inner.then c.requires.next refl c.requires.stands in
    arrives c.choose.new.self (e.goals p.0 p.1) e.marks e.depth
    (choose_stands c.token_at-token.ensures
    (c.requires.name _ c.token_at-token.ensures) c.requires.then (ap (choice_of r.inner.then) (sym c.terminal_of.ensures) ∙ sym c.in-Some.ensures) p.2)

pub returns-in-Some-clause-lower : goal.returns-in-Some-clause-lower
returns-in-Some-clause-lower c =
    let r = c.args.reader.now in
    let p = at_phrase r r.inner.then c.requires.next refl c.requires.stands in
    omega (arith, ap weight (c.choose.ensures.goals p.0 p.1), ap weight p.1, choose_lowers r.inner.then c.terminal_of.result _ _ p.0 (sym c.in-Some.ensures) c.requires.then)

pub returns-in-None-clause-err : goal.returns-in-None-clause-err
returns-in-None-clause-err c =
    let r = c.args.reader.now in
    let p = at_phrase r r.inner.then c.requires.next refl c.requires.stands in
    refused c.token_at-token.ensures c.fault_at.ensures p.2
    (fails_phrase c.token_at-token.ensures
    (c.requires.name _ c.token_at-token.ensures) c.requires.then (ap (choice_of r.inner.then) (sym c.terminal_of.ensures) ∙ sym c.in-None.ensures) p.2)
