use Rattle.std.proofs.Common.{◌∙◌, ◌≡◌, List, ℕ, sym, subst}
use Rattle.rmt_switch.specs.GroupText.{all_ports, numbers_of, words}
use Rattle.rmt_switch.specs.LinesSoFar.{behind}
use Rattle.rmt_switch.proofs.GroupLaws.{number_more, number_none}
use Rattle.rmt_switch.proofs.numbers.numbers_of.Goals as goal

pub returns-in_default : goal.returns-in_default
returns-in_default c =
    sym (number_none c.loop-rest.numbers _ c.loop-rest.rest.now c.cut.result.0.now c.cut.result.1.now c.loop-rest.invariant c.cut.ensures.front c.cut.ensures.back
    (sym c.is_empty-in-loop-rest.ensures ∙ c.if-not-is_empty.true) (sym c.port_of.ensures ∙ c.in_default.is))

pub loop-rest-preserved-in_ok-push : goal.loop-rest-preserved-in_ok-push
loop-rest-preserved-in_ok-push c =
    subst (λ (ns : List ℕ). numbers_of c.args.line.now ≡ behind ns (all_ports (words c.cut.result.1.now))) (sym c.in_ok-push.ensures.ok)
    (number_more c.loop-rest.numbers _ c.loop-rest.rest.now c.cut.result.0.now c.cut.result.1.now c.loop-rest.invariant c.cut.ensures.front c.cut.ensures.back
    c.in-Some.number (sym c.is_empty-in-loop-rest.ensures ∙ c.if-not-is_empty.true) (sym c.port_of.ensures ∙ c.in-Some.is))
