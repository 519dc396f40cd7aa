use Rattle.std.proofs.Common.{◌≡◌, ℕ, List, ◌++◌, map, subst, ap, sym, ◌∙◌}
use Rattle.rmt_config.specs.Types.{GateTest}
use Rattle.rmt_config.specs.Resources.{words_of, ternary_words, key_words_if_ternary}
use Rattle.rmt_config.specs.LimitSteps.{Marks}
use Rattle.rmt_config.proofs.limits.marks.mark_ternary.Goals as goal

pub returns-in-Gate : goal.returns-in-Gate
returns-in-Gate c = λ ns m.
    let words : map (λ (test : GateTest). test.lane.word) c.as_slice.result.now ≡ ternary_words c.args.unit.now =
    ap (map (λ (test : GateTest). test.lane.word)) c.as_slice.ensures ∙ sym (ap ternary_words c.in-Gate.is) in
    subst (λ (l : List ℕ). Marks (ns ++ l) c.mark_tests.new.marks) words (c.mark_tests.ensures ns m)

pub returns-in-Ternary : goal.returns-in-Ternary
returns-in-Ternary c = λ ns m.
    let slot = c.in-Slot.slot in
    let words : words_of c.as_slice-in-Ternary.result.now ≡ ternary_words c.args.unit.now =
    ap words_of c.as_slice-in-Ternary.ensures ∙ sym (ap (key_words_if_ternary slot.keys) c.in-Ternary.is) ∙ sym (ap ternary_words c.in-Slot.is) in
    subst (λ (l : List ℕ). Marks (ns ++ l) c.mark_lanes.new.marks) words (c.mark_lanes.ensures ns m)
