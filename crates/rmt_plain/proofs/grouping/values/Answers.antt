use Rattle.std.proofs.Common.{ℕ, ◌++◌, ◌∷◌, List, [], get_or, sym, ap, ◌∙◌}
use Rattle.std.proofs.lemmas.List.{map_more, take_all}
use Rattle.rmt_ast.specs.declared.program.Test.{Test}
use Rattle.rmt_plain.specs.Grouping.{values_of}
use Rattle.rmt_plain.proofs.grouping.values.Goals as goal

abbrev none : Test
none = record { value = 0; mask = 0 }

pub loop-test-init : goal.loop-test-init
loop-test-init c = c.in_ok-values.ensures.items

pub loop-test-preserved : goal.loop-test-preserved
loop-test-preserved c =
    c.in_ok-push.ensures.items ∙ ap (λ (ns : List ℕ). ns ++ (get_or c.args.tests.now c.loop-test.test-index none).value ∷ []) c.loop-test.invariant
    ∙ sym (map_more (λ (t : Test). t.value) c.args.tests.now c.loop-test.test-index none c.loop-test-test.true)

pub returns : goal.returns
returns c = c.loop-test.invariant ∙ ap values_of (take_all c.loop-test.test-index c.args.tests.now c.loop-test-test.false)
