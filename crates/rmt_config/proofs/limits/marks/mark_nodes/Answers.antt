use Rattle.std.proofs.Common.{ℕ, List, [], ◌∷◌, ◌++◌, take, map, subst, ap, ◌∙◌, arith}
use Rattle.rmt_config.specs.TableForm.{node_of}
use Rattle.rmt_config.specs.LimitSteps.{Marks}
use Rattle.rmt_config.proofs.LimitLemmas.{front_more, marks_of_all}
use Rattle.rmt_config.proofs.limits.marks.mark_nodes.Goals as goal

pub loop-unit-preserved : goal.loop-unit-preserved
loop-unit-preserved c = λ ns m.
    let i = c.loop-unit.unit-index in
    let units = c.args.units.now in
    subst (λ (l : List ℕ). Marks l c.mark.new.marks)
    (ap (λ (n : ℕ). (ns ++ map node_of (take i units)) ++ (n ∷ [])) (c.node_number.ensures ∙ ap node_of c.unit-item.is)
    ∙ front_more node_of ns units i c.unit-item.result c.loop-unit-test.true)
    (c.mark.ensures (ns ++ map node_of (take i units)) (c.loop-unit.invariant ns m))

pub returns : goal.returns
returns c = λ ns m. marks_of_all node_of ns c.args.units.now c.loop-unit.unit-index c.loop-unit.marks (omega arith) (c.loop-unit.invariant ns m)
