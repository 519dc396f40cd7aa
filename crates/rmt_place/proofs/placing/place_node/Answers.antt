use Rattle.std.proofs.Common.{◌≡◌, ◌≤◌, ◌∙◌, List, sym, subst, arith}
use Rattle.std.proofs.lemmas.List.{get_or_default}
use Rattle.rmt_place.specs.declared.load.Load.{Load}
use Rattle.rmt_place.specs.Needs.{demand_at}
use Rattle.rmt_place.specs.Placing.{hits_from, spread, stages_from, TellWhy}
use Rattle.rmt_place.specs.Steps.{HoldStages}
use Rattle.rmt_place.proofs.HitLaws.{hits_why}
use Rattle.rmt_place.proofs.placing.place_node.Goals as goal

pub returns-clause-hits : goal.returns-clause-hits
returns-clause-hits c =
    let demands = c.args.demands.now in
    let parts = c.args.stages.now.parts.items in
    let n = c.args.node in
    let earliest = c.earliest_stage-earliest.result in
    let left : c.in_ok-left.left ≡ (spread demands parts n (stages_from earliest) (demand_at demands n).quanta).left = c.in_ok-left.ensures.left in
    let some : 1 ≤ (spread demands parts n (stages_from earliest) (demand_at demands n).quanta).left = omega (arith, left, c.if-left-eq0.false) in
    let holds : HoldStages demands parts c.as_slice-3.result.now =
    subst (λ (l : List Load). HoldStages demands parts l) (sym (c.as_slice-3.ensures.value ∙ (c.in_ok-before.ensures.items ∙ c.as_slice-2.ensures.value))) c.requires.stands.loads in
    let d : demand_at demands n ≡ c.index-demands-node.result = sym (c.index-demands-node.is ∙ get_or_default demands n _ _ c.requires.node) in
    let is : c.in_ok-hits.field-0 ≡ hits_from demands parts n earliest = c.in_ok-hits.ensures demands parts n holds d in
    subst TellWhy (sym is) (hits_why demands parts n earliest some)
