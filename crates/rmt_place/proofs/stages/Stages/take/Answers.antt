use Rattle.std.proofs.Common.{◌≡◌, ◌∙◌, ◌++◌, ◌∷◌, [], ◌<◌, ◌≤◌, ℕ, List, true, sym, ap, subst, arith, max, length, get_or, set}
use Rattle.std.proofs.lemmas.List.{get_or_default, length-set}
use Rattle.rmt_pack.specs.declared.placement.Part.{Part}
use Rattle.rmt_place.specs.declared.demand.Demand.{Demand}
use Rattle.rmt_place.specs.declared.load.Load.{Load}
use Rattle.rmt_place.specs.Needs.{demand_at, keeps_limits}
use Rattle.rmt_place.specs.Placing.{beside, fitting, standing_in}
use Rattle.rmt_place.specs.Steps.{Holds, HoldStages, AreLast}
use Rattle.rmt_place.proofs.LoadLaws.{with_one, beside_some, fitting_kept}
use Rattle.rmt_place.proofs.StageLaws.{loads_more, lasts_more}
use Rattle.rmt_place.proofs.stages.Stages.take.Goals as goal

pub returns-in_ok-push-clause-stands : goal.returns-in_ok-push-clause-stands
returns-in_ok-push-clause-stands c =
    let demands = c.args.demands.now in
    let parts = c.args.self.now.parts.items in
    let stage = c.args.stage in
    let taken = c.most_that_fit-quanta.result in
    let stands = c.requires.stands in
    let x : Part = record { node = c.args.node; stage = stage; quanta = taken } in
    let xs = standing_in demands parts stage in
    let d = demand_at demands c.args.node in
    let d_is : c.index-demands-node.result ≡ d = c.index-demands-node.is ∙ get_or_default demands c.args.node _ _ c.requires.node in
    let load : Holds xs c.index.result.now = subst (λ (l : Load). Holds xs l) (sym c.index.ensures) (stands.loads.holds stage c.index.result.now c.requires.stage) in
    let taken_is : taken ≡ fitting xs d c.args.left = c.most_that_fit-quanta.ensures.value xs load ∙ ap (λ (e : Demand). fitting xs e c.args.left) d_is in
    let some : 1 ≤ taken = omega arith in
    let fits : keeps_limits (beside xs d taken) ≡ true =
    subst (λ (t : ℕ). keeps_limits (beside xs d t) ≡ true) (sym taken_is) (fitting_kept xs d c.args.left (stands.loads.kept stage c.requires.stage)) in
    let kept : keeps_limits (with_one xs d taken) ≡ true = ap keeps_limits (sym (beside_some xs d taken some)) ∙ fits in
    let holds : Holds (with_one xs d taken) c.with_quanta.result = subst (λ (e : Demand). Holds (with_one xs e taken) c.with_quanta.result) d_is (c.with_quanta.ensures.holds xs load) in
    let items : c.push.new.self.items ≡ parts ++ x ∷ [] = c.in_ok-push.ensures.items in
    let in_last : c.args.node < length c.args.self.now.last.items = omega (arith, stands.nodes, c.requires.node) in
    let last : c.max.result ≡ max (get_or c.args.self.now.last.items c.args.node 0) stage =
    c.max.ensures ∙ ap (λ (m : ℕ). max m stage) (c.index-then-quanta-gt0.ensures ∙ get_or_default c.args.self.now.last.items c.args.node _ 0 in_last) in
    record {
      loads = subst (λ (l : List Part). HoldStages demands l (set c.args.self.now.loads.items stage c.with_quanta.result)) (sym items)
          (loads_more demands parts c.args.self.now.loads.items x c.with_quanta.result stands.loads c.requires.stage holds kept);
      last = subst (λ (l : List Part). AreLast l (set c.args.self.now.last.items c.args.node c.max.result)) (sym items)
          (lasts_more parts c.args.self.now.last.items x c.max.result stands.last in_last c.requires.stage last);
      nodes = length-set c.args.self.now.last.items c.args.node c.max.result ∙ stands.nodes;
    }
