use Rattle.std.proofs.Common.{◌≡◌, ◌∙◌, ◌++◌, ◌+◌, ◌-◌, List, sym, ap, arith, append_assoc}
use Rattle.std.specs.List.{range_with_len}
use Rattle.rmt_pack.specs.declared.placement.Part.{Part}
use Rattle.rmt_place.specs.Needs.{Standing, demand_at}
use Rattle.rmt_place.specs.Placing.{fitting, Spread, spread, standing_in, taken_part}
use Rattle.rmt_place.proofs.StageLaws.{spread_step, taken_elsewhere}
use Rattle.rmt_place.proofs.stages.Stages.spread.Goals as goal

pub loop-stage-preserved : goal.loop-stage-preserved
loop-stage-preserved c =
    let demands = c.args.demands.now in
    let first = c.args.self.now.parts.items in
    let own = c.loop-stage.self.parts.items in
    let node = c.args.node in
    let k = c.loop-stage.stage in
    let left = c.loop-stage.left in
    let taken = c.in_ok-taken.taken in
    let d = demand_at demands node in
    let is : taken ≡ fitting (standing_in demands first k) d left =
    c.in_ok-taken.ensures.taken ∙ ap (λ (xs : List Standing). fitting xs d left) (c.loop-stage.invariant.apart k (omega arith)) in
    let step = spread_step demands first node k left taken c.loop-stage-test.true is in
    let rest = spread demands first node (range_with_len (k + 1) (32 - (k + 1))) (left - taken) in
    let parts : c.take.new.self.parts.items ≡ own ++ taken_part node k taken = c.in_ok-taken.ensures.parts in
    record {
      stands = c.in_ok-taken.ensures.stands;
      apart = λ j le.
          ap (λ (l : List Part). standing_in demands l j) parts
          ∙ (taken_elsewhere demands own node k taken j (λ same. omega arith) ∙ c.loop-stage.invariant.apart j (omega arith));
      parts = ap (λ (l : List Part). l ++ rest.parts) parts
          ∙ (append_assoc own (taken_part node k taken) rest.parts
          ∙ (sym (ap (λ (s : Spread). own ++ s.parts) step) ∙ c.loop-stage.invariant.parts));
      left = sym (ap (λ (s : Spread). s.left) step) ∙ c.loop-stage.invariant.left;
    }
