use Rattle.std.proofs.Common.{ap, ◌∙◌, max, length, drop, ◌+◌}
use Rattle.std.specs.List.{fold, flat_map}
use Rattle.rmt_place.specs.Starting.{asked_by}
use Rattle.rmt_place.proofs.StartLaws.{edge_passed}
use Rattle.rmt_place.proofs.start.asked_by_all.Goals as goal

pub loop-edge-preserved : goal.loop-edge-preserved
loop-edge-preserved c = record {
  value = λ parts m.
      let asked = asked_by c.args.starts.now parts (length c.args.starts.now) in
      ap (λ s. fold max s (flat_map asked (drop (c.loop-edge.edge-index + 1) c.args.edges.now))) (c.asked_by_one-latest.ensures.value parts m)
      ∙ (edge_passed asked c.args.edges.now c.loop-edge.edge-index c.loop-edge.latest _ c.loop-edge-test.true ∙ c.loop-edge.invariant.value parts m);
  early = c.asked_by_one-latest.ensures.early;
}
