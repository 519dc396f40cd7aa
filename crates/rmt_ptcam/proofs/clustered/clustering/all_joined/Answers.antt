use Rattle.std.proofs.Common.{◌≡◌, ◌-◌, ap, arith, suc, sym, ◌∙◌}
use Rattle.rmt_ptcam.specs.Clustering.{Clustering, some_headers}
use Rattle.rmt_ptcam.specs.Grouping.{parser_in}
use Rattle.rmt_ptcam.proofs.clustered.clustering.all_joined.Goals as goal

pub loop-left-preserved : goal.loop-left-preserved
loop-left-preserved c =
    let left = c.loop-left.left in
    let so_far = c.loop-left.invariant.so_far in
    let now : Clustering = record { parser = parser_in c.loop-left.groups; joins = c.loop-left.joins; behind = so_far.0 } in
    let one : left ≡ suc (left - 1) = let lt = c.loop-left-test.true in omega (arith, lt) in
    record {
      so_far = (
        c.in_ok-one_header.field-0,
        ap (some_headers c.args.program.now (left - 1)) c.in_ok-one_header.ensures.step ∙ sym (ap (λ k. some_headers c.args.program.now k now) one) ∙ so_far.1,
      );
      stand = c.in_ok-one_header.ensures.stand;
      few = let few = c.loop-left.invariant.few in omega (arith, few);
    }
