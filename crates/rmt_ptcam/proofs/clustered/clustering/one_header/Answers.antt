use Rattle.std.proofs.Common.{◌≡◌, ◌+◌, ◌-◌, ap, arith, length, suc, sym, ◌∙◌}
use Rattle.rmt_ptcam.specs.Clustering.{Clustering, some_entries}
use Rattle.rmt_ptcam.specs.Grouping.{parser_in}
use Rattle.rmt_ptcam.specs.Joining.{entries_in}
use Rattle.rmt_ptcam.proofs.AddingLaws.{numbers_within}
use Rattle.rmt_ptcam.proofs.clustered.clustering.one_header.Goals as goal

pub loop-k-init : goal.loop-k-init
loop-k-init c =
    let start : Clustering = record { parser = parser_in c.args.groups.now; joins = c.args.joins.now; behind = 0 } in
    let count : c.count_rows-k-end.result - 0 ≡ length (entries_in c.args.number (parser_in c.args.groups.now).entries) = let e = c.count_rows-k-end.ensures in omega (arith, e) in
    record { so_far = ap (λ k. some_entries c.args.program.now c.args.number k start) count; stand = c.requires.stand; within = omega arith }

pub loop-k-preserved : goal.loop-k-preserved
loop-k-preserved c =
    let now : Clustering = record { parser = parser_in c.loop-k.groups; joins = c.loop-k.joins; behind = c.loop-k.behind } in
    let end = c.count_rows-k-end.result in
    let k = c.loop-k._k in
    let one : end - k ≡ suc (end - (k + 1)) = let lt = c.loop-k-test.true in omega (arith, lt) in
    record {
      so_far =
          ap (some_entries c.args.program.now c.args.number (end - (k + 1))) c.in_ok-behind.ensures.step
          ∙ sym (ap (λ left. some_entries c.args.program.now c.args.number left now) one) ∙ c.loop-k.invariant.so_far;
      stand = c.in_ok-behind.ensures.stand;
      within = c.in_ok-behind.ensures.within;
    }

pub overflow_cast-join : goal.overflow_cast-join
overflow_cast-join c =
    let within = c.loop-k.invariant.within in
    let own = numbers_within c.args.number (parser_in c.loop-k.groups).entries in
    let few = c.loop-k.invariant.stand.keeps.few in
    omega (arith, within, own, few)
