use Rattle.std.proofs.Common.{arith, ◌≡◌, ◌≤◌, ◌*◌, ◌∙◌, sym, ap, subst, List, Bool, ℕ, length, get_or, length-append, [], ◌∷◌, ◌++◌}
use Rattle.rmt_deps.specs.Levels.{all_edges}
use Rattle.rmt_pack.specs.declared.placement.Part.{Part}
use Rattle.rmt_pack.specs.Starts.{KeepDistances}
use Rattle.rmt_place.specs.Starting.{next_start, stages_in, starts_of}
use Rattle.rmt_place.specs.Steps.{Marked, AreEarly}
use Rattle.rmt_place.proofs.StartLaws.{starts_more, starts_until, early_more}
use Rattle.rmt_place.proofs.LeastLaws.{length-until, starts_kept, starts_least}
use Rattle.rmt_place.proofs.start.offsets.Goals as goal

pub loop-stage-preserved : goal.loop-stage-preserved
loop-stage-preserved c =
    let items : c.push.new.self.items ≡ c.loop-stage.starts.items ++ c.next_start-start.result ∷ [] = c.in_ok-push.ensures.items in
    let marks : Marked c.args.placement.now.parts c.as_slice-in-loop-stage.result.now =
    subst (λ (ms : List Bool). Marked c.args.placement.now.parts ms) (sym c.as_slice-in-loop-stage.ensures.value)
    (subst (λ (xs : List Part). Marked xs c.in_ok-marks.marks.items) c.as_slice-parts.ensures c.in_ok-marks.ensures) in
    let start : c.next_start-start.result ≡ next_start (all_edges c.args.deps.now) c.args.placement.now.parts c.loop-stage.starts.items =
    c.next_start-start.ensures.value c.args.placement.now.parts marks
    ∙ ap (next_start (all_edges c.args.deps.now) c.args.placement.now.parts) c.as_slice.ensures.value in
    let below : c.next_start-start.result ≤ 12 * length c.loop-stage.starts.items = omega (arith, c.next_start-start.ensures.early, c.as_slice.ensures.len) in
    record {
      value = items ∙ starts_more (all_edges c.args.deps.now) c.args.placement.now.parts c.loop-stage._stage c.next_start-start.result c.loop-stage.starts.items c.loop-stage.invariant.value start;
      count = omega (arith, ap length items, length-append c.loop-stage.starts.items (c.next_start-start.result ∷ []), c.loop-stage.invariant.count);
      early = subst AreEarly (sym items) (early_more c.loop-stage.starts.items c.next_start-start.result c.loop-stage.invariant.early below);
    }

pub returns-clause-kept : goal.returns-clause-kept
returns-clause-kept c =
    let edges = all_edges c.args.deps.now in
    let parts = c.args.placement.now.parts in
    let end : c.loop-stage._stage ≡ c.count_stages-stage-end.result = omega arith in
    let all : c.loop-stage._stage ≡ stages_in parts = end ∙ (c.count_stages-stage-end.ensures.value ∙ ap stages_in c.as_slice-parts.ensures) in
    let is : c.from_vec.result ≡ starts_of edges parts = c.from_vec.ensures ∙ (c.loop-stage.invariant.value ∙ ap (starts_until edges parts) all) in
    subst (KeepDistances edges parts) (sym is) (starts_kept edges parts)

pub returns-clause-least : goal.returns-clause-least
returns-clause-least c = λ others keep enough k lt.
    let edges = all_edges c.args.deps.now in
    let parts = c.args.placement.now.parts in
    let end : c.loop-stage._stage ≡ c.count_stages-stage-end.result = omega arith in
    let all : c.loop-stage._stage ≡ stages_in parts = end ∙ (c.count_stages-stage-end.ensures.value ∙ ap stages_in c.as_slice-parts.ensures) in
    let is : c.from_vec.result ≡ starts_of edges parts = c.from_vec.ensures ∙ (c.loop-stage.invariant.value ∙ ap (starts_until edges parts) all) in
    let size : length c.from_vec.result ≡ stages_in parts = ap length is ∙ length-until edges parts (stages_in parts) in
    let same : get_or c.from_vec.result k 0 ≡ get_or (starts_of edges parts) k 0 = ap (λ (l : List ℕ). get_or l k 0) is in
    omega (arith, same, starts_least edges parts others keep (omega (arith, size, enough)) k (omega (arith, size, lt)))
