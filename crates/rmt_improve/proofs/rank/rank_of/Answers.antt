use Rattle.std.proofs.Common.{◌∙◌, ℕ, List, length, ap}
use Rattle.rmt_config.specs.Resources.{greatest_by}
use Rattle.rmt_deps.specs.Levels.{all_edges}
use Rattle.rmt_place.specs.Starting.{stages_in}
use Rattle.rmt_place.proofs.LeastLaws.{length-until}
use Rattle.rmt_improve.proofs.rank.rank_of.Goals as goal

pub returns : goal.returns
returns c =
    let edges = all_edges c.args.deps.now in
    let parts = c.args.placement.now.parts in
    record {
      stages = c.len.ensures ∙ (ap length c.in_ok-starts.ensures.starts ∙ length-until edges parts (stages_in parts));
      start = c.greatest.ensures ∙ ap (λ (starts : List ℕ). greatest_by (λ start. start) starts) (c.as_slice.ensures ∙ c.in_ok-starts.ensures.starts);
    }
