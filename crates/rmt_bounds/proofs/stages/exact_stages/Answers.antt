use Rattle.std.proofs.Common.{◌≡◌, ℕ, ◌-◌, List, Option, map, filter, ap, ◌∙◌, arith, unwrap_or}
use Rattle.std.specs.List.{flat_map, range_with_len}
use Rattle.rmt_pack.specs.declared.format.Format.{Format}
use Rattle.rmt_pack.specs.Formats.{is_in_stage, layouts_of_width}
use Rattle.rmt_pack.proofs.FormatLaws.{narrower_more, seen_before, seen_more}
use Rattle.rmt_bounds.specs.Bounds.{least_of, stages_for}
use Rattle.rmt_bounds.proofs.stages.exact_stages.Goals as goal

pub loop-per-preserved : goal.loop-per-preserved
loop-per-preserved c =
    let k = c.loop-width.width in
    let per = c.loop-per.per in
    record {
      value =
          c.with_stages-least.ensures.value (seen_before c.args.need k per) c.loop-per.invariant.value
          ∙ ap (λ (fs : List Format). least_of (map stages_for (filter is_in_stage fs))) (seen_more c.args.need k per _ (omega arith) c.exact_layout.ensures);
      small = c.with_stages-least.ensures.small c.loop-per.invariant.small;
    }

pub loop-width-preserved : goal.loop-width-preserved
loop-width-preserved c = record {
  value =
      c.loop-per.invariant.value
      ∙ ap (λ (fs : List Format). least_of (map stages_for (filter is_in_stage fs)))
      (narrower_more c.args.need c.loop-width.width (c.loop-per.per - 1) (omega arith) (omega (arith, c.most_cells-per-end.ensures.value)));
  small = c.loop-per.invariant.small;
}

pub returns-clause-value : goal.returns-clause-value
returns-clause-value c =
    let all : c.loop-width.width - 1 ≡ 8 = omega arith in
    c.unwrap_or.ensures
    ∙ ap (λ (o : Option ℕ). unwrap_or o 1)
    (c.loop-width.invariant.value ∙ ap (λ (m : ℕ). least_of (map stages_for (filter is_in_stage (flat_map (layouts_of_width c.args.need) (range_with_len 1 m))))) all)
