use Rattle.std.proofs.Common.{◌≡◌, ℕ, ◌-◌, List, Option, filter, ap, ◌∙◌, arith, unwrap_or}
use Rattle.std.specs.List.{flat_map, range_with_len}
use Rattle.rmt_pack.specs.declared.format.Format.{Format}
use Rattle.rmt_pack.specs.Formats.{first_of, is_in_stage, layouts_of_width, no_memory}
use Rattle.rmt_pack.proofs.FormatLaws.{narrower_more, seen_before, seen_more}
use Rattle.rmt_pack.proofs.format.exact_format.Goals as goal

pub loop-per-preserved : goal.loop-per-preserved
loop-per-preserved c =
    let k = c.loop-width.width in
    let per = c.loop-per.per in
    c.with_format-best.ensures (seen_before c.args.need k per) c.loop-per.invariant
    ∙ ap (λ (fs : List Format). first_of (filter is_in_stage fs)) (seen_more c.args.need k per _ (omega arith) c.exact_layout.ensures)

pub loop-width-preserved : goal.loop-width-preserved
loop-width-preserved c =
    c.loop-per.invariant
    ∙ ap (λ (fs : List Format). first_of (filter is_in_stage fs))
    (narrower_more c.args.need c.loop-width.width (c.loop-per.per - 1) (omega arith) (omega (arith, c.most_cells-per-end.ensures.value)))

pub returns : goal.returns
returns c =
    let all : c.loop-width.width - 1 ≡ 8 = omega arith in
    c.unwrap_or.ensures
    ∙ (ap (λ (f : Format). unwrap_or c.loop-width.best f) c.without_memory.ensures
    ∙ ap (λ (o : Option Format). unwrap_or o no_memory)
    (c.loop-width.invariant ∙ ap (λ (m : ℕ). first_of (filter is_in_stage (flat_map (layouts_of_width c.args.need) (range_with_len 1 m)))) all))
