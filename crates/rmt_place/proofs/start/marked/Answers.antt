use Rattle.std.proofs.Common.{List, take, ◌∙◌, sym, subst}
use Rattle.rmt_pack.specs.declared.placement.Part.{Part}
use Rattle.rmt_place.specs.Steps.{Marked}
use Rattle.std.proofs.lemmas.List.{take_more}
use Rattle.rmt_place.proofs.start.marked.Goals as goal

pub loop-part-preserved : goal.loop-part-preserved
loop-part-preserved c = record {
  size = c.mark.ensures.size ∙ c.loop-part.invariant.size;
  marks = subst (λ (xs : List Part). Marked xs c.mark.new.marks.items) (sym (take_more c.args.parts.now c.loop-part.part-index _ c.loop-part-test.true))
      (c.mark.ensures.marks (take c.loop-part.part-index c.args.parts.now) c.loop-part.invariant.marks);
}
