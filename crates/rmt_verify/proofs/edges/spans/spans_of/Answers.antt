use Rattle.std.proofs.Common.{ap, get_or, length, refl, sym, ◌∙◌, arith}
use Rattle.std.proofs.lemmas.List.{length-set}
use Rattle.std.proofs.lemmas.Option.{get_or_from_slice_get, slice_get_read}
use Rattle.rmt_verify.specs.EdgeSpans.{no_span, widened}
use Rattle.rmt_verify.specs.Types.{Part}
use Rattle.rmt_verify.proofs.UnitLaws.{spans_more}
use Rattle.rmt_verify.proofs.edges.spans.spans_of.Goals as goal

abbrev none : Part
none = record { node = 0; stage = 0; quanta = 0 }

pub loop-part-preserved : goal.loop-part-preserved
loop-part-preserved c =
    let spans = c.loop-part.spans.items in
    let part = get_or c.args.parts.now c.loop-part.part-index none in
    let low = c.requires c.loop-part.part-index none c.loop-part-test.true in
    let all = c.loop-part.invariant.all in
    let there = slice_get_read spans (length spans) part.node c.index.result.now refl (omega (arith, low, all)) c.index.ensures in
    record {
      each =
          spans_more c.args.parts.now c.loop-part.part-index none spans c.widened.result c.loop-part-test.true (omega (arith, low, all)) (c.widened.ensures ∙ ap (λ o. widened o part.stage) (sym (get_or_from_slice_get spans part.node c.index.result.now no_span there)))
          c.loop-part.invariant.each;
      all = length-set spans _ c.widened.result ∙ all;
    }
