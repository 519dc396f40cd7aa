use Rattle.std.proofs.Common.{◌+◌, ap, get_or, length, min, refl, sym, ◌∙◌, arith}
use Rattle.std.proofs.lemmas.List.{length-set}
use Rattle.std.proofs.lemmas.Option.{get_or_from_slice_get, slice_get_read}
use Rattle.rmt_verify.specs.Types.{Part}
use Rattle.rmt_verify.proofs.UnitLaws.{quanta_more}
use Rattle.rmt_verify.proofs.units.quanta.quanta_at.Goals as goal

abbrev none : Part
none = record { node = 0; stage = 0; quanta = 0 }

pub loop-part-preserved : goal.loop-part-preserved
loop-part-preserved c =
    let quanta = c.loop-part.quanta.items in
    let more = c.quanta_in_stage.result in
    let low = c.requires c.loop-part.part-index none c.loop-part-test.true in
    let all = c.loop-part.invariant.all in
    let node = (get_or c.args.parts.now c.loop-part.part-index none).node in
    let there = slice_get_read quanta (length quanta) node c.index.result.now refl (omega (arith, low, all)) c.index.ensures in
    record {
      each =
          quanta_more c.args.parts.now c.loop-part.part-index none c.args.stage quanta more c.saturating_add.result c.loop-part-test.true (omega (arith, low, all)) c.quanta_in_stage.ensures
          (c.saturating_add.ensures ∙ ap (λ k. min (k + more) 4294967295) (sym (get_or_from_slice_get quanta node c.index.result.now 0 there))) c.loop-part.invariant.each;
      all = length-set quanta _ c.saturating_add.result ∙ all;
    }
