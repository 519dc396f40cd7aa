use Rattle.std.proofs.Common.{◌+◌, ◌<◌, length, arith}
use Rattle.std.proofs.lemmas.List.{get_or-map}
use Rattle.rmt_pack.specs.declared.tcam.TcamWord.{TcamWord}
use Rattle.rmt_filling.proofs.WordLaws.{words-step}
use Rattle.rmt_filling.proofs.words.put_words.Goals as goal

pub loop-at-preserved : goal.loop-at-preserved
loop-at-preserved c =
    let at = c.loop-at.at in
    let words = c.args.words.now in
    let there : c.args.first + at < length c.args.blocks.now = omega arith in
    record {
      values = words-step _ _ _ _ _ _ _ _ _ c.requires.apart there (get_or-map (λ (w : TcamWord). w.value) words at _ 0 c.loop-at-test.true) c.set_row.ensures.value c.set_row.ensures.other_values c.loop-at.invariant.values;
      masks = words-step _ _ _ _ _ _ _ _ _ c.requires.apart there (get_or-map (λ (w : TcamWord). w.mask) words at _ 0 c.loop-at-test.true) c.set_row.ensures.mask c.set_row.ensures.other_masks c.loop-at.invariant.masks;
    }
