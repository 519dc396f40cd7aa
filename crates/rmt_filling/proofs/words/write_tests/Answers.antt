use Rattle.std.proofs.Common.{◌≡◌, ◌+◌, ◌*◌, ◌/◌, ◌%◌, ◌≤◌, List, length, map, ◌∙◌, sym, ap, subst, arith}
use Rattle.std.specs.Prelude.{sum, All}
use Rattle.std.proofs.lemmas.List.{length-map}
use Rattle.rmt_config.specs.BlockCounts.{divided_up}
use Rattle.rmt_pack.specs.declared.tcam.TcamWord.{TcamWord}
use Rattle.rmt_filling.specs.Listing.{values_of, masks_of}
use Rattle.rmt_filling.specs.Words.{IsMaskedWord, WordsSo}
use Rattle.rmt_filling.proofs.WordLaws.{tests-masked, tests-row}
use Rattle.rmt_filling.proofs.words.write_tests.Goals as goal

pub put_words-requires : goal.put_words-requires
put_words-requires c =
    let row = c.in_ok-words.words in
    let told = c.in_ok-words.ensures in
    let long : length c.as_slice-words.result.now ≡ divided_up (sum c.args.widths.now) 40 =
    ap length c.as_slice-words.ensures ∙ sym (length-map row (λ (w : TcamWord). w.value)) ∙ told.values.count in
    record {
      blocks = c.requires.blocks;
      apart = c.requires.apart;
      room = subst (λ k. c.args.cell / 2048 * k + k ≤ length c.args.blocks.now) (sym long) c.requires.room;
      row = omega arith;
      words = subst (All IsMaskedWord) (sym c.as_slice-words.ensures) (tests-masked c.args.widths.now c.args.tests.now row c.requires.tests told.values told.masks);
    }

pub returns : goal.returns
returns c =
    let row = c.in_ok-words.words in
    let told = c.in_ok-words.ensures in
    let many = divided_up (sum c.args.widths.now) 40 in
    let long : length row ≡ divided_up (sum c.args.widths.now) 40 = sym (length-map row (λ (w : TcamWord). w.value)) ∙ told.values.count in
    record {
      values = tests-row (λ t. t.value) (λ w. w.value) (values_of c.args.tcam.now) (values_of c.put_words.new.tcam) c.args.cell many c.args.blocks.now c.args.widths.now c.args.tests.now row long
          c.requires.room told.value_row
          (subst (λ (ws : List TcamWord). WordsSo (values_of c.args.tcam.now) (values_of c.put_words.new.tcam) (c.args.cell % 2048) c.args.blocks.now (c.args.cell / 2048 * length ws) (length ws) (map (λ w. w.value) ws))
          c.as_slice-words.ensures c.put_words.ensures.values);
      masks = tests-row (λ t. t.mask) (λ w. w.mask) (masks_of c.args.tcam.now) (masks_of c.put_words.new.tcam) c.args.cell many c.args.blocks.now c.args.widths.now c.args.tests.now row long
          c.requires.room told.mask_row
          (subst (λ (ws : List TcamWord). WordsSo (masks_of c.args.tcam.now) (masks_of c.put_words.new.tcam) (c.args.cell % 2048) c.args.blocks.now (c.args.cell / 2048 * length ws) (length ws) (map (λ w. w.mask) ws))
          c.as_slice-words.ensures c.put_words.ensures.masks);
    }
