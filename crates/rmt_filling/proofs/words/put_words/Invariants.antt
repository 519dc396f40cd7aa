use Rattle.std.proofs.Common.{map}
use Rattle.rmt_pack.specs.declared.tcam.TcamWord.{TcamWord}
use Rattle.rmt_filling.specs.Listing.{values_of, masks_of}
use Rattle.rmt_filling.specs.Words.{WordsSo}
use Rattle.rmt_filling.proofs.words.put_words.Given as goal

-- the words so far
abbrev pub invariant-loop-at : goal.invariant-loop-at
invariant-loop-at l = record {
  values : WordsSo (values_of l.fn.tcam) (values_of l.tcam) l.row l.blocks l.first l.at (map (λ (w : TcamWord). w.value) l.words);
  masks : WordsSo (masks_of l.fn.tcam) (masks_of l.tcam) l.row l.blocks l.first l.at (map (λ (w : TcamWord). w.mask) l.words);
}
