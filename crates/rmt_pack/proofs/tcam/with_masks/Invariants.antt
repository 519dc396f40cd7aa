use Rattle.std.proofs.Common.{◌≡◌, map, take}
use Rattle.rmt_pack.specs.declared.tcam.TcamWord.{TcamWord}
use Rattle.rmt_pack.proofs.tcam.with_masks.Given as goal

-- the words so far
abbrev pub invariant-loop-at : goal.invariant-loop-at
invariant-loop-at l = record {
  values : map (λ (w : TcamWord). w.value) l.row ≡ take l.at l.values;
  masks : map (λ (w : TcamWord). w.mask) l.row ≡ take l.at l.masks;
}
