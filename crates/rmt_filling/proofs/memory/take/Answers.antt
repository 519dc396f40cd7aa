use Rattle.std.proofs.Common.{◌++◌, ◌∷◌, [], ◌∙◌, sym, ap, arith}
use Rattle.std.specs.List.{range_with_len}
use Rattle.rmt_bits.proofs.ListLaws.{range_more}
use Rattle.rmt_filling.proofs.memory.take.Goals as goal

pub loop-block-preserved : goal.loop-block-preserved
loop-block-preserved c =
    let a = c.args.taken.now in
    let n = c.loop-block._block in
    record {
      blocks = c.in_ok-push.ensures.ok ∙ (ap (λ xs. xs ++ c.loop-block.taken ∷ []) c.loop-block.invariant.blocks
          ∙ (ap (λ x. range_with_len a n ++ x ∷ []) c.loop-block.invariant.taken ∙ sym (range_more a n)));
      taken = omega (arith, c.loop-block.invariant.taken);
    }
