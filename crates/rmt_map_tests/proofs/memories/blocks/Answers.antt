use Rattle.std.proofs.Common.{◌≡◌, ℕ, ◌+◌, ◌-◌, ◌≤◌, List, [], ◌∷◌, ◌++◌, sym, ap, ◌∙◌, arith}
use Rattle.std.specs.List.{range_with_len}
use Rattle.rmt_bits.proofs.ListLaws.{range_more}
use Rattle.rmt_map_tests.proofs.memories.blocks.Goals as goal

one_more : (first block : ℕ) (xs : List ℕ) → first ≤ block → xs ≡ range_with_len first (block - first) → xs ++ block ∷ [] ≡ range_with_len first (block + 1 - first)
one_more first block xs le e =
    let at : first + (block - first) ≡ block = omega arith in
    let long : block - first + 1 ≡ block + 1 - first = omega arith in
    ap (λ (ys : List ℕ). ys ++ block ∷ []) e ∙ ap (λ n. range_with_len first (block - first) ++ n ∷ []) (sym at) ∙ sym (range_more first (block - first)) ∙ ap (range_with_len first) long

pub loop-block-preserved : goal.loop-block-preserved
loop-block-preserved c = c.in_ok-push.ensures.items ∙ one_more c.args.first c.loop-block.block c.loop-block.list.items (omega arith) c.loop-block.invariant
