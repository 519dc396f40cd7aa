use Rattle.std.proofs.Common.{◌≡◌, ℕ, ◌+◌, ◌∷◌, ◌++◌, [], List, ap, sym, ◌∙◌, arith}
use Rattle.std.specs.List.{range_with_len}
use Rattle.rmt_bits.proofs.ListLaws.{range_more}
use Rattle.rmt_cells.proofs.links.in_a_row.Goals as goal

pub loop-cell-preserved : goal.loop-cell-preserved
loop-cell-preserved c =
    let cell = c.loop-cell.cell in
    let next : cell + 1 ≡ 1 + cell = omega arith in
    c.in_ok-push.ensures.items ∙ ap (λ (row : List ℕ). row ++ (cell + 1) ∷ []) c.loop-cell.invariant
    ∙ ap (λ (last : ℕ). range_with_len 1 cell ++ last ∷ []) next ∙ sym (range_more 1 cell)
