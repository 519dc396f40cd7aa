use Rattle.std.proofs.Common.{◌≡◌, ◌+◌, ◌∷◌, ◌++◌, [], ℕ, List, length, ap, sym, ◌∙◌, arith}
use Rattle.std.specs.List.{range_with_len}
use Rattle.std.proofs.lemmas.List.FromFn.{length-range_with_len}
use Rattle.rmt_bits.proofs.ListLaws.{range_more}
use Rattle.rmt_queues.proofs.stored.all_spare.Goals as goal

pub push_reserved-requires : goal.push_reserved-requires
push_reserved-requires c =
    let l = c.loop-index in
    let size = ap length l.invariant.numbers ∙ length-range_with_len 0 l.index in
    let ok = l.spare.ok.0 in
    omega (arith, size, ok, l.invariant.room)

pub loop-index-preserved : goal.loop-index-preserved
loop-index-preserved c =
    let l = c.loop-index in
    let next : l.index ≡ 0 + l.index = omega arith in
    record {
      numbers = c.push_reserved.ensures.items ∙ ap (λ (row : List ℕ). row ++ l.index ∷ []) l.invariant.numbers ∙ ap (λ (last : ℕ). range_with_len 0 l.index ++ last ∷ []) next ∙ sym (range_more 0 l.index);
      room = omega (arith, l.invariant.room, c.push_reserved.ensures.capacity);
    }
