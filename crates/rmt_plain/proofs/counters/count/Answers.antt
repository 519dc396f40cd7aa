use Rattle.std.proofs.Common.{◌++◌, ◌∷◌, [], ℕ, List, take, get_or, append_assoc, append-nil, sym, ap, ◌∙◌, arith}
use Rattle.std.proofs.lemmas.List.{map_more}
use Rattle.rmt_bits.specs.Counts.{Hit, counts, hits_by}
use Rattle.rmt_plain.proofs.counters.count.Goals as goal

pub loop-number-init : goal.loop-number-init
loop-number-init c = λ numbers before were. were ∙ ap (counts numbers) (sym (append-nil before))

pub loop-number-preserved : goal.loop-number-preserved
loop-number-preserved c = λ numbers before were.
    let b = c.args.bytes in
    let i = c.loop-number.number-index in
    let hits = c.args.hits.now in
    let so_far = before ++ hits_by b (take i hits) in
    let hit : ℕ → Hit = λ n. record { number = n; bytes = b } in
    c.hit.ensures.counts numbers so_far (c.loop-number.invariant numbers before were)
    ∙ ap (counts numbers) (append_assoc before (hits_by b (take i hits)) (hit (get_or hits i 0) ∷ []) ∙ ap (λ (hs : List Hit). before ++ hs) (sym (map_more hit hits i 0 (omega arith))))
