use Rattle.std.proofs.Common.{◌≡◌, ℕ, ◌<◌, ◌≤◌, ◌++◌, ◌∷◌, [], ◌⊎◌, inl, inr, Bool, true, false, cond, List, length, map, sym, ap, subst, ◌∙◌, arith}
use Rattle.std.specs.Prelude.{All, Contains}
use Rattle.std.proofs.lemmas.List.{append-nil, get_or-map, length-map}
use Rattle.std.proofs.lemmas.List.Elements.{All-head}
use Rattle.rmt_bits.specs.Counts.{Hit, counts}
use Rattle.rmt_bits.specs.Counting.{with_count, zero_count}
use Rattle.rmt_bits.specs.declared.answer.Count.{Count}
use Rattle.rmt_bits.proofs.CountLaws.{with_count-there}
use Rattle.rmt_bits.proofs.OrderLaws.{counts-rise}
use Rattle.rmt_chip.proofs.CounterLaws.{counts-push}
use Rattle.rmt_chip.proofs.counters.bring.Goals as goal

-- the numbers that are brought
one_brought : (brought : List ℕ) (n : ℕ) (b t : Bool) → brought ≡ cond b (n ∷ []) [] → b ≡ t → brought ≡ cond t (n ∷ []) []
one_brought brought n b t is same = is ∙ ap (λ (x : Bool). cond x (n ∷ []) []) same

-- counters that have a number take it once more
have_it : (numbers : List ℕ) (hits : List Hit) (n : ℕ) → Contains (map (λ (count : Count). count.entry) (counts numbers hits)) n → counts numbers hits ≡ with_count n (counts numbers hits)
have_it numbers hits n there =
    let size = length-map (counts numbers hits) (λ (count : Count). count.entry) in
    let inside = there.1 in
    let lt : there.0 < length (counts numbers hits) = omega (arith, size, inside) in
    with_count-there (counts numbers hits) n there.0 (zero_count n) (counts-rise hits numbers) lt
    (sym (get_or-map (λ (count : Count). count.entry) (counts numbers hits) there.0 (zero_count n) n lt) ∙ there.2)

pub returns-then-spare-gt0-clause-counts : goal.returns-then-spare-gt0-clause-counts
returns-then-spare-gt0-clause-counts c = λ numbers hits were among.
    let n = c.args.write.now.number in
    let brought = one_brought _ n _ true c.brings.ensures c.if-brings.true in
    c.add.ensures.counts ∙ ap (with_count n) were ∙ counts-push numbers hits n among ∙ ap (λ (ns : List ℕ). counts (numbers ++ ns) hits) (sym brought)

pub returns-else-spare-gt0-clause-counts : goal.returns-else-spare-gt0-clause-counts
returns-else-spare-gt0-clause-counts c = λ numbers hits were among.
    let n = c.args.write.now.number in
    let brought = one_brought _ n _ true c.brings.ensures c.if-brings.true in
    let P : ℕ → Type 0 = λ m. Contains (map (λ (count : Count). count.entry) c.args.counters.now.counts) m ⊎ (1 ≤ c.args.counters.now.room) in
    let has : P n = All-head P n [] (subst (All P) brought c.requires.room) in
    were ∙ elim has [
      | inl there ↦ have_it numbers hits n (subst (λ (cs : List Count). Contains (map (λ (count : Count). count.entry) cs) n) were there) ∙ counts-push numbers hits n among
      | inr some ↦ absurd (let none = c.if-spare-gt0.false in let is = c.spare.ensures in omega arith)
    ] ∙ ap (λ (ns : List ℕ). counts (numbers ++ ns) hits) (sym brought)

pub returns-else-brings-clause-counts : goal.returns-else-brings-clause-counts
returns-else-brings-clause-counts c = λ numbers hits were among.
    let brought = one_brought _ c.args.write.now.number _ false c.brings.ensures c.if-brings.false in
    were ∙ ap (λ (ns : List ℕ). counts ns hits) (sym (ap (λ (ns : List ℕ). numbers ++ ns) brought ∙ append-nil numbers))
