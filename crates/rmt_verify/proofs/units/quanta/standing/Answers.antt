use Rattle.std.proofs.Common.{◌≡◌, ℕ, Bool, ◌++◌, ◌∷◌, [], ◌∙◌, ap, sym, cond, filter, true, false, get_or, arith}
use Rattle.std.specs.Prelude.{nat_lt}
use Rattle.std.specs.List.{range_with_len}
use Rattle.std.proofs.lemmas.Bool.{le-ltb, lt-ltb}
use Rattle.std.proofs.lemmas.List.{append-nil}
use Rattle.rmt_bits.proofs.ListLaws.{filter-range_more}
use Rattle.rmt_verify.proofs.units.quanta.standing.Goals as goal
use Rattle.rmt_verify.proofs.units.quanta.standing.Goals.{then-quanta-node-gt0+in_ok-push, else-quanta-node-gt0}

pub loop-node-preserved : goal.loop-node-preserved
loop-node-preserved c =
    let n = c.loop-node.node in
    let test : ℕ → Bool = λ m. nat_lt 0 (get_or c.args.quanta.now m 0) in
    let so_far = filter test (range_with_len 0 n) in
    elim c.if-quanta-node-gt0.branch [
      | then-quanta-node-gt0+in_ok-push w ↦
          let yes : test n ≡ true = lt-ltb 0 (get_or c.args.quanta.now n 0) (omega (arith, w.if-quanta-node-gt0.true)) in
          rw w.nodes-is (w.in_ok-push.ensures.items ∙ ap (λ xs. xs ++ n ∷ []) c.loop-node.invariant ∙ sym (filter-range_more test n ∙ ap (λ b. so_far ++ cond b (n ∷ []) []) yes))
      | else-quanta-node-gt0 w ↦
          let none : test n ≡ false = le-ltb 0 (get_or c.args.quanta.now n 0) (omega (arith, w.if-quanta-node-gt0.false)) in
          rw w.nodes-is (c.loop-node.invariant ∙ sym (filter-range_more test n ∙ (ap (λ b. so_far ++ cond b (n ∷ []) []) none ∙ append-nil so_far)))
    ]
