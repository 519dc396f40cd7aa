use Rattle.std.proofs.Common.{◌≡◌, ◌∙◌, ◌+◌, ◌++◌, ◌∷◌, [], ℕ, List, Bool, sym, ap, arith, append_assoc, filter, eqb, cond, get_or, length}
use Rattle.std.specs.List.{flat_map, range_with_len}
use Rattle.std.proofs.lemmas.Bool.{eq-eqb, ne_eqb}
use Rattle.std.proofs.lemmas.List.{append-nil}
use Rattle.rmt_deps.proofs.EdgeLaws.{numbers_more}
use Rattle.rmt_place.proofs.order.order.Goals as goal
use Rattle.rmt_place.proofs.order.order.Goals.{then-other-level+in_ok-push, else-other-level}
use Rattle.rmt_bits.proofs.ListLaws.{filter-range_more}

pub loop-node-preserved : goal.loop-node-preserved
loop-node-preserved c =
    let n = c.loop-node.node in
    let level = c.loop-level.level in
    let front = filter (λ m. eqb (get_or c.args.levels.now m 0) level) (range_with_len 0 n) in
    let more = filter-range_more (λ m. eqb (get_or c.args.levels.now m 0) level) n in
    elim c.if-other-level.branch [
      | then-other-level+in_ok-push w ↦
          let test = eq-eqb (get_or c.args.levels.now n 0) level w.if-other-level.true in
          w.order-is ∙ (w.in_ok-push.ensures.ok ∙ (ap (λ (l : List ℕ). l ++ n ∷ []) c.loop-node.invariant ∙ (append_assoc c.loop-level.order front (n ∷ [])
          ∙ sym (ap (λ (l : List ℕ). c.loop-level.order ++ l) (more ∙ ap (λ (b : Bool). front ++ cond b (n ∷ []) []) test)))))
      | else-other-level w ↦
          let test = ne_eqb (get_or c.args.levels.now n 0) level w.if-other-level.false in
          w.order-is ∙ (c.loop-node.invariant
          ∙ sym (ap (λ (l : List ℕ). c.loop-level.order ++ l) (more ∙ (ap (λ (b : Bool). front ++ cond b (n ∷ []) []) test ∙ append-nil front))))
    ]

pub loop-level-preserved : goal.loop-level-preserved
loop-level-preserved c =
    let nodes : ℕ → List ℕ = λ (level : ℕ). filter (λ n. eqb (get_or c.args.levels.now n 0) level) (range_with_len 0 (length c.args.levels.now)) in
    let all : c.loop-node.node ≡ length c.args.levels.now = omega arith in
    let zero : 0 + c.loop-level.level ≡ c.loop-level.level = omega arith in
    c.loop-node.invariant
    ∙ (ap (λ (m : ℕ). c.loop-level.order ++ filter (λ n. eqb (get_or c.args.levels.now n 0) c.loop-level.level) (range_with_len 0 m)) all
    ∙ (ap (λ (xs : List ℕ). xs ++ nodes c.loop-level.level) c.loop-level.invariant
    ∙ sym (numbers_more nodes 0 c.loop-level.level ∙ ap (λ (m : ℕ). flat_map nodes (range_with_len 0 c.loop-level.level) ++ nodes m) zero)))
