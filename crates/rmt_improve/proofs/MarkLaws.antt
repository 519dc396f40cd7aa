-- The marks of nodes tell which may be taken next.
use Rattle.std.proofs.Math.Bool.{or-false, or-true}
use Rattle.std.proofs.Common.{◌≡◌, ℕ, ◌<◌, List, [], ◌∷◌, ◌++◌, length, get_or, set, filter, Bool, true, false, not, eqb, ◌&&◌, ◌||◌, inl, inr, sym, subst, ap, ◌∙◌, arith}
use Rattle.std.specs.List.{All, range_with_len}
use Rattle.std.proofs.lemmas.Bool.{cases_eq, eq-eqb, ne_eqb}
use Rattle.std.proofs.lemmas.List.{get_or-set_other, get_or-set_same, length-set}
use Rattle.std.proofs.lemmas.List.Folds.{list_any-append}
use Rattle.rmt_bits.proofs.AlikeLaws.{filter_alike, list_any_alike}
use Rattle.rmt_ast.specs.declared.deps.Edge.{Edge}
use Rattle.rmt_deps.specs.Edges.{GoesForward}
use Rattle.rmt_improve.specs.Orders.{is_blocked, may_be_next, next_nodes}
use Rattle.rmt_improve.specs.Steps.{AreTaken, is_free, is_held}
use Rattle.rmt_bits.proofs.AllLaws.{All-between}
use Rattle.rmt_bits.specs.Members.{is_among}

-- ---- which nodes are free

held_is : (edges : List Edge) (taken : List ℕ) (marks : List Bool) (n : ℕ) → AreTaken taken marks → All (GoesForward (length marks)) edges → is_held edges marks n ≡ is_blocked edges taken n
held_is edges taken marks n are forward =
    list_any_alike (λ (e : Edge). eqb e.to n && not (get_or marks e.from false)) (λ (e : Edge). eqb e.to n && not (is_among taken e.from)) edges
    (λ i d lt. (let goes = forward i d lt in
    let e = get_or edges i d in
    ap (λ b. eqb e.to n && not b) (are e.from (let later = goes.later in let below = goes.is_node in omega arith))))

pub free_is : (edges : List Edge) (taken : List ℕ) (marks held : List Bool) (nodes : ℕ) → AreTaken taken marks → length marks ≡ nodes → All (GoesForward nodes) edges
    → ((n : ℕ) → n < nodes → get_or held n false ≡ is_held edges marks n) → filter (is_free marks held) (range_with_len 0 nodes) ≡ next_nodes edges taken nodes
free_is edges taken marks held nodes are size forward holds =
    filter_alike (is_free marks held) (may_be_next edges taken) (range_with_len 0 nodes)
    (All-between (λ n. is_free marks held n ≡ may_be_next edges taken n) 0 nodes
    (λ n low high.
    (ap (λ b. not b && not (get_or held n false)) (are n (omega arith))
    ∙ ap (λ b. not (is_among taken n) && not b) (holds n (omega arith) ∙ held_is edges taken marks n are (subst (λ m. All (GoesForward m) edges) (sym size) forward)))))

-- ---- one more node is taken

pub taken_more : (taken : List ℕ) (marks : List Bool) (m : ℕ) → AreTaken taken marks → m < length marks → AreTaken (taken ++ m ∷ []) (set marks m true)
taken_more taken marks m are lt n inside =
    let size = length-set marks m true in
    let split = list_any-append (λ k. eqb k n) taken (m ∷ []) in
    elim (cases_eq m n) [
      | inl same ↦
          ap (λ k. get_or (set marks m true) k false) (sym same) ∙ get_or-set_same marks m true false lt
          ∙ sym (split ∙ (ap (λ b. is_among taken n || (b || false)) (eq-eqb m n same) ∙ or-true (is_among taken n)))
      | inr other ↦
          get_or-set_other marks m n true false (λ e. other (sym e)) ∙ are n (omega arith)
          ∙ sym (split ∙ (ap (λ b. is_among taken n || (b || false)) (ne_eqb m n other) ∙ or-false (is_among taken n)))
    ]
