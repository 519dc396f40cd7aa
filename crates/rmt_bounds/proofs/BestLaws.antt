-- The bests of nodes, and how far nodes reach by them.
use Rattle.std.proofs.Common.{◌≡◌, ℕ, zero, suc, ◌-◌, ◌<◌, ◌≤◌, List, [], ◌∷◌, ◌++◌, Bool, inl, inr, map, length, max, get_or, Option, unwrap_or, refl, ap, sym, ◌∙◌, subst, arith, length-append}
use Rattle.std.specs.Prelude.{All, Contains, fold, ◌==◌, slice_index, option_map, position, if◌then◌else◌}
use Rattle.std.proofs.lemmas.List.{get_or_append_left}
use Rattle.std.proofs.Math.Seq.{get_or-append_seam}
use Rattle.std.proofs.Math.Nat.{max-eq_left, max-eq_right}
use Rattle.std.proofs.lemmas.Bool.{eqb-true, eq-eqb, ne_eqb, cases_lt}
use Rattle.std.proofs.lemmas.List.Elements.{All-nil, All-cons, All-head, All-tail, All-map, All-from_get_or, Contains-get_or}
use Rattle.rmt_ast.specs.declared.deps.Edge.{Edge}
use Rattle.rmt_ast.specs.declared.program.Program.{Program}
use Rattle.rmt_ast.specs.WellFormed.{IsProgram}
use Rattle.rmt_pack.specs.declared.format.Format.{Format}
use Rattle.rmt_pack.specs.declared.placement.Part.{Part}
use Rattle.rmt_pack.specs.declared.placement.Placement.{Placement}
use Rattle.rmt_pack.specs.Placements.{IsLegal, IsLegalWith, stage_count}
use Rattle.rmt_pack.proofs.FormatLaws.{filtered, divided_up-least}
use Rattle.rmt_bits.proofs.MostLaws.{greatest-le as most-le}
use Rattle.rmt_bounds.specs.Bounds.{EdgesRise, node_stages, through, edges_into, best_of_node, bests, all_bests, greatest, node_before, chain_to, longest_chain, four_bounds, stage_bound, sram_sum, tcam_sum, table_count}
use Rattle.rmt_bounds.proofs.StageSums.{Reaches}
use Rattle.rmt_bounds.proofs.ChainLaws.{reaches_own, reaches_through, reaches-le, stages, sram-le, tcam-le, tables-le}

pub length-bests : (p : Program) (edges : List Edge) (n : ℕ) → length (bests p edges n) ≡ n
length-bests p edges zero = refl
length-bests p edges (suc n) =
    omega (arith, length-append (bests p edges n) (best_of_node p edges (bests p edges n) n ∷ []), length-bests p edges n)

-- ---- items of a list with one more

pub index-front : (xs ys : List ℕ) (k : ℕ) → k < length xs → slice_index (xs ++ ys) k ≡ slice_index xs k
index-front xs ys k below = get_or_append_left xs ys 0 k below

pub index-last : (xs : List ℕ) (x k : ℕ) → k ≡ length xs → slice_index (xs ++ x ∷ []) k ≡ x
index-last xs x k is = ap (λ (i : ℕ). slice_index (xs ++ x ∷ []) i) is ∙ get_or-append_seam xs x [] 0

-- ---- how far nodes reach

max_reaches : (parts : List Part) (n a : ℕ) (xs : List ℕ) → Reaches parts n a → All (Reaches parts n) xs → Reaches parts n (fold max a xs)
max_reaches parts n a [] first rest = first
max_reaches parts n a (x ∷ xs) first rest =
    max_reaches parts n (max a x) xs
    (elim (cases_lt a x) [
      | inl less ↦ (let is : max a x ≡ x = max-eq_right (omega arith) in subst (Reaches parts n) (sym is) (All-head (Reaches parts n) x xs rest))
      | inr more ↦ (let is : max a x ≡ a = max-eq_left more in subst (Reaches parts n) (sym is) first)
    ])
    (All-tail (Reaches parts n) x xs rest)

all_four : (P : ℕ → Type 0) (a b c d : ℕ) → P a → P b → P c → P d → All P (a ∷ b ∷ c ∷ d ∷ [])
all_four P a b c d first second third fourth =
    All-cons P a (b ∷ c ∷ d ∷ []) first (All-cons P b (c ∷ d ∷ []) second (All-cons P c (d ∷ []) third (All-cons P d [] fourth (All-nil P))))

module _ (p : Program) (is : IsProgram p) (edges : List Edge) (rise : EdgesRise p edges) (formats : ℕ → Format) (parts : List Part) (legal : IsLegalWith p edges formats parts) where
  -- the next node reaches its best, where those before reach theirs
  reaches_next : (n : ℕ) (front : List ℕ) → n < length p.nodes → ((k : ℕ) → k < n → Reaches parts k (slice_index front k)) → Reaches parts n (best_of_node p edges front n)
  reaches_next n front there before =
      max_reaches parts n (node_stages p n) (map (through p front) (edges_into edges n)) (reaches_own p is edges formats parts legal n there)
      (All-map (Reaches parts n) (through p front) (edges_into edges n)
      (filtered (λ (e : Edge). Reaches parts n (through p front e)) (λ (e : Edge). e.to == n) edges
      (λ k d below into. along (get_or edges k d) (Contains-get_or edges k d below) (rise k d below) (eqb-true (get_or edges k d).to n into))))
    where
      along : (e : Edge) → Contains edges e → (e.from < e.to) × (e.to < length p.nodes) → e.to ≡ n → Reaches parts n (through p front e)
      along e found rises to =
          subst (λ (m : ℕ). Reaches parts m (through p front e)) to
          (reaches_through p is edges formats parts legal e (slice_index front e.from) found rises.1 (before e.from (omega (arith, rises.0, to))))

  -- each node reaches its best
  reaches_best : (n k : ℕ) → n ≤ length p.nodes → k < n → Reaches parts k (slice_index (bests p edges n) k)
  reaches_best zero k few below = absurd (omega arith)
  reaches_best (suc n) k few below =
      let front = bests p edges n in
      let best = best_of_node p edges front n in
      elim (cases_lt k n) [
        | inl earlier ↦
            subst (Reaches parts k) (sym (index-front front (best ∷ []) k (omega (arith, length-bests p edges n)))) (reaches_best n k (omega arith) earlier)
        | inr last ↦
            (let here : k ≡ n = omega arith in
            let at : slice_index (front ++ best ∷ []) k ≡ best = index-last front best k (omega (arith, length-bests p edges n)) in
            subst (Reaches parts k) (sym at)
            (subst (λ (m : ℕ). Reaches parts m best) (sym here) (reaches_next n front (omega arith) (λ j before. reaches_best n j (omega arith) before))))
      ]

  greatest-le : greatest (all_bests p edges) ≤ stages p is edges formats parts legal
  greatest-le =
      let n = length p.nodes in
      let bound = stages p is edges formats parts legal in
      most-le (λ x. x) 0 bound (bests p edges n) (omega arith)
      (All-from_get_or (λ x. x ≤ bound) (bests p edges n) 0 (λ k below.
      (let there : k < n = omega (arith, length-bests p edges n) in
      reaches-le p is edges formats parts legal k (slice_index (bests p edges n) k) (reaches_best n k (omega arith) there))))

  -- the greatest of the four is no more than the stages
  four-le : greatest (four_bounds p edges) ≤ stages p is edges formats parts legal
  four-le =
      let bound = stages p is edges formats parts legal in
      most-le (λ x. x) 0 bound (four_bounds p edges) (omega arith)
      (all_four (λ x. x ≤ bound) _ _ _ _ greatest-le
      (divided_up-least (sram_sum p) 106 bound (omega arith) (sram-le p is edges formats parts legal))
      (divided_up-least (tcam_sum p) 16 bound (omega arith) (tcam-le p is edges formats parts legal))
      (divided_up-least (table_count p) 16 bound (omega arith) (tables-le p is edges formats parts legal)))

-- No legal placement has fewer stages than the stage bound.
pub bound-le : (p : Program) → IsProgram p → (edges : List Edge) → EdgesRise p edges → (placement : Placement) → IsLegal p edges placement
    → (stage_bound p edges).stages ≤ stage_count placement
bound-le p is edges rise placement legal = four-le p is edges rise legal.0 placement.parts legal.1

-- ---- chains

-- a chain that begins with its last node
pub chain_own : (p : Program) (edges : List Edge) (bs : List ℕ) (nodes n : ℕ) (chain : List ℕ) → 0 < nodes → slice_index bs n ≡ node_stages p n → chain ≡ []
    → chain ++ n ∷ [] ≡ chain_to p edges bs nodes n
chain_own p edges bs zero n chain some own is = absurd (omega arith)
chain_own p edges bs (suc k) n chain some own is =
    ap (λ (ns : List ℕ). ns ++ n ∷ []) is
    ∙ ap (λ (t : Bool). (if t then [] else chain_to p edges bs k (node_before p edges bs n)) ++ n ∷ []) (sym (eq-eqb (slice_index bs n) (node_stages p n) own))

-- one that goes on from an earlier node
pub chain_on : (p : Program) (edges : List Edge) (bs : List ℕ) (nodes n before : ℕ) (chain : List ℕ) → 0 < nodes → (slice_index bs n ≡ node_stages p n → ⊥)
    → before ≡ node_before p edges bs n → chain ≡ chain_to p edges bs (nodes - 1) before → chain ++ n ∷ [] ≡ chain_to p edges bs nodes n
chain_on p edges bs zero n before chain some other before_is is = absurd (omega arith)
chain_on p edges bs (suc k) n before chain some other before_is is =
    let less : suc k - 1 ≡ k = omega arith in
    ap (λ (ns : List ℕ). ns ++ n ∷ []) (is ∙ (ap (λ (m : ℕ). chain_to p edges bs m before) less ∙ ap (chain_to p edges bs k) before_is))
    ∙ ap (λ (t : Bool). (if t then [] else chain_to p edges bs k (node_before p edges bs n)) ++ n ∷ []) (sym (ne_eqb (slice_index bs n) (node_stages p n) other))

pub longest_is : (p : Program) (edges : List Edge) (bs : List ℕ) (most : ℕ) (o : Option ℕ) → bs ≡ all_bests p edges → most ≡ greatest bs → o ≡ position (λ x. x == most) bs
    → unwrap_or (option_map (chain_to p edges bs (length bs)) o) [] ≡ longest_chain p edges
longest_is p edges bs most o all most_is o_is =
    ap (λ (x : Option ℕ). unwrap_or (option_map (chain_to p edges bs (length bs)) x) []) o_is
    ∙ (ap (λ (m : ℕ). unwrap_or (option_map (chain_to p edges bs (length bs)) (position (λ x. x == m) bs)) []) most_is
    ∙ ap (λ (xs : List ℕ). unwrap_or (option_map (chain_to p edges xs (length xs)) (position (λ x. x == greatest xs) xs)) []) all)
