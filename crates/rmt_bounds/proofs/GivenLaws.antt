-- The proof that is told gives the stage bound.
use Rattle.std.proofs.Common.{◌≡◌, ℕ, zero, suc, ◌+◌, ◌-◌, ◌<◌, ◌≤◌, List, [], ◌∷◌, ◌++◌, Bool, true, false, ◌⊎◌, inl, inr, cond, Some, None, map, filter, length, max, min, get_or, refl, ap, sym, ◌∙◌, subst, arith, unwrap_or}
use Rattle.std.specs.Prelude.{Contains, IsTrue, fold, ◌==◌, ◌&&◌, nat_lt, slice_index, option_map}
use Rattle.std.specs.List.{list_any, position_or_len}
use Rattle.std.proofs.Math.Nat.{min-eq_left, min-eq_right}
use Rattle.std.proofs.lemmas.List.Sums.{passes_at_first, fails_before_first}
use Rattle.std.proofs.lemmas.Bool.{ltb-true, ltb-false, eqb-true, eqb-false, eq-eqb, ne_eqb, and_parts, and_from, cases_lt, cases_eq, false≢true}
use Rattle.std.proofs.lemmas.List.Elements.{All-contains}
use Rattle.rmt_ast.specs.declared.deps.Edge.{Edge}
use Rattle.rmt_ast.specs.declared.program.Program.{Program}
use Rattle.rmt_ast.specs.WellFormed.{IsProgram}
use Rattle.rmt_pack.specs.Formats.{divided_up}
use Rattle.rmt_pack.specs.Placements.{is_strict}
use Rattle.rmt_bounds.specs.Bounds.{EdgesRise, node_stages, through, shared, edges_into, best_of_node, bests, all_bests, greatest, least, node_before, chain_to, longest_chain, sram_sum, tcam_sum, table_count, four_bounds, proof_of, stage_bound}
use Rattle.rmt_bounds.specs.declared.bound.Proof.{Proof}
use Rattle.rmt_bounds.specs.declared.bound.Proof.TheVariants.{Chain, Sram, Tcam, Slots}
use Rattle.rmt_bounds.specs.Proofs.{joins, shared_by, IsChain, chain_stages, Gives}
use Rattle.rmt_bounds.proofs.BestLaws.{length-bests, index-front, index-last}
use Rattle.rmt_bounds.proofs.NodeLaws.{node-some}
use Rattle.rmt_bits.proofs.MemberLaws.{Contains-filter, Contains-first, Contains-later, Contains-map, Contains-unfilter, Contains-unmap, any_item, list_any-Contains}
use Rattle.rmt_bits.proofs.AllLaws.{All-unmap}
use Rattle.rmt_bits.proofs.MostLaws.{items-le, max-either, picked}

-- ---- the greatest and the least are reached

reached : (pick : ℕ → ℕ → ℕ) → ((a b : ℕ) → (pick a b ≡ a) ⊎ (pick a b ≡ b)) → (a : ℕ) (xs : List ℕ) → (fold pick a xs ≡ a) ⊎ Contains xs (fold pick a xs)
reached pick one a xs = elim (picked pick one (λ x. x) a xs) [
  | inl same ↦ inl same
  | inr some ↦ inr (subst (Contains xs) (sym some.2) some.1)
]

max-reached : (a : ℕ) (xs : List ℕ) → (fold max a xs ≡ a) ⊎ Contains xs (fold max a xs)
max-reached a xs = reached max max-either a xs

min-reached : (a : ℕ) (xs : List ℕ) → (fold min a xs ≡ a) ⊎ Contains xs (fold min a xs)
min-reached a xs = reached min (λ m n. elim (cases_lt n m) [ inl less ↦ inr (min-eq_right (omega arith)) | inr more ↦ inl (min-eq_left more) ]) a xs

least-reached : (xs : List ℕ) (y : ℕ) → Contains xs y → Contains xs (least xs)
least-reached [] y there = absurd (omega arith)
least-reached (x ∷ xs) y there = elim (min-reached x xs) [
  | inl first ↦ subst (Contains (x ∷ xs)) (sym first) (Contains-first x xs)
  | inr later ↦ Contains-later x xs (fold min x xs) later
]

-- ---- chains with a node more at their end

shared_by-le : (edges : List Edge) (a b : ℕ) → shared_by edges a b ≤ 1
shared_by-le edges a b = by (list_any (λ (e : Edge). joins a b e && is_strict e.kind) edges)
  where
    by : (t : Bool) → cond t 0 1 ≤ 1
    by true = omega arith
    by false = omega arith

snoc-chain : (p : Program) (edges : List Edge) (xs : List ℕ) (a b : ℕ) → IsChain p edges (xs ++ a ∷ []) → b < length p.nodes → IsTrue (list_any (joins a b) edges)
    → IsChain p edges ((xs ++ a ∷ []) ++ b ∷ [])
snoc-chain p edges [] a b chain there joined = (chain, joined, there)
snoc-chain p edges (x ∷ []) a b chain there joined = (chain.0, chain.1, (chain.2, joined, there))
snoc-chain p edges (x ∷ y ∷ zs) a b chain there joined = (chain.0, chain.1, snoc-chain p edges (y ∷ zs) a b chain.2 there joined)

snoc-stages : (p : Program) → IsProgram p → (edges : List Edge) (xs : List ℕ) (a b : ℕ) → IsChain p edges (xs ++ a ∷ []) → b < length p.nodes
    → chain_stages p edges ((xs ++ a ∷ []) ++ b ∷ []) ≡ chain_stages p edges (xs ++ a ∷ []) + node_stages p b - shared_by edges a b
snoc-stages p is edges [] a b chain there = refl
snoc-stages p is edges (x ∷ []) a b chain there =
    omega (arith, node-some p is x chain.0, node-some p is b there, shared_by-le edges x a, shared_by-le edges a b)
snoc-stages p is edges (x ∷ y ∷ zs) a b chain there =
    omega (arith, snoc-stages p is edges (y ∷ zs) a b chain.2 there, node-some p is x chain.0, node-some p is b there, shared_by-le edges x y, shared_by-le edges a b)

-- a chain that ends in node n and takes so many stages
pub record Ends (p : Program) (edges : List Edge) (stages n : ℕ) (ns : List ℕ) : Type 0 where
  pub front : List ℕ
  pub last : ns ≡ front ++ n ∷ []
  pub chain : IsChain p edges ns
  pub takes : chain_stages p edges ns ≡ stages

-- ---- the bests of all nodes

prefix : (p : Program) (edges : List Edge) (m k n : ℕ) → k < n → n ≤ m → slice_index (bests p edges m) k ≡ slice_index (bests p edges n) k
prefix p edges zero k n below within = absurd (omega arith)
prefix p edges (suc m) k n below within = elim (cases_lt m n) [
  | inl whole ↦ (let same : n ≡ suc m = omega arith in ap (λ (j : ℕ). slice_index (bests p edges j) k) (sym same))
  | inr part ↦
      index-front (bests p edges m) (best_of_node p edges (bests p edges m) m ∷ []) k (omega (arith, length-bests p edges m)) ∙ prefix p edges m k n below part
]

module _ (p : Program) (is : IsProgram p) (edges : List Edge) (rise : EdgesRise p edges) where
  abbrev best : ℕ → ℕ
  best n = slice_index (all_bests p edges) n

  best-at : (n : ℕ) → n < length p.nodes → best n ≡ best_of_node p edges (bests p edges n) n
  best-at n there =
      prefix p edges (length p.nodes) n (suc n) (omega arith) (omega arith)
      ∙ index-last (bests p edges n) (best_of_node p edges (bests p edges n) n) n (sym (length-bests p edges n))

  through-all : (n : ℕ) (e : Edge) → n ≤ length p.nodes → e.from < n → through p (bests p edges n) e ≡ through p (all_bests p edges) e
  through-all n e there before = ap (λ (x : ℕ). x + node_stages p e.to - shared e) (sym (prefix p edges (length p.nodes) e.from n before there))

  rises : (e : Edge) → Contains edges e → (e.from < e.to) × (e.to < length p.nodes)
  rises e there = All-contains (λ (g : Edge). (g.from < g.to) × (g.to < length p.nodes)) edges e rise there

  -- a node's best is its own stages, or comes through an edge
  comes : (n : ℕ) → n < length p.nodes → (best n ≡ node_stages p n) ⊎ ((e : Edge) × Contains edges e × (e.to ≡ n) × (through p (all_bests p edges) e ≡ best n))
  comes n there = elim (max-reached (node_stages p n) (map (through p (bests p edges n)) (edges_into edges n))) [
    | inl own ↦ inl (best-at n there ∙ own)
    | inr later ↦ inr
        (let item = Contains-unmap (through p (bests p edges n)) (edges_into edges n) (best_of_node p edges (bests p edges n) n) later in
        let found = Contains-unfilter (λ (e : Edge). e.to == n) edges item.0 item.1 in
        let to : item.0.to ≡ n = eqb-true item.0.to n found.1 in
        let r = rises item.0 found.0 in
        (item.0, found.0, to, sym (through-all n item.0 (omega arith) (omega (arith, r.0))) ∙ (item.2 ∙ sym (best-at n there))))
  ]

  -- no edge gives more than the best of its later node
  most : (n : ℕ) → n < length p.nodes → (e : Edge) → Contains edges e → e.to ≡ n → through p (all_bests p edges) e ≤ best n
  most n there e found to =
      let f = through p (bests p edges n) in
      let top = best_of_node p edges (bests p edges n) n in
      let within = All-unmap (λ x. x ≤ top) f (edges_into edges n) (items-le (λ x. x) (node_stages p n) (map f (edges_into edges n))) in
      let here = All-contains (λ g. f g ≤ top) (edges_into edges n) e within (Contains-filter (λ (g : Edge). g.to == n) edges e found (eq-eqb e.to n to)) in
      omega (arith, here, best-at n there, through-all n e (omega arith) (omega (arith, (rises e found).0, to)))

  -- what two nodes share, one of which gives the other's best
  sharing : (m n : ℕ) → n < length p.nodes → (e : Edge) → Contains edges e → e.from ≡ m → e.to ≡ n → through p (all_bests p edges) e ≡ best n
      → best m + node_stages p n - shared_by edges m n ≡ best n
  sharing m n there e found from to gives = by (list_any (λ (g : Edge). joins m n g && is_strict g.kind) edges) refl
    where
      here : best m + node_stages p n - shared e ≡ best n
      here =
          ap (λ (k : ℕ). best k + node_stages p n - shared e) (sym from)
          ∙ (ap (λ (k : ℕ). best e.from + node_stages p k - shared e) (sym to) ∙ gives)

      weak : (t : Bool) → is_strict e.kind ≡ t → list_any (λ (g : Edge). joins m n g && is_strict g.kind) edges ≡ false → shared e ≡ 1
      weak true strict none =
          absurd (false≢true (sym none ∙ list_any-Contains (λ (g : Edge). joins m n g && is_strict g.kind) edges e found
          (and_from (joins m n e) (is_strict e.kind) (and_from (e.from == m) (e.to == n) (eq-eqb e.from m from) (eq-eqb e.to n to)) strict)))
      weak false strict none = ap (λ (t : Bool). cond t 0 1) strict

      by : (t : Bool) → list_any (λ (g : Edge). joins m n g && is_strict g.kind) edges ≡ t → best m + node_stages p n - cond t 0 1 ≡ best n
      by true some =
          let item = any_item (λ (g : Edge). joins m n g && is_strict g.kind) edges some in
          let both = and_parts (joins m n item.0) (is_strict item.0.kind) item.2 in
          let ends = and_parts (item.0.from == m) (item.0.to == n) both.0 in
          let item_from : item.0.from ≡ m = eqb-true item.0.from m ends.0 in
          let item_to : item.0.to ≡ n = eqb-true item.0.to n ends.1 in
          let none : shared item.0 ≡ 0 = ap (λ (t : Bool). cond t 0 1) both.1 in
          omega (arith, here, most n there item.0 item.1 item_to, none, ap best item_from, ap (node_stages p) item_to)
      by false none = omega (arith, here, weak (is_strict e.kind) refl none)

  -- a chain that is followed back by one node more
  longer : (k n : ℕ) → n < length p.nodes → ((m : ℕ) → m < n → Ends p edges (best m) m (chain_to p edges (all_bests p edges) k m)) → (best n ≡ node_stages p n → ⊥)
      → (e : Edge) × Contains edges e × (e.to ≡ n) × (through p (all_bests p edges) e ≡ best n) → Ends p edges (best n) n (chain_to p edges (all_bests p edges) (suc k) n)
  longer k n there ih other one =
      let all = all_bests p edges in
      let is_into : Edge → Bool = λ e. e.to == n in
      let is_best : Edge → Bool = λ e. through p all e == best n in
      let from_of : Edge → ℕ = λ e. e.from in
      let into = Contains-filter is_into edges one.0 one.1 (eq-eqb one.0.to n one.2) in
      let good = Contains-filter is_best (edges_into edges n) one.0 into (eq-eqb (through p all one.0) (best n) one.3) in
      let m = node_before p edges all n in
      let item = Contains-unmap from_of (filter is_best (edges_into edges n)) m
      (least-reached (map from_of (filter is_best (edges_into edges n))) one.0.from (Contains-map from_of (filter is_best (edges_into edges n)) one.0 good)) in
      let first = Contains-unfilter is_best (edges_into edges n) item.0 item.1 in
      let then = Contains-unfilter is_into edges item.0 first.0 in
      let to : item.0.to ≡ n = eqb-true item.0.to n then.1 in
      let before : m < n = omega (arith, (rises item.0 then.0).0, item.2, to) in
      let i = ih m before in
      let joined : IsTrue (list_any (joins m n) edges) =
      list_any-Contains (joins m n) edges item.0 then.0 (and_from (item.0.from == m) (item.0.to == n) (eq-eqb item.0.from m item.2) (eq-eqb item.0.to n to)) in
      let whole : chain_to p edges all k m ++ n ∷ [] ≡ chain_to p edges all (suc k) n =
      ap (λ (t : Bool). cond t [] (chain_to p edges all k m) ++ n ∷ []) (sym (ne_eqb (best n) (node_stages p n) other)) in
      let ended : IsChain p edges (i.front ++ m ∷ []) = subst (IsChain p edges) i.last i.chain in
      subst (Ends p edges (best n) n) whole (record {
        front = chain_to p edges all k m;
        last = refl;
        chain = subst (λ (ns : List ℕ). IsChain p edges (ns ++ n ∷ [])) (sym i.last) (snoc-chain p edges i.front m n ended there joined);
        takes =
            ap (λ (ns : List ℕ). chain_stages p edges (ns ++ n ∷ [])) i.last
            ∙ (snoc-stages p is edges i.front m n ended there
            ∙ (ap (λ (s : ℕ). s + node_stages p n - shared_by edges m n) (ap (chain_stages p edges) (sym i.last) ∙ i.takes)
            ∙ sharing m n there item.0 then.0 item.2 to (eqb-true (through p all item.0) (best n) first.1)));
      })

  -- the chain that is followed back from a node takes the node's best
  chain-ends : (k n : ℕ) → n < k → n < length p.nodes → Ends p edges (best n) n (chain_to p edges (all_bests p edges) k n)
  chain-ends zero n less there = absurd (omega arith)
  chain-ends (suc k) n less there = elim (cases_eq (best n) (node_stages p n)) [
    | inl own ↦
        (let single : n ∷ [] ≡ chain_to p edges (all_bests p edges) (suc k) n =
        ap (λ (t : Bool). cond t [] (chain_to p edges (all_bests p edges) k (node_before p edges (all_bests p edges) n)) ++ n ∷ []) (sym (eq-eqb (best n) (node_stages p n) own)) in
        subst (Ends p edges (best n) n) single (record { front = []; last = refl; chain = there; takes = sym own }))
    | inr other ↦ elim (comes n there) [
      | inl own ↦ absurd (other own)
      | inr one ↦ longer k n there (λ m before. chain-ends k m (omega arith) (omega arith)) other one
    ]
  ]

  -- the first place of the greatest best
  abbrev place : ℕ
  place = position_or_len (λ b. b == greatest (all_bests p edges)) (all_bests p edges)

  abbrev followed : Bool → List ℕ
  followed t = unwrap_or (option_map (chain_to p edges (all_bests p edges) (length (all_bests p edges))) (cond t (Some place) None)) []

  longest_by : (t : Bool) → nat_lt place (length (all_bests p edges)) ≡ t → IsChain p edges (followed t) × (greatest (all_bests p edges) ≡ chain_stages p edges (followed t))
  longest_by true here =
      let all = all_bests p edges in
      let below : place < length all = ltb-true place (length all) here in
      let there : place < length p.nodes = omega (arith, length-bests p edges (length p.nodes)) in
      let at : best place ≡ greatest all = eqb-true (best place) (greatest all) (passes_at_first (λ b. b == greatest all) all 0 below) in
      let ends = chain-ends (length all) place below there in
      (ends.chain, sym at ∙ sym ends.takes)
  longest_by false here =
      let all = all_bests p edges in
      let past : length all ≤ place = ltb-false place (length all) here in (
        tt,
        elim (max-reached 0 all) [
          | inl nothing ↦ nothing
          | inr found ↦ absurd (false≢true (sym (fails_before_first (λ b. b == greatest all) all found.0 (greatest all) (omega (arith, found.1)))
              ∙ eq-eqb (get_or all found.0 (greatest all)) (greatest all) found.2))
        ],
      )

  -- the longest chain takes the greatest of all bests
  longest-takes : IsChain p edges (longest_chain p edges) × (greatest (all_bests p edges) ≡ chain_stages p edges (longest_chain p edges))
  longest-takes = longest_by (nat_lt place (length (all_bests p edges))) refl

  told : (chain sram tcam slots n : ℕ) → chain ≡ greatest (all_bests p edges) → sram ≡ divided_up (sram_sum p) 106 → tcam ≡ divided_up (tcam_sum p) 16 → slots ≡ divided_up (table_count p) 16
      → n ≡ greatest (chain ∷ sram ∷ tcam ∷ slots ∷ []) → (t u v : Bool) → (chain == n) ≡ t → (sram == n) ≡ u → (tcam == n) ≡ v
      → Gives p edges (cond t (Chain (longest_chain p edges)) (cond u (Sram (sram_sum p)) (cond v (Tcam (tcam_sum p)) (Slots (table_count p))))) n
  told chain sram tcam slots n chain_is sram_is tcam_is slots_is n_is true u v first second third = (longest-takes.0, sym (eqb-true chain n first) ∙ (chain_is ∙ longest-takes.1))
  told chain sram tcam slots n chain_is sram_is tcam_is slots_is n_is false true v first second third = (refl, sym (eqb-true sram n second) ∙ sram_is)
  told chain sram tcam slots n chain_is sram_is tcam_is slots_is n_is false false true first second third = (refl, sym (eqb-true tcam n third) ∙ tcam_is)
  told chain sram tcam slots n chain_is sram_is tcam_is slots_is n_is false false false first second third =
      (refl, last_of chain sram tcam slots n (eqb-false chain n first) (eqb-false sram n second) (eqb-false tcam n third) n_is ∙ slots_is)
    where
      last_of : (a b c d n : ℕ) → (a ≡ n → ⊥) → (b ≡ n → ⊥) → (c ≡ n → ⊥) → n ≡ max (max (max (max 0 a) b) c) d → n ≡ d
      last_of a b c d n one two three is = grind arith

  -- the proof that is told gives the bound
  pub bound-given : Gives p edges (stage_bound p edges).proof (stage_bound p edges).stages
  bound-given =
      let n = (stage_bound p edges).stages in
      told (greatest (all_bests p edges)) (divided_up (sram_sum p) 106) (divided_up (tcam_sum p) 16) (divided_up (table_count p) 16) n refl refl refl refl refl
      (greatest (all_bests p edges) == n) (divided_up (sram_sum p) 106 == n) (divided_up (tcam_sum p) 16 == n) refl refl refl

-- a proof and a number that are found
pub given_at : (p : Program) → IsProgram p → (edges : List Edge) → EdgesRise p edges → (proof : Proof) (n : ℕ) → proof ≡ proof_of p edges (four_bounds p edges) n
    → n ≡ (stage_bound p edges).stages → Gives p edges proof n
given_at p is edges rise proof n proof_is n_is =
    subst (Gives p edges proof) (sym n_is)
    (subst (λ (q : Proof). Gives p edges q (stage_bound p edges).stages) (sym (proof_is ∙ ap (proof_of p edges (four_bounds p edges)) n_is)) (bound-given p is edges rise))
