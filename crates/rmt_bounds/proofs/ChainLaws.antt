-- No legal placement has fewer stages than a proof of a bound gives.
use Rattle.std.proofs.Common.{◌≡◌, ℕ, zero, suc, ◌+◌, ◌-◌, ◌*◌, ◌<◌, ◌≤◌, List, [], ◌∷◌, Bool, true, false, inl, inr, cond, Option, Some, map, length, max, refl, ap, sym, ◌∙◌, subst, arith, unwrap_or, get_or}
use Rattle.std.specs.Prelude.{All, Contains, IsTrue, MatchBool, fold, nat_lt, ◌==◌, ◌&&◌, slice_get, sum_by, option_map}
use Rattle.std.specs.List.{range_with_len, list_any}
use Rattle.std.proofs.Math.Nat.{mul-le-mul_right}
use Rattle.std.proofs.lemmas.Option.{slice_get_within}
use Rattle.std.proofs.lemmas.Bool.{eqb-true, and_parts, cases_lt}
use Rattle.std.proofs.lemmas.List.Elements.{All-contains}
use Rattle.std.proofs.lemmas.List.Sums.{sum_by-cons}
use Rattle.rmt_bits.proofs.ListLaws.{slice_get-item, slice_get-end}
use Rattle.rmt_pack.proofs.FormatLaws.{divided_up-least}
use Rattle.rmt_ast.specs.declared.deps.Edge.{Edge}
use Rattle.rmt_ast.specs.declared.program.Program.{Program}
use Rattle.rmt_ast.specs.declared.program.Node.{Node}
use Rattle.rmt_ast.specs.WellFormed.{IsProgram}
use Rattle.rmt_pack.specs.declared.format.Format.{Format}
use Rattle.rmt_pack.specs.declared.placement.Part.{Part}
use Rattle.rmt_pack.specs.declared.placement.Placement.{Placement}
use Rattle.rmt_pack.specs.Formats.{whole}
use Rattle.rmt_pack.specs.Placements.{quanta_in, quanta_of, taken_in, tables_in, nodes_numbered, is_table, is_table_at, is_strict, Keeps, IsLegal, IsLegalWith, stage_count, what_format}
use Rattle.rmt_bounds.specs.declared.bound.Proof.{Proof}
use Rattle.rmt_bounds.specs.declared.bound.Proof.TheVariants.{Chain, Sram, Tcam, Slots}
use Rattle.rmt_bounds.specs.Bounds.{fit_alone, stages_of_what, node_stages, shared, sram_sum, tcam_sum, table_count}
use Rattle.rmt_bounds.specs.Proofs.{joins, shared_by, IsChain, chain_stages, Gives}
use Rattle.rmt_bounds.proofs.StageSums.{total, total-le, total-swap, total-times, total-same, total-some, quanta_of-le-total, Within, NotBefore, Reaches, reaches, reaches-less}
use Rattle.rmt_bounds.proofs.NodeLaws.{IsLeast, of_what, fits_alone, blocks-le, sram-le_of_kind, tcam-le_of_kind, whole_tcam}
use Rattle.rmt_bits.proofs.AllLaws.{All-unmap}
use Rattle.rmt_bits.proofs.MostLaws.{items-le}
use Rattle.rmt_bits.proofs.MemberLaws.{any_item}

-- ---- one node in a legal placement

-- one item of a sum over numbered nodes is within it
one-le-sum : (f : ℕ → ℕ) (a m n : ℕ) → a ≤ n → n < a + m → f n ≤ sum_by f (range_with_len a m)
one-le-sum f a zero n low high = absurd (omega arith)
one-le-sum f a (suc m) n low high =
    let parted = sum_by-cons f a (range_with_len (a + 1) m) in
    elim (cases_lt a n) [
      | inl more ↦ omega (arith, parted, one-le-sum f (a + 1) m n (omega arith) (omega arith))
      | inr here ↦ (let same : n ≡ a = omega arith in omega (arith, parted, ap f same))
    ]

-- what a node takes in a stage is within what all take there
pub own-le-taken : (p : Program) (parts : List Part) (blocks : ℕ → ℕ) (n stage : ℕ) → n < length p.nodes
    → quanta_in parts n stage * blocks n ≤ taken_in p parts blocks stage
own-le-taken p parts blocks n stage there = one-le-sum (λ node. quanta_in parts node stage * blocks node) 0 (length p.nodes) n (omega arith) (omega arith)

-- ---- items of lists

-- a sum over the items of a list is within one over their numbers
sum-le-numbered : {X : Type 0} (f : X → ℕ) (g : ℕ → ℕ) (a : ℕ) (xs : List X) → ((n : ℕ) (x : X) → slice_get xs n ≡ Some x → f x ≤ g (a + n))
    → sum_by f xs ≤ sum_by g (range_with_len a (length xs))
sum-le-numbered f g a [] each = omega arith
sum-le-numbered f g a (x ∷ xs) each =
    let first : f x ≤ g (a + 0) = each 0 x refl in
    let at : a + 0 ≡ a = omega arith in
    let rest = sum-le-numbered f g (a + 1) xs (λ n y at.
    (let here : f y ≤ g (a + (1 + n)) = each (1 + n) y (slice_get-end (x ∷ []) xs n ∙ at) in
    let same : a + (1 + n) ≡ a + 1 + n = omega arith in subst (λ (m : ℕ). f y ≤ g m) same here)) in
    omega (arith, sum_by-cons f x xs, sum_by-cons g a (range_with_len (a + 1) (length xs)), first, ap g at, rest)

-- ---- the stages of a placement

-- each part stands in one of the stages
part_within : (parts : List Part) → All (λ (x : Part). x.stage + 1 ≤ fold max 0 (map (λ (y : Part). y.stage + 1) parts)) parts
part_within parts = All-unmap (λ s. s ≤ fold max 0 (map (λ (y : Part). y.stage + 1) parts)) (λ (y : Part). y.stage + 1) parts (items-le (λ s. s) 0 (map (λ (y : Part). y.stage + 1) parts))

cond-le : (t : Bool) → cond t 0 1 ≤ 1
cond-le true = omega arith
cond-le false = omega arith

shared-le : (e : Edge) → shared e ≤ 1
shared-le e = cond-le (is_strict e.kind)

-- a table that has a quantum in some stage has a slot in some stage
one_slot : (b : Bool) (f : ℕ → ℕ) (m : ℕ) → 1 ≤ total (λ s. cond (nat_lt 0 (f s)) 1 0) m → cond b 1 0 ≤ total (λ s. cond (b && nat_lt 0 (f s)) 1 0) m
one_slot true f m some = some
one_slot false f m some = omega arith

module _ (p : Program) (is : IsProgram p) (edges : List Edge) (formats : ℕ → Format) (parts : List Part) (legal : IsLegalWith p edges formats parts) where
  -- what is known of the format of a node
  node_least : (n : ℕ) → n < length p.nodes → IsLeast (node_stages p n) (formats n)
  node_least n there =
      let item = slice_get-item p.nodes n there in
      let stages : node_stages p n ≡ stages_of_what p item.0.what = ap (λ (o : Option Node). unwrap_or (option_map (λ (x : Node). stages_of_what p x.what) o) 1) item.1 in
      subst (λ (c : ℕ). IsLeast c (formats n)) (sym stages)
      (of_what p is item.0.what (is.nodes n item.0 item.1).what (formats n) (legal.node_formats n item.0 item.1))

  -- a node whose parts stand in no stage before `low` reaches as many stages from there as it takes at least
  reaches_from : (n low : ℕ) → n < length p.nodes → All (NotBefore n low) parts → Reaches parts n (low + node_stages p n)
  reaches_from n low there from =
      let least = node_least n there in
      reaches parts n low (node_stages p n) (fit_alone (formats n)) (formats n).quanta from least.less (legal.whole n there)
      (λ s below. fits_alone (formats n) (quanta_in parts n (low + s)) (least.blocks (omega arith))
      (omega (arith, own-le-taken p parts (λ m. (formats m).sram) n (low + s) there, legal.sram (low + s)))
      (omega (arith, own-le-taken p parts (λ m. (formats m).tcam) n (low + s) there, legal.tcam (low + s))))

  -- a node reaches the stages that it takes at least
  pub reaches_own : (n : ℕ) → n < length p.nodes → Reaches parts n (node_stages p n)
  reaches_own n there = reaches-less parts n (0 + node_stages p n) (node_stages p n) (omega arith) (reaches_from n 0 there (λ k d below is some. omega arith))

  -- behind a node that reaches b stages, the later node of an edge reaches its own more, less one that they may share
  pub reaches_through : (e : Edge) (b : ℕ) → Contains edges e → e.to < length p.nodes → Reaches parts e.from b → Reaches parts e.to (b + node_stages p e.to - shared e)
  reaches_through e b there node r = by_kind (is_strict e.kind) refl
    where
      keeps : All (Keeps e r.part) parts
      keeps = All-contains (λ a. All (Keeps e a) parts) parts r.part (All-contains (λ e. All (λ a. All (Keeps e a) parts) parts) edges e legal.order there) r.there

      by_kind : (strict : Bool) → is_strict e.kind ≡ strict → Reaches parts e.to (b + node_stages p e.to - cond strict 0 1)
      by_kind true kind =
          reaches-less parts e.to (r.part.stage + 1 + node_stages p e.to) (b + node_stages p e.to - 0) (omega (arith, r.far))
          (reaches_from e.to (r.part.stage + 1) node (λ k d below is some.
          (let kept = subst (λ (t : Bool). MatchBool t (r.part.stage < (get_or parts k d).stage) (r.part.stage ≤ (get_or parts k d).stage)) kind (keeps k d below r.own is r.some some) in omega (arith, kept))))
      by_kind false kind =
          reaches-less parts e.to (r.part.stage + node_stages p e.to) (b + node_stages p e.to - 1) (omega (arith, r.far))
          (reaches_from e.to r.part.stage node (λ k d below is some.
          (subst (λ (t : Bool). MatchBool t (r.part.stage < (get_or parts k d).stage) (r.part.stage ≤ (get_or parts k d).stage)) kind (keeps k d below r.own is r.some some))))

  -- two nodes of which an edge joins the first to the second
  reaches_step : (a b x : ℕ) → IsTrue (list_any (joins a b) edges) → b < length p.nodes → Reaches parts a x → Reaches parts b (x + node_stages p b - shared_by edges a b)
  reaches_step a b x joined there r = by_strict (list_any (λ (e : Edge). joins a b e && is_strict e.kind) edges) refl
    where
      along : (e : Edge) → Contains edges e → joins a b e ≡ true → Reaches parts b (x + node_stages p b - shared e)
      along e found ends =
          let both = and_parts (e.from == a) (e.to == b) ends in
          let from : e.from ≡ a = eqb-true e.from a both.0 in
          let to : e.to ≡ b = eqb-true e.to b both.1 in
          subst (λ (n : ℕ). Reaches parts n (x + node_stages p n - shared e)) to
          (reaches_through e x found (subst (λ (n : ℕ). n < length p.nodes) (sym to) there) (subst (λ (n : ℕ). Reaches parts n x) (sym from) r))

      by_strict : (strict : Bool) → list_any (λ (e : Edge). joins a b e && is_strict e.kind) edges ≡ strict → Reaches parts b (x + node_stages p b - cond strict 0 1)
      by_strict true some =
          let item = any_item (λ (e : Edge). joins a b e && is_strict e.kind) edges some in
          let both = and_parts (joins a b item.0) (is_strict item.0.kind) item.2 in
          let none : shared item.0 ≡ 0 = ap (λ (t : Bool). cond t 0 1) both.1 in
          reaches-less parts b (x + node_stages p b - shared item.0) (x + node_stages p b - 0) (omega (arith, none)) (along item.0 item.1 both.0)
      by_strict false none =
          let item = any_item (joins a b) edges joined in
          let one : shared item.0 ≤ 1 = shared-le item.0 in
          reaches-less parts b (x + node_stages p b - shared item.0) (x + node_stages p b - 1) (omega (arith, one)) (along item.0 item.1 item.2)

  -- some node of a chain reaches the stages of the chain, behind those of its first node
  chain_reaches : (n : ℕ) (ns : List ℕ) (x : ℕ) → IsChain p edges (n ∷ ns) → Reaches parts n (x + node_stages p n) → (m : ℕ) × Reaches parts m (x + chain_stages p edges (n ∷ ns))
  chain_reaches n [] x chain r = (n, r)
  chain_reaches a (b ∷ ns) x chain r =
      let sh = shared_by edges a b in
      let one : 1 ≤ node_stages p a = (node_least a chain.0).one in
      let small : sh ≤ 1 = shared_by-le a b in
      let next = reaches_step a b (x + node_stages p a) chain.1 (chain_node b ns chain.2) r in
      let on = chain_reaches b ns (x + node_stages p a - sh) chain.2
      (reaches-less parts b (x + node_stages p a + node_stages p b - sh) (x + node_stages p a - sh + node_stages p b) (omega arith) next) in
      (on.0, reaches-less parts on.0 (x + node_stages p a - sh + chain_stages p edges (b ∷ ns)) (x + (node_stages p a + chain_stages p edges (b ∷ ns) - sh)) (omega arith) on.1)
    where
      chain_node : (n : ℕ) (ns : List ℕ) → IsChain p edges (n ∷ ns) → n < length p.nodes
      chain_node n [] chain = chain
      chain_node n (m ∷ ns) chain = chain.0

      shared_by-le : (a b : ℕ) → shared_by edges a b ≤ 1
      shared_by-le a b = cond-le (list_any (λ (e : Edge). joins a b e && is_strict e.kind) edges)

  abbrev pub stages : ℕ
  stages = fold max 0 (map (λ (y : Part). y.stage + 1) parts)

  pub reaches-le : (n b : ℕ) → Reaches parts n b → b ≤ stages
  reaches-le n b r = omega (arith, r.far, All-contains (λ (x : Part). x.stage + 1 ≤ stages) parts r.part (part_within parts) r.there)

  chain-le : (ns : List ℕ) → IsChain p edges ns → chain_stages p edges ns ≤ stages
  chain-le [] chain = omega arith
  chain-le (n ∷ ns) chain =
      let end = chain_reaches n ns 0 chain (reaches-less parts n (node_stages p n) (0 + node_stages p n) (omega arith) (reaches_own n (first n ns chain))) in
      omega (arith, reaches-le end.0 (0 + chain_stages p edges (n ∷ ns)) end.1)
    where
      first : (n : ℕ) (ns : List ℕ) → IsChain p edges (n ∷ ns) → n < length p.nodes
      first n [] chain = chain
      first n (m ∷ ns) chain = chain.0

  -- all quanta of a node stand in the stages
  whole-within : (n : ℕ) → quanta_of parts n ≤ total (quanta_in parts n) stages
  whole-within n =
      let within : All (Within n 0 stages) parts = λ k d below is some. (omega arith, omega (arith, part_within parts k d below)) in
      omega (
        arith,
        quanta_of-le-total parts n 0 stages within,
        total-same (λ s. quanta_in parts n (0 + s)) (quanta_in parts n) stages
            (λ s. (let same : 0 + s ≡ s = omega arith in ap (quanta_in parts n) same)),
      )

  -- what all nodes take stands in the stages, of which each holds so much
  sum-le : (blocks : Format → ℕ) (limit : ℕ) → ((stage : ℕ) → taken_in p parts (λ n. blocks (formats n)) stage ≤ limit)
      → (f : Node → ℕ) → ((n : ℕ) (x : Node) → slice_get p.nodes n ≡ Some x → f x ≤ (formats n).quanta * blocks (formats n)) → sum_by f p.nodes ≤ stages * limit
  sum-le blocks limit fits f each =
      let g : ℕ → ℕ → ℕ = λ n s. quanta_in parts n s * blocks (formats n) in
      let parted = sum-le-numbered f (λ n. total (g n) stages) 0 p.nodes (λ n x at.
      (let there = slice_get_within p.nodes n x at in
      let same : 0 + n ≡ n = omega arith in
      let all : (formats n).quanta ≤ total (quanta_in parts n) stages = omega (arith, legal.whole n there, whole-within n) in
      let more : (formats n).quanta * blocks (formats n) ≤ total (quanta_in parts n) stages * blocks (formats n) = mul-le-mul_right (blocks (formats n)) all in
      let times = total-times (quanta_in parts n) (blocks (formats n)) stages in
      let here : f x ≤ total (g n) stages = omega (arith, each n x at, more, times) in subst (λ (m : ℕ). f x ≤ total (g m) stages) (sym same) here)) in
      omega (arith, parted, total-swap g (nodes_numbered p) stages, total-le (taken_in p parts (λ n. blocks (formats n))) stages limit (λ s _. fits s))

  pub sram-le : sram_sum p ≤ stages * 106
  sram-le = sum-le (λ f. f.sram) 106 legal.sram (λ (x : Node). whole (what_format p x.what))
      (λ n x at. blocks-le whole sram-le_of_kind refl p is x.what (formats n) (legal.node_formats n x at))

  pub tcam-le : tcam_sum p ≤ stages * 16
  tcam-le = sum-le (λ f. f.tcam) 16 legal.tcam (λ (x : Node). whole_tcam (what_format p x.what))
      (λ n x at. blocks-le whole_tcam tcam-le_of_kind refl p is x.what (formats n) (legal.node_formats n x at))

  pub tables-le : table_count p ≤ stages * 16
  tables-le =
      let g : ℕ → ℕ → ℕ = λ n s. cond (is_table_at p n && nat_lt 0 (quanta_in parts n s)) 1 0 in
      let parted = sum-le-numbered (λ (x : Node). cond (is_table x.what) 1 0) (λ n. total (g n) stages) 0 p.nodes (λ n x at.
      (let there = slice_get_within p.nodes n x at in
      let same : 0 + n ≡ n = omega arith in
      let table : is_table_at p n ≡ is_table x.what = ap (λ (o : Option Node). unwrap_or (option_map (λ (y : Node). is_table y.what) o) false) at in
      let all : 1 ≤ total (quanta_in parts n) stages = omega (arith, legal.whole n there, whole-within n, (node_least n there).some) in
      let slot = one_slot (is_table x.what) (quanta_in parts n) stages (total-some (quanta_in parts n) stages all) in
      let here : cond (is_table x.what) 1 0 ≤ total (g n) stages = subst (λ (t : Bool). cond (is_table x.what) 1 0 ≤ total (λ s. cond (t && nat_lt 0 (quanta_in parts n s)) 1 0) stages) (sym table) slot in
      subst (λ (m : ℕ). cond (is_table x.what) 1 0 ≤ total (g m) stages) (sym same) here)) in
      omega (arith, parted, total-swap g (nodes_numbered p) stages, total-le (tables_in p parts) stages 16 (λ s _. legal.slots s))

  gives-le : (proof : Proof) (n : ℕ) → Gives p edges proof n → n ≤ stages
  gives-le (Chain ns) n gives = omega (arith, gives.1, chain-le ns gives.0)
  gives-le (Sram blocks) n gives = omega (arith, gives.1, divided_up-least blocks 106 stages (omega arith) (omega (arith, gives.0, sram-le)))
  gives-le (Tcam blocks) n gives = omega (arith, gives.1, divided_up-least blocks 16 stages (omega arith) (omega (arith, gives.0, tcam-le)))
  gives-le (Slots tables) n gives = omega (arith, gives.1, divided_up-least tables 16 stages (omega arith) (omega (arith, gives.0, tables-le)))

-- No legal placement has fewer stages than a proof gives.
pub legal-le : (p : Program) → IsProgram p → (edges : List Edge) (placement : Placement) → IsLegal p edges placement
    → (proof : Proof) (n : ℕ) → Gives p edges proof n → n ≤ stage_count placement
legal-le p is edges placement legal proof n gives = gives-le p is edges legal.0 placement.parts legal.1 proof n gives
