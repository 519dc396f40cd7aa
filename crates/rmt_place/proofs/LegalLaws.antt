-- Placements are legal.
use Rattle.std.proofs.Common.{◌≡◌, ℕ, zero, suc, ◌+◌, ◌-◌, ◌*◌, ◌<◌, ◌≤◌, List, [], ◌∷◌, get_or, filter, map, Bool, true, false, cond, eqb, ◌&&◌, inl, inr, Option, Some, None, option_map, unwrap_or, sym, refl, ap, ◌∙◌, arith}
use Rattle.std.specs.List.{All, find, range_with_len, sum_by}
use Rattle.std.specs.Prelude.{nat_lt, slice_get}
use Rattle.std.proofs.lemmas.Bool.{cases_eq, eq-eqb, ne_eqb}
use Rattle.std.proofs.lemmas.List.Elements.{All-head, All-tail, All-map}
use Rattle.std.proofs.lemmas.List.Sums.{sum_by-append, sum_by-cons}
use Rattle.std.proofs.lemmas.Bool.Decides.{nat_tests}
use Rattle.rmt_bits.specs.declared.lane.Lane.{Lane}
use Rattle.rmt_ast.specs.declared.program.Program.{Program}
use Rattle.rmt_ast.specs.declared.program.Table.{Table}
use Rattle.rmt_ast.specs.declared.program.Node.{Node}
use Rattle.rmt_ast.specs.declared.program.What.{What}
use Rattle.rmt_ast.specs.declared.program.What.TheVariants.{Apply, Gate}
use Rattle.rmt_pack.specs.declared.format.Format.{Format}
use Rattle.rmt_pack.specs.declared.placement.Part.{Part}
use Rattle.rmt_pack.specs.Formats.{memory_format, no_memory}
use Rattle.rmt_pack.specs.Placements.{quanta_in, quanta_of, table_need, what_format}
use Rattle.rmt_place.specs.declared.demand.Demand.{Demand}
use Rattle.rmt_place.specs.Needs.{Standing, demand_at, demands_of, keeps_limits, nothing, table_demand, what_demands}
use Rattle.rmt_place.specs.Placing.{beside, fitting, spread, standing_in, taken_part}
use Rattle.rmt_bits.proofs.AllLaws.{All-between}

-- ---- sums over nodes

sum-le : (f g : ℕ → ℕ) (ns : List ℕ) → ((n : ℕ) → f n ≤ g n) → sum_by f ns ≤ sum_by g ns
sum-le f g [] le = omega arith
sum-le f g (n ∷ ns) le = omega (arith, sum_by-cons f n ns, sum_by-cons g n ns, le n, sum-le f g ns le)

sum-add : (f g : ℕ → ℕ) (ns : List ℕ) → sum_by (λ n. f n + g n) ns ≡ sum_by f ns + sum_by g ns
sum-add f g [] = refl
sum-add f g (n ∷ ns) = omega (arith, sum_by-cons (λ m. f m + g m) n ns, sum_by-cons f n ns, sum_by-cons g n ns, sum-add f g ns)

-- what one node alone has
abbrev only : ℕ → ℕ → ℕ → ℕ
only m c n = cond (eqb m n) c 0

only_past : (m c a k : ℕ) → m < a → sum_by (only m c) (range_with_len a k) ≡ 0
only_past m c a zero past = refl
only_past m c a (suc k) past =
    let none : only m c a ≡ 0 = ap (λ b. cond b c 0) (ne_eqb m a (λ e. omega arith)) in
    omega (arith, sum_by-cons (only m c) a (range_with_len (a + 1) k), none, only_past m c (a + 1) k (omega arith))

only-le : (m c a k : ℕ) → sum_by (only m c) (range_with_len a k) ≤ c
only-le m c a zero = omega arith
only-le m c a (suc k) = elim (cases_eq m a) [
  | inl here ↦
      let one : only m c a ≡ c = ap (λ b. cond b c 0) (eq-eqb m a here) in
      omega (arith, sum_by-cons (only m c) a (range_with_len (a + 1) k), one, only_past m c (a + 1) k (omega arith))
  | inr other ↦
      let none : only m c a ≡ 0 = ap (λ b. cond b c 0) (ne_eqb m a other) in
      omega (arith, sum_by-cons (only m c) a (range_with_len (a + 1) k), none, only-le m c (a + 1) k)
]

zeros : (ns : List ℕ) → sum_by (λ (n : ℕ). 0) ns ≡ 0
zeros [] = refl
zeros (n ∷ ns) = omega (arith, sum_by-cons (λ (m : ℕ). 0) n ns, zeros ns)

-- what nodes have by their parts is at most what the parts have
by_parts : (u : List Part → ℕ → ℕ) (w : Part → ℕ) (count : ℕ) → ((n : ℕ) → u [] n ≤ 0) → ((x : Part) (parts : List Part) (n : ℕ) → u (x ∷ parts) n ≤ u parts n + only x.node (w x) n)
    → (parts : List Part) → sum_by (u parts) (range_with_len 0 count) ≤ sum_by w parts
by_parts u w count none more [] = omega (arith, sum-le (u []) (λ n. 0) (range_with_len 0 count) none, zeros (range_with_len 0 count))
by_parts u w count none more (x ∷ parts) =
    let le = sum-le (u (x ∷ parts)) (λ n. u parts n + only x.node (w x) n) (range_with_len 0 count) (more x parts) in
    let add = sum-add (u parts) (only x.node (w x)) (range_with_len 0 count) in
    omega (arith, by_parts u w count none more parts, le, add, only-le x.node (w x) 0 count, sum_by-cons w x parts)

-- ---- what stands in a stage

-- what a stage has is what the parts there have
stands-sum : (demands : List Demand) (h : Standing → ℕ) (parts : List Part) (k : ℕ)
    → sum_by h (standing_in demands parts k) ≡ sum_by (λ (x : Part). cond (eqb x.stage k) (h (record { demand = demand_at demands x.node; quanta = x.quanta })) 0) parts
stands-sum demands h [] k = refl
stands-sum demands h (x ∷ parts) k =
    by_stage (eqb x.stage k) refl (stands-sum demands h parts k)
  where
    by_stage : (b : Bool) → eqb x.stage k ≡ b
        → sum_by h (standing_in demands parts k) ≡ sum_by (λ (y : Part). cond (eqb y.stage k) (h (record { demand = demand_at demands y.node; quanta = y.quanta })) 0) parts
        → sum_by h (map (λ (y : Part). record { demand = demand_at demands y.node; quanta = y.quanta }) (cond b (x ∷ filter (λ (y : Part). eqb y.stage k) parts) (filter (λ (y : Part). eqb y.stage k) parts)))
        ≡ sum_by (λ (y : Part). cond (eqb y.stage k) (h (record { demand = demand_at demands y.node; quanta = y.quanta })) 0) (x ∷ parts)
    by_stage true e rest =
        let own : cond (eqb x.stage k) (h (record { demand = demand_at demands x.node; quanta = x.quanta })) 0 ≡ h (record { demand = demand_at demands x.node; quanta = x.quanta }) =
        ap (λ b. cond b (h (record { demand = demand_at demands x.node; quanta = x.quanta })) 0) e in
        omega (
          arith,
          sum_by-cons h (record { demand = demand_at demands x.node; quanta = x.quanta }) (standing_in demands parts k),
          sum_by-cons (λ (y : Part). cond (eqb y.stage k) (h (record { demand = demand_at demands y.node; quanta = y.quanta })) 0) x parts,
          own,
          rest,
        )
    by_stage false e rest =
        let own : cond (eqb x.stage k) (h (record { demand = demand_at demands x.node; quanta = x.quanta })) 0 ≡ 0 =
        ap (λ b. cond b (h (record { demand = demand_at demands x.node; quanta = x.quanta })) 0) e in
        omega (arith, sum_by-cons (λ (y : Part). cond (eqb y.stage k) (h (record { demand = demand_at demands y.node; quanta = y.quanta })) 0) x parts, own, rest)

times_cond : (b : Bool) (q c : ℕ) → cond b q 0 * c ≡ cond b (q * c) 0
times_cond true q c = refl
times_cond false q c = omega arith

-- the blocks that all nodes take in a stage are at most those that its parts take
pub taken-le : (demands : List Demand) (parts : List Part) (f : ℕ → ℕ) (g : Demand → ℕ) (count k : ℕ) → ((n : ℕ) → f n ≡ g (demand_at demands n))
    → sum_by (λ n. quanta_in parts n k * f n) (range_with_len 0 count) ≤ sum_by (λ (s : Standing). s.quanta * g s.demand) (standing_in demands parts k)
taken-le demands parts f g count k is =
    let w : Part → ℕ = λ (x : Part). cond (eqb x.stage k) (x.quanta * g (demand_at demands x.node)) 0 in
    let all = by_parts (λ ps n. quanta_in ps n k * f n) w count (λ n. omega arith) (λ x ps n. one_more x ps n) parts in
    omega (arith, all, stands-sum demands (λ (s : Standing). s.quanta * g s.demand) parts k)
  where
    one_more : (x : Part) (ps : List Part) (n : ℕ) → quanta_in (x ∷ ps) n k * f n ≤ quanta_in ps n k * f n + only x.node (cond (eqb x.stage k) (x.quanta * g (demand_at demands x.node)) 0) n
    one_more x ps n = elim (cases_eq x.node n) [
      | inl same ↦
          let blocks : f n ≡ g (demand_at demands x.node) = is n ∙ ap (λ m. g (demand_at demands m)) (sym same) in
          let test = eq-eqb x.node n same in
          let first : quanta_in (x ∷ ps) n k ≡ cond (eqb x.stage k) x.quanta 0 + quanta_in ps n k =
          sum_by-cons (λ (y : Part). cond (eqb y.node n && eqb y.stage k) y.quanta 0) x ps ∙ ap (λ b. cond (b && eqb x.stage k) x.quanta 0 + quanta_in ps n k) test in
          let own : only x.node (cond (eqb x.stage k) (x.quanta * g (demand_at demands x.node)) 0) n ≡ cond (eqb x.stage k) (x.quanta * g (demand_at demands x.node)) 0 =
          ap (λ b. cond b (cond (eqb x.stage k) (x.quanta * g (demand_at demands x.node)) 0) 0) test in
          let left : quanta_in (x ∷ ps) n k * f n ≡ (cond (eqb x.stage k) x.quanta 0 + quanta_in ps n k) * f n = ap (λ m. m * f n) first in
          let spread : (cond (eqb x.stage k) x.quanta 0 + quanta_in ps n k) * f n ≡ cond (eqb x.stage k) x.quanta 0 * f n + quanta_in ps n k * f n = omega arith in
          let at : cond (eqb x.stage k) x.quanta 0 * f n ≡ cond (eqb x.stage k) x.quanta 0 * g (demand_at demands x.node) = ap (λ m. cond (eqb x.stage k) x.quanta 0 * m) blocks in
          omega (arith, left, spread, at, times_cond (eqb x.stage k) x.quanta (g (demand_at demands x.node)), own)
      | inr other ↦
          let first = sum_by-cons (λ (y : Part). cond (eqb y.node n && eqb y.stage k) y.quanta 0) x ps in
          let same : quanta_in (x ∷ ps) n k ≡ quanta_in ps n k = grind (arith, nat_tests, first, other) in
          omega (arith, ap (λ m. m * f n) same)
    ]

no_table : (b : Bool) → cond (b && false) 1 0 ≤ 0
no_table true = omega arith
no_table false = omega arith

-- the tables that stand in a stage are at most the slots that its parts take
pub tables-le : (demands : List Demand) (parts : List Part) (is_table : ℕ → Bool) (count k : ℕ) → ((n : ℕ) → is_table n ≡ true → (demand_at demands n).slots ≡ 1)
    → sum_by (λ n. cond (is_table n && nat_lt 0 (quanta_in parts n k)) 1 0) (range_with_len 0 count) ≤ sum_by (λ (s : Standing). s.demand.slots) (standing_in demands parts k)
tables-le demands parts is_table count k slots =
    let w : Part → ℕ = λ (x : Part). cond (eqb x.stage k) (demand_at demands x.node).slots 0 in
    let all = by_parts (λ ps n. cond (is_table n && nat_lt 0 (quanta_in ps n k)) 1 0) w count (λ n. none n) (λ x ps n. one_more x ps n (is_table n) refl) parts in
    omega (arith, all, stands-sum demands (λ (s : Standing). s.demand.slots) parts k)
  where
    none : (n : ℕ) → cond (is_table n && nat_lt 0 (quanta_in [] n k)) 1 0 ≤ 0
    none n = no_table (is_table n)

    one_more : (x : Part) (ps : List Part) (n : ℕ) (b : Bool) → is_table n ≡ b
        → cond (is_table n && nat_lt 0 (quanta_in (x ∷ ps) n k)) 1 0 ≤ cond (is_table n && nat_lt 0 (quanta_in ps n k)) 1 0 + only x.node (cond (eqb x.stage k) (demand_at demands x.node).slots 0) n
    one_more x ps n b e =
        let one : x.node ≡ n → is_table n ≡ true → (demand_at demands x.node).slots ≡ 1 = λ same table. ap (λ (m : ℕ). (demand_at demands m).slots) same ∙ slots n table in
        grind (arith, nat_tests, sum_by-cons (λ (y : Part). cond (eqb y.node n && eqb y.stage k) y.quanta 0) x ps, one)

-- ---- formats

-- the format of the node of a number
abbrev pub format_at : Program → ℕ → Format
format_at p n = get_or (map (λ (node : Node). what_format p node.what) p.nodes) n no_memory

-- what a node takes of its format is what it demands
pub record SameBlocks (f : Format) (d : Demand) : Type 0 where
  pub sram : f.sram ≡ d.sram
  pub tcam : f.tcam ≡ d.tcam

what_same : (p : Program) (places : List (List Lane)) (w : What) → SameBlocks (what_format p w) (what_demands p places w)
what_same p places (Apply t) = by_table (slice_get p.tables t)
  where
    by_table : (o : Option Table) → SameBlocks (unwrap_or (option_map (λ (table : Table). memory_format table.kind (table_need p table)) o) no_memory) (unwrap_or (option_map (table_demand p places) o) nothing)
    by_table None = record { sram = refl; tcam = refl }
    by_table (Some table) = record { sram = refl; tcam = refl }
what_same p places (Gate field test) = record { sram = refl; tcam = refl }

nodes_same : (p : Program) (places : List (List Lane)) (nodes : List Node) (n : ℕ)
    → SameBlocks (get_or (map (λ (node : Node). what_format p node.what) nodes) n no_memory) (get_or (map (λ (node : Node). what_demands p places node.what) nodes) n nothing)
nodes_same p places [] n = record { sram = refl; tcam = refl }
nodes_same p places (node ∷ nodes) zero = what_same p places node.what
nodes_same p places (node ∷ nodes) (suc n) = nodes_same p places nodes n

pub same_blocks : (p : Program) (places : List (List Lane)) (n : ℕ) → SameBlocks (format_at p n) (demand_at (demands_of p places) n)
same_blocks p places n = nodes_same p places p.nodes n

-- ---- all quanta

found-le : (p : ℕ → Bool) (most : ℕ) (qs : List ℕ) → All (λ q. q ≤ most) qs → unwrap_or (find p qs) 0 ≤ most
found-le p most [] all = omega arith
found-le p most (q ∷ qs) all = by_head (p q) (All-head (λ q. q ≤ most) q qs all) (found-le p most qs (All-tail (λ q. q ≤ most) q qs all))
  where
    by_head : (b : Bool) → q ≤ most → unwrap_or (find p qs) 0 ≤ most → unwrap_or (cond b (Some q) (find p qs)) 0 ≤ most
    by_head true here rest = here
    by_head false here rest = rest

pub fitting-le : (xs : List Standing) (d : Demand) (left : ℕ) → fitting xs d left ≤ left
fitting-le xs d left =
    found-le (λ q. keeps_limits (beside xs d q)) left (map (λ i. left - i) (range_with_len 0 left))
    (All-map (λ q. q ≤ left) (λ i. left - i) (range_with_len 0 left) (All-between (λ i. left - i ≤ left) 0 left (λ i low high. omega arith)))

taken_quanta : (n k taken : ℕ) → quanta_of (taken_part n k taken) n ≡ taken
taken_quanta n k taken = elim (cases_eq taken 0) [
  | inl none ↦ ap (λ (t : ℕ). quanta_of (taken_part n k t) n) none ∙ sym none
  | inr some ↦
      ap (λ (b : Bool). quanta_of (cond b [] (record { node = n; stage = k; quanta = taken } ∷ [])) n) (ne_eqb taken 0 some)
      ∙ (ap (λ (b : Bool). 0 + cond b taken 0) (eq-eqb n n refl) ∙ (let e : 0 + taken ≡ taken = omega arith in e))
]

pub spread_quanta : (demands : List Demand) (parts : List Part) (n : ℕ) (stages : List ℕ) (left : ℕ)
    → quanta_of (spread demands parts n stages left).parts n + (spread demands parts n stages left).left ≡ left
spread_quanta demands parts n [] left = let e : 0 + left ≡ left = omega arith in e
spread_quanta demands parts n (k ∷ stages) left =
    let taken = fitting (standing_in demands parts k) (demand_at demands n) left in
    let rest = spread demands parts n stages (left - taken) in
    let split = sum_by-append (λ (x : Part). cond (eqb x.node n) x.quanta 0) (taken_part n k taken) rest.parts in
    omega (arith, split, taken_quanta n k taken, fitting-le (standing_in demands parts k) (demand_at demands n) left, spread_quanta demands parts n stages (left - taken))
