-- The placement of a well-formed program is legal.
use Rattle.std.proofs.Common.{◌≡◌, ℕ, zero, suc, ◌+◌, ◌<◌, ◌≤◌, List, [], ◌∷◌, ◌++◌, length, get_or, filter, map, Bool, true, false, cond, eqb, ◌||◌, inl, inr, Option, Some, None, Ok, Err, Result, option_map, unwrap_or, sym, refl, subst, ap, ◌∙◌, arith}
use Rattle.std.specs.List.{All, range_with_len}
use Rattle.std.specs.Prelude.{slice_get}
use Rattle.std.proofs.lemmas.Bool.{cases_eq, cases_lt, eqb-true, eq-eqb, ne_eqb, false≢true}
use Rattle.std.proofs.lemmas.List.{get_or_default}
use Rattle.std.proofs.lemmas.List.Elements.{All-head, All-tail}
use Rattle.std.proofs.lemmas.List.Sums.{sum_by-append}
use Rattle.rmt_bits.specs.declared.lane.Lane.{Lane}
use Rattle.rmt_bits.proofs.AllLaws.{All-left, All-parts, All-unfilter}
use Rattle.rmt_bits.proofs.ListLaws.{slice_get-item}
use Rattle.rmt_bits.specs.Members.{is_among}
use Rattle.rmt_bits.proofs.MemberLaws.{among-Contains}
use Rattle.rmt_ast.specs.declared.deps.Edge.{Edge}
use Rattle.rmt_ast.specs.declared.deps.Deps.{Deps}
use Rattle.rmt_ast.specs.declared.program.Program.{Program}
use Rattle.rmt_ast.specs.declared.program.Table.{Table}
use Rattle.rmt_ast.specs.declared.program.Node.{Node}
use Rattle.rmt_ast.specs.declared.program.What.{What}
use Rattle.rmt_ast.specs.declared.program.What.TheVariants.{Apply, Gate}
use Rattle.rmt_ast.specs.WellFormed.{IsProgram, IsWhat}
use Rattle.rmt_config.specs.declared.limits.LimitHit.{LimitHit}
use Rattle.rmt_deps.specs.Edges.{GoForward}
use Rattle.rmt_deps.specs.Levels.{all_edges, levels_of}
use Rattle.rmt_deps.proofs.LevelLaws.{IsSmall-levels_of, length-levels_of}
use Rattle.rmt_pack.specs.declared.format.Format.{Format}
use Rattle.rmt_pack.specs.declared.placement.Part.{Part}
use Rattle.rmt_pack.specs.Formats.{memory_format, no_memory}
use Rattle.rmt_pack.specs.Placements.{is_table, is_table_at, IsLegalWith, IsNodeFormat, Keeps, quanta_of, table_need, what_format}
use Rattle.rmt_pack.proofs.FormatLaws.{of_range}
use Rattle.rmt_pack.proofs.NeedLaws.{own_format}
use Rattle.rmt_place.specs.declared.demand.Demand.{Demand}
use Rattle.rmt_place.specs.declared.load.TheConstants.{MOST}
use Rattle.rmt_place.specs.Needs.{Standing, demand_at, demands_of, keeps_limits, nothing, table_demand, what_demands}
use Rattle.rmt_place.specs.Placing.{earliest_stage, hits_from, IsPart, order_of, placed_all, placed_node, settled, Spread, spread, stages_from, standing_in, Stuck}
use Rattle.rmt_place.specs.Steps.{numbers_of}
use Rattle.rmt_place.proofs.KeepLaws.{placed_induction, placed_is}
use Rattle.rmt_place.proofs.LegalLaws.{format_at, same_blocks, spread_quanta, tables-le, taken-le}
use Rattle.rmt_place.proofs.StageLaws.{kept_at}

-- ---- every node is placed

not_in : (ns : List ℕ) (n : ℕ) → is_among ns n ≡ false → All (λ m. m ≡ n → ⊥) ns
not_in ns n none i d lt same = false≢true (sym none ∙ among-Contains ns n (i, lt, get_or_default ns i n d lt ∙ same))

pub all_there : (levels : List ℕ) (n : ℕ) → n < length levels → get_or levels n 0 < length levels → is_among (order_of levels) n ≡ true
all_there levels n lt small = by_cases (is_among (order_of levels) n) refl
  where
    by_cases : (b : Bool) → is_among (order_of levels) n ≡ b → b ≡ true
    by_cases true e = refl
    by_cases false e =
        let level = get_or levels n 0 in
        let none = All-parts (λ m. m ≡ n → ⊥) (λ l. filter (λ m. eqb (get_or levels m 0) l) (range_with_len 0 (length levels))) (range_with_len 0 (length levels)) (not_in (order_of levels) n e) in
        let own = of_range (λ l. All (λ m. m ≡ n → ⊥) (filter (λ m. eqb (get_or levels m 0) l) (range_with_len 0 (length levels)))) 0 (length levels) level (omega arith) (omega arith) none in
        let each = All-unfilter (λ m. m ≡ n → ⊥) (λ m. eqb (get_or levels m 0) level) (range_with_len 0 (length levels)) own in
        absurd (of_range (λ m. eqb (get_or levels m 0) level ≡ true → m ≡ n → ⊥) 0 (length levels) n (omega arith) (omega arith) each (eq-eqb level level refl) refl)

settled_left : (n : ℕ) (parts more : List Part) (hits : List LimitHit) (s : Spread) → settled n parts hits s ≡ Ok more → s.left ≡ 0
settled_left n parts more hits s is = by_cases (eqb s.left 0) refl is
  where
    by_cases : (b : Bool) → eqb s.left 0 ≡ b → cond {A = Result (List Part) Stuck} b (Ok (parts ++ s.parts)) (Err (record { node = n; placed = parts ++ s.parts; hits = hits })) ≡ Ok more → s.left ≡ 0
    by_cases true e done = eqb-true s.left 0 e
    by_cases false e done = absurd (cc)

-- a node that was placed has all its quanta
pub placed_whole : (demands : List Demand) (edges : List Edge) (nodes : List ℕ) (final : List Part) (n : ℕ) → is_among nodes n ≡ true
    → placed_all demands edges nodes [] ≡ Ok final → (demand_at demands n).quanta ≤ quanta_of final n
placed_whole demands edges nodes final n there is =
    placed_induction demands edges (λ rest parts. is_among rest n ≡ false → (demand_at demands n).quanta ≤ quanta_of parts n) step nodes [] final (λ none. absurd (false≢true (sym none ∙ there))) is refl
  where
    step : (m : ℕ) (rest : List ℕ) (parts more : List Part) → (is_among (m ∷ rest) n ≡ false → (demand_at demands n).quanta ≤ quanta_of parts n)
        → placed_node demands edges parts m ≡ Ok more → is_among rest n ≡ false → (demand_at demands n).quanta ≤ quanta_of more n
    step m rest parts more before placed none =
        let earliest = earliest_stage edges parts m in
        let s = spread demands parts m (stages_from earliest) (demand_at demands m).quanta in
        let behind = (placed_is demands edges parts more m placed).behind in
        let split : quanta_of more n ≡ quanta_of parts n + quanta_of s.parts n =
        ap (λ (l : List Part). quanta_of l n) behind ∙ sum_by-append (λ (x : Part). cond (eqb x.node n) x.quanta 0) parts s.parts in
        elim (cases_eq m n) [
          | inl same ↦
              let all = spread_quanta demands parts m (stages_from earliest) (demand_at demands m).quanta in
              let own : quanta_of s.parts m ≡ quanta_of s.parts n = ap (quanta_of s.parts) same in
              let needs : (demand_at demands m).quanta ≡ (demand_at demands n).quanta = ap (λ (j : ℕ). (demand_at demands j).quanta) same in
              omega (arith, split, all, own, needs, settled_left m parts more (hits_from demands parts m earliest) s placed)
          | inr other ↦
              omega (arith, split, before (ap (λ b. b || is_among rest n) (ne_eqb m n other) ∙ none))
        ]

-- ---- what nodes have

mapped : {A : Type 0} (F : Node → A) (nodes : List Node) (n : ℕ) (x : Node) (d : A) → slice_get nodes n ≡ Some x → get_or (map F nodes) n d ≡ F x
mapped F [] n x d is = absurd (cc)
mapped F (node ∷ nodes) zero x d is = ap F (let e : node ≡ x = cc in e)
mapped F (node ∷ nodes) (suc n) x d is = mapped F nodes n x d is

what_quanta : (p : Program) (places : List (List Lane)) (w : What) → IsWhat p w → (what_format p w).quanta ≡ (what_demands p places w).quanta
what_quanta p places (Apply t) is = by_table (slice_get p.tables t) (slice_get-item p.tables t is).0 (slice_get-item p.tables t is).1
  where
    by_table : (o : Option Table) (table : Table) → o ≡ Some table
        → (unwrap_or (option_map (λ (x : Table). memory_format x.kind (table_need p x)) o) no_memory).quanta ≡ (unwrap_or (option_map (table_demand p places) o) nothing).quanta
    by_table None table e = absurd (cc)
    by_table (Some x) table e = refl
what_quanta p places (Gate field test) is = refl

what_slots : (p : Program) (places : List (List Lane)) (w : What) → IsWhat p w → is_table w ≡ true → (what_demands p places w).slots ≡ 1
what_slots p places (Apply t) is table = by_table (slice_get p.tables t) (slice_get-item p.tables t is).0 (slice_get-item p.tables t is).1
  where
    by_table : (o : Option Table) (table : Table) → o ≡ Some table → (unwrap_or (option_map (table_demand p places) o) nothing).slots ≡ 1
    by_table None table e = absurd (cc)
    by_table (Some x) table e = refl
what_slots p places (Gate field test) is table = absurd (false≢true table)

pub table_slots : (p : Program) (places : List (List Lane)) → IsProgram p → (n : ℕ) → is_table_at p n ≡ true → (demand_at (demands_of p places) n).slots ≡ 1
table_slots p places program n table = by_node (slice_get p.nodes n) refl table
  where
    by_node : (o : Option Node) → slice_get p.nodes n ≡ o → unwrap_or (option_map (λ (x : Node). is_table x.what) o) false ≡ true → (demand_at (demands_of p places) n).slots ≡ 1
    by_node None e table = absurd (false≢true table)
    by_node (Some node) e table =
        ap (λ (d : Demand). d.slots) (mapped (λ (x : Node). what_demands p places x.what) p.nodes n node nothing e)
        ∙ what_slots p places node.what (program.nodes n node e).what table

pub node_quanta : (p : Program) (places : List (List Lane)) → IsProgram p → (n : ℕ) → n < length p.nodes → (format_at p n).quanta ≡ (demand_at (demands_of p places) n).quanta
node_quanta p places program n lt =
    let item = slice_get-item p.nodes n lt in
    ap (λ (f : Format). f.quanta) (mapped (λ (x : Node). what_format p x.what) p.nodes n item.0 no_memory item.1)
    ∙ (what_quanta p places item.0.what (program.nodes n item.0 item.1).what
    ∙ sym (ap (λ (d : Demand). d.quanta) (mapped (λ (x : Node). what_demands p places x.what) p.nodes n item.0 nothing item.1)))

-- ---- stages past the last

none_past : (demands : List Demand) (count : ℕ) (parts : List Part) (k : ℕ) → All (IsPart count) parts → 32 ≤ k → standing_in demands parts k ≡ []
none_past demands count [] k all past = refl
none_past demands count (x ∷ parts) k all past =
    let own = All-head (IsPart count) x parts all in
    let elsewhere : eqb x.stage k ≡ false = ne_eqb x.stage k (λ e. (let lt = own.stage in omega (arith, lt, e))) in
    ap (λ (b : Bool). map stands (cond b (x ∷ filter (λ (y : Part). eqb y.stage k) parts) (filter (λ (y : Part). eqb y.stage k) parts))) elsewhere
    ∙ none_past demands count parts k (All-tail (IsPart count) x parts all) past
  where
    stands : Part → Standing
    stands y = record { demand = demand_at demands y.node; quanta = y.quanta }

pub kept_everywhere : (demands : List Demand) (count : ℕ) (parts : List Part) → All (IsPart count) parts → ((k : ℕ) → k < 32 → keeps_limits (standing_in demands parts k) ≡ true)
    → (k : ℕ) → keeps_limits (standing_in demands parts k) ≡ true
kept_everywhere demands count parts all kept k = elim (cases_lt k 32) [
  | inl within ↦ kept k within
  | inr past ↦ ap keeps_limits (none_past demands count parts k all past)
]

-- ---- legal

-- a placement is legal that keeps every edge and limit, and has all quanta of each node
pub kept_legal : (p : Program) (places : List (List Lane)) (deps : Deps) (parts : List Part) → IsProgram p → All (λ e. All (λ a. All (Keeps e a) parts) parts) (all_edges deps)
    → ((n : ℕ) → n < length p.nodes → (demand_at (demands_of p places) n).quanta ≤ quanta_of parts n) → All (IsPart (length p.nodes)) parts
    → ((k : ℕ) → k < 32 → keeps_limits (standing_in (demands_of p places) parts k) ≡ true)
    → IsLegalWith p deps.field (format_at p) parts
kept_legal p places deps parts program edges whole all kept =
    let demands = demands_of p places in
    let everywhere = kept_everywhere demands (length p.nodes) parts all kept in
    record {
      node_formats = λ n x is. subst (IsNodeFormat p x.what) (sym (mapped (λ (y : Node). what_format p y.what) p.nodes n x no_memory is)) (own_format p program x.what);
      whole = λ n lt.
          omega (arith, whole n lt, node_quanta p places program n lt);
      order = All-left (λ e. All (λ a. All (Keeps e a) parts) parts) deps.field deps.word edges;
      sram = λ stage.
          let le = taken-le demands parts (λ n. (format_at p n).sram) (λ (d : Demand). d.sram) (length p.nodes) stage (λ n. (same_blocks p places n).sram) in
          let most = kept_at MOST (numbers_of (standing_in demands parts stage)) 0 (everywhere stage) (omega arith) (omega arith) in
          omega (arith, le, most);
      tcam = λ stage.
          let le = taken-le demands parts (λ n. (format_at p n).tcam) (λ (d : Demand). d.tcam) (length p.nodes) stage (λ n. (same_blocks p places n).tcam) in
          let most = kept_at MOST (numbers_of (standing_in demands parts stage)) 1 (everywhere stage) (omega arith) (omega arith) in
          omega (arith, le, most);
      slots = λ stage.
          let most = kept_at MOST (numbers_of (standing_in demands parts stage)) 4 (everywhere stage) (omega arith) (omega arith) in
          omega (arith, tables-le demands parts (is_table_at p) (length p.nodes) stage (table_slots p places program), most);
    }

-- the rule's order has every node
pub rule_has_all : (deps : Deps) (nodes n : ℕ) → GoForward nodes deps → n < nodes → is_among (order_of (levels_of deps nodes)) n ≡ true
rule_has_all deps nodes n forward lt =
    let levels = levels_of deps nodes in
    let size : length levels ≡ nodes = length-levels_of deps nodes in
    let small = IsSmall-levels_of deps nodes forward nodes (omega arith) n lt in
    all_there levels n (omega (arith, size, lt)) (omega (arith, size, lt, small))
