-- A configuration whose stages are those of a plan keeps the rules of form, and is within the limits of the chip.
use Rattle.std.proofs.lemmas.Bool.Decides.{nat_tests}
use Rattle.std.proofs.Common.{◌≡◌, ℕ, ◌+◌, ◌*◌, ◌<◌, ◌≤◌, true, ◌&&◌, ◌==◌, cond, List, [], ◌∷◌, Option, Some, None, length, map, get_or, refl, sym, ap, ◌∙◌, subst, inl, inr, arith}
use Rattle.std.specs.Prelude.{◌||◌, All, is_some, nat_lt, option_map, slice_get, slice_index}
use Rattle.std.specs.List.{AllZip, list_all}
use Rattle.std.proofs.lemmas.Bool.{or_right}
use Rattle.std.proofs.lemmas.List.Elements.{All-weaker, All-contains}
use Rattle.std.proofs.lemmas.List.Sums.{list_all-from_AllPass, sum_by-cons}
use Rattle.std.proofs.lemmas.Slice.Zip.{AllZip-long}
use Rattle.std.proofs.lemmas.Option.{get_or_from_slice_get, slice_get-get_or, slice_get-map, slice_get_within}
use Rattle.rmt_ast.specs.declared.entry.Entry.{Entry}
use Rattle.rmt_ast.specs.declared.names.Names.{Names}
use Rattle.rmt_bits.specs.declared.lane.Lane.{Lane}
use Rattle.rmt_build.specs.Types.{Program, Test, Table, Node, Config, ParserConfig, Stage, TailOf}
use Rattle.rmt_ast.specs.declared.program.Kind.TheVariants as kind
use Rattle.rmt_ast.specs.declared.program.What.TheVariants as what
use Rattle.rmt_ast.specs.EntryLists.{AreEntries}
use Rattle.rmt_ast.specs.WellFormed.{AllNumbered, IsProgram}
use Rattle.rmt_config.specs.CellForm.{StageHolds, entries_are_numbered}
use Rattle.rmt_config.specs.Form.{Formed, names_are_fit, visible_with}
use Rattle.rmt_config.specs.Limits.{IsWithinLimits}
use Rattle.rmt_config.specs.NamesForm.{names_fit}
use Rattle.rmt_config.specs.ParserForm.{parser_is_formed}
use Rattle.rmt_config.specs.TailForm.{has_names_with_tails, tails_have_headers}
use Rattle.rmt_config.specs.StageForm.{rows_are_formed, starts_are_formed}
use Rattle.rmt_pack.specs.declared.placement.Part.{Part}
use Rattle.rmt_pack.specs.Formats.{memory_format, no_memory}
use Rattle.rmt_pack.specs.Placements.{quanta_in, quanta_of, table_need, what_format}
use Rattle.rmt_place.specs.Needs.{demands_of, keeps_limits}
use Rattle.rmt_place.specs.Placing.{standing_in}
use Rattle.rmt_ptcam.specs.Needs.{refusal}
use Rattle.rmt_ptcam.specs.Clustering.{clustered}
use Rattle.rmt_refine.specs.Carries.{EdgesKept, all_edges}
use Rattle.rmt_refine.specs.Places.{HeaderCarried, PlacesCarried}
use Rattle.rmt_refine.specs.Units.{UnitCarried, UnitsCarried, last_stage, nodes_in, table_at}
use Rattle.rmt_refine.proofs.EdgeLaws.{children_follow}
use Rattle.rmt_refine.proofs.NodeLaws.{part_there, stands_in_last}
use Rattle.rmt_refine.proofs.RankLaws.{compare}
use Rattle.rmt_filling.specs.declared.plan.Plan.{Plan}
use Rattle.rmt_build.specs.BuiltStage.{IsBuiltStage}
use Rattle.rmt_build.specs.Plans.{IsPlan}
use Rattle.rmt_filling.specs.Formats.{format_at}
use Rattle.rmt_ptcam.proofs.FormedParsers.{clustered_formed, clustered_headers}
use Rattle.rmt_build.proofs.FormClustered.{clustered_parts}
use Rattle.rmt_build.proofs.FormFits.{data_held, limits_kept, memories, zip_at}
use Rattle.rmt_bits.proofs.ListLaws.{AllZip-slice_get}
use Rattle.rmt_build.proofs.FormHolds.{all_hold, starts_formed}
use Rattle.rmt_build.proofs.FormLanes.{headers_formed, ports_formed}
use Rattle.rmt_build.proofs.FormBlocks.{HasMemory}
use Rattle.rmt_build.proofs.FormStage.{HoldsData}
use Rattle.rmt_build.proofs.FormStages.{stages_formed}
use Rattle.rmt_build.proofs.FormTables.{ArePlaced, Built, StagesFrom, tables_formed}
use Rattle.rmt_build.proofs.PlanLaws.{format_is}
use Rattle.rmt_build.proofs.FormLimits.{FewParts}
use Rattle.rmt_build.proofs.UnitLaws.{node_applies}

-- ---- one quantum stands in one stage

in_two : (n j k : ℕ) → j < k → (xs : List Part) → quanta_in xs n j + quanta_in xs n k ≤ quanta_of xs n
in_two n j k lt [] = omega arith
in_two n j k lt (x ∷ xs) =
    let one = sum_by-cons (λ (y : Part). cond ((y.node == n) && (y.stage == j)) y.quanta 0) x xs in
    let two = sum_by-cons (λ (y : Part). cond ((y.node == n) && (y.stage == k)) y.quanta 0) x xs in
    grind (arith, nat_tests, one, two, sum_by-cons (λ (y : Part). cond (y.node == n) y.quanta 0) x xs, in_two n j k lt xs, lt)

one_stage : (n j k : ℕ) (xs : List Part) → quanta_of xs n ≤ 1 → 0 < quanta_in xs n j → 0 < quanta_in xs n k → j ≡ k
one_stage n j k xs one in_j in_k = elim (compare j k) [
  | inl less ↦ let both = in_two n j k less xs in absurd (omega (arith, both, one, in_j, in_k))
  | inr (inl more) ↦ let both = in_two n k j more xs in absurd (omega (arith, both, one, in_j, in_k))
  | inr (inr same) ↦ same
]

gate_format : (p : Program) (n : ℕ) (node : Node) (field : ℕ) (test : Test) → slice_get p.nodes n ≡ Some node → node.what ≡ what.Gate field test → (format_at p n).quanta ≡ 1
gate_format p n node field test at is =
    let g = λ (x : Node). what_format p x.what in
    ap (λ f. f.quanta) (get_or_from_slice_get (map g p.nodes) n (g node) no_memory (slice_get-map g p.nodes n ∙ ap (option_map g) at) ∙ ap (what_format p) is)

keyless_format : (p : Program) → IsProgram p → (n : ℕ) (t : Table) → table_at p n ≡ Some t → t.kind ≡ kind.Keyless → (format_at p n).quanta ≡ 1
keyless_format p program n t at is = ap (λ f. f.quanta) (format_is p program n t at ∙ ap (λ kd. memory_format kd (table_need p t)) is)

-- ---- names and tails

-- each tail is of a header that is sent
tails_there : (p : Program) (places : List (List Lane)) (c : Config) → PlacesCarried p places c → list_all (λ (t : TailOf). nat_lt t.header (length p.headers)) c.parser.tails ≡ true
    → tails_have_headers c ≡ true
tails_there p places c carried low =
    subst (λ n. list_all (λ (t : TailOf). nat_lt t.header n) c.parser.tails ≡ true) (sym (AllZip-long (HeaderCarried places) p.headers c.headers carried.headers)) low

-- where there are names, tails may stand
tails_named : (c : Config) (names : Names) → c.names ≡ Some names → has_names_with_tails c ≡ true
tails_named c names is = ap (λ (n : Option Names). (length c.parser.tails == 0) || is_some n) is ∙ or_right (length c.parser.tails == 0) true refl

-- ---- a configuration

-- a node's parts have the quanta of its format
abbrev pub HasQuanta : Program → List Part → Type 0
HasQuanta p parts = (n : ℕ) → n < length p.nodes → quanta_of parts n ≡ (format_at p n).quanta

module _ (p : Program) (lists : List (List Entry)) (plan : Plan) (c : Config) (program : IsProgram p) (entries : AreEntries p lists) (is_plan : IsPlan p lists plan)
    (built : AllNumbered (IsBuiltStage p lists plan) c.stages) (few : length c.stages ≤ 32) (long : length c.stages ≡ length plan.starts)
    (early : (k : ℕ) → k < length plan.starts → slice_index plan.starts k ≤ 12 * k) where
  abbrev parts : List Part
  parts = plan.placement.parts

  pub limits_by_plan : refusal p ≡ None → c.parser ≡ clustered p plan.places → ((k : ℕ) → k < 32 → keeps_limits (standing_in (demands_of p plan.places) parts k) ≡ true)
      → IsWithinLimits c
  limits_by_plan fits parser limits =
      limits_kept p lists plan program entries is_plan.parts c built few long (subst FewParts (sym parser) (clustered_parts p plan.places program is_plan.places fits)) limits early

  module _ (carried : PlacesCarried p plan.places c) (units : UnitsCarried p plan.places parts plan.starts c) (edges : EdgesKept (all_edges p plan.places) parts plan.starts)
      (exact : HasQuanta p parts) where
    alone_when : (n j k : ℕ) → n < length p.nodes → (format_at p n).quanta ≡ 1 → 0 < quanta_in parts n j → 0 < quanta_in parts n k → j ≡ k
    alone_when n j k lt one in_j in_k = (let all = exact n lt in one_stage n j k parts (omega (arith, all, one)) in_j in_k)

    some_in_last : (n : ℕ) → n < length p.nodes → 0 < quanta_in parts n (last_stage parts n)
    some_in_last n lt =
        stands_in_last parts n
        (All-weaker (λ (x : Part). (x.node < length p.nodes) × (x.stage < length c.stages) × (0 < x.quanta)) (λ (x : Part). 0 < x.quanta) (λ x h. h.2) parts units.no_other) (units.each_node n lt)

    are_placed : ArePlaced p program plan.places parts (length c.stages)
    are_placed = record {
      follow = children_follow p plan.places parts plan.starts c program units edges;
      some = some_in_last;
      stage = λ n j some.
          (let there = part_there parts n j some in
          let own = All-contains (λ (x : Part). (x.node < length p.nodes) × (x.stage < length c.stages) × (0 < x.quanta)) parts there.0 units.no_other there.1 in
          (subst (λ m. m < length p.nodes) there.2 own.0, subst (λ m. m < length c.stages) there.3 own.1));
      alone = λ n j k node field test at is in_j in_k. alone_when n j k (slice_get_within p.nodes n node at) (gate_format p n node field test at is) in_j in_k;
    }

    keyless_alone : (n k : ℕ) (t : Table) → table_at p n ≡ Some t → t.kind ≡ kind.Keyless → 0 < quanta_in parts n k → k ≡ last_stage parts n
    keyless_alone n k t at is in_k =
        let within = slice_get_within p.nodes n (node_applies p n t at).node (node_applies p n t at).at in
        alone_when n k (last_stage parts n) within (keyless_format p program n t at is) in_k (some_in_last n within)

    stages_built : StagesFrom p program plan.places parts 0 c.stages
    stages_built i s at =
        let own = built i s at in
        let held = data_held p lists plan program entries is_plan.parts i s own in
        let memory = memories p lists plan program entries is_plan.parts i s own in
        let all = zip_at (λ n u. UnitCarried p plan.places parts i n u × HoldsData p plan.places parts i n u) (Built p program plan.places parts i) (nodes_in p parts i) s.units
        (λ j n u at_n at_u both. (both.0, both.1, AllZip-slice_get (HasMemory p program plan.places parts i) (nodes_in p parts i) s.units j n u memory at_n at_u)) held in
        let from_zero : i ≡ 0 + i = omega arith in
        subst (λ k. AllZip (Built p program plan.places parts k) (nodes_in p parts k) s.units) from_zero all

    starts_are : map (λ (s : Stage). s.start) c.stages ≡ plan.starts
    starts_are = units.starts_are

    pub formed_by_plan : (names : Names) → refusal p ≡ None → c.names ≡ Some names → names_fit c names ≡ true → tails_have_headers c ≡ true → c.seed < 256
        → parser_is_formed c.parser ≡ true → entries_are_numbered c ≡ true → Formed c
    formed_by_plan names fits named fit tails seed parser numbers =
        let headers = headers_formed p plan.places is_plan.places program c carried fits in
        let starts : starts_are_formed (map (λ (s : Stage). s.start) c.stages) ≡ true =
        ap starts_are_formed starts_are ∙ starts_formed plan.starts edges.distances.first edges.distances.rise in
        let stages = stages_formed p program lists entries plan is_plan.parts is_plan.places is_plan.stands keyless_alone c.stages built few long early starts in
        record {
          items = rw (ports_formed p plan.places is_plan.places program c carried seed, headers, parser, tails, stages) refl;
          whole = record {
            rows = list_all-from_AllPass rows_are_formed c.stages (λ k d lt. (built k (get_or c.stages k d) (slice_get-get_or c.stages k d lt)).rows);
            tables = tables_formed p program plan.places parts c are_placed stages_built;
            memory = subst (λ n. All (StageHolds (visible_with n)) c.stages) (sym named) (all_hold p lists plan program entries is_plan.parts is_plan.stands c.stages built);
            numbers = numbers;
            names = subst (λ n. names_are_fit c n ≡ true) (sym named) fit;
            tails = tails_named c names named;
          };
        }

    -- with the clustered parser
    pub formed_with_clustered : (names : Names) → refusal p ≡ None → c.parser ≡ clustered p plan.places → c.names ≡ Some names → names_fit c names ≡ true → c.seed < 256
        → entries_are_numbered c ≡ true → Formed c
    formed_with_clustered names fits parser named fit seed numbers =
        let low : list_all (λ (t : TailOf). nat_lt t.header (length p.headers)) c.parser.tails ≡ true =
        subst (λ (q : ParserConfig). list_all (λ (t : TailOf). nat_lt t.header (length p.headers)) q.tails ≡ true) (sym parser) (clustered_headers p plan.places program is_plan.places fits) in
        formed_by_plan names fits named fit (tails_there p plan.places c carried low) seed (ap parser_is_formed parser ∙ clustered_formed p plan.places program is_plan.places fits) numbers
