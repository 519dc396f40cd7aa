-- Nodes that are placed so that they keep every edge and limit, and their starts.
use Rattle.std.proofs.Common.{◌≡◌, ℕ, ◌+◌, ◌<◌, ◌≤◌, List, Ok, length, refl, sym, ap, subst, ◌∙◌, arith}
use Rattle.std.specs.Prelude.{All}
use Rattle.std.proofs.lemmas.List.{length-map}
use Rattle.rmt_bits.specs.declared.lane.Lane.{Lane}
use Rattle.rmt_bits.proofs.FunctionLaws.{funext}
use Rattle.rmt_ast.specs.declared.deps.Edge.{Edge}
use Rattle.rmt_build.specs.Types.{Program}
use Rattle.rmt_ast.specs.WellFormed.{IsProgram}
use Rattle.rmt_deps.specs.Edges.{GoForward, dependencies_of, field_edges}
use Rattle.rmt_deps.specs.Levels as levels
use Rattle.rmt_deps.proofs.EdgeLaws.{go_forward}
use Rattle.rmt_pack.specs.declared.format.Format.{Format}
use Rattle.rmt_pack.specs.declared.placement.Part.{Part}
use Rattle.rmt_pack.specs.Placements.{IsLegalWith, quanta_of, taken_in}
use Rattle.rmt_place.specs.Needs.{demands_of}
use Rattle.rmt_place.specs.Placing.{IsGoodOrder, placement, rule_order}
use Rattle.rmt_place.specs.Starting.{stages_in, starts_of}
use Rattle.rmt_place.proofs.GoodLaws.{good_keeps, rule_good}
use Rattle.rmt_place.proofs.LeastLaws.{greatest-le, items-le, length-until}
use Rattle.rmt_place.proofs.LegalLaws as legal
use Rattle.rmt_place.proofs.LegalPlacement.{kept_legal, node_quanta}
use Rattle.rmt_build.specs.Plans.{AreParts}
use Rattle.rmt_filling.specs.Formats.{format_at}
use Rattle.rmt_build.specs.Stages.{ArePlaced}

-- ---- formats

pub format_same : (p : Program) (n : ℕ) → legal.format_at p n ≡ format_at p n
format_same p n = refl

taken_same : (p : Program) (parts : List Part) (f g : ℕ → ℕ) (k : ℕ) → ((n : ℕ) → f n ≡ g n) → taken_in p parts f k ≡ taken_in p parts g k
taken_same p parts f g k same = ap (λ h. taken_in p parts h k) (funext f g same)

-- ---- parts

-- by the rule they are placed so
pub rule_placed : (p : Program) (places : List (List Lane)) (parts : List Part) → IsProgram p → placement p places (dependencies_of p places) ≡ Ok parts → ArePlaced p places parts
rule_placed p places parts program placed =
    let deps = dependencies_of p places in
    let demands = demands_of p places in
    let order = rule_order deps (length demands) in
    let many : length demands ≡ length p.nodes = simp length-map in
    let forward : GoForward (length p.nodes) deps = go_forward p places in
    let good : IsGoodOrder (length demands) (levels.all_edges deps) order = rule_good deps (length demands) (subst (λ (m : ℕ). GoForward m deps) (sym many) forward) in
    let all = good_keeps p places deps order parts program forward (subst (λ (m : ℕ). IsGoodOrder m (levels.all_edges deps) order) many good) placed in
    record { keeps = all.edges; limits = λ k lt. all.limits k; parts = all.parts; apart = all.apart; quanta = all.quanta }

module _ (p : Program) (places : List (List Lane)) (parts : List Part) (program : IsProgram p) (placed : ArePlaced p places parts) where
  pub exact_quanta : (n : ℕ) → n < length p.nodes → quanta_of parts n ≡ (format_at p n).quanta
  exact_quanta n lt = placed.quanta n lt ∙ sym (node_quanta p places program n lt) ∙ ap (λ (f : Format). f.quanta) (format_same p n)

  -- they are a legal placement
  pub is_legal : IsLegalWith p (field_edges p places) (legal.format_at p) parts
  is_legal =
      kept_legal p places (dependencies_of p places) parts program placed.keeps (λ n lt. (let all = placed.quanta n lt in omega (arith, all))) placed.parts placed.limits

  pub parts_are : AreParts p parts
  parts_are = record {
    each = placed.parts;
    apart = placed.apart;
    whole = λ n lt. (let exact = exact_quanta n lt in omega (arith, exact));
    sram = λ k. subst (λ m. m ≤ 106) (taken_same p parts (λ n. (legal.format_at p n).sram) (λ n. (format_at p n).sram) k (λ n. ap (λ (f : Format). f.sram) (format_same p n))) (is_legal.sram k);
    tcam = λ k. subst (λ m. m ≤ 16) (taken_same p parts (λ n. (legal.format_at p n).tcam) (λ n. (format_at p n).tcam) k (λ n. ap (λ (f : Format). f.tcam) (format_same p n))) (is_legal.tcam k);
  }

-- ---- starts

pub starts_long : (edges : List Edge) (parts : List Part) → length (starts_of edges parts) ≡ stages_in parts
starts_long edges parts = length-until edges parts (stages_in parts)

pub stages_few : (parts : List Part) → All (λ (x : Part). x.stage < 32) parts → stages_in parts ≤ 32
stages_few parts few = greatest-le (λ (x : Part). x.stage + 1) 0 32 parts (omega arith) (λ i d lt. let one = few i d lt in omega (arith, one))

pub in_stages : (parts : List Part) → All (λ (x : Part). x.stage < stages_in parts) parts
in_stages parts i d lt = let one = items-le (λ (x : Part). x.stage + 1) 0 parts i d lt in omega (arith, one)
