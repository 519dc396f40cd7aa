-- The rule's order is good, and the placement of a good order keeps every edge and limit, and is legal.
use Rattle.std.proofs.Common.{◌≡◌, ℕ, ◌<◌, ◌≤◌, List, length, get_or, true, Ok, subst, arith}
use Rattle.std.specs.List.{All, AllPairs}
use Rattle.std.proofs.lemmas.List.Elements.{Contains-get_or}
use Rattle.rmt_bits.specs.declared.lane.Lane.{Lane}
use Rattle.rmt_bits.proofs.MemberLaws.{Contains-from_any, among-Contains}
use Rattle.rmt_ast.specs.declared.deps.Deps.{Deps}
use Rattle.rmt_ast.specs.declared.program.Program.{Program}
use Rattle.rmt_ast.specs.WellFormed.{IsProgram}
use Rattle.rmt_deps.specs.Edges.{GoForward}
use Rattle.rmt_deps.specs.Levels.{all_edges, levels_of}
use Rattle.rmt_deps.proofs.LevelLaws.{length-levels_of}
use Rattle.rmt_pack.specs.declared.placement.Part.{Part}
use Rattle.rmt_pack.specs.Placements.{IsLegalWith, Keeps, quanta_of}
use Rattle.rmt_place.specs.Needs.{demand_at, demands_of, keeps_limits}
use Rattle.rmt_place.specs.Placing.{AreTwo, IsGoodOrder, IsPart, placement_in, rule_order, standing_in}
use Rattle.rmt_place.proofs.ApartLaws.{order_distinct, parts_apart}
use Rattle.rmt_place.proofs.KeepLaws.{forward_keeps, in_order, parts_placed}
use Rattle.rmt_place.proofs.LegalLaws.{format_at}
use Rattle.rmt_place.proofs.LegalPlacement.{kept_legal, placed_whole, rule_has_all}
use Rattle.rmt_place.proofs.LimitLaws.{limits_kept}
use Rattle.rmt_place.proofs.PlaceLaws.{order_nodes}
use Rattle.rmt_place.proofs.QuantaLaws.{quanta_few}

pub rule_good : (deps : Deps) (nodes : ℕ) → GoForward nodes deps → IsGoodOrder nodes (all_edges deps) (rule_order deps nodes)
rule_good deps nodes forward = record {
  numbers = subst (λ (m : ℕ). All (λ n. n < m) (rule_order deps nodes)) (length-levels_of deps nodes) (order_nodes (levels_of deps nodes));
  all_there = λ n lt. Contains-from_any (rule_order deps nodes) n (rule_has_all deps nodes n forward lt);
  once = order_distinct (levels_of deps nodes);
  forward = λ i d lt. in_order deps nodes (get_or (all_edges deps) i d) forward (Contains-get_or (all_edges deps) i d lt);
}

-- what a placement in a good order keeps
pub record KeepsAll (p : Program) (places : List (List Lane)) (deps : Deps) (placed : List Part) : Type 0 where
  pub edges : All (λ e. All (λ a. All (Keeps e a) placed) placed) (all_edges deps)
  pub limits : (stage : ℕ) → keeps_limits (standing_in (demands_of p places) placed stage) ≡ true
  pub legal : IsLegalWith p deps.field (format_at p) placed
  pub parts : All (IsPart (length p.nodes)) placed
  pub apart : AllPairs AreTwo placed
  pub quanta : (n : ℕ) → n < length p.nodes → quanta_of placed n ≡ (demand_at (demands_of p places) n).quanta

pub good_keeps : (p : Program) (places : List (List Lane)) (deps : Deps) (order : List ℕ) (parts : List Part) → IsProgram p → GoForward (length p.nodes) deps
    → IsGoodOrder (length p.nodes) (all_edges deps) order → placement_in (demands_of p places) deps order ≡ Ok parts → KeepsAll p places deps parts
good_keeps p places deps order parts program forward good is =
    let demands = demands_of p places in
    let edges = forward_keeps demands deps (length p.nodes) order parts forward good.forward is in
    let limits = limits_kept demands (all_edges deps) order parts is in
    let each = parts_placed demands (all_edges deps) (length p.nodes) order parts good.numbers is in
    let whole : (n : ℕ) → n < length p.nodes → (demand_at demands n).quanta ≤ quanta_of parts n =
    λ n lt. placed_whole demands (all_edges deps) order parts n (among-Contains order n (good.all_there n lt)) is in
    record {
      edges = edges;
      limits = limits;
      legal = kept_legal p places deps parts program edges whole each (λ stage lt. limits stage);
      parts = each;
      apart = parts_apart demands (all_edges deps) order parts good.once is;
      quanta = λ n lt.
          omega (arith, whole n lt, quanta_few demands (all_edges deps) order parts n good.once is);
    }
