use Rattle.std.proofs.Common.{◌≡◌, ◌≢◌, true≢false, ◌<◌, ℕ, List, Option, length, get_or, map, sym, ap, subst, ◌∙◌, arith, rules}
use Rattle.std.proofs.lemmas.Grind.{common_steps}
use Rattle.std.specs.Prelude.{All}
use Rattle.rmt_config.proofs.CountsLemmas.{counts_fit}
use Rattle.rmt_pack.specs.Starts.{stages_of}
use Rattle.rmt_refine.specs.Types.{Stage}
use Rattle.rmt_verify.specs.EdgeSpans.{IsPartOf, no_span, span_of}
use Rattle.rmt_verify.specs.declared.edges.spans.Span.{Span}
use Rattle.rmt_verify.proofs.UnitLaws.{StagesStand, parts_stand_there, some_quanta, stands_where, units_carried}
use Rattle.rmt_verify.proofs.units.units_hold.Goals as goal

pub returns-then-not-starts_are-clause-exact : goal.returns-then-not-starts_are-clause-exact
returns-then-not-starts_are-clause-exact c = (
  λ no. absurd (true≢false (sym no)),
  λ units. absurd (
      let yes = c.starts_are.ensures.1 (ap (map (λ (s : Stage). s.start)) c.as_slice-stages.ensures ∙ units.starts_are) in
      true≢false (sym yes ∙ c.if-not-starts_are.true)),
)

pub returns-then-not-parts_stand-clause-exact : goal.returns-then-not-parts_stand-clause-exact
returns-then-not-parts_stand-clause-exact c = (
  λ no. absurd (true≢false (sym no)),
  λ units. absurd (
      let p = c.args.program.now in
      let parts = c.args.parts.now in
      let there = parts_stand_there p c.args.places.now parts c.args.starts.now c.args.config.now units in
      let yes = c.parts_stand.ensures.exact.1 (subst (λ n. All (IsPartOf n (length c.as_slice-stages.result.now)) parts) (sym c.len-nodes.ensures)
      (subst (λ (ss : List Stage). All (IsPartOf (length p.nodes) (length ss)) parts) (sym c.as_slice-stages.ensures) there)) in
      true≢false (sym yes ∙ c.if-not-parts_stand.true)),
)

pub returns-then-not-all_stand-clause-exact : goal.returns-then-not-all_stand-clause-exact
returns-then-not-all_stand-clause-exact c =
    let p = c.args.program.now in
    let parts = c.args.parts.now in
    let stand : All (IsPartOf c.len-nodes.result (length c.as_slice-stages.result.now)) parts = c.parts_stand.ensures.exact.0 c.if-not-parts_stand.false in
    let some = some_quanta c.len-nodes.result (length c.as_slice-stages.result.now) parts stand in
    let same : (n : ℕ) → get_or c.deref.result.now n no_span ≡ span_of (stages_of parts n) =
    λ n. ap (λ (xs : List (Option Span)). get_or xs n no_span) c.deref.ensures.value ∙ c.in_ok-spans.ensures n in (
      λ no. absurd (true≢false (sym no)),
      λ units. absurd (
          let there : (n : ℕ) → n < c.len-nodes.result → get_or c.deref.result.now n no_span ≢ no_span =
          λ n lt none. (stands_where parts n some).1 (units.each_node n (omega (arith, lt, c.len-nodes.ensures))) (sym (same n) ∙ none) in
          let yes = c.all_stand.ensures.1 there in
          true≢false (sym yes ∙ c.if-not-all_stand.true)),
    )

pub all_stages-requires-clause-placed : goal.all_stages-requires-clause-placed
all_stages-requires-clause-placed c = record {
  program = c.requires.placed.program;
  places = c.requires.placed.places;
  nodes_are = first_of (search rules, grind (arith, common_steps));
  spans_are = first_of (search rules, grind (arith, common_steps));
}

pub all_stages-requires-clause-few : goal.all_stages-requires-clause-few
all_stages-requires-clause-few c =
    let few = (counts_fit c.args.config.now c.requires.placed.formed.items).stages in
    omega (arith, few, ap (λ (ss : List Stage). length ss) c.as_slice-stages.ensures)

pub returns-clause-exact : goal.returns-clause-exact
returns-clause-exact c =
    let p = c.args.program.now in
    let places = c.args.places.now in
    let parts = c.args.parts.now in
    let cfg = c.args.config.now in
    let stages = c.as_slice-stages.result.now in
    let is : stages ≡ cfg.stages = c.as_slice-stages.ensures in
    let start : map (λ (s : Stage). s.start) cfg.stages ≡ c.args.starts.now = sym (ap (map (λ (s : Stage). s.start)) is) ∙ c.starts_are.ensures.0 c.if-not-starts_are.false in
    let stand : All (IsPartOf (length p.nodes) (length cfg.stages)) parts =
    subst (λ n. All (IsPartOf n (length cfg.stages)) parts) c.len-nodes.ensures
    (subst (λ (ss : List Stage). All (IsPartOf c.len-nodes.result (length ss)) parts) is (c.parts_stand.ensures.exact.0 c.if-not-parts_stand.false)) in
    let all : (n : ℕ) → n < c.len-nodes.result → get_or c.deref.result.now n no_span ≢ no_span = c.all_stand.ensures.0 c.if-not-all_stand.false in
    let there : (n : ℕ) → n < length p.nodes → span_of (stages_of parts n) ≢ no_span =
    λ n lt none. all n (omega (arith, lt, c.len-nodes.ensures))
    (ap (λ (xs : List (Option Span)). get_or xs n no_span) c.deref.ensures.value ∙ c.in_ok-spans.ensures n ∙ none) in (
      λ yes. units_carried p places parts c.args.starts.now cfg start stand there (subst (StagesStand p places parts) is (c.in_ok-all_stages.ensures.0 yes)),
      λ units. c.in_ok-all_stages.ensures.1 (subst (StagesStand p places parts) (sym is) units.units),
    )
