use Rattle.std.proofs.Common.{◌≡◌, ◌≤◌, ◌∙◌, List, Some, Ok, length, true, ap, sym, subst, rules}
use Rattle.std.specs.Prelude.{All}
use Rattle.rmt_bits.specs.declared.lane.Lane.{Lane}
use Rattle.rmt_ast.specs.declared.deps.Deps.{Deps}
use Rattle.rmt_ast.specs.declared.names.Names.{Names}
use Rattle.rmt_ast.specs.Naming.{names_of}
use Rattle.rmt_bounds.specs.Bounds.{stage_bound}
use Rattle.rmt_bounds.specs.Used.{stages_used}
use Rattle.rmt_config.specs.Agreement.{AgreesWith}
use Rattle.rmt_config.specs.Form.{visible_with}
use Rattle.rmt_config.specs.NamesForm.{names_have_counts}
use Rattle.rmt_deps.specs.Edges.{GoesForward, field_edges}
use Rattle.rmt_deps.proofs.EdgeLaws.{go_forward}
use Rattle.rmt_pack.specs.declared.placement.Placement.{Placement}
use Rattle.rmt_pack.specs.Placements.{IsLegal}
use Rattle.rmt_phv.specs.Packing.{packing}
use Rattle.rmt_place.specs.Starting.{starts_of}
use Rattle.rmt_place.proofs.LegalLaws.{format_at}
use Rattle.rmt_ptcam.specs.Clustering.{clustered, clustered_or}
use Rattle.rmt_ptcam.specs.Needs.{unless}
use Rattle.rmt_refine.specs.declared.map.CellOf.{CellOf}
use Rattle.rmt_refine.specs.declared.map.Map.{Map}
use Rattle.rmt_refine.specs.Carries.{Carries, all_edges}
use Rattle.rmt_build.specs.Loads.{IsFirstSeed}
use Rattle.rmt_build.specs.Promises.{HasCodeOfRule, StandInRows}
use Rattle.rmt_build.specs.Told.{cells_told}
use Rattle.rmt_refine.proofs.SpelledLaws.{carries_named}
use Rattle.rmt_vliw.proofs.MeaningLaws.{actions_fold}
use Rattle.rmt_build.proofs.JoinedLaws.{joined_blocks, joined_carries, joined_code, joined_data, joined_formats, joined_formed, joined_limits, joined_rows, same_map}
use Rattle.rmt_build.proofs.PlacedLaws.{is_legal}
use Rattle.rmt_build.proofs.PlannedLaws.{planned_told}
use Rattle.rmt_build.proofs.joined.built_of.Goals as goal

pub bound-requires-clause-rise : goal.bound-requires-clause-rise
bound-requires-clause-rise c =
    let p = c.args.program.now in
    let forward : All (GoesForward (length p.nodes)) c.args.deps.now.field =
    subst (λ (deps : Deps). All (GoesForward (length p.nodes)) deps.field) (sym c.requires.deps) (go_forward p c.args.plan.places).field in
    λ k d lt. (let e = forward k d lt in (e.later, e.is_node))

pub returns : goal.returns
returns c =
    let p = c.args.program.now in
    let lists = c.args.entries.now in
    let plan = c.args.plan in
    let config = c.in_ok-config.config in
    let stages = c.in_ok-stages.stages in
    let m = c.in_ok-map.map in
    let made = c.in_ok-config.ensures in
    let told = c.in_ok-map.ensures in
    let named = c.in_ok-names.ensures in
    let program = c.requires.given.program in
    let entries = c.requires.given.entries in
    let is = c.requires.plan in
    let of_stages = c.in_ok-stages.ensures.stages in
    let parser : AgreesWith config.parser plan.places p = subst (λ x. AgreesWith x plan.places p) (sym made.parser) c.requires.agrees in
    let cells : m.cells ≡ cells_told (length p.nodes) config.stages = told.cells ∙ planned_told p lists plan entries stages of_stages ∙ ap (cells_told (length p.nodes)) (sym made.stages) in
    let same = same_map m.places plan.places m.placement plan.placement m.starts plan.starts m.cells (cells_told (length p.nodes) config.stages) told.places told.placement told.starts cells in
    let own = joined_carries p lists plan config program entries is stages made.stages of_stages made.seed made.places parser in
    let names : config.names ≡ Some (names_of p lists) = made.names ∙ ap Some named.names in
    let formed = joined_formed p lists plan config program entries is stages made.stages of_stages made.seed c.requires.given.named made.places c.requires.fits (made.parser ∙ c.requires.parser) names
    (subst (λ (x : Names). names_have_counts x ≡ true) named.names named.counts) c.requires.seed.few in
    let seed = subst (IsFirstSeed p lists plan.placement.parts) (sym made.seed) c.requires.seed in
    let rows = joined_rows p lists plan config program entries is stages made.stages of_stages made.seed in
    let b = c.in_ok-bound.bound in
    let of_deps = c.in_ok-bound.ensures in
    let legal : IsLegal p (field_edges p plan.places) plan.placement = (format_at p, is_legal p plan.places plan.placement.parts program is.placed) in
    let least = subst (λ (d : Deps). (other : Placement) → IsLegal p d.field other → b.stages ≤ stages_used p other) c.requires.deps of_deps.proved in
    record {
      carries = subst (λ (x : Map). Carries p lists x config) (sym same) (carries_named p lists _ config (visible_with config.names) program entries own formed.whole.memory names);
      config = record {
        formed = formed;
        limits = joined_limits p lists plan config program entries is stages made.stages of_stages made.seed c.requires.fits (made.parser ∙ c.requires.parser);
        names = names;
      };
      rules = record {
        places = subst (λ ps. packing p ≡ Ok ps) (sym told.places) c.requires.packed;
        parser = subst (λ ps. clustered_or p ps ≡ Ok config.parser) (sym told.places) (ap (λ r. unless r (clustered p plan.places)) c.requires.fits ∙ ap Ok (sym (made.parser ∙ c.requires.parser)));
        folds = actions_fold p plan.folded is.is_plan.folded;
        code = subst (λ ps. All (HasCodeOfRule p ps) config.stages) (sym told.places) (joined_code p lists plan config program entries is stages made.stages of_stages made.seed);
        starts = told.starts ∙ is.starts ∙ ap (λ (ps : List (List Lane)). starts_of (all_edges p ps) plan.placement.parts) (sym told.places)
            ∙ ap (λ (x : Placement). starts_of (all_edges p m.places) x.parts) (sym told.placement);
        seed = subst (λ (x : Placement). IsFirstSeed p lists x.parts config.seed) (sym told.placement) seed;
      };
      layout = record {
        formats = joined_formats p lists plan config program entries is stages made.stages of_stages made.seed;
        held = joined_data p lists plan config program entries is stages made.stages of_stages made.seed;
        blocks = joined_blocks p lists plan config program entries is stages made.stages of_stages made.seed;
        rows = subst (λ (x : Placement). StandInRows p lists x.parts m.cells) (sym told.placement) (subst (λ (x : List CellOf). StandInRows p lists plan.placement.parts x) (sym cells) rows);
        cells = cells;
      };
      bounded = record {
        legal = subst (λ ps. IsLegal p (field_edges p ps) m.placement) (sym told.places) (subst (IsLegal p (field_edges p plan.places)) (sym told.placement) legal);
        bound = of_deps.bound ∙ ap (λ (d : Deps). stage_bound p d.field) c.requires.deps ∙ ap (λ (ps : List (List Lane)). stage_bound p (field_edges p ps)) (sym told.places);
        least = subst (λ (ps : List (List Lane)). (other : Placement) → IsLegal p (field_edges p ps) other → b.stages ≤ stages_used p other) (sym told.places) least;
      };
      laid = (told.places, told.placement);
      memory = search rules;
    }
