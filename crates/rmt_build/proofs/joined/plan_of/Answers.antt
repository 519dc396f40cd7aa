use Rattle.std.proofs.Common.{◌≡◌, ◌<◌, ◌∙◌, List, length, refl, sym, ap, subst, arith}
use Rattle.std.specs.Prelude.{All}
use Rattle.rmt_ast.specs.declared.deps.Edge.{Edge}
use Rattle.rmt_deps.specs.Levels as levels
use Rattle.rmt_pack.specs.declared.placement.Part.{Part}
use Rattle.rmt_pack.specs.Starts.{KeepDistances}
use Rattle.rmt_place.specs.Starting.{stages_in, starts_of}
use Rattle.rmt_refine.specs.Carries.{all_edges}
use Rattle.rmt_build.specs.Loads.{AreAllLoaded, IsFirstSeed}
use Rattle.rmt_build.specs.Plans.{AreParts}
use Rattle.rmt_build.proofs.LoadedLaws.{they_stand}
use Rattle.rmt_build.proofs.PlacedLaws.{exact_quanta, in_stages, parts_are, stages_few, starts_long}
use Rattle.rmt_place.proofs.LeastLaws.{stage-lt}
use Rattle.rmt_build.proofs.StartedLaws.{early}
use Rattle.rmt_build.proofs.joined.plan_of.Goals as goal

pub offsets-requires : goal.offsets-requires
offsets-requires c = λ i d lt. (c.requires.placed.parts i d lt).stage

pub load_all-requires : goal.load_all-requires
load_all-requires c =
    let p = c.args.program.now in
    record {
      placed = record {
        program = c.requires.program;
        entries = c.requires.entries;
        by_rule = c.as_slice.ensures ∙ c.in_ok-formats.ensures;
        are_parts = subst (AreParts p) (sym c.as_slice-parts.ensures) (parts_are p c.args.places c.args.placement.parts c.requires.program c.requires.placed);
      };
    }

pub returns-clause-seed : goal.returns-clause-seed
returns-clause-seed c =
    subst (λ (ps : List Part). IsFirstSeed c.args.program.now c.args.entries.now ps c.in_ok-loaded.loaded.seed) c.as_slice-parts.ensures c.in_ok-loaded.ensures.seed

pub returns-clause-plan : goal.returns-clause-plan
returns-clause-plan c =
    let p = c.args.program.now in
    let lists = c.args.entries.now in
    let places = c.args.places in
    let deps = c.args.deps.now in
    let parts = c.args.placement.parts in
    let placed = c.requires.placed in
    let begun = c.in_ok-starts.ensures in
    let starts = c.in_ok-starts.starts in
    let are : AreParts p parts = parts_are p places parts c.requires.program placed in
    let edges : levels.all_edges deps ≡ all_edges p places = ap levels.all_edges c.requires.deps in
    let begin : starts ≡ starts_of (levels.all_edges deps) parts = begun.starts in
    let long : length starts ≡ stages_in parts = ap length begin ∙ starts_long (levels.all_edges deps) parts in
    let loaded : AreAllLoaded p lists parts c.in_ok-loaded.loaded.seed c.in_ok-loaded.loaded.stands =
    subst (λ (ps : List Part). AreAllLoaded p lists ps c.in_ok-loaded.loaded.seed c.in_ok-loaded.loaded.stands) c.as_slice-parts.ensures c.in_ok-loaded.ensures.loaded in
    record {
      is_plan = record {
        folded = c.requires.folded;
        places = c.requires.places;
        parts = are;
        formats = c.in_ok-formats.ensures;
        stands = they_stand p lists parts c.in_ok-loaded.loaded.seed c.in_ok-loaded.loaded.stands c.requires.program c.requires.entries are loaded;
      };
      starts = begin ∙ ap (λ es. starts_of es parts) edges;
      edges = record {
        order = placed.keeps;
        distances = subst (λ (es : List Edge). KeepDistances es parts starts) edges begun.kept;
      };
      placed = placed;
      early = early (levels.all_edges deps) parts (length starts) (λ k e there in_k. (let within = stage-lt parts e.to k in_k in omega (arith, within, long))) starts refl begun.least;
      loaded = loaded;
      exact = exact_quanta p places parts c.requires.program placed;
      few_stages = let few = stages_few parts (λ i d lt. (placed.parts i d lt).stage) in omega (arith, few, long);
      in_stages = subst (λ m. All (λ (x : Part). x.stage < m) parts) (sym long) (in_stages parts);
    }
