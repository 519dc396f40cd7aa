-- What the back end built is what `compile` makes.
use Rattle.std.proofs.Common.{◌≡◌, ◌≢◌, ℕ, ◌<◌, Bool, cond, List, [], ◌∷◌, Option, Some, None, Result, Ok, Err, length, inl, refl, sym, ap, subst, ◌∙◌}
use Rattle.std.specs.Prelude.{All, IfErr, IfOk, is_some, option_map}
use Rattle.std.specs.Option.{option_or}
use Rattle.std.proofs.lemmas.Option.{none-some, same_Some}
use Rattle.std.proofs.lemmas.List.Elements.{All-cons, All-nil}
use Rattle.rmt_bits.specs.declared.lane.Lane.{Lane}
use Rattle.rmt_ast.specs.declared.deps.Edge.{Edge}
use Rattle.rmt_core.specs.Types.{Program, Config}
use Rattle.rmt_ast.specs.declared.entry.Entry.{Entry}
use Rattle.rmt_ast.specs.EntryLists.{AreEntries}
use Rattle.rmt_ast.specs.WellFormed.{IsProgram}
use Rattle.rmt_bounds.specs.declared.bound.Bound.{Bound}
use Rattle.rmt_bounds.specs.declared.bound.Proof.{Proof}
use Rattle.rmt_bounds.specs.declared.bound.Proof.TheVariants.{Chain, Sram, Tcam, Slots}
use Rattle.rmt_bounds.specs.Bounds.{stage_bound}
use Rattle.rmt_bounds.specs.Proofs.{Gives, IsChain}
use Rattle.rmt_bounds.proofs.GivenLaws.{bound-given}
use Rattle.rmt_check.specs.Means.{Means}
use Rattle.rmt_check.specs.NamedTexts.{IsShortFor}
use Rattle.rmt_config.specs.ImageSpelling.{spelled_image}
use Rattle.rmt_deps.specs.Edges.{field_edges}
use Rattle.rmt_deps.proofs.EdgeLaws.{go_forward}
use Rattle.rmt_refine.specs.declared.map.Map.{Map}
use Rattle.rmt_refine.specs.Carries.{Carries}
use Rattle.rmt_refine.specs.Laws.{ListsAreAnswered}
use Rattle.rmt_build.specs.declared.built.Built.{Built}
use Rattle.rmt_build.specs.declared.fault.NoFit.{NoFit}
use Rattle.rmt_build.specs.declared.fault.NoFit.TheVariants as no_fit
use Rattle.rmt_build.specs.Folds.{first_deep}
use Rattle.rmt_build.specs.Promises.{IsBounded, IsConfigOf, IsLaidOut, KeepsRules}
use Rattle.rmt_build.specs.Refusals.{action_told, parser_told}
use Rattle.rmt_phv.specs.Packing.{packing}
use Rattle.rmt_ptcam.specs.declared.fault.ParserFault.{ParserFault}
use Rattle.rmt_ptcam.specs.Needs.{refusal}
use Rattle.rmt_verify.specs.Spelling.{spelled_map}
use Rattle.rmt_core.specs.declared.placer.Placer.{Placer}
use Rattle.rmt_drive.specs.Files.{Files}
use Rattle.rmt_drive.specs.Given.{stored}
use Rattle.rmt_core.specs.Compiling.{Builds, Compiles, Finish, Fitted, IsMadeBy, written}
use Rattle.rmt_core.specs.CompileText.{compile_text}
use Rattle.rmt_core.specs.Making.{AreOfTexts, IsBuilt, MakesFiles, image_and}
use Rattle.rmt_core.specs.MapFiles.{Wanted, made_files, map_file}
use Rattle.rmt_core.specs.NoFitText.{AreNodesOf}
use Rattle.rmt_core.specs.Placers.{placed_by, placing_refusal, refusal_by}
use Rattle.rmt_core.proofs.ImageSize.{image_is_short}
use Rattle.rmt_core.proofs.MapSize.{has_map_file}
use Rattle.rmt_core.proofs.PlacerLaws.{few_stages}

-- ---- the nodes of a bound

chain_nodes : (p : Program) (edges : List Edge) (ns : List ℕ) → IsChain p edges ns → All (λ n. n < length p.nodes) ns
chain_nodes p edges [] c = All-nil (λ n. n < length p.nodes)
chain_nodes p edges (n ∷ []) c = All-cons (λ x. x < length p.nodes) n [] c (All-nil (λ x. x < length p.nodes))
chain_nodes p edges (a ∷ b ∷ ns) c = All-cons (λ x. x < length p.nodes) a (b ∷ ns) c.0 (chain_nodes p edges (b ∷ ns) c.2)

gives_nodes : (p : Program) (edges : List Edge) (proof : Proof) (stages : ℕ) → Gives p edges proof stages → AreNodesOf p proof
gives_nodes p edges (Chain ns) stages g = chain_nodes p edges ns g.0
gives_nodes p edges (Sram blocks) stages g = tt
gives_nodes p edges (Tcam blocks) stages g = tt
gives_nodes p edges (Slots tables) stages g = tt

-- the chain that proves the bound of a program has nodes of it
pub are_nodes : (p : Program) (places : List (List Lane)) (b : Bound) → IsProgram p → b ≡ stage_bound p (field_edges p places) → AreNodesOf p b.proof
are_nodes p places b program is =
    let edges = field_edges p places in
    let forward = (go_forward p places).field in
    subst (λ (x : Bound). AreNodesOf p x.proof) (sym is)
    (gives_nodes p edges (stage_bound p edges).proof (stage_bound p edges).stages
    (bound-given p program edges (λ k d lt. (let e = forward k d lt in (e.later, e.is_node)))))

-- ---- what is made

-- where something was built, nothing was refused
pub not_refused : (first : Option NoFit) (r : Result Built NoFit) → ((fault : NoFit) → first ≡ Some fault → r ≢ Err no_fit.NoMemory → r ≡ Err fault)
    → IfOk r (λ built. first ≡ None)
not_refused first (Err fault) refused = tt
not_refused None (Ok built) refused = refl
not_refused (Some fault) (Ok built) refused = absurd (never fault (refused fault refl (never no_fit.NoMemory)))
  where
    never : (fault : NoFit) → (let x : Result Built NoFit = Ok built in x) ≢ Err fault
    never fault e = subst (λ (x : Result Built NoFit). IfErr x (λ _. ⊥)) e tt

-- nor by the parser
unrefused : (o : Option ParserFault) (rest : Option NoFit) → option_or (option_map parser_told o) rest ≡ None → o ≡ None
unrefused None rest e = refl
unrefused (Some fault) rest e = absurd (none-some (parser_told fault) (sym e))

-- what the back end built is an image of the program with its entries
pub is_built : (placer : Placer) (p : Program) (lists : List (List Entry)) (r : Result Built NoFit) → IsProgram p → AreEntries p lists → AreOfTexts p lists
    → ((text : List ℕ) (q : Program) → Means text (Ok q) → IsShortFor text q) → ListsAreAnswered
    → IfOk r (λ b. refusal_by placer p ≡ None)
    → IfOk r (λ b. Carries p lists b.map b.config)
    → IfOk r (λ b. IsConfigOf p lists b.config)
    → IfOk r (λ b. KeepsRules p lists b.map b.config)
    → IfOk r (λ b. placed_by placer p b.map.places ≡ Ok b.map.placement.parts)
    → IfOk r (λ b. IsLaidOut p lists b.map b.config)
    → IfOk r (λ b. IsBounded p b.map b.bound)
    → IfOk r (IsBuilt placer p lists)
is_built placer p lists (Err fault) program entries said brief answered none carries config rules placement layout bounded = tt
is_built placer p lists (Ok b) program entries said brief answered none carries config rules placement layout bounded =
    let made : IsMadeBy placer p lists b.map b.config = record { rules = rules; placement = placement; layout = layout } in
    record {
      no_refusal = none;
      makes = record {
        spells = record { spelled = refl; formed = config.formed; limits = config.limits };
        names = config.names;
        short = image_is_short p lists b.map b.config program said (brief said.text p said.means) carries config.formed config.limits config.names;
        runs = answered p lists b.map b.config program entries carries;
        carries = carries;
        made_by = made;
        map = has_map_file placer p lists b.map b.config program said carries made config.formed config.limits (unrefused (refusal p) (option_or (option_map action_told (first_deep 0 p.actions)) (placing_refusal placer p (packing p))) none);
        bounded = bounded;
        few_stages = few_stages placer p lists b.map b.config carries made;
      };
    }

-- what is built is told of
pub builds : (placer : Placer) (files : Files) (finish : Finish) (p : Program) (lists : List (List Entry)) (built : Built) → IsBuilt placer p lists built
    → Builds placer files finish p lists (finish (spelled_image built.config) built.map built.config built.bound)
builds placer files finish p lists built is =
    let g = finish (spelled_image built.config) built.map built.config built.bound in
    subst (λ o. Fitted placer files finish p lists g o) (sym is.no_refusal)
    (inl (spelled_image built.config, built.map, built.config, built.bound, is.makes, refl))

-- what is written under the names that are wanted
files_are : (wanted : Wanted) (p : Program) (image : List ℕ) (m : Map) (map : Option (List ℕ)) → map ≡ cond (is_some wanted.map) (Some (spelled_map (map_file p m))) None
    → made_files wanted p image m ≡ image_and wanted image map
files_are wanted p image m map is = by wanted.map map is
  where
    by : (o map : Option (List ℕ)) → map ≡ cond (is_some o) (Some (spelled_map (map_file p m))) None
        → made_files (record { image = wanted.image; map = o }) p image m ≡ image_and (record { image = wanted.image; map = o }) image map
    by None map e = refl
    by (Some name) None e = absurd (none-some (spelled_map (map_file p m)) e)
    by (Some name) (Some bytes) e =
        let same : bytes ≡ spelled_map (map_file p m) = same_Some bytes (spelled_map (map_file p m)) e in
        ap (λ b. record { name = wanted.image; bytes = image } ∷ record { name = name; bytes = b } ∷ []) (sym same)

-- its image, its map and its lines are what a command makes that writes them
pub built_files : (placer : Placer) (p : Program) (lists : List (List Entry)) (built : Built) (has_map : Bool) (image : List ℕ) (map : Option (List ℕ)) (lines : List ℕ) → IsBuilt placer p lists built
    → image ≡ spelled_image built.config → map ≡ cond has_map (Some (spelled_map (map_file p built.map))) None → lines ≡ compile_text p built.config built.bound
    → MakesFiles placer p lists has_map image map lines
built_files placer p lists built has_map image map lines is image_is map_is lines_are files wanted wants =
    subst (λ g. Compiles placer files wanted p lists g) (same image lines image_is lines_are) (builds placer files (written files wanted p) p lists built is)
  where
    file : made_files wanted p (spelled_image built.config) built.map ≡ image_and wanted (spelled_image built.config) map
    file =
        files_are wanted p (spelled_image built.config) built.map map
        (map_is ∙ ap (λ b. cond b (Some (spelled_map (map_file p built.map))) None) (sym wants))

    same : (i l : List ℕ) → i ≡ spelled_image built.config → l ≡ compile_text p built.config built.bound
        → written files wanted p (spelled_image built.config) built.map built.config built.bound ≡ stored files (image_and wanted i map) l
    same i l e f = rw (e, f) (ap (λ writes. stored files writes (compile_text p built.config built.bound)) file)

-- ---- the lines

abbrev IsSomeText : List ℕ → Type 0
IsSomeText [] = ⊥
IsSomeText (x ∷ xs) = Unit {0}

pub lines_some : (p : Program) (c : Config) (b : Bound) (lines : List ℕ) → lines ≡ compile_text p c b → lines ≢ []
lines_some p c b lines is none = subst IsSomeText (sym is ∙ none) tt
