-- What `compile` and `improve` give: the image of a configuration that answers as the program does, and its map where it is wanted, or why there is none.
use Rattle.std.specs.Prelude.{◌≡◌, ◌≤◌, ◌⊎◌, ℕ, List, Option, Some, None, Ok, length}
use Rattle.rmt_core.specs.Types.{Program, Config}
use Rattle.rmt_ast.specs.declared.entry.Entry.{Entry}
use Rattle.rmt_ast.specs.Naming.{names_of}
use Rattle.rmt_config.specs.Spells.{Spells}
use Rattle.rmt_bounds.specs.declared.bound.Bound.{Bound}
use Rattle.rmt_pack.specs.declared.placement.Part.{Part}
use Rattle.rmt_refine.specs.declared.map.Map.{Map}
use Rattle.rmt_refine.specs.Carries.{Carries}
use Rattle.rmt_refine.specs.RunsAs.{RunsAs}
use Rattle.rmt_build.specs.declared.fault.NoFit.{NoFit}
use Rattle.rmt_build.specs.declared.fault.NoFit.TheVariants.{Load}
use Rattle.rmt_build.specs.Loads.{AreNotLoaded}
use Rattle.rmt_build.specs.Promises.{IsBounded, IsLaidOut, KeepsRules}
use Rattle.rmt_core.specs.declared.placer.Placer.{Placer}
use Rattle.rmt_core.specs.declared.placer.Placer.TheVariants.{ByRule, ByTries}
use Rattle.rmt_drive.specs.declared.status.Status.TheVariants as status
use Rattle.rmt_drive.specs.Files.{Files, entries_limit, image_limit, program_limit}
use Rattle.rmt_drive.specs.Given.{Given, Reads, stored, told}
use Rattle.rmt_core.specs.MapFiles.{HasMapFile, Wanted, image_alone, made_files, with_map}
use Rattle.rmt_core.specs.Placers.{HasFewStages, IsPlacedBy, placed_by, refusal_by}
use Rattle.rmt_core.specs.Texts.{Understands}
use Rattle.rmt_core.specs.NoFitText.{no_fit_line}
use Rattle.rmt_core.specs.CompileText.{compile_text}

-- Fields are packed, frames parsed, stages started and exact tables loaded by their rules, nodes are placed so, and memories, blocks, rows
-- and the map's cells are as the rules say.
pub record IsMadeBy (placer : Placer) (p : Program) (lists : List (List Entry)) (m : Map) (c : Config) : Type 0 where
  pub rules : KeepsRules p lists m c
  pub placement : placed_by placer p m.places ≡ Ok m.placement.parts
  pub layout : IsLaidOut p lists m c

-- The image spells one configuration within every limit, with the names of the program and its entries. As the map
-- tells, which has a spelling of few bytes, it carries the program with its entries and is made so; and for every list of
-- packets its chip run gives the verdicts, bytes and counters of the plain run. Its placement is legal, the bound is that of the program, no legal placement
-- uses fewer stages than it, and there are never more stages than by the rule.
pub record Makes (placer : Placer) (p : Program) (lists : List (List Entry)) (image : List ℕ) (m : Map) (c : Config) (b : Bound) : Type 0 where
  pub spells : Spells image c
  pub names : c.names ≡ Some (names_of p lists)
  pub short : length image ≤ image_limit
  pub runs : RunsAs p lists c
  pub carries : Carries p lists m c
  pub made_by : IsMadeBy placer p lists m c
  pub map : HasMapFile p m
  pub bounded : IsBounded p m b
  pub few_stages : HasFewStages p m.places c

-- under each seed some exact table has entries that have fewer cells than they are: the line names the first such table of the last seed
pub record IsFull (placer : Placer) (p : Program) (lists : List (List Entry)) (line : List ℕ) : Type 0 where
  pub parts : List Part
  pub node : ℕ
  pub members : ℕ
  pub cells : ℕ
  pub placed : IsPlacedBy placer p parts
  pub full : AreNotLoaded p lists parts node members cells
  pub line_is : line ≡ no_fit_line p (Load node members cells)

-- how a command tells of what it made
abbrev pub Finish : Type 0
Finish = (image : List ℕ) → Map → Config → Bound → Given

-- what is made of a program with its entries, of which a command tells, or the last line for tables that don't load
abbrev pub Loaded : Placer → Files → Finish → Program → List (List Entry) → Given → Type 0
Loaded placer files finish p lists g =
    ((image : List ℕ) × (m : Map) × (c : Config) × (b : Bound) × Makes placer p lists image m c b × (g ≡ finish image m c b))
    ⊎ ((line : List ℕ) × IsFull placer p lists line × (g ≡ told files status.NoFit line))

-- a refusal before loading ends it
abbrev pub Fitted : Placer → Files → Finish → Program → List (List Entry) → Given → Option NoFit → Type 0
Fitted placer files finish p lists g (Some fault) = g ≡ told files status.NoFit (no_fit_line p fault)
Fitted placer files finish p lists g None = Loaded placer files finish p lists g

-- a command that makes a configuration for a program with its entries, and tells of it
abbrev pub Builds : Placer → Files → Finish → Program → List (List Entry) → Given → Type 0
Builds placer files finish p lists g = Fitted placer files finish p lists g (refusal_by placer p)

-- the files that are wanted stand, and the lines are printed
abbrev pub written : Files → Wanted → Program → List ℕ → Map → Config → Bound → Given
written files wanted p image m c b = stored files (made_files wanted p image m) (compile_text p c b)

abbrev pub Compiles : Placer → Files → Wanted → Program → List (List Entry) → Given → Type 0
Compiles placer files wanted p lists g = Builds placer files (written files wanted p) p lists g

-- a command that writes the image of a program text with an entry text
abbrev pub GivesImage : Placer → Files → List ℕ → List ℕ → Wanted → Given → Type 0
GivesImage placer files program entries wanted =
    Reads files program program_limit (λ text.
    Reads files entries entries_limit (λ entry_text.
    Understands files text entry_text (Compiles placer files wanted)))

-- `compile PROGRAM ENTRIES IMAGE`: nodes are placed by the rule
abbrev pub GivesCompile : Files → List ℕ → List ℕ → List ℕ → Given → Type 0
GivesCompile files program entries image = GivesImage ByRule files program entries (image_alone image)

-- `compile PROGRAM ENTRIES IMAGE MAP`: the same, and the map behind the image
abbrev pub GivesCompileMap : Files → List ℕ → List ℕ → List ℕ → List ℕ → Given → Type 0
GivesCompileMap files program entries image map = GivesImage ByRule files program entries (with_map image map)

-- `improve PROGRAM ENTRIES IMAGE BUDGET`: nodes are placed as the best of so many tries does
abbrev pub GivesImprove : Files → List ℕ → List ℕ → List ℕ → ℕ → Given → Type 0
GivesImprove files program entries image budget = GivesImage (ByTries budget) files program entries (image_alone image)
