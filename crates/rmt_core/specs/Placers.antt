-- How the nodes of a program are placed, and why it doesn't fit the chip before its entries are loaded.
use Rattle.std.specs.Prelude.{◌≡◌, ◌≤◌, ⊤, ℕ, List, Option, Some, IfOk, Result, Ok, Err, length, option_map}
use Rattle.std.specs.Option.{option_or}
use Rattle.rmt_bits.specs.declared.lane.Lane.{Lane}
use Rattle.rmt_core.specs.Types.{Program, Config}
use Rattle.rmt_deps.specs.Edges.{dependencies_of}
use Rattle.rmt_pack.specs.declared.placement.Part.{Part}
use Rattle.rmt_phv.specs.declared.fault.PhvFull.{PhvFull}
use Rattle.rmt_phv.specs.Packing.{packing}
use Rattle.rmt_place.specs.Placing.{Stuck, placement}
use Rattle.rmt_place.specs.Starting.{stages_in}
use Rattle.rmt_improve.specs.Tries.{better_placement}
use Rattle.rmt_ptcam.specs.Needs.{refusal}
use Rattle.rmt_build.specs.declared.fault.NoFit.{NoFit}
use Rattle.rmt_build.specs.Folds.{first_deep}
use Rattle.rmt_build.specs.Refusals.{action_told, parser_told, phv_told, stuck_told}
use Rattle.rmt_core.specs.declared.placer.Placer.{Placer}
use Rattle.rmt_core.specs.declared.placer.Placer.TheVariants.{ByRule, ByTries}

-- a number of tries, from 1 to 1,000
pub record IsBudget (budget : ℕ) : Type 0 where
  pub some : 1 ≤ budget
  pub few : budget ≤ 1000

abbrev pub IsPlacer : Placer → Type 0
IsPlacer ByRule = ⊤
IsPlacer (ByTries budget) = IsBudget budget

-- the parts of the nodes of a program whose fields have these places, or the node that is stuck
abbrev pub placed_by : Placer → Program → List (List Lane) → Result (List Part) Stuck
placed_by ByRule p places = placement p places (dependencies_of p places)
placed_by (ByTries budget) p places = better_placement p places (dependencies_of p places) budget

-- a program's fields have places, and its nodes these parts
pub record IsPlacedBy (placer : Placer) (p : Program) (parts : List Part) : Type 0 where
  pub places : List (List Lane)
  pub packed : packing p ≡ Ok places
  pub placed : placed_by placer p places ≡ Ok parts

-- no more stages than the rule's placement has, where there is one
abbrev pub HasFewStages : Program → List (List Lane) → Config → Type 0
HasFewStages p places c = IfOk (placed_by ByRule p places) (λ parts. length c.stages ≤ stages_in parts)

-- a field that no word serves, else a node that is stuck
abbrev pub placing_refusal : Placer → Program → Result (List (List Lane)) PhvFull → Option NoFit
placing_refusal placer p (Err fault) = Some (phv_told fault)
placing_refusal placer p (Ok places) = stuck_told (placed_by placer p places)

-- the first refusal before the entries are loaded: of the parser, then of the actions, then of the fields, then of the nodes
abbrev pub refusal_by : Placer → Program → Option NoFit
refusal_by placer p =
    option_or (option_map parser_told (refusal p))
    (option_or (option_map action_told (first_deep 0 p.actions)) (placing_refusal placer p (packing p)))
