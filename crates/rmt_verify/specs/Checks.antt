-- What is looked at of a configuration and a map, in seven parts, and which part fails first.
use Rattle.std.specs.Prelude.{◌≡◌, ◌<◌, ℕ, List, IfSome}
use Rattle.rmt_ast.specs.declared.entry.Entry.{Entry}
use Rattle.rmt_refine.specs.Types.{Program, Config}
use Rattle.rmt_refine.specs.Carries.{EdgesKept, all_edges}
use Rattle.rmt_refine.specs.Cells.{CellsCarried}
use Rattle.rmt_refine.specs.Named.{NamesCarried}
use Rattle.rmt_refine.specs.Places.{PlacesCarried}
use Rattle.rmt_refine.specs.Units.{UnitsCarried}
use Rattle.rmt_refine.specs.View.{own_view}
use Rattle.rmt_verify.specs.Instructions.{IsCoded}
use Rattle.rmt_verify.specs.ParserMade.{IsMadeOf}
use Rattle.rmt_verify.specs.Types.{MapFile}

-- what the part of a number asks; of a number that no part has, nothing
pub record PartHolds (p : Program) (lists : List (List Entry)) (c : Config) (m : MapFile) (n : ℕ) : Type 0 where
  pub places : n ≡ 1 → PlacesCarried p m.map.places c
  pub parser : n ≡ 2 → IsMadeOf p m.map.places m.joins c.parser
  pub units : n ≡ 3 → UnitsCarried p m.map.places m.map.placement.parts m.map.starts c
  pub cells : n ≡ 4 → CellsCarried p c (own_view c) m.map.cells lists
  pub code : n ≡ 5 → IsCoded p m.map.places c
  pub edges : n ≡ 6 → EdgesKept (all_edges p m.map.places) m.map.placement.parts m.map.starts
  pub names : n ≡ 7 → IfSome c.names (NamesCarried p lists c)

-- every part holds
abbrev pub AllHold : Program → List (List Entry) → Config → MapFile → Type 0
AllHold p lists c m = (n : ℕ) → PartHolds p lists c m n

-- the part of this number fails, and each before it holds
pub record FailsFirst (p : Program) (lists : List (List Entry)) (c : Config) (m : MapFile) (n : ℕ) : Type 0 where
  pub before : (j : ℕ) → j < n → PartHolds p lists c m j
  pub fails : PartHolds p lists c m n → ⊥
