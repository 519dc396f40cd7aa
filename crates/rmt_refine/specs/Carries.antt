-- When a configuration carries a program and its entries.
use Rattle.std.specs.Prelude.{ℕ, List, ◌++◌, All, IfSome}
use Rattle.rmt_bits.specs.declared.lane.Lane.{Lane}
use Rattle.rmt_ast.specs.declared.deps.Edge.{Edge}
use Rattle.rmt_refine.specs.Types.{Program, Config}
use Rattle.rmt_ast.specs.declared.entry.Entry.{Entry}
use Rattle.rmt_deps.specs.Edges.{field_edges, word_edges}
use Rattle.rmt_config.specs.Agreement.{AgreesWith}
use Rattle.rmt_pack.specs.declared.placement.Part.{Part}
use Rattle.rmt_pack.specs.Placements.{Keeps}
use Rattle.rmt_pack.specs.Starts.{KeepDistances}
use Rattle.rmt_refine.specs.declared.map.Map.{Map}
use Rattle.rmt_refine.specs.View.{View, own_view}
use Rattle.rmt_refine.specs.Places.{PlacesCarried}
use Rattle.rmt_refine.specs.Units.{UnitsCarried}
use Rattle.rmt_refine.specs.Cells.{CellsCarried}
use Rattle.rmt_refine.specs.Code.{CodeCarried}
use Rattle.rmt_refine.specs.Listed.{ListTheirCells}
use Rattle.rmt_refine.specs.Named.{NamesCarried}

-- all edges of a program, word edges among them
abbrev pub all_edges : Program → List (List Lane) → List Edge
all_edges p places = field_edges p places ++ word_edges p places

-- Sixth part: the parts of the nodes keep every edge, and the starts its distance.
pub record EdgesKept (edges : List Edge) (parts : List Part) (starts : List ℕ) : Type 0 where
  pub order : All (λ (e : Edge). All (λ (a : Part). All (Keeps e a) parts) parts) edges
  pub distances : KeepDistances edges parts starts

-- A configuration carries a program with its entries, as a map tells, with the cells of a view.
pub record CarriesIn (p : Program) (lists : List (List Entry)) (m : Map) (c : Config) (v : View) : Type 0 where
  pub places : PlacesCarried p m.places c
  pub parser : AgreesWith c.parser m.places p
  pub units : UnitsCarried p m.places m.placement.parts m.starts c
  pub cells : CellsCarried p c v m.cells lists
  pub code : CodeCarried p m.places c
  pub edges : EdgesKept (all_edges p m.places) m.placement.parts m.starts

-- With its own cells, which its slots list, and with the names where it has names.
pub record Carries (p : Program) (lists : List (List Entry)) (m : Map) (c : Config) : Type 0 where
  pub places : PlacesCarried p m.places c
  pub parser : AgreesWith c.parser m.places p
  pub units : UnitsCarried p m.places m.placement.parts m.starts c
  pub cells : CellsCarried p c (own_view c) m.cells lists
  pub listed : ListTheirCells c
  pub code : CodeCarried p m.places c
  pub edges : EdgesKept (all_edges p m.places) m.placement.parts m.starts
  pub names : IfSome c.names (NamesCarried p lists c)
