-- What the seven parts say together.
use Rattle.std.proofs.Common.{◌≡◌, ℕ, ◌<◌, ◌≤◌, Bool, true, false, true≢false, IsTrue, List, sym, ap, subst, ◌∙◌, arith}
use Rattle.std.specs.Prelude.{All, IfSome, length}
use Rattle.std.proofs.lemmas.List.{length-map}
use Rattle.rmt_bits.specs.declared.lane.Lane.{Lane}
use Rattle.rmt_ast.specs.declared.entry.Entry.{Entry}
use Rattle.rmt_config.specs.Agreement.{AgreesWith}
use Rattle.rmt_config.specs.Form.{Formed, visible_with}
use Rattle.rmt_refine.specs.declared.map.Map.{Map}
use Rattle.rmt_refine.specs.Types.{Program, Config, Stage}
use Rattle.rmt_refine.specs.Carries.{Carries, EdgesKept, all_edges}
use Rattle.rmt_refine.specs.Cells.{CellsCarried}
use Rattle.rmt_refine.specs.Code.{CodeCarried}
use Rattle.rmt_refine.specs.Named.{NamesCarried}
use Rattle.rmt_refine.specs.Places.{PlacesCarried}
use Rattle.rmt_refine.specs.Units.{UnitsCarried}
use Rattle.rmt_refine.specs.View.{own_view}
use Rattle.rmt_refine.proofs.CellNumberLaws.{all_listed}
use Rattle.rmt_verify.specs.EdgeSpans.{IsPartOf}
use Rattle.rmt_verify.specs.Checks.{FailsFirst, PartHolds}
use Rattle.rmt_verify.specs.Instructions.{IsCoded}
use Rattle.rmt_verify.specs.ParserMade.{IsMadeOf}
use Rattle.rmt_verify.specs.Types.{Join, MapFile, Part}
use Rattle.rmt_verify.proofs.UnitLaws.{parts_stand_there}

-- the parts are of nodes, in stages that have a start
pub parts_known : (p : Program) (places : List (List Lane)) (parts : List Part) (starts : List ℕ) (c : Config) → UnitsCarried p places parts starts c → All (IsPartOf (length p.nodes) (length starts)) parts
parts_known p places parts starts c units =
    let long : length c.stages ≡ length starts = sym (length-map c.stages (λ (s : Stage). s.start)) ∙ ap (λ (xs : List ℕ). length xs) units.starts_are in
    subst (λ n. All (IsPartOf (length p.nodes) n) parts) long (parts_stand_there p places parts starts c units)

-- a configuration whose parts hold carries the program
pub carried : (p : Program) (lists : List (List Entry)) (m : Map) (c : Config) (parts : List Part) (starts : List ℕ) → parts ≡ m.placement.parts → starts ≡ m.starts → Formed c
    → PlacesCarried p m.places c → AgreesWith c.parser m.places p → UnitsCarried p m.places parts starts c → CellsCarried p c (own_view c) m.cells lists → CodeCarried p m.places c
    → EdgesKept (all_edges p m.places) parts starts → IfSome c.names (NamesCarried p lists c) → Carries p lists m c
carried p lists m c parts starts same_parts same_starts formed places parser units cells code edges names = record {
  places = places;
  parser = parser;
  units = subst (λ xs. UnitsCarried p m.places m.placement.parts xs c) same_starts (subst (λ xs. UnitsCarried p m.places xs starts c) same_parts units);
  cells = cells;
  listed = all_listed (visible_with c.names) c formed.whole.memory;
  code = code;
  edges = subst (EdgesKept (all_edges p m.places) m.placement.parts) same_starts (subst (λ xs. EdgesKept (all_edges p m.places) xs starts) same_parts edges);
  names = names;
}

-- ---- which part fails first

module _ (p : Program) (lists : List (List Entry)) (c : Config) (m : MapFile) (joins : List Join) (parts : List Part) (starts : List ℕ) (same_joins : joins ≡ m.joins) (same_parts : parts ≡ m.map.placement.parts) (same_starts : starts ≡ m.map.starts) where
  -- what is looked at is the map's
  pub made_seen : IsMadeOf p m.map.places m.joins c.parser → IsMadeOf p m.map.places joins c.parser
  made_seen = subst (λ (js : List Join). IsMadeOf p m.map.places js c.parser) (sym same_joins)

  pub units_seen : UnitsCarried p m.map.places m.map.placement.parts m.map.starts c → UnitsCarried p m.map.places parts starts c
  units_seen h = subst (λ (xs : List Part). UnitsCarried p m.map.places xs starts c) (sym same_parts) (subst (λ xs. UnitsCarried p m.map.places m.map.placement.parts xs c) (sym same_starts) h)

  pub edges_seen : EdgesKept (all_edges p m.map.places) m.map.placement.parts m.map.starts → EdgesKept (all_edges p m.map.places) parts starts
  edges_seen h = subst (λ (xs : List Part). EdgesKept (all_edges p m.map.places) xs starts) (sym same_parts) (subst (EdgesKept (all_edges p m.map.places) m.map.placement.parts) (sym same_starts) h)

  pub part_holds : (n : ℕ) → (n ≡ 1 → PlacesCarried p m.map.places c) → (n ≡ 2 → IsMadeOf p m.map.places joins c.parser) → (n ≡ 3 → UnitsCarried p m.map.places parts starts c) → (n ≡ 4 → CellsCarried p c (own_view c) m.map.cells lists)
      → (n ≡ 5 → IsCoded p m.map.places c) → (n ≡ 6 → EdgesKept (all_edges p m.map.places) parts starts) → (n ≡ 7 → IfSome c.names (NamesCarried p lists c)) → PartHolds p lists c m n
  part_holds n places parser units cells code edges names = record {
    places = places;
    parser = λ e. subst (λ (js : List Join). IsMadeOf p m.map.places js c.parser) same_joins (parser e);
    units = λ e. subst (λ (xs : List Part). UnitsCarried p m.map.places xs m.map.starts c) same_parts (subst (λ xs. UnitsCarried p m.map.places parts xs c) same_starts (units e));
    cells = cells;
    code = code;
    edges = λ e. subst (λ (xs : List Part). EdgesKept (all_edges p m.map.places) xs m.map.starts) same_parts (subst (EdgesKept (all_edges p m.map.places) parts) same_starts (edges e));
    names = names;
  }

  -- a part fails, and each before it holds
  pub fails_first : (n : ℕ) → n ≤ 7 → (1 < n → PlacesCarried p m.map.places c) → (2 < n → IsMadeOf p m.map.places joins c.parser) → (3 < n → UnitsCarried p m.map.places parts starts c) → (4 < n → CellsCarried p c (own_view c) m.map.cells lists)
      → (5 < n → IsCoded p m.map.places c) → (6 < n → EdgesKept (all_edges p m.map.places) parts starts) → (PartHolds p lists c m n → ⊥) → FailsFirst p lists c m n
  fails_first n le places parser units cells code edges fails = record {
    before = λ j lt.
        part_holds j (λ e. places (omega (arith, e, lt))) (λ e. parser (omega (arith, e, lt))) (λ e. units (omega (arith, e, lt))) (λ e. cells (omega (arith, e, lt))) (λ e. code (omega (arith, e, lt))) (λ e. edges (omega (arith, e, lt)))
        (λ e. absurd (omega (arith, e, lt, le)));
    fails = fails;
  }

-- a test that fails of what holds
pub opposed : {X : Type 0} (b : Bool) → b ≡ false → (X → IsTrue b) → X → ⊥
opposed true is told x = true≢false is
opposed false is told x = true≢false (sym (told x))
