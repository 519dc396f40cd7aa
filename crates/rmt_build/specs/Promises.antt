-- What the configuration of a program keeps beside carrying it, whatever placement its nodes have.
use Rattle.std.specs.Prelude.{◌≡◌, ◌≤◌, ℕ, ◌+◌, ◌*◌, ⊤, All, IsSomeAnd, List, Some, Ok, Contains, count_by, length, slice_get}
use Rattle.std.specs.List.{flat_map, range_with_len}
use Rattle.rmt_bits.specs.declared.lane.Lane.{Lane}
use Rattle.rmt_build.specs.Types.{Program, Table, Kind, Config, Stage, Unit, SlotUnit, Memory}
use Rattle.rmt_ast.specs.declared.program.Kind.TheVariants.{Keyless, Exact, Prefix, Ternary}
use Rattle.rmt_ast.specs.declared.entry.Entry.{Entry}
use Rattle.rmt_ast.specs.Naming.{names_of}
use Rattle.rmt_ast.specs.RowOrder.{goes_first}
use Rattle.rmt_bounds.specs.declared.bound.Bound.{Bound}
use Rattle.rmt_bounds.specs.Bounds.{stage_bound}
use Rattle.rmt_bounds.specs.Used.{stages_used}
use Rattle.rmt_config.specs.declared.config.Unit.TheVariants.{Gate, Slot}
use Rattle.rmt_config.specs.declared.config.Memory.TheVariants as memory
use Rattle.rmt_config.specs.Form.{Formed}
use Rattle.rmt_config.specs.Limits.{IsWithinLimits}
use Rattle.rmt_config.specs.Resources.{unit_sram}
use Rattle.rmt_deps.specs.Edges.{field_edges}
use Rattle.rmt_pack.specs.declared.format.Format.{Format}
use Rattle.rmt_pack.specs.declared.placement.Part.{Part}
use Rattle.rmt_pack.specs.declared.placement.Placement.{Placement}
use Rattle.rmt_pack.specs.Placements.{IsLegal, data_bits}
use Rattle.rmt_phv.specs.Packing.{packing}
use Rattle.rmt_place.specs.Starting.{starts_of}
use Rattle.rmt_ptcam.specs.Clustering.{clustered_or}
use Rattle.rmt_refine.specs.declared.map.CellOf.{CellOf}
use Rattle.rmt_refine.specs.declared.map.Map.{Map}
use Rattle.rmt_refine.specs.Carries.{all_edges}
use Rattle.rmt_config.specs.Instructions.{first_code}
use Rattle.rmt_config.specs.StageForm.{tcam_blocks}
use Rattle.rmt_refine.specs.Units.{table_at}
use Rattle.rmt_refine.specs.View.{slot_of}
use Rattle.rmt_vliw.specs.Coded.{ActionsFold, TableCoded}
use Rattle.rmt_build.specs.Loads.{IsFirstSeed}
use Rattle.rmt_filling.specs.Formats.{format_at}
use Rattle.rmt_build.specs.Plans.{quanta_before}
use Rattle.rmt_build.specs.Told.{cells_told}

-- ---- blocks

-- blocks are numbered from 0 upward, in the order in which they are listed
abbrev pub AreNumbered : List ℕ → Type 0
AreNumbered blocks = blocks ≡ range_with_len 0 (length blocks)

-- so are those of the units of a stage: of each unit in turn the key blocks, the record blocks and the counter blocks
pub record HasBlocksInOrder (stage : Stage) : Type 0 where
  pub sram : AreNumbered (flat_map unit_sram stage.units)
  pub tcam : AreNumbered (flat_map tcam_blocks stage.units)

-- an exact memory has the format of the rule
abbrev pub HasFormat : Format → Memory → Type 0
HasFormat f memory.Without = ⊤
HasFormat f (memory.Exact k per d w ks rs cs) = (k ≡ f.width) × (per ≡ f.per)
HasFormat f (memory.Ternary d ks rs cs) = ⊤

abbrev pub HasFormatOfRule : Program → Unit → Type 0
HasFormatOfRule p (Gate g) = ⊤
HasFormatOfRule p (Slot s) = HasFormat (format_at p s.node) s.memory

-- an entry of a slot holds as many bits of data as the parameters of the action with most of them, of those that its table lists
abbrev pub HasDataOfRule : Program → Unit → Type 0
HasDataOfRule p (Gate g) = ⊤
HasDataOfRule p (Slot s) = IsSomeAnd (table_at p s.node) (λ t. s.held ≡ data_bits p t)

-- ---- instructions

-- each slot of a stage has the instructions of its table
abbrev pub HasCodeOfRule : Program → List (List Lane) → Stage → Type 0
HasCodeOfRule p places stage =
    (place : ℕ) (slot : SlotUnit) (t : Table) → slot_of stage place ≡ Some slot → table_at p slot.node ≡ Some t
    → TableCoded p places t (first_code stage place) stage

-- ---- rows

-- entries of a prefix or ternary table stand in rows
abbrev pub HasRows : Kind → Type 0
HasRows Keyless = ⊥
HasRows Exact = ⊥
HasRows Prefix = ⊤
HasRows Ternary = ⊤

-- each entry of a prefix or ternary table stands in the row, counted over its parts from the earliest on, that has the number of the entries that go first
abbrev pub StandInRows : Program → List (List Entry) → List Part → List CellOf → Type 0
StandInRows p lists parts cells =
    (n : ℕ) (t : Table) (es : List Entry) → table_at p n ≡ Some t → HasRows t.kind → slice_get lists n ≡ Some es
    → (e : Entry) (x : CellOf) → Contains es e → Contains cells x → x.entry ≡ e.number
    → 2048 * quanta_before parts n x.stage + x.cell ≡ count_by (λ f. goes_first t.kind f e) es

-- ---- all that is promised

-- A configuration is one of a program with its entries: it keeps the rules of form and the limits of the chip, and has their names.
pub record IsConfigOf (p : Program) (lists : List (List Entry)) (c : Config) : Type 0 where
  pub formed : Formed c
  pub limits : IsWithinLimits c
  pub names : c.names ≡ Some (names_of p lists)

-- Fields are packed, frames parsed, actions folded, instructions made of the foldings and stages started by their rules, and the seed is the first under
-- which all exact tables are loaded.
pub record KeepsRules (p : Program) (lists : List (List Entry)) (m : Map) (c : Config) : Type 0 where
  pub places : packing p ≡ Ok m.places
  pub parser : clustered_or p m.places ≡ Ok c.parser
  pub folds : ActionsFold p
  pub code : All (HasCodeOfRule p m.places) c.stages
  pub starts : m.starts ≡ starts_of (all_edges p m.places) m.placement.parts
  pub seed : IsFirstSeed p lists m.placement.parts c.seed

-- Slots have the formats and the data of the rule, blocks are numbered in the order of the units, rows stand by rank, and the map tells of the cells that
-- the slots list, by node, stage and cell.
pub record IsLaidOut (p : Program) (lists : List (List Entry)) (m : Map) (c : Config) : Type 0 where
  pub formats : All (λ (s : Stage). All (HasFormatOfRule p) s.units) c.stages
  pub held : All (λ (s : Stage). All (HasDataOfRule p) s.units) c.stages
  pub blocks : All HasBlocksInOrder c.stages
  pub rows : StandInRows p lists m.placement.parts m.cells
  pub cells : m.cells ≡ cells_told (length p.nodes) c.stages

-- The placement is legal, and the bound that of the program: no legal placement uses fewer stages.
pub record IsBounded (p : Program) (m : Map) (b : Bound) : Type 0 where
  pub legal : IsLegal p (field_edges p m.places) m.placement
  pub bound : b ≡ stage_bound p (field_edges p m.places)
  pub least : (placement : Placement) → IsLegal p (field_edges p m.places) placement → b.stages ≤ stages_used p placement
