-- The parts of a table stand in the stages of a configuration that keeps the rules of items and of memory.
use Rattle.std.proofs.Common.{◌≡◌, ℕ, ◌+◌, Option, List, [], ◌∷◌, ◌++◌, Bool, true, false, cond, eqb, Some, option_map, unwrap_or, get_or, sym, ap, ◌∙◌, arith}
use Rattle.std.specs.Prelude.{All, IsTrue, option_and_then, slice_get}
use Rattle.std.specs.List.{enumerate_from, flat_map, list_all}
use Rattle.std.proofs.lemmas.Bool.{and_parts}
use Rattle.std.proofs.lemmas.Option.{get_or_from_slice_get}
use Rattle.std.proofs.lemmas.List.Elements.{All-nil, All-cons, All-head, All-tail, All-append}
use Rattle.rmt_bits.proofs.ListLaws.{first_from, next_from}
use Rattle.rmt_config.specs.Types.{Config, Stage, Unit, SlotUnit}
use Rattle.rmt_config.specs.declared.config.Unit.TheVariants.{Gate, Slot}
use Rattle.rmt_config.specs.Cells.{content_of}
use Rattle.rmt_config.specs.CellForm.{SlotHolds, StageHolds, Coded, coded_from}
use Rattle.rmt_config.specs.Form.{items_are_formed, visible_with}
use Rattle.rmt_config.specs.MemoryRules.{FormedRows, MemoryIsFormed}
use Rattle.rmt_config.specs.RunCells.{as_slot, no_content, own_content}
use Rattle.rmt_config.specs.StageForm.{stage_is_formed, rows_are_formed}
use Rattle.rmt_config.specs.UnitForm.{unit_is_formed}
use Rattle.rmt_config.specs.Rooms.{PartAt, parts_among, parts_of}
use Rattle.rmt_config.specs.PartStands.{PartStands}
use Rattle.rmt_config.proofs.CountsLemmas.{stages_of_items}
use Rattle.rmt_config.proofs.SlotLaws.{formed-rows}

slot-stand : (c : Config) (p : PartAt) (rest : List PartAt) (b : Bool) → PartStands c p → All (PartStands c) rest → All (PartStands c) ((cond b (p ∷ []) []) ++ rest)
slot-stand c p rest true stands more = All-cons (PartStands c) p rest stands more
slot-stand c p rest false stands more = more

module _ (c : Config) (stage : Stage) (k node : ℕ) (in_stages : slice_get c.stages k ≡ Some stage) (formed : stage_is_formed stage ≡ true) (rows : FormedRows stage) where
  units-stand : (units : List Unit) (place first : ℕ) → ((i : ℕ) → slice_get units i ≡ slice_get stage.units (place + i)) → list_all unit_is_formed units ≡ true
      → All (λ (x : Coded). SlotHolds (visible_with c.names) stage x.first x.slot) (coded_from first units) → All (PartStands c) (parts_among node k place first units)
  units-stand [] place first h e all = All-nil (PartStands c)
  units-stand (Gate g ∷ units) place first h e all =
      units-stand units (place + 1) first (next_from units stage.units (Gate g) place h) (and_parts (unit_is_formed (Gate g)) (list_all unit_is_formed units) e).1 all
  units-stand (Slot s ∷ units) place first h e all =
      let parts = and_parts (unit_is_formed (Slot s)) (list_all unit_is_formed units) e in
      let x : Coded = record { first = first; slot = s } in
      let behind = coded_from (first + s.actions + 1) units in
      slot-stand c (record { stage = k; place = place; first = first; slot = s }) (parts_among node k (place + 1) (first + s.actions + 1) units) (eqb s.node node)
      (record {
        stage = stage;
        in_stages = in_stages;
        in_units = first_from units stage.units (Slot s) place h;
        formed = formed;
        rows = rows;
        slot = parts.0;
        holds = All-head (λ (x : Coded). SlotHolds (visible_with c.names) stage x.first x.slot) x behind all;
      })
      (units-stand units (place + 1) (first + s.actions + 1) (next_from units stage.units (Slot s) place h) parts.1
      (All-tail (λ (x : Coded). SlotHolds (visible_with c.names) stage x.first x.slot) x behind all))

pub units-of : (stage : Stage) → stage_is_formed stage ≡ true → list_all unit_is_formed stage.units ≡ true
units-of stage e = (and_parts _ _ (and_parts _ _ (and_parts _ _ (and_parts _ _ (and_parts _ _ (and_parts _ _ e).0).0).0).0).0).1

stages-stand : (c : Config) (node k : ℕ) (stages : List Stage) → ((i : ℕ) → slice_get stages i ≡ slice_get c.stages (k + i)) → list_all stage_is_formed stages ≡ true
    → list_all rows_are_formed stages ≡ true → All (StageHolds (visible_with c.names)) stages
    → All (PartStands c) (flat_map (λ (x : ℕ × Stage). parts_among node x.0 0 0 x.1.units) (enumerate_from k stages))
stages-stand c node k [] h e r all = All-nil (PartStands c)
stages-stand c node k (stage ∷ stages) h e r all =
    let formed = and_parts (stage_is_formed stage) (list_all stage_is_formed stages) e in
    let rows = and_parts (rows_are_formed stage) (list_all rows_are_formed stages) r in
    let here = parts_among node k 0 0 stage.units in
    let rest = flat_map (λ (x : ℕ × Stage). parts_among node x.0 0 0 x.1.units) (enumerate_from (k + 1) stages) in
    All-append (PartStands c) here rest
    (units-stand c stage k node (first_from stages c.stages stage k h) formed.0 (formed-rows stage formed.0 rows.0) stage.units 0 0 (λ i. ap (slice_get stage.units) (omega arith)) (units-of stage formed.0)
    (All-head (StageHolds (visible_with c.names)) stage stages all))
    (stages-stand c node (k + 1) stages (next_from stages c.stages stage k h) formed.1 rows.1 (All-tail (StageHolds (visible_with c.names)) stage stages all))

pub parts-stand : (c : Config) (node : ℕ) → IsTrue (items_are_formed c) → MemoryIsFormed c → All (PartStands c) (parts_of c node)
parts-stand c node items memory = stages-stand c node 0 c.stages (λ i. ap (slice_get c.stages) (omega arith)) (stages_of_items c items) memory.rows memory.memory

-- what a part's cell holds
pub held-is : (c : Config) (p : PartAt) → (stands : PartStands c p) → (n : ℕ) → own_content c p.stage p.place n ≡ content_of stands.stage p.slot n
held-is c p stands n =
    ap (λ (o : Option Stage). unwrap_or (option_and_then (λ (x : Stage). option_map (λ (y : SlotUnit). content_of x y n) (option_and_then as_slot (slice_get x.units p.place))) o) no_content) stands.in_stages
    ∙ ap (λ (o : Option Unit). unwrap_or (option_map (λ (y : SlotUnit). content_of stands.stage y n) (option_and_then as_slot o)) no_content) stands.in_units

-- the rows that are read are those of the part's stage
pub rows-in : {X : Type 0} (of : Stage → List X) (c : Config) (p : PartAt) (stands : PartStands c p) {stages : List Stage} {stage : Stage} {rows : List X} → stages ≡ c.stages
    → stage ≡ get_or stages p.stage stage → rows ≡ of (get_or stages p.stage stage) → rows ≡ of stands.stage
rows-in of c p stands {stages} {stage} {rows} all at own =
    let is : stage ≡ stands.stage = at ∙ ap (λ (ss : List Stage). get_or ss p.stage stage) all ∙ get_or_from_slice_get c.stages p.stage stands.stage stage stands.in_stages in
    own ∙ ap of (sym at ∙ is)
