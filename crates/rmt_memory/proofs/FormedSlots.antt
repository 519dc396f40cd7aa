-- The slots of a configuration that keeps the rules of form are ones whose memory can be laid out.
use Rattle.std.proofs.Common.{◌≡◌, ℕ, ◌+◌, ◌≤◌, List, [], ◌∷◌, map, true, arith}
use Rattle.std.specs.Prelude.{All, bit_and}
use Rattle.std.specs.List.{list_all}
use Rattle.std.proofs.lemmas.Bool.{and_parts, eqb-true}
use Rattle.std.proofs.lemmas.List.Elements.{All-cons, All-head, All-tail}
use Rattle.std.proofs.lemmas.Nat.{and_le_r}
use Rattle.rmt_bits.proofs.AllLaws.{All-from_test, All-left, All-right, All-unmap}
use Rattle.rmt_memory.specs.Types.{Config, Stage, TcamRow, Unit as ChipUnit}
use Rattle.rmt_config.specs.declared.config.Unit.TheVariants.{Gate, Slot}
use Rattle.rmt_config.specs.UnitForm.{slot_head_is_formed, memory_is_formed, unit_is_formed}
use Rattle.rmt_config.specs.StageForm.{trow_is_formed, stage_is_formed, rows_are_formed}
use Rattle.rmt_config.specs.TableForm.{Placed, placed_from, placed_units}
use Rattle.rmt_config.specs.CellForm.{SlotHolds, StageHolds, Coded, coded_from}
use Rattle.rmt_config.specs.MemoryRules.{FormedRows}
use Rattle.rmt_config.specs.Form.{Formed, visible_with}
use Rattle.rmt_config.specs.PrefixRow.{PrefixRows}
use Rattle.rmt_config.proofs.SlotLaws.{formed-rows}
use Rattle.rmt_config.proofs.SpelledParts.{units-of}
use Rattle.rmt_config.proofs.CountsLemmas.{stages_of_items}
use Rattle.rmt_memory.specs.Memories.{UnitFormed}
use Rattle.rmt_config.proofs.SpelledWays.{Follows, each-follows, ways-low}

-- ---- the slots of a stage

units-formed : (visible : ℕ) (stage : Stage) → FormedRows stage → PrefixRows stage.trows → (units : List ChipUnit) (first : ℕ) → list_all unit_is_formed units ≡ true
    → All (λ (c : Coded). SlotHolds visible stage c.first c.slot) (coded_from first units) → All Follows units → All (UnitFormed stage) units
units-formed visible stage rows values [] first form holds follow = λ k d lt. absurd (omega (arith, lt))
units-formed visible stage rows values ((Gate g) ∷ units) first form holds follow =
    let parts = and_parts (unit_is_formed (Gate g)) (list_all unit_is_formed units) form in
    All-cons (UnitFormed stage) (Gate g) units tt (units-formed visible stage rows values units first parts.1 holds (All-tail Follows (Gate g) units follow))
units-formed visible stage rows values ((Slot s) ∷ units) first form holds follow =
    let parts = and_parts (unit_is_formed (Slot s)) (list_all unit_is_formed units) form in
    let P : Coded → Type 0 = λ c. SlotHolds visible stage c.first c.slot in
    let rest = coded_from (first + s.actions + 1) units in
    let memory = (and_parts (slot_head_is_formed s) (memory_is_formed s s.memory) parts.0).1 in
    All-cons (UnitFormed stage) (Slot s) units
    (record {
      rows = rows;
      values = values;
      form = parts.0;
      visible = visible;
      first = first;
      holds = All-head P (record { first = first; slot = s }) rest holds;
      ways = ways-low s s.memory (All-head Follows (Slot s) units follow) memory;
    })
    (units-formed visible stage rows values units (first + s.actions + 1) parts.1 (All-tail P (record { first = first; slot = s }) rest holds) (All-tail Follows (Slot s) units follow))

row-within : (units : List ChipUnit) (r : TcamRow) → trow_is_formed units r ≡ true → r.value ≤ r.mask
row-within units r h =
    let masked : bit_and r.value r.mask ≡ r.value = eqb-true (bit_and r.value r.mask) r.value (and_parts _ _ h).1 in
    let low = and_le_r r.value r.mask in
    omega (arith, masked, low)

stage-formed : (visible : ℕ) (stage : Stage) → stage_is_formed stage ≡ true → rows_are_formed stage ≡ true → StageHolds visible stage → All Follows stage.units → All (UnitFormed stage) stage.units
stage-formed visible stage items rows holds follow =
    let formed = formed-rows stage items rows in
    let within = All-from_test (λ (r : TcamRow). r.value ≤ r.mask) (trow_is_formed stage.units) (row-within stage.units) stage.trows (and_parts _ _ (and_parts _ _ rows).0).1 in
    units-formed visible stage formed (record { rise = formed.trise; low = formed.tlow; within = within }) stage.units 0 (units-of stage items) holds follow

-- ---- those of all stages

stages-formed : (visible k : ℕ) (stages : List Stage) → list_all stage_is_formed stages ≡ true → list_all rows_are_formed stages ≡ true → All (StageHolds visible) stages
    → All (λ (x : Placed). Follows x.unit) (placed_from k stages) → All (λ (stage : Stage). All (UnitFormed stage) stage.units) stages
stages-formed visible k [] items rows holds follow = λ j d lt. absurd (omega (arith, lt))
stages-formed visible k (stage ∷ stages) items rows holds follow =
    let i = and_parts (stage_is_formed stage) (list_all stage_is_formed stages) items in
    let r = and_parts (rows_are_formed stage) (list_all rows_are_formed stages) rows in
    let place : ChipUnit → Placed = λ u. record { stage = k; unit = u } in
    let P : Placed → Type 0 = λ x. Follows x.unit in
    let own = All-unmap P place stage.units (All-left P (map place stage.units) (placed_from (k + 1) stages) follow) in
    let later = All-right P (map place stage.units) (placed_from (k + 1) stages) follow in
    All-cons (λ (x : Stage). All (UnitFormed x) x.units) stage stages
    (stage-formed visible stage i.0 r.0 (All-head (StageHolds visible) stage stages holds) own)
    (stages-formed visible (k + 1) stages i.1 r.1 (All-tail (StageHolds visible) stage stages holds) later)

pub formed-slots : (c : Config) → Formed c → All (λ (stage : Stage). All (UnitFormed stage) stage.units) c.stages
formed-slots c formed =
    stages-formed (visible_with c.names) 0 c.stages (stages_of_items c formed.items) formed.whole.rows formed.whole.memory (each-follows [] (placed_units c) formed.whole.tables)
