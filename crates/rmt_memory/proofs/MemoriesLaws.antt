-- What memories hold at first, after a changed cell, and under a new version.
use Rattle.std.proofs.Common.{◌≡◌, ◌≢◌, ℕ, ◌<◌, List, length, get_or, set, Vec, Bool, true, false, cond, eqb, ◌&&◌, Option, Some, None, sym, refl, ap, ◌∙◌, subst, inl, inr}
use Rattle.std.specs.Prelude.{option_and_then, option_map, slice_get, unwrap_or}
use Rattle.std.specs.Vec.{with_item}
use Rattle.std.proofs.lemmas.Bool.{cases_eq, eq-eqb, ne_eqb}
use Rattle.std.proofs.lemmas.List.{get_or-set_same, get_or-set_other}
use Rattle.std.proofs.lemmas.Option.{get_or_from_slice_get, same_Some}
use Rattle.rmt_bits.proofs.ListLaws.{slice_get-set_same, slice_get-set_other}
use Rattle.std.specs.declared.alloc.Global.{Global}
use Rattle.rmt_memory.specs.Types.{Config, Stage, Unit, SlotUnit}
use Rattle.rmt_config.specs.declared.config.Unit.TheVariants.{Gate, Slot}
use Rattle.rmt_config.specs.Cells.{Content, content_of, number_of_cell}
use Rattle.rmt_config.specs.declared.cell_write.CellWrite.{CellWrite}
use Rattle.rmt_config.specs.RunCells.{RunCells, as_slot, no_content, own_cells, slot_at, with_version, with_write, written_content}
use Rattle.rmt_memory.specs.declared.memory.SlotMemory.{SlotMemory}
use Rattle.rmt_memory.specs.Memories.{HoldsSlot}
use Rattle.rmt_memory.specs.Memory.{HoldsCells}
use Rattle.rmt_memory.specs.StageMemories.{MemoriesHold}
use Rattle.rmt_memory.specs.Writable.{content_after, number_after, slot_in}

-- a new version changes no cell
pub memories_turned : (c : Config) (cells : RunCells) (seed : ℕ) (memories : List (Vec SlotMemory Global)) → MemoriesHold c cells memories → MemoriesHold c (with_version cells seed) memories
memories_turned c cells seed memories held = held

-- ---- at first

-- what a slot of a stage holds, where it is one, as the cells of a configuration say it
abbrev content-in : ℕ → Option Stage → ℕ → Content
content-in place stage n = unwrap_or (option_and_then (λ (x : Stage). option_map (λ slot. content_of x slot n) (option_and_then as_slot (slice_get x.units place))) stage) no_content

abbrev content-at : Stage → Option Unit → ℕ → Content
content-at stage unit n = unwrap_or (option_map (λ slot. content_of stage slot n) (option_and_then as_slot unit)) no_content

abbrev number-in : ℕ → Option Stage → ℕ → ℕ
number-in place stage n = unwrap_or (option_map (λ (slot : SlotUnit). number_of_cell slot.numbers n) (option_and_then (λ (x : Stage). option_and_then as_slot (slice_get x.units place)) stage)) 0

abbrev number-at : Option Unit → ℕ → ℕ
number-at unit n = unwrap_or (option_map (λ (slot : SlotUnit). number_of_cell slot.numbers n) (option_and_then as_slot unit)) 0

-- a memory that holds what the blocks of a slot hold holds the slot's own cells
pub own_held : (c : Config) (k place : ℕ) (stage : Stage) (s : SlotUnit) (m : SlotMemory) → slice_get c.stages k ≡ Some stage → slice_get stage.units place ≡ Some (Slot s)
    → HoldsSlot (content_of stage s) (number_of_cell s.numbers) s m → HoldsCells (own_cells c) k place s m
own_held c k place stage s m at there held =
    subst (λ (o : Option Stage). HoldsSlot (content-in place o) (number-in place o) s m) (sym at)
    (subst (λ (o : Option Unit). HoldsSlot (content-at stage o) (number-at o) s m) (sym there) held)

-- ---- after a changed cell

pub slot_same : (a b : SlotUnit) → Slot a ≡ Slot b → a ≡ b
slot_same a b e = cc

-- where a slot stands
pub record SlotPlace (stages : List Stage) (k place : ℕ) (slot : SlotUnit) : Type 0 where
  pub stage : Stage
  pub at : slice_get stages k ≡ Some stage
  pub there : slice_get stage.units place ≡ Some (Slot slot)

none_some : {X : Type 0} (x : X) → None ≡ Some x → ⊥
none_some x e = let n : ⊥ = cc in n

pub slot_place : (stages : List Stage) (k place : ℕ) (slot : SlotUnit) → slot_in stages k place ≡ Some slot → SlotPlace stages k place slot
slot_place stages k place slot is = by (slice_get stages k) refl is
  where
    unit_is : (o : Option Unit) → option_and_then as_slot o ≡ Some slot → o ≡ Some (Slot slot)
    unit_is None e = absurd (none_some slot e)
    unit_is (Some (Gate g)) e = absurd (none_some slot e)
    unit_is (Some (Slot s)) e = ap (λ (x : SlotUnit). Some (Slot x)) (same_Some s slot e)

    by : (o : Option Stage) → slice_get stages k ≡ o → option_and_then (λ (stage : Stage). option_and_then as_slot (slice_get stage.units place)) o ≡ Some slot → SlotPlace stages k place slot
    by None at e = absurd (none_some slot e)
    by (Some stage) at e = record { stage = stage; at = at; there = unit_is (slice_get stage.units place) e }

-- what holds of each unit and its memory, and of another memory at one place
pub changed_each : (P Q : ℕ → ℕ → Unit → SlotMemory → Type 0) (stages : List Stage) (memories : List (Vec SlotMemory Global)) (k place : ℕ) (stage : Stage) (unit : Unit) (v : Vec SlotMemory Global) (new : SlotMemory)
    → slice_get stages k ≡ Some stage → slice_get memories k ≡ Some v → slice_get stage.units place ≡ Some unit → place < length v.items → Q k place unit new
    → ((j i : ℕ) (u : Unit) (d : SlotMemory) → (j ≡ k → i ≢ place) → P j i u d → Q j i u d)
    → ((j : ℕ) (s : Stage) (m : Vec SlotMemory Global) → slice_get stages j ≡ Some s → slice_get memories j ≡ Some m → (i : ℕ) (u : Unit) (d : SlotMemory) → i < length s.units → P j i (get_or s.units i u) (get_or m.items i d))
    → (j : ℕ) (s : Stage) (m : Vec SlotMemory Global) → slice_get stages j ≡ Some s → slice_get (set memories k (with_item v place new)) j ≡ Some m → (i : ℕ) (u : Unit) (d : SlotMemory) → i < length s.units
    → Q j i (get_or s.units i u) (get_or m.items i d)
changed_each P Q stages memories k place stage unit v new at vat there inside here others old j s m one two i u d lt =
    elim (cases_eq j k) as (λ _. Q j i (get_or s.units i u) (get_or m.items i d)) [
      | inr other ↦
          others j i (get_or s.units i u) (get_or m.items i d) (λ e. absurd (other e))
          (old j s m one (sym (slice_get-set_other memories k j (with_item v place new) other) ∙ two) i u d lt)
      | inl same ↦
          let mine : with_item v place new ≡ m =
          same_Some (with_item v place new) m (sym (slice_get-set_same memories k v (with_item v place new) vat) ∙ ap (slice_get (set memories k (with_item v place new))) (sym same) ∙ two) in
          let its : stage ≡ s = same_Some stage s (sym at ∙ ap (slice_get stages) (sym same) ∙ one) in
          subst (λ (x : Vec SlotMemory Global). Q j i (get_or s.units i u) (get_or x.items i d)) mine
          (elim (cases_eq i place) as (λ _. Q j i (get_or s.units i u) (get_or (set v.items place new) i d)) [
            | inl equal ↦
                let unit_is : unit ≡ get_or s.units i u =
                sym (get_or_from_slice_get stage.units place unit u there) ∙ ap (λ n. get_or stage.units n u) (sym equal) ∙ ap (λ (x : Stage). get_or x.units i u) its in
                let new_is : new ≡ get_or (set v.items place new) i d = sym (ap (λ n. get_or (set v.items place new) n d) equal ∙ get_or-set_same v.items place new d inside) in
                subst (λ (x : SlotMemory). Q j i (get_or s.units i u) x) new_is
                (subst (λ (x : Unit). Q j i x new) unit_is (subst (λ n. Q n i unit new) (sym same) (subst (λ n. Q k n unit new) (sym equal) here)))
            | inr apart ↦
                subst (λ (x : SlotMemory). Q j i (get_or s.units i u) x) (sym (get_or-set_other v.items place i new d apart))
                (others j i (get_or s.units i u) (get_or v.items i d) (λ e. apart) (old j s v one (ap (slice_get memories) same ∙ vat) i u d lt))
          ])
    ]

-- the cells of a slot after a change of one of them
pub written_here : (c : Config) (cells : RunCells) (w : CellWrite) (slot : SlotUnit) (m : SlotMemory) → slot_at c w.stage w.unit ≡ Some slot
    → HoldsSlot (content_after w slot (cells.content w.stage w.unit)) (number_after w (cells.number w.stage w.unit)) slot m → HoldsCells (with_write c cells w) w.stage w.unit slot m
written_here c cells w slot m is held =
    subst (λ b. HoldsSlot (λ n. cond (b && eqb w.cell n) (unwrap_or (option_map (written_content w) (slot_at c w.stage w.unit)) no_content) (cells.content w.stage w.unit n))
    (λ n. cond (b && eqb w.cell n) (cond (eqb w.visible 0) 0 w.number) (cells.number w.stage w.unit n)) slot m) (sym both)
    (subst (λ (o : Option SlotUnit). HoldsSlot (λ n. cond (eqb w.cell n) (unwrap_or (option_map (written_content w) o) no_content) (cells.content w.stage w.unit n))
    (number_after w (cells.number w.stage w.unit)) slot m) (sym is) held)
  where
    both : (eqb w.stage w.stage && eqb w.unit w.unit) ≡ true
    both = ap (λ b. b && eqb w.unit w.unit) (eq-eqb w.stage w.stage refl) ∙ eq-eqb w.unit w.unit refl

-- and those of another
pub written_elsewhere : (c : Config) (cells : RunCells) (w : CellWrite) (k place : ℕ) (slot : SlotUnit) (m : SlotMemory) → (k ≡ w.stage → place ≢ w.unit) → HoldsCells cells k place slot m → HoldsCells (with_write c cells w) k place slot m
written_elsewhere c cells w k place slot m apart held =
    subst (λ b. HoldsSlot (λ n. cond (b && eqb w.cell n) (unwrap_or (option_map (written_content w) (slot_at c k place)) no_content) (cells.content k place n))
    (λ n. cond (b && eqb w.cell n) (cond (eqb w.visible 0) 0 w.number) (cells.number k place n)) slot m) (sym neither) held
  where
    second : (b : Bool) → (b && false) ≡ false
    second true = refl
    second false = refl

    neither : (eqb w.stage k && eqb w.unit place) ≡ false
    neither =
        elim (cases_eq w.stage k) as (λ _. (eqb w.stage k && eqb w.unit place) ≡ false) [
          | inl same ↦ ap (λ b. eqb w.stage k && b) (ne_eqb w.unit place (λ e. apart (sym same) (sym e))) ∙ second (eqb w.stage k)
          | inr other ↦ ap (λ b. b && eqb w.unit place) (ne_eqb w.stage k other)
        ]
