use Rattle.std.proofs.Common.{◌≡◌, ◌<◌, ℕ, List, Vec, Global, length, get_or, set, true, Some, sym, ap, ◌∙◌, subst, arith, inl, inr}
use Rattle.std.specs.Prelude.{slice_get}
use Rattle.std.specs.Vec.{with_item}
use Rattle.std.proofs.lemmas.List.{length-set}
use Rattle.std.proofs.lemmas.Option.{get_or_from_slice_get, slice_get-get_or, same_Some}
use Rattle.std.proofs.lemmas.Bool.{cases_eq}
use Rattle.rmt_bits.proofs.ListLaws.{slice_get-set_same, slice_get-set_other}
use Rattle.rmt_memory.specs.Types.{Config, Stage, Unit, SlotUnit}
use Rattle.rmt_config.specs.declared.cell_write.CellWrite.{CellWrite}
use Rattle.rmt_config.specs.declared.config.Unit.TheVariants.{Slot}
use Rattle.rmt_config.specs.Life.{has_memory}
use Rattle.rmt_config.specs.RunCells.{RunCells, with_write}
use Rattle.rmt_config.proofs.MemoryLaws.{has_cells}
use Rattle.rmt_memory.specs.declared.memory.SlotMemory.{SlotMemory}
use Rattle.rmt_memory.specs.Memories.{FitsSlot, HoldsSlot}
use Rattle.rmt_memory.specs.StageMemories.{MemoriesHold, MemoriesOf}
use Rattle.rmt_memory.specs.Memory.{HoldsCells, MemoriesFit, MemoryFits, UnitHeld}
use Rattle.rmt_memory.specs.Writable.{WriteTaken, content_after, number_after, slot_in}
use Rattle.rmt_memory.proofs.StageMemoriesLaws.{place_below}
use Rattle.rmt_memory.proofs.MemoriesLaws.{SlotPlace, slot_place, slot_same, changed_each, written_here, written_elsewhere}
use Rattle.rmt_memory.proofs.stages.write_cell.Goals as goal

-- the unit that was read is the slot that is there
unit_read : (stages : List Stage) (k place : ℕ) (slot : SlotUnit) (p : SlotPlace stages k place slot) (d : Stage) (units : List Unit) (unit : Unit) → units ≡ (get_or stages k d).units → unit ≡ get_or units place unit → unit ≡ Slot slot
unit_read stages k place slot p d units unit are is =
    is ∙ ap (λ (us : List Unit). get_or us place unit) (are ∙ ap (λ (s : Stage). s.units) (get_or_from_slice_get stages k p.stage d p.at))
    ∙ get_or_from_slice_get p.stage.units place (Slot slot) unit p.there

pub write-requires-clause-taken : goal.write-requires-clause-taken
write-requires-clause-taken c =
    let t = c.requires.taken in
    let p = slot_place c.args.stages.now c.args.write.now.stage c.args.write.now.unit t.slot t.there in
    let unit = unit_read _ _ _ t.slot p _ _ _ c.as_slice.ensures c.index-as_slice-unit.is in
    subst (λ (s : SlotUnit). WriteTaken s c.args.write.now) (slot_same t.slot c.in-Slot.slot (sym unit ∙ c.in-Slot.is)) t.taken

module _ (stages : List Stage) (memories : List (Vec SlotMemory Global)) (w : CellWrite) (fit : MemoriesOf stages memories) (slot : SlotUnit) (p : SlotPlace stages w.stage w.unit slot) (taken : WriteTaken slot w) (v0 : Vec SlotMemory Global) where
  abbrev k : ℕ
  k = w.stage

  abbrev place : ℕ
  place = w.unit

  abbrev v : Vec SlotMemory Global
  v = get_or memories k v0

  abbrev after : SlotMemory → List (Vec SlotMemory Global)
  after new = set memories k (with_item v place new)

  vat : slice_get memories k ≡ Some v
  vat = slice_get-get_or memories k v0 (let lt = place_below stages k p.stage p.at in let all = fit.all_stages in omega (arith, lt, all))

  fits : MemoriesFit p.stage v.items
  fits = fit.each k p.stage v p.at vat

  below : place < length p.stage.units
  below = place_below p.stage.units place (Slot slot) p.there

  within : place < length v.items
  within = let all = fits.all_units in let lt = below in omega (arith, all, lt)

  has : has_memory slot.memory ≡ true
  has = has_cells slot.memory w.cell taken.cell

  here : get_or p.stage.units place (Slot slot) ≡ Slot slot
  here = get_or_from_slice_get p.stage.units place (Slot slot) (Slot slot) p.there

  slot-fits : (d : SlotMemory) → FitsSlot slot (get_or v.items place d)
  slot-fits d = fits.each place (Slot slot) d below slot here has

  fit-after : (new : SlotMemory) → FitsSlot slot new → MemoriesOf stages (after new)
  fit-after new own = record {
    all_stages = length-set memories k (with_item v place new) ∙ fit.all_stages;
    each = λ j s m one two. record {
      all_units = many j s m one two;
      each = changed_each (λ j i u d. MemoryFits u d) (λ j i u d. MemoryFits u d) stages memories k place p.stage (Slot slot) v new p.at vat p.there within
          (λ x is h. subst (λ (y : SlotUnit). FitsSlot y new) (slot_same slot x is) own) (λ j i u d apart h. h) (λ j s m one two. (fit.each j s m one two).each) j s m one two;
    };
  }
    where
      many : (j : ℕ) (s : Stage) (m : Vec SlotMemory Global) → slice_get stages j ≡ Some s → slice_get (after new) j ≡ Some m → length m.items ≡ length s.units
      many j s m one two =
          elim (cases_eq j k) as (λ _. length m.items ≡ length s.units) [
            | inr other ↦ (fit.each j s m one (sym (slice_get-set_other memories k j (with_item v place new) other) ∙ two)).all_units
            | inl same ↦
                let mine : with_item v place new ≡ m =
                same_Some (with_item v place new) m (sym (slice_get-set_same memories k v (with_item v place new) vat) ∙ ap (slice_get (after new)) (sym same) ∙ two) in
                let its : p.stage ≡ s = same_Some p.stage s (sym p.at ∙ ap (slice_get stages) (sym same) ∙ one) in
                ap (λ (x : Vec SlotMemory Global). length x.items) (sym mine) ∙ length-set v.items place new ∙ fits.all_units ∙ ap (λ (x : Stage). length x.units) its
          ]

  hold-after : (c : Config) (cells : RunCells) → c.stages ≡ stages → MemoriesHold c cells memories → (new : SlotMemory) → HoldsCells (with_write c cells w) k place slot new → MemoriesHold c (with_write c cells w) (after new)
  hold-after c cells same held new own =
      changed_each (λ j i u d. UnitHeld cells j i u d) (λ j i u d. UnitHeld (with_write c cells w) j i u d) c.stages memories k place p.stage (Slot slot) v new
      (ap (λ (ss : List Stage). slice_get ss k) same ∙ p.at) vat p.there within
      (λ x is h. subst (λ (y : SlotUnit). HoldsCells (with_write c cells w) k place y new) (slot_same slot x is) own)
      (λ j i u d apart h x is mem. written_elsewhere c cells w j i x d apart (h x is mem)) held

  held-before : (c : Config) (cells : RunCells) → c.stages ≡ stages → MemoriesHold c cells memories → (d : SlotMemory) → HoldsCells cells k place slot (get_or v.items place d)
  held-before c cells same held d = held k p.stage v (ap (λ (ss : List Stage). slice_get ss k) same ∙ p.at) vat place (Slot slot) d below slot here has

pub write-requires-clause-fits : goal.write-requires-clause-fits
write-requires-clause-fits c =
    let w = c.args.write.now in
    let t = c.requires.taken in
    let p = slot_place c.args.stages.now w.stage w.unit t.slot t.there in
    let unit = unit_read _ _ _ t.slot p _ _ _ c.as_slice.ensures c.index-as_slice-unit.is in
    let fits = slot-fits c.args.stages.now c.args.memories.now w c.requires.fit t.slot p t.taken c.index-memories-stage.result c.index_mut.result.now in
    subst (λ (s : SlotUnit). FitsSlot s c.index_mut.result.now) (slot_same t.slot c.in-Slot.slot (sym unit ∙ c.in-Slot.is)) (subst (λ (m : SlotMemory). FitsSlot t.slot m) (sym c.index_mut.ensures.value) fits)

pub returns-in-Slot-clause-fit : goal.returns-in-Slot-clause-fit
returns-in-Slot-clause-fit c =
    let w = c.args.write.now in
    let t = c.requires.taken in
    let p = slot_place c.args.stages.now w.stage w.unit t.slot t.there in
    let unit = unit_read _ _ _ t.slot p _ _ _ c.as_slice.ensures c.index-as_slice-unit.is in
    fit-after c.args.stages.now c.args.memories.now w c.requires.fit t.slot p t.taken c.index-memories-stage.result c.write.new.self
    (subst (λ (s : SlotUnit). FitsSlot s c.write.new.self) (sym (slot_same t.slot c.in-Slot.slot (sym unit ∙ c.in-Slot.is))) c.write.ensures.fits)

pub returns-in-Slot-clause-hold : goal.returns-in-Slot-clause-hold
returns-in-Slot-clause-hold c = λ cf cells same held.
    let w = c.args.write.now in
    let t = c.requires.taken in
    let stages = c.args.stages.now in
    let memories = c.args.memories.now in
    let p = slot_place stages w.stage w.unit t.slot t.there in
    let unit = unit_read _ _ _ t.slot p _ _ _ c.as_slice.ensures c.index-as_slice-unit.is in
    let slot_is : c.in-Slot.slot ≡ t.slot = sym (slot_same t.slot c.in-Slot.slot (sym unit ∙ c.in-Slot.is)) in
    let old = c.index_mut.result.now in
    let before : HoldsCells cells w.stage w.unit t.slot old =
    subst (λ (m : SlotMemory). HoldsCells cells w.stage w.unit t.slot m) (sym c.index_mut.ensures.value)
    (held-before stages memories w c.requires.fit t.slot p t.taken c.index-memories-stage.result cf cells same held old) in
    let wrote = c.write.ensures.holds (cells.content w.stage w.unit) (cells.number w.stage w.unit) (subst (λ (s : SlotUnit). HoldsCells cells w.stage w.unit s old) (sym slot_is) before) in
    let own = written_here cf cells w t.slot c.write.new.self (ap (λ (ss : List Stage). slot_in ss w.stage w.unit) same ∙ t.there)
    (subst (λ (s : SlotUnit). HoldsSlot (content_after w s (cells.content w.stage w.unit)) (number_after w (cells.number w.stage w.unit)) s c.write.new.self) slot_is wrote) in
    hold-after stages memories w c.requires.fit t.slot p t.taken c.index-memories-stage.result cf cells same held c.write.new.self own

pub returns-in_default-clause-hold : goal.returns-in_default-clause-hold
returns-in_default-clause-hold c =
    let t = c.requires.taken in
    let p = slot_place c.args.stages.now c.args.write.now.stage c.args.write.now.unit t.slot t.there in
    let unit = unit_read _ _ _ t.slot p _ _ _ c.as_slice.ensures c.index-as_slice-unit.is in
    absurd (c.in_default.not-Slot t.slot unit)
