-- Each memory of a built configuration holds what its slot lists, and stages start in order.
use Rattle.std.proofs.Common.{◌≡◌, ℕ, zero, suc, ◌+◌, ◌<◌, ◌≤◌, true, List, [], ◌∷◌, Some, length, get_or, refl, sym, ap, ◌∙◌, subst, inl, inr, arith}
use Rattle.std.specs.Prelude.{All, AllPairs, slice_get, slice_index, slice_index_or}
use Rattle.std.specs.List.{AllZip}
use Rattle.std.proofs.lemmas.Bool.{eq-eqb, le-leb}
use Rattle.std.proofs.lemmas.Option.{none-some, same_Some, slice_get-get_or, slice_get_within}
use Rattle.rmt_ast.specs.declared.entry.Entry.{Entry}
use Rattle.rmt_build.specs.Types.{Program, Stage, Unit, GateUnit, SlotUnit}
use Rattle.rmt_ast.specs.EntryLists.{AreEntries}
use Rattle.rmt_ast.specs.WellFormed.{AllNumbered, IsProgram}
use Rattle.rmt_config.specs.declared.config.Unit.TheVariants.{Gate, Slot}
use Rattle.rmt_config.specs.CellForm.{SlotHolds, StageHolds}
use Rattle.rmt_config.specs.Order.{rises_from}
use Rattle.rmt_config.specs.StageForm.{starts_are_formed}
use Rattle.rmt_config.specs.Instructions.{first_code}
use Rattle.rmt_refine.specs.Units.{UnitCarried, nodes_in}
use Rattle.rmt_refine.proofs.TheLaw.{table_entries}
use Rattle.rmt_filling.specs.declared.plan.Plan.{Plan}
use Rattle.rmt_filling.specs.declared.stands.Stand.{Stand}
use Rattle.rmt_build.specs.BuiltStage.{IsBuiltStage}
use Rattle.rmt_build.specs.Plans.{AreParts, AreStands}
use Rattle.rmt_build.proofs.FormFits.{slot_built}
use Rattle.rmt_build.proofs.FormMemory.{slot_holds, slots_hold}
use Rattle.rmt_build.proofs.FormStage.{kinds}

-- ---- starts

rise_on : (least : ℕ) (xs : List ℕ) → ((j : ℕ) → j < length xs → least ≤ slice_index xs j) → ((i j : ℕ) → i < j → j < length xs → slice_index xs i < slice_index xs j) → rises_from least xs ≡ true
rise_on least [] low rise = refl
rise_on least (x ∷ xs) low rise =
    rw (
      le-leb least x (low 0 (omega arith)),
      rise_on (x + 1) xs (λ j lt. (let less = rise 0 (suc j) (omega arith) (omega (arith, lt)) in omega (arith, less))) (λ i j less lt. rise (suc i) (suc j) (omega (arith, less)) (omega (arith, lt))),
    ) refl

-- starts from 0 on that rise
pub starts_formed : (starts : List ℕ) → (1 ≤ length starts → slice_index starts 0 ≡ 0) → ((i j : ℕ) → i < j → j < length starts → slice_index starts i < slice_index starts j)
    → starts_are_formed starts ≡ true
starts_formed [] first rise = refl
starts_formed (x ∷ xs) first rise =
    rw (
      eq-eqb x 0 (first (omega arith)),
      rise_on 1 xs (λ j lt. (let less = rise 0 (suc j) (omega arith) (omega (arith, lt)) in omega (arith, less))) (λ i j less lt. rise (suc i) (suc j) (omega (arith, less)) (omega (arith, lt))),
    ) refl

-- ---- memories

module _ (p : Program) (lists : List (List Entry)) (plan : Plan) (program : IsProgram p) (entries : AreEntries p lists) (are : AreParts p plan.placement.parts)
    (stands : AreStands p lists plan.placement.parts plan.stands) where
  own_rise : (n : ℕ) (es : List Entry) → slice_get lists n ≡ Some es → AllPairs (λ (a b : Stand). a.cell < b.cell) (slice_index_or plan.stands n [])
  own_rise n es list =
      let within = slice_get_within lists n es list in
      (stands.each n es (slice_index_or plan.stands n []) list (slice_get-get_or plan.stands n [] (omega (arith, within, stands.all_there)))).rise

  module _ (k : ℕ) (stage : Stage) (built : IsBuiltStage p lists plan k stage) where
    unit_at : (i : ℕ) (u : Unit) → slice_get stage.units i ≡ Some u → (n : ℕ) × UnitCarried p plan.places plan.placement.parts k n u
    unit_at i u at =
        let n = unit_there (UnitCarried p plan.places plan.placement.parts k) (nodes_in p plan.placement.parts k) stage.units i u built.units at in (n.0, n.2)
      where
        unit_there : {X Y : Type 0} (P : X → Y → Type 0) (xs : List X) (ys : List Y) (j : ℕ) (y : Y) → AllZip P xs ys → slice_get ys j ≡ Some y → (x : X) × (slice_get xs j ≡ Some x) × P x y
        unit_there P [] [] j y zip e = absurd (none-some y e)
        unit_there P [] (b ∷ ys) j y zip e = absurd zip
        unit_there P (a ∷ xs) [] j y zip e = absurd zip
        unit_there P (a ∷ xs) (b ∷ ys) zero y zip e = (a, refl, subst (P a) (same_Some b y e) zip.0)
        unit_there P (a ∷ xs) (b ∷ ys) (suc j) y zip e = unit_there P xs ys j y zip.1 e

    its_slot : (i : ℕ) (s : SlotUnit) → slice_get stage.units i ≡ Some (Slot s) → SlotHolds 3 stage (first_code stage i) s
    its_slot i s at =
        let unit = unit_at i (Slot s) at in
        let n = unit.0 in
        elim (kinds p plan.places plan.placement.parts k n (Slot s) unit.1) [
          | inl x ↦
              let same : s ≡ x.slot = slot_same s x.slot x.is in
              let number : s.node ≡ n = unit.1.number in
              let b = slot_built p lists plan program entries are k stage built i n s x.table at number x.at in
              let actions : s.actions ≡ length x.table.actions = ap (λ (y : SlotUnit). y.actions) same ∙ x.carried.actions in
              slot_holds p plan k i stage s x.table b.0 n number b.1 (table_entries p lists n x.table b.0 entries x.at b.2) actions
              (subst (λ m. AllPairs (λ (c d : Stand). c.cell < d.cell) (slice_index_or plan.stands m [])) (sym number) (own_rise n b.0 b.2))
          | inr g ↦ absurd (never_gate s g.gate g.is)
        ]
      where
        slot_same : (x y : SlotUnit) → ◌≡◌ {A = Unit} (Slot x) (Slot y) → x ≡ y
        slot_same x y e = cc

        never_gate : (x : SlotUnit) (g : GateUnit) → ◌≡◌ {A = Unit} (Slot x) (Gate g) → ⊥
        never_gate x g e = cc

    pub stage_holds : StageHolds 3 stage
    stage_holds = slots_hold stage its_slot

  pub all_hold : (stages : List Stage) → AllNumbered (IsBuiltStage p lists plan) stages → All (StageHolds 3) stages
  all_hold stages built k d lt = stage_holds k (get_or stages k d) (built k (get_or stages k d) (slice_get-get_or stages k d lt))
