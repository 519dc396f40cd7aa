-- The parts of units, one unit after another.
use Rattle.std.proofs.Common.{◌≡◌, ℕ, zero, suc, List, [], ◌∷◌, ◌++◌, Some, sym, ap, subst, ◌∙◌}
use Rattle.std.specs.Prelude.{slice_get}
use Rattle.std.proofs.lemmas.Option.{none-some, same_Some}
use Rattle.rmt_build.specs.Types.{Program, Table, Unit, GateUnit, SlotUnit}
use Rattle.rmt_ast.specs.declared.entry.Entry.{Entry}
use Rattle.rmt_config.specs.declared.config.Unit.TheVariants.{Gate, Slot}
use Rattle.rmt_refine.specs.Units.{table_at}
use Rattle.rmt_filling.specs.declared.plan.Plan.{Plan}
use Rattle.rmt_build.specs.BuiltStage.{HasPart, HaveParts}

module _ (p : Program) (lists : List (List Entry)) (plan : Plan) (k : ℕ) where
  pub parts_push : (units : List Unit) (u : Unit) → HaveParts p lists plan k units → HaveParts p lists plan k (u ∷ []) → HaveParts p lists plan k (units ++ u ∷ [])
  parts_push [] u before own place slot t es at table list = own place slot t es at table list
  parts_push (v ∷ units) u before own zero slot t es at table list = before zero slot t es at table list
  parts_push (v ∷ units) u before own (suc place) slot t es at table list =
      parts_push units u (λ q r s fs a b c. before (suc q) r s fs a b c) own place slot t es at table list

  pub gate_part : (g : GateUnit) → HaveParts p lists plan k (Gate g ∷ [])
  gate_part g zero slot t es at table list = absurd (none-some slot at)
  gate_part g (suc place) slot t es at table list = absurd (none-some slot at)

  pub slot_part : (s : SlotUnit) (t : Table) (es : List Entry) → table_at p s.node ≡ Some t → slice_get lists s.node ≡ Some es → HasPart p plan k s t es → HaveParts p lists plan k (Slot s ∷ [])
  slot_part s t es its_table its_list part zero slot u fs at table list =
      let same : s ≡ slot = same_Some s slot at in
      let one : t ≡ u = same_Some t u (sym its_table ∙ (ap (λ (x : SlotUnit). table_at p x.node) same ∙ table)) in
      let two : es ≡ fs = same_Some es fs (sym its_list ∙ (ap (λ (x : SlotUnit). slice_get lists x.node) same ∙ list)) in
      subst (λ (x : SlotUnit). HasPart p plan k x u fs) same (subst (λ (x : Table). HasPart p plan k s x fs) one (subst (λ (x : List Entry). HasPart p plan k s t x) two part))
  slot_part s t es its_table its_list part (suc place) slot u fs at table list = absurd (none-some slot at)
