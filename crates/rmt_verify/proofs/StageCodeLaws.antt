-- The instructions of tables, stage by stage and unit by unit.
use Rattle.std.proofs.Common.{◌≡◌, ℕ, List, get_or, refl, ap, ◌∙◌, subst}
use Rattle.std.specs.Prelude.{All, IfSome, None, Option, Some, option_and_then, slice_get}
use Rattle.std.proofs.lemmas.Option.{none-some, same_Some, slice_get-get_or}
use Rattle.rmt_bits.specs.declared.lane.Lane.{Lane}
use Rattle.rmt_bits.proofs.AllLaws.{All-slice_get}
use Rattle.rmt_ast.specs.declared.program.What.TheVariants.{Apply, Gate as Test}
use Rattle.rmt_ast.specs.WellFormed.{IsProgram, IsTable}
use Rattle.rmt_config.specs.declared.config.Unit.TheVariants.{Gate, Slot}
use Rattle.rmt_config.specs.Instructions.{first_code}
use Rattle.rmt_refine.specs.Types.{Config, Node, Program, SlotUnit, Stage, Table, Unit, What}
use Rattle.rmt_refine.specs.Units.{applied, table_at}
use Rattle.rmt_refine.specs.View.{as_slot, slot_of}
use Rattle.rmt_vliw.specs.Coded.{TableCoded}
use Rattle.rmt_verify.specs.Instructions.{TablesCoded}
use Rattle.rmt_verify.specs.StageCode.{StageCoded, UnitCoded}

-- the table that a node applies is one of the program's
pub applied_table : (p : Program) (n : ℕ) (t : Table) → IsProgram p → table_at p n ≡ Some t → IsTable p t
applied_table p n t good at = of_node (slice_get p.nodes n) at
  where
    of_node : (o : Option Node) → option_and_then (λ (node : Node). applied p node.what) o ≡ Some t → IsTable p t
    of_node None e = absurd (none-some t e)
    of_node (Some node) e = of_what node.what e
      where
        of_what : (w : What) → applied p w ≡ Some t → IsTable p t
        of_what (Apply i) e = All-slice_get (IsTable p) p.tables i t good.tables e
        of_what (Test field test) e = absurd (none-some t e)

-- the unit that is a slot at a place
slot_unit : (stage : Stage) (place : ℕ) (s : SlotUnit) → slot_of stage place ≡ Some s → slice_get stage.units place ≡ Some (Slot s)
slot_unit stage place s at = of_unit (slice_get stage.units place) refl at
  where
    of_unit : (o : Option Unit) → slice_get stage.units place ≡ o → option_and_then as_slot o ≡ Some s → slice_get stage.units place ≡ Some (Slot s)
    of_unit None there e = absurd (none-some s e)
    of_unit (Some (Gate g)) there e = absurd (none-some s e)
    of_unit (Some (Slot x)) there e = there ∙ ap (λ (y : SlotUnit). Some (Slot y)) (same_Some x s e)

module _ (p : Program) (places : List (List Lane)) where
  -- the instructions of all tables are those of all units
  pub stages_coded : (c : Config) → TablesCoded p places c → All (StageCoded p places) c.stages
  stages_coded c coded k d lt place (Gate g) at = tt
  stages_coded c coded k d lt place (Slot slot) at = by_table (table_at p slot.node) refl
    where
      stage : Stage
      stage = get_or c.stages k d

      by_table : (o : Option Table) → table_at p slot.node ≡ o → IfSome o (λ (t : Table). TableCoded p places t (first_code stage place) stage)
      by_table None e = tt
      by_table (Some t) e = coded slot.node k place t stage slot e (slice_get-get_or c.stages k d lt) (ap (λ (o : Option Unit). option_and_then as_slot o) at) refl

  pub tables_coded : (c : Config) → All (StageCoded p places) c.stages → TablesCoded p places c
  tables_coded c each n k place t stage slot applies at_stage at_slot is =
      let here : StageCoded p places stage = All-slice_get (StageCoded p places) c.stages k stage each at_stage in
      let unit : UnitCoded p places stage (first_code stage place) (Slot slot) = here place (Slot slot) (slot_unit stage place slot at_slot) in
      let at : table_at p slot.node ≡ Some t = ap (table_at p) is ∙ applies in
      subst (λ o. IfSome o (λ (x : Table). TableCoded p places x (first_code stage place) stage)) at unit
