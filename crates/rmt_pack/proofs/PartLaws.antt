-- The parts of a table, as the slots of stages.
use Rattle.std.proofs.Common.{◌≡◌, ℕ, List, Option, Some, None, refl, sym, ap, subst, zero, suc, ◌+◌, ◌≤◌, [], ◌∷◌, map, Contains}
use Rattle.std.specs.Prelude.{IsSomeAnd, option_and_then, slice_get, sum_by}
use Rattle.std.specs.List.{AllByRecursion}
use Rattle.std.proofs.lemmas.List.Elements.{Contains-append_left, Contains-append_right}
use Rattle.std.proofs.lemmas.Option.{none-some, same_Some}
use Rattle.rmt_config.specs.declared.config.Config.{Config}
use Rattle.rmt_config.specs.declared.config.Stage.{Stage}
use Rattle.rmt_config.specs.declared.config.Unit.{Unit}
use Rattle.rmt_config.specs.declared.config.SlotUnit.{SlotUnit}
use Rattle.rmt_config.specs.declared.config.Unit.TheVariants.{Gate, Slot}
use Rattle.rmt_pack.specs.Slots.{slot_of}
use Rattle.rmt_bits.proofs.MemberLaws.{Contains-map}
use Rattle.rmt_config.specs.TableForm.{Placed, placed_from}
use Rattle.rmt_config.specs.Instructions.{unit_instructions}
use Rattle.rmt_config.specs.RunCells.{as_slot, slot_at}

pub and_at : {X : Type 0} (o : Option X) (P : X → Type 0) (x : X) → o ≡ Some x → IsSomeAnd o P → P x
and_at o P x e h = subst (λ q. IsSomeAnd q P) e h

pub and_from : {X : Type 0} (o : Option X) (P : X → Type 0) (x : X) → o ≡ Some x → P x → IsSomeAnd o P
and_from o P x e h = subst (λ q. IsSomeAnd q P) (sym e) h

pub then_some : {X Y : Type 0} (f : X → Option Y) (o : Option X) (y : Y) → option_and_then f o ≡ Some y → (x : X) × (o ≡ Some x) × (f x ≡ Some y)
then_some f None y e = absurd (none-some y e)
then_some f (Some x) y e = (x, refl, e)

-- a slot of node n stands at a place of stage k
pub record IsPart (c : Config) (n k place : ℕ) (stage : Stage) (slot : SlotUnit) : Type 0 where
  pub stage_is : slice_get c.stages k ≡ Some stage
  pub slot_is : slot_of stage place ≡ Some slot
  pub node_is : slot.node ≡ n

pub part_of_slot : (c : Config) (n k place : ℕ) (slot : SlotUnit) → slot_at c k place ≡ Some slot → slot.node ≡ n → (stage : Stage) × IsPart c n k place stage slot
part_of_slot c n k place slot e node =
    let r = then_some (λ (stage : Stage). slot_of stage place) (slice_get c.stages k) slot e in
    (r.0, record { stage_is = r.1; slot_is = r.2; node_is = node })

pub slot_is_unit : (u : Unit) (slot : SlotUnit) → as_slot u ≡ Some slot → u ≡ Slot slot
slot_is_unit (Gate g) slot e = absurd (none-some slot e)
slot_is_unit (Slot s) slot e = ap Slot (same_Some s slot e)

-- a unit of a stage is among the placed ones
pub placed_has : (k : ℕ) (stages : List Stage) (i : ℕ) (stage : Stage) (u : Unit) → slice_get stages i ≡ Some stage → Contains stage.units u → (x : Placed) × Contains (placed_from k stages) x × (x.unit ≡ u)
placed_has k [] i stage u at there = absurd (none-some stage at)
placed_has k (s ∷ stages) zero stage u at there = (
  record { stage = k; unit = u },
  Contains-append_left (map (λ unit. record { stage = k; unit = unit }) s.units) (placed_from (k + 1) stages) (record { stage = k; unit = u })
      (Contains-map (λ unit. record { stage = k; unit = unit }) s.units u (subst (λ (x : Stage). Contains x.units u) (sym (same_Some s stage at)) there)),
  refl,
)
placed_has k (s ∷ stages) (suc i) stage u at there =
    let r = placed_has (k + 1) stages i stage u at there in
    (r.0, Contains-append_right (map (λ unit. record { stage = k; unit = unit }) s.units) (placed_from (k + 1) stages) r.0 r.1, r.2)

-- a stage has few instructions
pub code_at : (xs : List Stage) (k : ℕ) (x : Stage) → AllByRecursion (λ (s : Stage). sum_by unit_instructions s.units ≤ 32) xs → slice_get xs k ≡ Some x → sum_by unit_instructions x.units ≤ 32
code_at [] k x all e = absurd (none-some x e)
code_at (y ∷ ys) zero x all e = subst (λ (s : Stage). sum_by unit_instructions s.units ≤ 32) (same_Some y x e) all.0
code_at (y ∷ ys) (suc k) x all e = code_at ys k x all.1 e
