-- Of which cells a map tells: those that slots list.
use Rattle.std.proofs.Common.{◌≡◌, ℕ, zero, suc, ◌+◌, ◌<◌, ◌==◌, Bool, true, false, cond, List, [], ◌∷◌, map, Some, refl, sym, ap, ◌∙◌, subst, inl, inr, arith}
use Rattle.std.specs.Prelude.{Contains, option_and_then, slice_get}
use Rattle.std.specs.List.{flat_map, range_with_len}
use Rattle.std.proofs.lemmas.Bool.{eq-eqb, eqb-true}
use Rattle.std.proofs.lemmas.List.Elements.{Contains-append_cases, Contains-append_left, Contains-append_right, All-contains}
use Rattle.std.proofs.lemmas.Option.{none-some, same_Some}
use Rattle.rmt_bits.proofs.AllLaws.{All-range}
use Rattle.rmt_build.specs.Types.{Stage, Unit, SlotUnit, CellNumber}
use Rattle.rmt_config.specs.declared.config.Unit.TheVariants.{Gate, Slot}
use Rattle.rmt_refine.specs.declared.map.CellOf.{CellOf}
use Rattle.rmt_refine.specs.View.{as_slot, slot_of}
use Rattle.rmt_pack.proofs.FindLaws.{Contains-range}
use Rattle.rmt_pack.proofs.PartLaws.{slot_is_unit, then_some}
use Rattle.rmt_build.specs.Told.{cell_told, cells_told, stages_told, unit_told}
use Rattle.rmt_bits.proofs.MemberLaws.{Contains-unmap, Contains-map, Contains-item, Contains-flat_map, flat_from}

-- a unit is a slot of node n that lists a cell of stage k
pub record ListedIn (n k : ℕ) (u : Unit) (x : CellOf) : Type 0 where
  pub slot : SlotUnit
  pub number : CellNumber
  pub unit_is : as_slot u ≡ Some slot
  pub node_is : slot.node ≡ n
  pub there : Contains slot.numbers number
  pub told : cell_told k number ≡ x

-- some unit of a stage is
pub record IsListed (n first : ℕ) (stages : List Stage) (x : CellOf) : Type 0 where
  pub place : ℕ
  pub at : ℕ
  pub stage : Stage
  pub unit : Unit
  pub stage_is : slice_get stages at ≡ Some stage
  pub unit_is : slice_get stage.units place ≡ Some unit
  pub own : ListedIn n (first + at) unit x

pub slot_there : {n first : ℕ} {stages : List Stage} {x : CellOf} → (q : IsListed n first stages x) → slot_of q.stage q.place ≡ Some q.own.slot
slot_there q = ap (option_and_then as_slot) q.unit_is ∙ q.own.unit_is

-- ---- what is told is listed

pub unit_listed : (n k : ℕ) (u : Unit) (x : CellOf) → Contains (unit_told n k u) x → ListedIn n k u x
unit_listed n k (Gate g) x there = absurd (let lt = there.1 in omega (arith, lt))
unit_listed n k (Slot s) x there = by (s.node == n) refl there
  where
    by : (b : Bool) → (s.node == n) ≡ b → Contains (cond b (map (cell_told k) s.numbers) []) x → ListedIn n k (Slot s) x
    by false is none = absurd (let lt = none.1 in omega (arith, lt))
    by true is own =
        let r = Contains-unmap (cell_told k) s.numbers x own in
        record { slot = s; number = r.0; unit_is = refl; node_is = eqb-true s.node n is; there = r.1; told = r.2 }

pub stages_listed : (n first : ℕ) (stages : List Stage) (x : CellOf) → Contains (stages_told n first stages) x → IsListed n first stages x
stages_listed n first [] x there = absurd (let lt = there.1 in omega (arith, lt))
stages_listed n first (stage ∷ stages) x there = elim (Contains-append_cases (flat_map (unit_told n first) stage.units) (stages_told n (first + 1) stages) x there) [
  | inl here ↦
      let r = flat_from (unit_told n first) stage.units x here in
      let e : first ≡ first + 0 = omega arith in
      record {
        place = r.0;
        at = 0;
        stage = stage;
        unit = r.1;
        stage_is = refl;
        unit_is = r.2;
        own = subst (λ k. ListedIn n k r.1 x) e (unit_listed n first r.1 x r.3);
      }
  | inr later ↦
      let r = stages_listed n (first + 1) stages x later in
      let e : first + 1 + r.at ≡ first + suc r.at = omega arith in
      record {
        place = r.place;
        at = suc r.at;
        stage = r.stage;
        unit = r.unit;
        stage_is = r.stage_is;
        unit_is = r.unit_is;
        own = subst (λ k. ListedIn n k r.unit x) e r.own;
      }
]

pub told_listed : (nodes : ℕ) (stages : List Stage) (x : CellOf) → Contains (cells_told nodes stages) x → (n : ℕ) × (n < nodes) × IsListed n 0 stages x
told_listed nodes stages x there =
    let r = flat_from (λ n. stages_told n 0 stages) (range_with_len 0 nodes) x there in
    let within = All-contains (λ n. n < nodes) (range_with_len 0 nodes) r.1 (All-range (λ n. n < nodes) 0 nodes (λ w lt. omega (arith, lt))) (Contains-item (range_with_len 0 nodes) r.0 r.1 r.2) in
    (r.1, within, stages_listed r.1 0 stages x r.3)

-- ---- and what is listed is told

unit_tells : (n k : ℕ) (s : SlotUnit) (number : CellNumber) → s.node ≡ n → Contains s.numbers number → Contains (unit_told n k (Slot s)) (cell_told k number)
unit_tells n k s number node there =
    subst (λ b. Contains (cond b (map (cell_told k) s.numbers) []) (cell_told k number)) (sym (eq-eqb s.node n node)) (Contains-map (cell_told k) s.numbers number there)

stages_tell : (n first at place : ℕ) (stages : List Stage) (stage : Stage) (slot : SlotUnit) (number : CellNumber) → slice_get stages at ≡ Some stage → slot_of stage place ≡ Some slot
    → slot.node ≡ n → Contains slot.numbers number → Contains (stages_told n first stages) (cell_told (first + at) number)
stages_tell n first at place [] stage slot number stage_is slot_is node there = absurd (none-some stage stage_is)
stages_tell n first zero place (x ∷ stages) stage slot number stage_is slot_is node there =
    let e : first ≡ first + 0 = omega arith in
    let same : x ≡ stage = same_Some x stage stage_is in
    let u = then_some as_slot (slice_get stage.units place) slot slot_is in
    let unit_is : slice_get x.units place ≡ Some (Slot slot) = ap (λ (y : Stage). slice_get y.units place) same ∙ u.1 ∙ ap Some (slot_is_unit u.0 slot u.2) in
    Contains-append_left (flat_map (unit_told n first) x.units) (stages_told n (first + 1) stages) (cell_told (first + 0) number)
    (subst (λ k. Contains (flat_map (unit_told n first) x.units) (cell_told k number)) e
    (Contains-flat_map (unit_told n first) x.units (Slot slot) (cell_told first number) (Contains-item x.units place (Slot slot) unit_is) (unit_tells n first slot number node there)))
stages_tell n first (suc at) place (x ∷ stages) stage slot number stage_is slot_is node there =
    let e : first + 1 + at ≡ first + suc at = omega arith in
    Contains-append_right (flat_map (unit_told n first) x.units) (stages_told n (first + 1) stages) (cell_told (first + suc at) number)
    (subst (λ k. Contains (stages_told n (first + 1) stages) (cell_told k number)) e (stages_tell n (first + 1) at place stages stage slot number stage_is slot_is node there))

pub listed_told : (nodes n at place : ℕ) (stages : List Stage) (stage : Stage) (slot : SlotUnit) (number : CellNumber) → n < nodes → slice_get stages at ≡ Some stage → slot_of stage place ≡ Some slot
    → slot.node ≡ n → Contains slot.numbers number → Contains (cells_told nodes stages) (cell_told at number)
listed_told nodes n at place stages stage slot number lt stage_is slot_is node there =
    let e : 0 + at ≡ at = omega arith in
    Contains-flat_map (λ m. stages_told m 0 stages) (range_with_len 0 nodes) n (cell_told at number) (Contains-range nodes n lt)
    (subst (λ k. Contains (stages_told n 0 stages) (cell_told k number)) e (stages_tell n 0 at place stages stage slot number stage_is slot_is node there))
