-- The parts of a node stand in different places, and no two nodes have a part in one place.
use Rattle.std.proofs.Common.{◌≡◌, ℕ, ◌+◌, ◌==◌, true, false, ◌&&◌, get_or, Some, sym, ap, ◌∙◌, inl, inr, arith}
use Rattle.std.specs.Prelude.{All}
use Rattle.std.proofs.lemmas.Bool.{and_parts, cases_lt, eqb-true, false_from_ne_true}
use Rattle.std.proofs.lemmas.Option.{same_Some}
use Rattle.rmt_config.specs.declared.config.Config.{Config}
use Rattle.rmt_config.specs.declared.config.SlotUnit.{SlotUnit}
use Rattle.rmt_config.specs.Form.{items_are_formed}
use Rattle.rmt_config.specs.MemoryRules.{MemoryIsFormed}
use Rattle.rmt_config.specs.Rooms.{PartAt, Room, is_same, parts_of}
use Rattle.rmt_config.specs.RunCells.{slot_at}
use Rattle.rmt_config.proofs.SpelledParts.{parts-stand}
use Rattle.rmt_pack.proofs.PartOrderLaws.{stages_from}
pub use Rattle.rmt_pack.proofs.PartOrderLaws.{Rises, parts_in_order as parts-rise}
pub use Rattle.rmt_pack.proofs.RoomOrderLaws.{pair_at as pair-at}
use Rattle.rmt_update.proofs.PartHoldLaws.{part-slot}
use Rattle.rmt_update.proofs.RoomNumbers.{IsNumber, offset}

-- ---- rooms

-- a room's stage, place and cell
pub record SameAs (a b : Room) : Type 0 where
  pub stage : b.part.stage ≡ a.part.stage
  pub place : b.part.place ≡ a.part.place
  pub cell : b.cell ≡ a.cell

pub same-as : (a b : Room) → is_same a b ≡ true → SameAs a b
same-as a b e =
    let two = and_parts ((b.part.stage == a.part.stage) && (b.part.place == a.part.place)) (b.cell == a.cell) e in
    let one = and_parts (b.part.stage == a.part.stage) (b.part.place == a.part.place) two.0 in
    record { stage = eqb-true b.part.stage a.part.stage one.0; place = eqb-true b.part.place a.part.place one.1; cell = eqb-true b.cell a.cell two.1 }

pub never-rises : (a b : PartAt) → Rises a b → b.stage ≡ a.stage → b.place ≡ a.place → ⊥
never-rises a b (inl lt) stage place = omega (arith, lt, stage)
never-rises a b (inr both) stage place = let lt = both.1 in omega (arith, lt, place)

-- cells of other numbers are other rooms
pub rooms-apart : (c : Config) (node x y i j n m : ℕ) (p q : PartAt) → IsNumber (parts_of c node) x i n p → IsNumber (parts_of c node) y j m q → (x ≡ y → ⊥)
    → is_same (record { part = p; cell = n }) (record { part = q; cell = m }) ≡ false
rooms-apart c node x y i j n m p q at_x at_y ne =
    false_from_ne_true (is_same (record { part = p; cell = n }) (record { part = q; cell = m })) (λ e.
    let same = same-as (record { part = p; cell = n }) (record { part = q; cell = m }) e in
    elim (cases_lt i j) [
      | inl lt ↦ never-rises p q (pair-at Rises (parts_of c node) i j p q (parts-rise c node) lt at_x.there at_y.there) same.stage same.place
      | inr le ↦ elim (cases_lt j i) [
        | inl gt ↦ never-rises q p (pair-at Rises (parts_of c node) j i q p (parts-rise c node) gt at_y.there at_x.there) (sym same.stage) (sym same.place)
        | inr ge ↦
            let here : i ≡ j = omega (arith, le, ge) in
            ne (at_x.number ∙ ap (λ k. offset (parts_of c node) k + n) here ∙ ap (λ k. offset (parts_of c node) j + k) (sym same.cell) ∙ sym at_y.number)
      ]
    ])

-- ---- the parts of nodes

-- a slot of a node, where it stands
pub record IsPartOf (c : Config) (node : ℕ) (p : PartAt) : Type 0 where
  pub slot : slot_at c p.stage p.place ≡ Some p.slot
  pub own : p.slot.node ≡ node

pub parts-own : (c : Config) (node : ℕ) → items_are_formed c ≡ true → MemoryIsFormed c → All (IsPartOf c node) (parts_of c node)
parts-own c node items memory k d lt = record {
  slot = part-slot c (get_or (parts_of c node) k d) (parts-stand c node items memory k d lt);
  own = (stages_from node 0 c.stages k d lt).own;
}

-- rooms of two nodes are not the same
pub nodes-apart : (c : Config) (node other : ℕ) (a b : Room) → IsPartOf c node a.part → IsPartOf c other b.part → (node ≡ other → ⊥) → is_same a b ≡ false
nodes-apart c node other a b own_a own_b ne =
    false_from_ne_true (is_same a b) (λ e.
    let same = same-as a b e in
    let slots : a.part.slot ≡ b.part.slot =
    same_Some a.part.slot b.part.slot (sym own_a.slot ∙ ap (λ k. slot_at c k a.part.place) (sym same.stage) ∙ ap (slot_at c b.part.stage) (sym same.place) ∙ own_b.slot) in
    ne (sym own_a.own ∙ ap (λ (s : SlotUnit). s.node) slots ∙ own_b.own))
