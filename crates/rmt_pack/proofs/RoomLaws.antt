-- Rooms of entries: each is a cell of a slot of the entry's node, in which the entry's key may stand.
use Rattle.std.proofs.Common.{◌≡◌, ℕ, zero, suc, ◌+◌, ◌==◌, Bool, true, false, cond, List, [], ◌∷◌, ◌++◌, map, Some, All, Contains, refl, sym, ap, subst, ◌∙◌, arith, ◌&&◌}
use Rattle.std.specs.Prelude.{option_and_then, slice_get}
use Rattle.std.specs.List.{enumerate_from, flat_map}
use Rattle.std.proofs.lemmas.Bool.{eq-eqb, eqb-true, and_parts}
use Rattle.std.proofs.lemmas.List.Elements.{All-append, All-cons, All-contains, All-contains_itself, All-map, All-nil, All-weaker, Contains-append_right}
use Rattle.std.proofs.lemmas.Option.{none-some, same_Some}
use Rattle.rmt_bits.proofs.MemberLaws.{Contains-first, Contains-flat_map, Contains-later, Contains-map}
use Rattle.rmt_bits.proofs.AllLaws.{All-flat_map}
use Rattle.rmt_bits.proofs.ListLaws.{first_from, next_from}
use Rattle.rmt_config.specs.declared.config.Config.{Config}
use Rattle.rmt_config.specs.declared.config.Stage.{Stage}
use Rattle.rmt_config.specs.declared.config.Unit.{Unit}
use Rattle.rmt_config.specs.declared.config.SlotUnit.{SlotUnit}
use Rattle.rmt_config.specs.Instructions.{first_code}
use Rattle.rmt_config.proofs.InstructionLaws.{first_code_next}
use Rattle.rmt_config.specs.declared.config.Unit.TheVariants.{Gate, Slot}
use Rattle.rmt_config.specs.LaneForm.{bits_of_lanes}
use Rattle.rmt_config.specs.Cells.{candidates}
use Rattle.rmt_config.specs.Rooms.{PartAt, Room, parts_among, parts_of, rooms_for, is_at}
use Rattle.rmt_config.specs.RunCells.{as_slot}
use Rattle.rmt_pack.proofs.PartLaws.{IsPart, slot_is_unit, then_some}

-- a part of a node, as the rooms tell it
pub record PartIs (c : Config) (node : ℕ) (p : PartAt) : Type 0 where
  pub stage : Stage
  pub part : IsPart c node p.stage p.place stage p.slot
  pub first : p.first ≡ first_code stage p.place

-- a room of a key, in a part of a node
pub record RoomIs (c : Config) (node seed key : ℕ) (r : Room) : Type 0 where
  pub part : PartIs c node r.part
  pub candidate : Contains (candidates seed (bits_of_lanes r.part.slot.keys) r.part.slot.memory key) r.cell

module _ (c : Config) (node k : ℕ) (stage : Stage) (in_stages : slice_get c.stages k ≡ Some stage) where
  parts_there : (units : List Unit) (place first : ℕ) → ((i : ℕ) → slice_get units i ≡ slice_get stage.units (place + i)) → first ≡ first_code stage place
      → All (PartIs c node) (parts_among node k place first units)
  parts_there [] place first h code = All-nil (PartIs c node)
  parts_there (Gate g ∷ units) place first h code =
      let next : first ≡ first_code stage (place + 1) = code ∙ (let e : first_code stage place ≡ first_code stage place + 0 = omega arith in e) ∙ sym (first_code_next stage place (Gate g) (first_from units stage.units (Gate g) place h)) in
      parts_there units (place + 1) first (next_from units stage.units (Gate g) place h) next
  parts_there (Slot s ∷ units) place first h code =
      let at = first_from units stage.units (Slot s) place h in
      let next : first + s.actions + 1 ≡ first_code stage (place + 1) =
      (let e : first + s.actions + 1 ≡ first_code stage place + (s.actions + 1) = omega (arith, code) in e) ∙ sym (first_code_next stage place (Slot s) at) in
      one (s.node == node) refl at (parts_there units (place + 1) (first + s.actions + 1) (next_from units stage.units (Slot s) place h) next)
    where
      one : (b : Bool) → (s.node == node) ≡ b → slice_get stage.units place ≡ Some (Slot s) → All (PartIs c node) (parts_among node k (place + 1) (first + s.actions + 1) units)
          → All (PartIs c node) (cond b (record { stage = k; place = place; first = first; slot = s } ∷ []) [] ++ parts_among node k (place + 1) (first + s.actions + 1) units)
      one false e at rest = rest
      one true e at rest =
          All-cons (PartIs c node) (record { stage = k; place = place; first = first; slot = s }) (parts_among node k (place + 1) (first + s.actions + 1) units)
          (record { stage = stage; part = record { stage_is = in_stages; slot_is = ap (option_and_then as_slot) at; node_is = eqb-true s.node node e }; first = code }) rest

pub stages_there : (c : Config) (node k : ℕ) (stages : List Stage) → ((i : ℕ) → slice_get stages i ≡ slice_get c.stages (k + i))
    → All (PartIs c node) (flat_map (λ (x : ℕ × Stage). parts_among node x.0 0 0 x.1.units) (enumerate_from k stages))
stages_there c node k [] h = All-nil (PartIs c node)
stages_there c node k (stage ∷ stages) h =
    All-append (PartIs c node) (parts_among node k 0 0 stage.units) (flat_map (λ (x : ℕ × Stage). parts_among node x.0 0 0 x.1.units) (enumerate_from (k + 1) stages))
    (parts_there c node k stage (first_from stages c.stages stage k h) stage.units 0 0 (λ i. ap (slice_get stage.units) (omega arith)) refl)
    (stages_there c node (k + 1) stages (next_from stages c.stages stage k h))

-- each room of a key is one
pub rooms_are : (c : Config) (seed node key : ℕ) → All (RoomIs c node seed key) (rooms_for c seed node key)
rooms_are c seed node key =
    All-flat_map (RoomIs c node seed key) rooms_in (parts_of c node)
    (All-weaker (PartIs c node) (λ p. All (RoomIs c node seed key) (rooms_in p)) in_part (parts_of c node) (stages_there c node 0 c.stages (λ i. ap (slice_get c.stages) (omega arith))))
  where
    rooms_in : PartAt → List Room
    rooms_in p = map (λ n. record { part = p; cell = n }) (candidates seed (bits_of_lanes p.slot.keys) p.slot.memory key)

    in_part : (p : PartAt) → PartIs c node p → All (RoomIs c node seed key) (rooms_in p)
    in_part p h =
        let among = candidates seed (bits_of_lanes p.slot.keys) p.slot.memory key in
        All-map (RoomIs c node seed key) (λ n. record { part = p; cell = n }) among
        (All-weaker (Contains among) (λ n. RoomIs c node seed key (record { part = p; cell = n })) (λ n there. record { part = h; candidate = there }) among (All-contains_itself among))

pub room_is : (c : Config) (seed node key : ℕ) (r : Room) → Contains (rooms_for c seed node key) r → RoomIs c node seed key r
room_is c seed node key r there = All-contains (RoomIs c node seed key) (rooms_for c seed node key) r (rooms_are c seed node key) there

-- ---- each such cell is a room

-- a part at a place
pub record PartAtPlace (k place : ℕ) (slot : SlotUnit) (parts : List PartAt) : Type 0 where
  pub part : PartAt
  pub there : Contains parts part
  pub stage_is : part.stage ≡ k
  pub place_is : part.place ≡ place
  pub slot_is : part.slot ≡ slot

module _ (node k : ℕ) (slot : SlotUnit) (own : slot.node ≡ node) where
  pub part_among : (units : List Unit) (place first i : ℕ) → slice_get units i ≡ Some (Slot slot) → PartAtPlace k (place + i) slot (parts_among node k place first units)
  part_among [] place first i e = absurd (none-some (Slot slot) e)
  part_among (Gate g ∷ units) place first zero e = absurd (none-some slot (ap (option_and_then as_slot) e))
  part_among (Gate g ∷ units) place first (suc i) e =
      let r = part_among units (place + 1) first i e in
      let at = r.place_is in
      record { part = r.part; there = r.there; stage_is = r.stage_is; place_is = omega (arith, at); slot_is = r.slot_is }
  part_among (Slot s ∷ units) place first zero e =
      let same : s ≡ slot = same_Some s slot (ap (option_and_then as_slot) e) in
      let p : PartAt = record { stage = k; place = place; first = first; slot = s } in
      let rest = parts_among node k (place + 1) (first + s.actions + 1) units in
      record {
        part = p;
        there = subst (λ b. Contains (cond b (p ∷ []) [] ++ rest) p) (sym (eq-eqb s.node node (ap (λ (x : SlotUnit). x.node) same ∙ own))) (Contains-first p rest);
        stage_is = refl;
        place_is = omega arith;
        slot_is = same;
      }
  part_among (Slot s ∷ units) place first (suc i) e =
      let r = part_among units (place + 1) (first + s.actions + 1) i e in
      let at = r.place_is in
      record {
        part = r.part;
        there = Contains-append_right (cond (s.node == node) (record { stage = k; place = place; first = first; slot = s } ∷ []) []) (parts_among node k (place + 1) (first + s.actions + 1) units) r.part r.there;
        stage_is = r.stage_is;
        place_is = omega (arith, at);
        slot_is = r.slot_is;
      }

in_enumerated : (stages : List Stage) (j i : ℕ) (stage : Stage) → slice_get stages i ≡ Some stage → Contains (enumerate_from j stages) (j + i, stage)
in_enumerated [] j i stage e = absurd (none-some stage e)
in_enumerated (s ∷ stages) j zero stage e =
    let here : j ≡ j + 0 = omega arith in
    subst (λ (x : ℕ × Stage). Contains ((j, s) ∷ enumerate_from (j + 1) stages) x) (λ i. (here i, same_Some s stage e i)) (Contains-first (j, s) (enumerate_from (j + 1) stages))
in_enumerated (s ∷ stages) j (suc i) stage e =
    let next : j + 1 + i ≡ j + suc i = omega arith in
    subst (λ n. Contains ((j, s) ∷ enumerate_from (j + 1) stages) (n, stage)) next
    (Contains-later (j, s) (enumerate_from (j + 1) stages) (j + 1 + i, stage) (in_enumerated stages (j + 1) i stage e))

-- a part of a node stands at its place
pub part_at_place : (c : Config) (node k place : ℕ) (stage : Stage) (slot : SlotUnit) → IsPart c node k place stage slot → PartAtPlace k place slot (parts_of c node)
part_at_place c node k place stage slot part =
    let u = then_some as_slot (slice_get stage.units place) slot part.slot_is in
    let unit_is : slice_get stage.units place ≡ Some (Slot slot) = u.1 ∙ ap Some (slot_is_unit u.0 slot u.2) in
    let r = part_among node k slot part.node_is stage.units 0 0 place unit_is in
    let at = r.place_is in
    let stage_in : Contains (enumerate_from 0 c.stages) (k, stage) =
    subst (λ n. Contains (enumerate_from 0 c.stages) (n, stage)) (let e : 0 + k ≡ k = omega arith in e) (in_enumerated c.stages 0 k stage part.stage_is) in
    record {
      part = r.part;
      there = Contains-flat_map (λ (x : ℕ × Stage). parts_among node x.0 0 0 x.1.units) (enumerate_from 0 c.stages) (k, stage) r.part stage_in r.there;
      stage_is = r.stage_is;
      place_is = omega (arith, at);
      slot_is = r.slot_is;
    }

-- a room of a key at a place
pub record RoomAt (c : Config) (seed node key k place cell : ℕ) : Type 0 where
  pub room : Room
  pub there : Contains (rooms_for c seed node key) room
  pub stage_is : room.part.stage ≡ k
  pub place_is : room.part.place ≡ place
  pub cell_is : room.cell ≡ cell

pub room_at : (c : Config) (seed node key k place cell : ℕ) (stage : Stage) (slot : SlotUnit) → IsPart c node k place stage slot
    → Contains (candidates seed (bits_of_lanes slot.keys) slot.memory key) cell → RoomAt c seed node key k place cell
room_at c seed node key k place cell stage slot part there =
    let r = part_at_place c node k place stage slot part in
    let room : Room = record { part = r.part; cell = cell } in
    let own : Contains (candidates seed (bits_of_lanes r.part.slot.keys) r.part.slot.memory key) cell =
    subst (λ (x : SlotUnit). Contains (candidates seed (bits_of_lanes x.keys) x.memory key) cell) (sym r.slot_is) there in
    record {
      room = room;
      there = Contains-flat_map (λ (p : PartAt). map (λ n. record { part = p; cell = n }) (candidates seed (bits_of_lanes p.slot.keys) p.slot.memory key)) (parts_of c node) r.part room r.there
          (Contains-map (λ n. record { part = r.part; cell = n }) (candidates seed (bits_of_lanes r.part.slot.keys) r.part.slot.memory key) cell own);
      stage_is = r.stage_is;
      place_is = r.place_is;
      cell_is = refl;
    }

-- a room at a place is the cell there
pub at_is : (k place n : ℕ) (r : Room) → is_at k place n r ≡ true → (r.part.stage ≡ k) × (r.part.place ≡ place) × (r.cell ≡ n)
at_is k place n r h =
    let parts = and_parts ((r.part.stage == k) && (r.part.place == place)) (r.cell == n) h in
    let two = and_parts (r.part.stage == k) (r.part.place == place) parts.0 in
    (eqb-true r.part.stage k two.0, eqb-true r.part.place place two.1, eqb-true r.cell n parts.1)
