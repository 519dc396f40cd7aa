-- In its own cells a formed configuration's look-ups are its own, whatever the version: of each occupied cell both visible bits are set, or none counts.
use Rattle.std.proofs.Common.{◌≡◌, ℕ, zero, suc, ◌+◌, ◌<◌, Bool, true, false, not, ◌&&◌, ◌||◌, ◌==◌, List, [], ◌∷◌, Option, Some, None, refl, sym, ap, subst, ◌∙◌}
use Rattle.std.specs.Prelude.{All, bit_and, find, is_some, option_and_then, option_map, slice_get}
use Rattle.std.specs.List.{list_all, list_any}
use Rattle.std.proofs.lemmas.Bool.{and_parts, eqb-true}
use Rattle.std.proofs.lemmas.List.Elements.{All-head, All-tail, All-weaker}
use Rattle.rmt_bits.proofs.AllLaws.{All-slice_get}
use Rattle.rmt_bits.proofs.FunctionLaws.{funext}
use Rattle.rmt_chip.specs.Types.{Config, Stage, Unit as ChipUnit, SlotUnit}
use Rattle.rmt_config.specs.declared.config.Unit.TheVariants.{Gate, Slot}
use Rattle.rmt_config.specs.LaneForm.{bits_of_lanes}
use Rattle.rmt_config.specs.Cells.{candidates, cells_in, content_of, found_in, has_key, is_occupied, look_up, visible_bits}
use Rattle.rmt_config.specs.CellForm.{SlotHolds, StageHolds, Coded, cells_of, coded_from, head_is_formed}
use Rattle.rmt_config.specs.ChipRun.{own_look, slot_look}
use Rattle.rmt_config.specs.Form.{Formed, visible_with}
use Rattle.rmt_config.specs.RunCells.{as_slot, found_at, found_in_slot, has_bit, is_hit, look_in, own_cells, own_content, sees, slot_at}
use Rattle.rmt_memory.proofs.CandidateLaws.{occupied-listed, slot-within}
use Rattle.rmt_memory.proofs.MemoriesLaws.{SlotPlace, slot_place}
use Rattle.rmt_bits.proofs.FindLaws.{find-alike}
use Rattle.rmt_config.proofs.RunCellLaws.{content_is, same_found, both_show}

-- ---- the slots of a formed configuration hold cells with both visible bits, where it has names

slot-coded : (P : Coded → Type 0) (units : List ChipUnit) (first place : ℕ) (slot : SlotUnit) → slice_get units place ≡ Some (Slot slot) → All P (coded_from first units)
    → (n : ℕ) × P (record { first = n; slot = slot })
slot-coded P [] first place slot at all = absurd cc
slot-coded P ((Gate g) ∷ units) first zero slot at all = absurd cc
slot-coded P ((Gate g) ∷ units) first (suc place) slot at all = slot-coded P units first place slot at all
slot-coded P ((Slot s) ∷ units) first zero slot at all =
    let same : s ≡ slot = cc in
    (first, subst (λ (x : SlotUnit). P (record { first = first; slot = x })) same (All-head P (record { first = first; slot = s }) (coded_from (first + s.actions + 1) units) all))
slot-coded P ((Slot s) ∷ units) first (suc place) slot at all =
    slot-coded P units (first + s.actions + 1) place slot at (All-tail P (record { first = first; slot = s }) (coded_from (first + s.actions + 1) units) all)

slot-holds : (c : Config) → Formed c → (k place : ℕ) (slot : SlotUnit) → (at : SlotPlace c.stages k place slot) → (first : ℕ) × SlotHolds (visible_with c.names) at.stage first slot
slot-holds c formed k place slot at =
    slot-coded (λ (x : Coded). SlotHolds (visible_with c.names) at.stage x.first x.slot) at.stage.units 0 place slot at.there
    (All-slice_get (StageHolds (visible_with c.names)) c.stages k at.stage formed.whole.memory at.at)

-- what all of a list pass, one of it does
passed : (p : ℕ → Bool) (xs : List ℕ) (n : ℕ) → list_any (λ m. m == n) xs ≡ true → list_all p xs ≡ true → p n ≡ true
passed p [] n e all = absurd cc
passed p (x ∷ xs) n e all = by (x == n) refl e (and_parts (p x) (list_all p xs) all) (λ rest parts. passed p xs n rest parts)
  where
    by : (b : Bool) → (x == n) ≡ b → list_any (λ m. m == n) (x ∷ xs) ≡ true → (p x ≡ true) × (list_all p xs ≡ true)
        → (list_any (λ m. m == n) xs ≡ true → list_all p xs ≡ true → p n ≡ true) → p n ≡ true
    by true is e parts rest = subst (λ m. p m ≡ true) (eqb-true x n is) parts.0
    by false is e parts rest = rest (let f : list_any (λ m. m == n) (x ∷ xs) ≡ true = e in rw is at f) parts.1

-- with names both bits are set
both-with : (c : Config) → is_some c.names ≡ true → visible_with c.names ≡ 3
both-with c = elim c.names as (λ o. is_some o ≡ true → visible_with o ≡ 3) [
  | None ↦ λ e. absurd cc
  | Some names ↦ λ e. refl
]

module _ (c : Config) (formed : Formed c) (version k place : ℕ) (slot : SlotUnit) (is : slot_at c k place ≡ Some slot) where
  at : SlotPlace c.stages k place slot
  at = slot_place c.stages k place slot is

  unit-is : option_and_then as_slot (slice_get at.stage.units place) ≡ Some slot
  unit-is = ap (option_and_then as_slot) at.there

  content-is : (n : ℕ) → own_content c k place n ≡ content_of at.stage slot n
  content-is = content_is c k place at.stage slot at.at unit-is

  found-is : (n : ℕ) → found_at (own_cells c) k place n ≡ found_in slot.numbers n (content_of at.stage slot n)
  found-is = same_found c k place at.stage slot at.at unit-is

  shown : (b : Bool) → is_some c.names ≡ b → (n : ℕ) → n < cells_in slot.memory → is_occupied (content_of at.stage slot n).head ≡ true → (not b || has_bit version (content_of at.stage slot n).head) ≡ true
  shown false e n lt occupied = refl
  shown true e n lt occupied =
      let has = slot-holds c formed k place slot at in
      let listed = occupied-listed (visible_with c.names) at.stage has.0 slot has.1 n lt occupied in
      let head = (content_of at.stage slot n).head in
      let heads = (and_parts _ _ has.1.numbers).1 in
      let form : head_is_formed (visible_with c.names) has.0 slot.actions head ≡ true = passed (λ m. head_is_formed (visible_with c.names) has.0 slot.actions (content_of at.stage slot m).head) (cells_of slot) n listed heads in
      let bits : (visible_bits head == visible_with c.names) ≡ true = (and_parts _ _ (and_parts _ _ (and_parts _ _ form).0).0).1 in
      both_show version head (eqb-true (visible_bits head) (visible_with c.names) bits ∙ both-with c e)

  seen-is : (n : ℕ) → n < cells_in slot.memory → sees (is_some c.names) version (content_of at.stage slot n).head ≡ is_occupied (content_of at.stage slot n).head
  seen-is n lt = by (is_occupied (content_of at.stage slot n).head) refl
    where
      by : (b : Bool) → is_occupied (content_of at.stage slot n).head ≡ b → (b && (not (is_some c.names) || has_bit version (content_of at.stage slot n).head)) ≡ b
      by false e = refl
      by true e = shown (is_some c.names) refl n lt e

  hit-is : (key n : ℕ) → n < cells_in slot.memory → is_hit (is_some c.names) version key (own_content c k place n) ≡ has_key key (content_of at.stage slot n)
  hit-is key n lt =
      ap (is_hit (is_some c.names) version key) (content-is n)
      ∙ ap (λ (b : Bool). b && (bit_and key (content_of at.stage slot n).mask == (content_of at.stage slot n).key)) (seen-is n lt)

  slot-own : (key : ℕ) → found_in_slot (is_some c.names) version (own_cells c) k place key slot ≡ look_up c.seed at.stage slot key
  slot-own key =
      let cells = candidates c.seed (bits_of_lanes slot.keys) slot.memory key in
      let p = λ (n : ℕ). is_hit (is_some c.names) version key (own_content c k place n) in
      let q = λ (n : ℕ). has_key key (content_of at.stage slot n) in
      let same = find-alike p q cells (All-weaker (λ n. n < cells_in slot.memory) (λ n. p n ≡ q n) (hit-is key) cells (slot-within c formed k place slot is c.seed key)) in
      let founds = funext (found_at (own_cells c) k place) (λ n. found_in slot.numbers n (content_of at.stage slot n)) found-is in
      ap (option_map (found_at (own_cells c) k place)) same ∙ ap (λ found. option_map found (find q cells)) founds

  own-is : (key : ℕ) → own_look c k place key ≡ look_up c.seed at.stage slot key
  own-is key =
      ap (λ (o : Option Stage). option_and_then (λ (stage : Stage). slot_look c.seed stage (slice_get stage.units place) key) o) at.at
      ∙ ap (λ (o : Option ChipUnit). slot_look c.seed at.stage o key) at.there

-- where no slot is nothing is found
none-own : (c : Config) (k place key : ℕ) → slot_at c k place ≡ None → own_look c k place key ≡ None
none-own c k place key none = by (slice_get c.stages k) none
  where
    unit : (stage : Stage) (o : Option ChipUnit) → option_and_then as_slot o ≡ None → slot_look c.seed stage o key ≡ None
    unit stage None e = refl
    unit stage (Some (Gate g)) e = refl
    unit stage (Some (Slot s)) e = absurd cc

    by : (o : Option Stage) → option_and_then (λ (stage : Stage). option_and_then as_slot (slice_get stage.units place)) o ≡ None
        → option_and_then (λ (stage : Stage). slot_look c.seed stage (slice_get stage.units place) key) o ≡ None
    by None e = refl
    by (Some stage) e = unit stage (slice_get stage.units place) e

pub own-looks : (c : Config) → Formed c → (version k place key : ℕ) → look_in c version (own_cells c) k place key ≡ own_look c k place key
own-looks c formed version k place key = by (slot_at c k place) refl
  where
    by : (o : Option SlotUnit) → slot_at c k place ≡ o → option_and_then (found_in_slot (is_some c.names) version (own_cells c) k place key) o ≡ own_look c k place key
    by None e = sym (none-own c k place key e)
    by (Some slot) e = slot-own c formed version k place slot e key ∙ sym (own-is c formed version k place slot e key)
