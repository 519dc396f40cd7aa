-- Cells that agree in all cells of slots: look-ups find the same in them, also after the same inputs.
use Rattle.std.proofs.Common.{◌≡◌, ℕ, ◌<◌, ◌==◌, Bool, true, cond, List, [], ◌∷◌, fold, Option, Some, None, All, refl, sym, ap, subst, ◌∙◌}
use Rattle.std.specs.Prelude.{IsSomeAnd, find, is_some, option_and_then, option_map, slice_get, unwrap_or}
use Rattle.std.proofs.lemmas.Bool.{and_parts}
use Rattle.std.proofs.lemmas.List.Elements.{All-weaker}
use Rattle.std.proofs.lemmas.Option.{none-some, same_Some}
use Rattle.rmt_bits.proofs.AllLaws.{All-find, All-from_test, All-slice_get}
use Rattle.rmt_refine.specs.Types.{Config, SlotUnit, Stage, Unit}
use Rattle.rmt_config.specs.declared.config.Unit.TheVariants.{Gate, Slot}
use Rattle.rmt_config.specs.declared.cell_write.CellWrite.{CellWrite}
use Rattle.rmt_config.specs.LaneForm.{bits_of_lanes}
use Rattle.rmt_config.specs.Cells.{Content, Found, candidates, cells_in, code_of}
use Rattle.rmt_config.specs.Commits.{IsCell}
use Rattle.rmt_config.specs.Form.{Formed}
use Rattle.rmt_config.specs.StageForm.{stage_is_formed}
use Rattle.rmt_config.specs.UnitForm.{memory_is_formed, slot_head_is_formed, unit_is_formed}
use Rattle.rmt_config.specs.RunCells.{RunCells, as_slot, found_at, found_in_slot, is_changed, is_hit, look_in, no_content, slot_at, with_write, written_content}
use Rattle.rmt_config.proofs.CountsLemmas.{stages_of_items}
use Rattle.rmt_config.proofs.CellLaws.{candidates-within}
use Rattle.rmt_config.proofs.SpelledParts.{units-of}
use Rattle.rmt_bits.proofs.FindLaws.{find-alike}

-- ---- candidates are cells

unit_within : (u : Unit) (slot : SlotUnit) → unit_is_formed u ≡ true → as_slot u ≡ Some slot → (seed key : ℕ) → All (λ n. n < cells_in slot.memory) (candidates seed (bits_of_lanes slot.keys) slot.memory key)
unit_within (Gate g) slot h e = absurd (none-some slot e)
unit_within (Slot s) slot h e =
    let parts = and_parts (slot_head_is_formed s) (memory_is_formed s s.memory) h in
    subst (λ (x : SlotUnit). (seed key : ℕ) → All (λ n. n < cells_in x.memory) (candidates seed (bits_of_lanes x.keys) x.memory key)) (same_Some s slot e)
    (λ seed key. candidates-within s s.memory parts.0 parts.1 seed (bits_of_lanes s.keys) key)

stage_within : (stage : Stage) (place : ℕ) (slot : SlotUnit) → stage_is_formed stage ≡ true → option_and_then as_slot (slice_get stage.units place) ≡ Some slot
    → (seed key : ℕ) → All (λ n. n < cells_in slot.memory) (candidates seed (bits_of_lanes slot.keys) slot.memory key)
stage_within stage place slot h e = by (slice_get stage.units place) refl e
  where
    units : All (λ u. unit_is_formed u ≡ true) stage.units
    units = All-from_test (λ u. unit_is_formed u ≡ true) unit_is_formed (λ u e. e) stage.units (units-of stage h)

    by : (o : Option Unit) → slice_get stage.units place ≡ o → option_and_then as_slot o ≡ Some slot → (seed key : ℕ) → All (λ n. n < cells_in slot.memory) (candidates seed (bits_of_lanes slot.keys) slot.memory key)
    by None at k = absurd (none-some slot k)
    by (Some u) at k = unit_within u slot (All-slice_get (λ x. unit_is_formed x ≡ true) stage.units place u units at) k

module _ (c : Config) (formed : Formed c) (k place : ℕ) where
  -- the cells in which a key may stand in a slot are its cells
  slot_within : (slot : SlotUnit) → slot_at c k place ≡ Some slot → (seed key : ℕ) → All (λ n. n < cells_in slot.memory) (candidates seed (bits_of_lanes slot.keys) slot.memory key)
  slot_within slot e = by (slice_get c.stages k) refl e
    where
      stages : All (λ s. stage_is_formed s ≡ true) c.stages
      stages = All-from_test (λ s. stage_is_formed s ≡ true) stage_is_formed (λ s e. e) c.stages (stages_of_items c formed.items)

      by : (o : Option Stage) → slice_get c.stages k ≡ o → option_and_then (λ (stage : Stage). option_and_then as_slot (slice_get stage.units place)) o ≡ Some slot
          → (seed key : ℕ) → All (λ n. n < cells_in slot.memory) (candidates seed (bits_of_lanes slot.keys) slot.memory key)
      by None at h = absurd (none-some slot h)
      by (Some stage) at h = stage_within stage place slot (All-slice_get (λ s. stage_is_formed s ≡ true) c.stages k stage stages at) h

-- ---- cells that agree

-- cells with one version and one seed that agree in all cells of slots
pub record SameCells (c : Config) (a b : RunCells) : Type 0 where
  pub version : a.version ≡ b.version
  pub seed : a.seed ≡ b.seed
  pub content : (k place n : ℕ) → IsCell c k place n → a.content k place n ≡ b.content k place n
  pub number : (k place n : ℕ) → IsCell c k place n → a.number k place n ≡ b.number k place n

pub same_itself : (c : Config) (a : RunCells) → SameCells c a a
same_itself c a = record { version = refl; seed = refl; content = λ k place n h. refl; number = λ k place n h. refl }

-- a changed cell
same_write : (c : Config) (a b : RunCells) (w : CellWrite) → SameCells c a b → SameCells c (with_write c a w) (with_write c b w)
same_write c a b w h = record {
  version = h.version;
  seed = h.seed;
  content = λ k place n cell. ap (λ (x : Content). cond (is_changed w k place n) (unwrap_or (option_map (written_content w) (slot_at c k place)) no_content) x) (h.content k place n cell);
  number = λ k place n cell. ap (λ x. cond (is_changed w k place n) (cond (w.visible == 0) 0 w.number) x) (h.number k place n cell);
}

pub same_writes : (c : Config) (a b : RunCells) (ws : List CellWrite) → SameCells c a b → SameCells c (fold (with_write c) a ws) (fold (with_write c) b ws)
same_writes c a b [] h = h
same_writes c a b (w ∷ ws) h = same_writes c (with_write c a w) (with_write c b w) ws (same_write c a b w h)

module _ (c : Config) (formed : Formed c) (a b : RunCells) (same : SameCells c a b) (v k place key : ℕ) where
  cell_of : (slot : SlotUnit) → slot_at c k place ≡ Some slot → (n : ℕ) → n < cells_in slot.memory → IsCell c k place n
  cell_of slot e n lt = subst (λ (o : Option SlotUnit). IsSomeAnd o (λ s. n < cells_in s.memory)) (sym e) lt

  slot_same : (named : Bool) (slot : SlotUnit) → slot_at c k place ≡ Some slot → found_in_slot named v a k place key slot ≡ found_in_slot named v b k place key slot
  slot_same named slot e =
      ap (λ seed. option_map (found_at a k place) (find (tests a) (candidates seed (bits_of_lanes slot.keys) slot.memory key))) same.seed
      ∙ ap (option_map (found_at a k place)) (find-alike (tests a) (tests b) among (All-weaker (λ n. n < cells_in slot.memory) (λ n. tests a n ≡ tests b n) alike among within))
      ∙ by (find (tests b) among) refl
    where
      tests : RunCells → ℕ → Bool
      tests x n = is_hit named v key (x.content k place n)

      among : List ℕ
      among = candidates b.seed (bits_of_lanes slot.keys) slot.memory key

      within : All (λ n. n < cells_in slot.memory) among
      within = slot_within c formed k place slot e b.seed key

      alike : (n : ℕ) → n < cells_in slot.memory → tests a n ≡ tests b n
      alike n lt = ap (is_hit named v key) (same.content k place n (cell_of slot e n lt))

      by : (o : Option ℕ) → find (tests b) among ≡ o → option_map (found_at a k place) o ≡ option_map (found_at b k place) o
      by None f = refl
      by (Some n) f =
          let cell = cell_of slot e n (All-find (λ m. m < cells_in slot.memory) (tests b) among n within f) in
          ap Some (ap (λ (x : Content). found_by x (a.number k place n)) (same.content k place n cell) ∙ ap (found_by (b.content k place n)) (same.number k place n cell))
        where
          found_by : Content → ℕ → Found
          found_by x number = record { code = code_of x.head; held = x.held; number = number }

  -- look-ups find the same
  pub look_same : look_in c v a k place key ≡ look_in c v b k place key
  look_same = by (slot_at c k place) refl
    where
      by : (o : Option SlotUnit) → slot_at c k place ≡ o → option_and_then (found_in_slot (is_some c.names) v a k place key) o ≡ option_and_then (found_in_slot (is_some c.names) v b k place key) o
      by None e = refl
      by (Some slot) e = slot_same (is_some c.names) slot e
