-- Where cells don't change, and no configuration has names, what a packet finds is what it finds in the configuration's own cells.
use Rattle.std.proofs.Common.{◌≡◌, ℕ, Bool, true, false, ◌&&◌, ◌==◌, Option, Some, None, refl, ap, ◌∙◌, ◌/◌, ◌%◌, ◌^◌, ◌+◌, ◌<◌, zero, suc, arith}
use Rattle.std.specs.Prelude.{bit_and, find, is_some, option_and_then, option_map, slice_get, unwrap_or}
use Rattle.rmt_bits.proofs.FunctionLaws.{funext}
use Rattle.rmt_ast.specs.declared.names.Names.{Names}
use Rattle.rmt_config.specs.Types.{Config, Stage, Unit, SlotUnit}
use Rattle.rmt_config.specs.declared.config.Unit.TheVariants.{Gate, Slot}
use Rattle.rmt_config.specs.LaneForm.{bits_of_lanes}
use Rattle.rmt_config.specs.Cells.{Content, candidates, code_of, content_of, found_in, has_key, is_occupied, look_up, number_of_cell, visible_bits}
use Rattle.rmt_config.specs.ChipRun.{own_look, slot_look}
use Rattle.rmt_config.specs.RunCells.{as_slot, found_at, found_in_slot, is_hit, look_in, no_content, own_cells, own_content, slot_at, has_bit}

-- without names a cell that has a key is one that is occupied and has it
hit_is : (version key : ℕ) (x : Content) → is_hit false version key x ≡ has_key key x
hit_is version key x = ap (λ b. b && (bit_and key x.mask == x.key)) (kept (is_occupied x.head))
  where
    kept : (b : Bool) → (b && true) ≡ b
    kept true = refl
    kept false = refl

module _ (c : Config) (k place : ℕ) (stage : Stage) (slot : SlotUnit) (e : slice_get c.stages k ≡ Some stage) (u : option_and_then as_slot (slice_get stage.units place) ≡ Some slot) where
  pub content_is : (n : ℕ) → own_content c k place n ≡ content_of stage slot n
  content_is n =
      ap (λ (o : Option Stage). unwrap_or (option_and_then (λ (x : Stage). option_map (λ (y : SlotUnit). content_of x y n) (option_and_then as_slot (slice_get x.units place))) o) no_content) e
      ∙ ap (λ (o : Option SlotUnit). unwrap_or (option_map (λ (y : SlotUnit). content_of stage y n) o) no_content) u

  number_is : (n : ℕ) → (own_cells c).number k place n ≡ number_of_cell slot.numbers n
  number_is n =
      ap (λ (o : Option SlotUnit). unwrap_or (option_map (λ (y : SlotUnit). number_of_cell y.numbers n) o) 0)
      (ap (option_and_then (λ (x : Stage). option_and_then as_slot (slice_get x.units place))) e ∙ u)

  pub same_found : (n : ℕ) → found_at (own_cells c) k place n ≡ found_in slot.numbers n (content_of stage slot n)
  same_found n = λ i. record { code = code_of (content_is n i).head; held = (content_is n i).held; number = number_is n i }

  slot_found : (version key : ℕ) → found_in_slot false version (own_cells c) k place key slot ≡ look_up c.seed stage slot key
  slot_found version key =
      let cells = candidates c.seed (bits_of_lanes slot.keys) slot.memory key in
      let tests = funext (λ n. is_hit false version key (own_content c k place n)) (λ n. has_key key (content_of stage slot n))
      (λ n. hit_is version key (own_content c k place n) ∙ ap (has_key key) (content_is n)) in
      let founds = funext (found_at (own_cells c) k place) (λ n. found_in slot.numbers n (content_of stage slot n)) same_found in
      ap (λ test. option_map (found_at (own_cells c) k place) (find test cells)) tests
      ∙ ap (λ found. option_map found (find (λ n. has_key key (content_of stage slot n)) cells)) founds

in_stage : (c : Config) (version k place key : ℕ) (stage : Stage) → slice_get c.stages k ≡ Some stage → (o : Option Unit) → slice_get stage.units place ≡ o
    → option_and_then (found_in_slot false version (own_cells c) k place key) (option_and_then as_slot o) ≡ slot_look c.seed stage o key
in_stage c version k place key stage e None u = refl
in_stage c version k place key stage e (Some (Gate g)) u = refl
in_stage c version k place key stage e (Some (Slot slot)) u = slot_found c k place stage slot e (ap (option_and_then as_slot) u) version key

at_stage : (c : Config) (version k place key : ℕ) (o : Option Stage) → slice_get c.stages k ≡ o
    → option_and_then (found_in_slot false version (own_cells c) k place key) (option_and_then (λ (x : Stage). option_and_then as_slot (slice_get x.units place)) o)
    ≡ option_and_then (λ (x : Stage). slot_look c.seed x (slice_get x.units place) key) o
at_stage c version k place key None e = refl
at_stage c version k place key (Some stage) e = in_stage c version k place key stage e (slice_get stage.units place) refl

pub look_in-own : (c : Config) → c.names ≡ None → (version k place key : ℕ) → look_in c version (own_cells c) k place key ≡ own_look c k place key
look_in-own c none version k place key =
    ap (λ (names : Option Names). option_and_then (found_in_slot (is_some names) version (own_cells c) k place key) (slot_at c k place)) none
    ∙ at_stage c version k place key (slice_get c.stages k) refl

-- ---- visible bits

both_bits : (m head : ℕ) → m < 2 → head / 2 % 4 ≡ 3 → head / 2 ^ (1 + m) % 2 ≡ 1
both_bits zero head lt three = omega arith
both_bits (suc zero) head lt three = omega arith
both_bits (suc (suc m)) head lt three = absurd (omega (arith, lt))

-- a head with both visible bits shows every version its bit
pub both_show : (v head : ℕ) → visible_bits head ≡ 3 → has_bit v head ≡ true
both_show v head three =
    let one : head / 2 ^ (1 + v % 2) % 2 ≡ 1 = both_bits (v % 2) head (omega arith) three in
    ap (λ n. n == 1) one
