-- What the units of a configuration read that keeps the rules of form and the limits and what its look-ups look into.
use Rattle.std.proofs.Common.{◌≡◌, ℕ, ◌+◌, ◌^◌, ◌≤◌, true, cond, ◌&&◌, ltb, leb, eqb, List, [], ◌∷◌, length, All, Option, Some, refl, ap, ◌∙◌, arith}
use Rattle.std.specs.Prelude.{slice_get, count_by, option_and_then, bit_and, is_some}
use Rattle.std.specs.List.{list_all}
use Rattle.std.proofs.lemmas.Bool.{ltb-true, leb-true, and_parts}
use Rattle.std.proofs.lemmas.List.Elements.{All-weaker}
use Rattle.std.proofs.lemmas.List.Sums.{sum_by-cons, AllPass-from_list_all}
use Rattle.std.proofs.lemmas.Option.{slice_get-get_or}
use Rattle.rmt_bits.specs.Words.{word_size}
use Rattle.rmt_bits.specs.declared.lane.Lane.{Lane}
use Rattle.rmt_chip.specs.Types.{Config, Stage, Unit as ChipUnit, GateTest, SlotUnit}
use Rattle.rmt_config.specs.declared.config.Unit.TheVariants.{Gate, Slot}
use Rattle.rmt_config.specs.LaneForm.{lane_is_formed}
use Rattle.rmt_config.specs.UnitForm.{guard_is_formed, test_is_formed, number_is_formed, slot_head_is_formed, memory_is_formed, unit_is_formed}
use Rattle.rmt_config.specs.Resources.{is_slot, is_gate}
use Rattle.rmt_config.specs.RunCells.{RunCells, as_slot, found_in_slot, look_in}
use Rattle.rmt_chip.specs.Runnable.{LaneFits, UnitReads, StageReads}
use Rattle.rmt_chip.specs.Looks.{LooksInto}
use Rattle.rmt_config.proofs.SlotLaws.{key_is_short}

-- ---- lanes

pub lane_fits : (lane : Lane) → lane_is_formed lane ≡ true → LaneFits lane
lane_fits lane e =
    let word = ltb lane.word 224 in
    let least = leb 1 lane.len in
    let most = leb lane.len 32 in
    let p = and_parts (word && least && most) (leb (lane.low + lane.len) (word_size lane.word)) e in
    let q = and_parts (word && least) most p.0 in
    record {
      exists = ltb-true lane.word 224 (and_parts word least q.0).0;
      within = leb-true (lane.low + lane.len) (word_size lane.word) p.1;
    }

test_fits : (t : GateTest) → test_is_formed t ≡ true → LaneFits t.lane
test_fits t e =
    let lane = lane_is_formed t.lane in
    let p = and_parts (lane && ltb t.mask (2 ^ t.lane.len)) (eqb (bit_and t.value t.mask) t.value) e in
    lane_fits t.lane (and_parts lane (ltb t.mask (2 ^ t.lane.len)) p.0).0

-- ---- keys

keys_fit : (s : SlotUnit) → slot_head_is_formed s ≡ true → All LaneFits s.keys
keys_fit s e =
    let front = ltb s.node 256 && guard_is_formed s.guard && leb s.actions 14 && ltb s.held 65536 && ltb (length s.keys) 65536 in
    let lanes = list_all lane_is_formed s.keys in
    let few = ltb (length s.numbers) (2 ^ 32) in
    let p = and_parts (front && lanes && few) (list_all number_is_formed s.numbers) e in
    let q = and_parts (front && lanes) few p.0 in
    All-weaker _ LaneFits lane_fits s.keys (AllPass-from_list_all lane_is_formed s.keys (and_parts front lanes q.0).1)

-- ---- units and stages

pub unit_reads : (u : ChipUnit) → unit_is_formed u ≡ true → UnitReads u
unit_reads (Gate g) e =
    let front = ltb g.node 256 && guard_is_formed g.guard && leb 1 (length g.tests) && ltb (length g.tests) 256 in
    All-weaker _ (λ (t : GateTest). LaneFits t.lane) test_fits g.tests (AllPass-from_list_all test_is_formed g.tests (and_parts front (list_all test_is_formed g.tests) e).1)
unit_reads (Slot s) e =
    let p = and_parts (slot_head_is_formed s) (memory_is_formed s s.memory) e in
    (keys_fit s p.0, key_is_short s s.memory p.1)

slots_and_gates : (us : List ChipUnit) → count_by is_slot us + count_by is_gate us ≡ length us
slots_and_gates [] = refl
slots_and_gates (Gate g ∷ us) =
    let rest = slots_and_gates us in
    let s : count_by is_slot (Gate g ∷ us) ≡ 0 + count_by is_slot us = sum_by-cons (λ (u : ChipUnit). cond (is_slot u) 1 0) (Gate g) us in
    let t : count_by is_gate (Gate g ∷ us) ≡ 1 + count_by is_gate us = sum_by-cons (λ (u : ChipUnit). cond (is_gate u) 1 0) (Gate g) us in
    omega arith
slots_and_gates (Slot x ∷ us) =
    let rest = slots_and_gates us in
    let s : count_by is_slot (Slot x ∷ us) ≡ 1 + count_by is_slot us = sum_by-cons (λ (u : ChipUnit). cond (is_slot u) 1 0) (Slot x) us in
    let t : count_by is_gate (Slot x ∷ us) ≡ 0 + count_by is_gate us = sum_by-cons (λ (u : ChipUnit). cond (is_gate u) 1 0) (Slot x) us in
    omega arith

-- the units of a formed stage within its limits read lanes that exist, and short keys
pub stage_reads : (s : Stage) → list_all unit_is_formed s.units ≡ true → count_by is_slot s.units ≤ 16 → count_by is_gate s.units ≤ 16 → StageReads s
stage_reads s formed slots gates =
    let all = slots_and_gates s.units in
    record {
      few_units = omega arith;
      each = All-weaker _ UnitReads unit_reads s.units (AllPass-from_list_all unit_is_formed s.units formed);
    }

-- ---- look-ups

-- a configuration's look-ups in cells look into its slots
pub looks_into : (c : Config) (version : ℕ) (cells : RunCells) (k : ℕ) (stage : Stage) → slice_get c.stages k ≡ Some stage → LooksInto (is_some c.names) version cells stage (look_in c version cells) k
looks_into c version cells k stage found i u below s is key =
    let finds = found_in_slot (is_some c.names) version cells k i key in
    ap (λ (o : Option Stage). option_and_then finds (option_and_then (λ (t : Stage). option_and_then as_slot (slice_get t.units i)) o)) found
    ∙ ap (λ (o : Option ChipUnit). option_and_then finds (option_and_then as_slot o)) (slice_get-get_or stage.units i u below)
    ∙ ap (λ (v : ChipUnit). option_and_then finds (as_slot v)) is
