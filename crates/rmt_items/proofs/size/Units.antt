-- A unit is spelled with few bytes, but for the numbers of its entries.
use Rattle.std.proofs.Common.{◌≡◌, ℕ, ◌+◌, ◌*◌, ◌^◌, ◌<◌, ◌≤◌, true, List, [], ◌∷◌, ◌++◌, length, map, length-append, arith}
use Rattle.std.specs.Prelude.{Option, Some, None}
use Rattle.std.specs.List.{fold, list_all}
use Rattle.std.proofs.lemmas.Bool.{and_parts, eqb-true, ltb-true}
use Rattle.std.proofs.lemmas.List.{length-map}
use Rattle.rmt_bits.specs.declared.lane.Lane.{Lane}
use Rattle.rmt_items.specs.Types.{Unit as ChipUnit, GateUnit, UnitGuard, SlotUnit, CellNumber, Memory}
use Rattle.rmt_config.specs.declared.config.Unit.TheVariants.{Gate, Slot}
use Rattle.rmt_config.specs.declared.config.Memory.TheVariants.{Without, Exact, Ternary}
use Rattle.rmt_config.specs.CellForm.{numbers_of_unit}
use Rattle.rmt_config.specs.LaneForm.{bits_of_lanes, lane_is_formed}
use Rattle.rmt_config.specs.Resources.{memory_sram, unit_sram}
use Rattle.rmt_config.specs.Spelling.{spelled_flag, spelled_gate, spelled_guard, spelled_lane, spelled_list16, spelled_list32, spelled_list8, spelled_memory, spelled_number, spelled_slot, spelled_slot_head, spelled_test, spelled_unit, two_bytes}
use Rattle.rmt_config.specs.UnitForm.{gate_is_formed, memory_is_formed, slot_head_is_formed, unit_is_formed}
use Rattle.rmt_config.proofs.SlotLaws.{exact-fits, lane-bit, ternary-fits}
use Rattle.rmt_config.specs.StageForm.{memory_tcam_blocks, tcam_blocks}
use Rattle.rmt_items.proofs.size.Lists.{flat_map_short}

-- ---- keys

-- lanes have at least one bit each
lanes_within : (lanes : List Lane) (bits : ℕ) → list_all lane_is_formed lanes ≡ true → bits + length lanes ≤ fold ◌+◌ bits (map (λ (lane : Lane). lane.len) lanes)
lanes_within [] bits formed = omega arith
lanes_within (lane ∷ lanes) bits formed =
    let parts = and_parts (lane_is_formed lane) (list_all lane_is_formed lanes) formed in
    omega (arith, lane-bit lane parts.0, lanes_within lanes (bits + lane.len) parts.1)

keys_within : (s : SlotUnit) → slot_head_is_formed s ≡ true → bits_of_lanes s.keys ≤ 640 → length s.keys ≤ 640
keys_within s head bits = omega (arith, bits, lanes_within s.keys 0 (and_parts _ _ (and_parts _ _ (and_parts _ _ head).0).0).1)

keys_few : (s : SlotUnit) (m : Memory) → slot_head_is_formed s ≡ true → memory_is_formed s m ≡ true → length s.keys ≤ 640
keys_few s Without head h = omega (arith, eqb-true (length s.keys) 0 (and_parts _ _ (and_parts _ _ h).0).1)
keys_few s (Exact k p d w ks rs cs) head h = keys_within s head (exact-fits s k p d w ks rs cs head h).most_bits
keys_few s (Ternary d ks rs cs) head h = keys_within s head (ternary-fits s d ks rs cs head h).most_bits

-- ---- parts of units

guard_short : (g : Option UnitGuard) → length (spelled_guard g) ≤ 4
guard_short None = omega arith
guard_short (Some g) = omega arith

memory_short : (m : Memory) → length (spelled_memory m) ≤ 6 + length (memory_sram m) + length (memory_tcam_blocks m)
memory_short Without = omega arith
memory_short (Exact k p d w ks rs cs) = omega arith
memory_short (Ternary d ks rs cs) = omega (arith, length-append ks (rs ++ cs), length-append (ks ++ rs) cs, length-append ks rs, length-append rs cs)

tests_few : (g : GateUnit) → gate_is_formed g ≡ true → length g.tests < 2 ^ 8
tests_few g formed = ltb-true (length g.tests) 256 (and_parts _ _ (and_parts _ _ formed).0).1

gate_short : (g : GateUnit) → length g.tests < 2 ^ 8 → length (spelled_gate g) ≤ 2811
gate_short g few =
    let tests = flat_map_short spelled_test 11 255 g.tests (omega (arith, few)) (λ k d lt. omega arith) in
    let all = length-append (spelled_guard g.guard) (spelled_list8 spelled_test g.tests) in
    omega (arith, tests, all, guard_short g.guard)

head_short : (s : SlotUnit) → length (spelled_slot_head s) ≤ 10
head_short s = omega (arith, guard_short s.guard, length-append (spelled_guard s.guard) (spelled_flag s.counted ∷ s.actions ∷ spelled_flag s.last ∷ two_bytes s.held))

slot_short : (s : SlotUnit) → length s.keys ≤ 640 → length (memory_sram s.memory) ≤ 106 → length (memory_tcam_blocks s.memory) ≤ 16
    → length (spelled_slot s) ≤ 2064 + 8 * length s.numbers
slot_short s keys sram tcam =
    let lanes = flat_map_short spelled_lane 3 640 s.keys keys (λ k d lt. omega arith) in
    let numbers = flat_map_short spelled_number 8 (length s.numbers) s.numbers (omega arith) (λ k d lt. omega arith) in
    let first = length-append (spelled_slot_head s) (spelled_list16 spelled_lane s.keys) in
    let second = length-append (spelled_slot_head s ++ spelled_list16 spelled_lane s.keys) (spelled_memory s.memory) in
    let third = length-append (spelled_slot_head s ++ spelled_list16 spelled_lane s.keys ++ spelled_memory s.memory) (spelled_list32 spelled_number s.numbers) in
    omega (arith, lanes, numbers, first, second, third, head_short s, memory_short s.memory, sram, tcam)

-- ---- units

pub unit_short : (u : ChipUnit) → unit_is_formed u ≡ true → length (unit_sram u) ≤ 106 → length (tcam_blocks u) ≤ 16
    → length (spelled_unit u) ≤ 2812 + 8 * length (numbers_of_unit u)
unit_short (Gate g) formed sram tcam =
    omega (arith, gate_short g (tests_few g formed))
unit_short (Slot s) formed sram tcam =
    let parts = and_parts (slot_head_is_formed s) (memory_is_formed s s.memory) formed in
    let slot = slot_short s (keys_few s s.memory parts.0 parts.1) sram tcam in
    omega (arith, slot, length-map s.numbers (λ (n : CellNumber). n.number))
