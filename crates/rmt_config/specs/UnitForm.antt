-- The rules of form of gates and slots by themselves.
use Rattle.std.specs.Prelude.{ℕ, ◌+◌, ◌*◌, ◌^◌, ◌%◌, List, length, Bool, true, not, ◌&&◌, ◌==◌, nat_lt, nat_le, bit_and, Option, Some, None}
use Rattle.std.specs.List.{list_all}
use Rattle.rmt_config.specs.Types.{Unit, GateUnit, GateTest, UnitGuard, SlotUnit, CellNumber, Memory}
use Rattle.rmt_config.specs.declared.config.Unit.TheVariants.{Gate, Slot}
use Rattle.rmt_config.specs.declared.config.Memory.TheVariants.{Without, Exact, Ternary}
use Rattle.rmt_config.specs.LaneForm.{lane_is_formed, bits_of_lanes}
use Rattle.rmt_config.specs.BlockCounts.{exact_block_counts, ternary_block_counts}
use Rattle.rmt_config.specs.declared.form.block_counts.BlockCounts.{BlockCounts}

-- outcome 0, that a node has not run, lets nothing run
abbrev pub guard_is_formed : Option UnitGuard → Bool
guard_is_formed None = true
guard_is_formed (Some g) = nat_lt g.parent 256 && nat_lt g.mask 65536 && (g.mask % 2 == 0)

-- the mask fits the lane, and the value has no bit outside the mask
abbrev pub test_is_formed : GateTest → Bool
test_is_formed t = lane_is_formed t.lane && nat_lt t.mask (2 ^ t.lane.len) && (bit_and t.value t.mask == t.value)

abbrev pub gate_is_formed : GateUnit → Bool
gate_is_formed g =
    nat_lt g.node 256 && guard_is_formed g.guard
    && nat_le 1 (length g.tests) && nat_lt (length g.tests) 256 && list_all test_is_formed g.tests

abbrev pub number_is_formed : CellNumber → Bool
number_is_formed n = nat_lt n.cell (2 ^ 32) && nat_lt n.number (2 ^ 32)

-- the numbers of a slot before its lists
abbrev pub slot_head_is_formed : SlotUnit → Bool
slot_head_is_formed s =
    nat_lt s.node 256 && guard_is_formed s.guard && nat_le s.actions 14 && nat_lt s.held 65536
    && nat_lt (length s.keys) 65536 && list_all lane_is_formed s.keys
    && nat_lt (length s.numbers) (2 ^ 32) && list_all number_is_formed s.numbers

-- blocks of SRAM and of TCAM
abbrev pub are_sram_blocks : List ℕ → Bool
are_sram_blocks blocks = list_all (λ block. nat_lt block 106) blocks

abbrev pub are_tcam_blocks : List ℕ → Bool
are_tcam_blocks blocks = list_all (λ block. nat_lt block 16) blocks

-- lists of blocks of these lengths
abbrev pub has_block_counts : BlockCounts → List ℕ → List ℕ → List ℕ → Bool
has_block_counts counts keys records counters =
    (length keys == counts.keys) && (length records == counts.records) && (length counters == counts.counters)

-- what a slot with memory has: a key of at most 640 bits, and an action
abbrev pub takes_memory : SlotUnit → Bool
takes_memory s = nat_le 1 (length s.keys) && nat_le (bits_of_lanes s.keys) 640 && nat_le 1 s.actions

-- what a slot with memory needs: these, and 1 to 106 quanta
abbrev pub may_have_memory : SlotUnit → ℕ → Bool
may_have_memory s quanta = takes_memory s && nat_le 1 quanta && nat_le quanta 106

-- the numbers of an exact part: the cells of a row, each a head of 8 bits and a key, fit its blocks
abbrev pub format_is_formed : SlotUnit → ℕ → ℕ → ℕ → ℕ → Bool
format_is_formed s width per quanta first_way =
    may_have_memory s quanta && nat_le 1 width && nat_lt width 256 && nat_le 1 per && nat_lt per 65536 && nat_lt first_way 256
    && nat_le (per * (bits_of_lanes s.keys + 8)) (112 * width)

-- a slot without memory has no key, no action, no data, no count and no numbers, and is its table's last part
abbrev pub memory_is_formed : SlotUnit → Memory → Bool
memory_is_formed s Without =
    not s.counted && (s.actions == 0) && s.last && (s.held == 0) && (length s.keys == 0) && (length s.numbers == 0)
memory_is_formed s (Exact width per quanta first_way keys records counters) =
    format_is_formed s width per quanta first_way
    && has_block_counts (exact_block_counts width per quanta s.held s.counted) keys records counters
    && are_sram_blocks keys && are_sram_blocks records && are_sram_blocks counters
memory_is_formed s (Ternary quanta keys records counters) =
    may_have_memory s quanta
    && has_block_counts (ternary_block_counts (bits_of_lanes s.keys) quanta s.held s.counted) keys records counters
    && are_tcam_blocks keys && are_sram_blocks records && are_sram_blocks counters

abbrev pub slot_is_formed : SlotUnit → Bool
slot_is_formed s = slot_head_is_formed s && memory_is_formed s s.memory

abbrev pub unit_is_formed : Unit → Bool
unit_is_formed (Gate g) = gate_is_formed g
unit_is_formed (Slot s) = slot_is_formed s
