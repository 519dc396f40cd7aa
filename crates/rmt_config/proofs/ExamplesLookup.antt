-- Configurations with memory whose runs are known.
use Rattle.std.specs.Prelude.{◌≡◌, ℕ, ◌+◌, ◌*◌, ◌^◌, Bool, List, [], ◌∷◌, ◌++◌, Some, None, true, false, replicate, refl}
use Rattle.std.specs.List.{range_with_len}
use Rattle.rmt_bits.specs.declared.lane.Lane.{Lane}
use Rattle.rmt_bits.specs.declared.answer.Verdict.TheVariants as verdict
use Rattle.rmt_config.specs.Types.{Config, Unit, CellNumber}
use Rattle.rmt_config.specs.declared.config.Unit.TheVariants.{Gate, Slot}
use Rattle.rmt_config.specs.declared.config.Memory.TheVariants.{Exact, Ternary}
use Rattle.rmt_config.specs.declared.config.Extract.TheVariants.{Bits}
use Rattle.rmt_config.specs.declared.config.Source.TheVariants.{Held, Constant}
use Rattle.rmt_config.specs.Cells.{sram_row, data_at}
use Rattle.rmt_config.specs.ChipRun.{outcomes_of, inputs_of, cycles_of, flight_of, chip_counts_of, own_look}
use Rattle.rmt_config.proofs.ExamplesParts.{packet, lane, sent, copy, instruction, table_slot, plain_slot, one_header, one_byte, two_stages}

-- the tables a, b and c, of which a stands in the first stage; the second one starts then
abbrev pub strict_and_weak : ℕ → Config
strict_and_weak second = two_stages second false 0x701

pub strict_and_weak_run : outcomes_of (strict_and_weak 12) (packet 0 (7 ∷ []) ∷ packet 0 (8 ∷ []) ∷ []) ≡ sent 5 (7 ∷ []) [] ∷ sent 0 (8 ∷ []) [] ∷ []
strict_and_weak_run = refl

pub strict_and_weak_cycles : cycles_of (strict_and_weak 12) (packet 0 (7 ∷ []) ∷ packet 0 (8 ∷ []) ∷ []) ≡ 26
strict_and_weak_cycles = refl

pub strict_and_weak_flight : flight_of (strict_and_weak 12) (packet 0 (7 ∷ []) ∷ packet 0 (8 ∷ []) ∷ []) ≡ 2
strict_and_weak_flight = refl

-- a stage that starts earlier reads its key before the first one has written it
pub strict_and_weak_too_early : outcomes_of (strict_and_weak 11) (packet 0 (7 ∷ []) ∷ []) ≡ sent 0 (7 ∷ []) [] ∷ []
strict_and_weak_too_early = refl

abbrev pub six_lanes : List Lane
six_lanes = lane 1 0 8 ∷ lane 2 0 8 ∷ lane 3 0 8 ∷ lane 4 0 8 ∷ lane 5 0 8 ∷ lane 6 0 8 ∷ []

abbrev pub seven_lanes : List Lane
seven_lanes = six_lanes ++ lane 7 0 8 ∷ []

-- a part of a table whose exact key is 56 bits in words 1 to 7, of units 2 blocks wide with 3 entries a row,
-- and records of 40 bits; one action takes the port from bit 0 of the record, and the other from bit 8
abbrev pub exact_part : ℕ → ℕ → Bool → List ℕ → List ℕ → List ℕ → List CellNumber → Unit
exact_part quanta first_way last keys records counters numbers =
    Slot (record (table_slot 0 2 40 seven_lanes (Exact 2 3 quanta first_way keys records counters) numbers) { counted = true; last = last })

-- the table in two parts, of one quantum and of two: in the first part the key fedcba98765432;
-- in the second one this key again, and the key 0123456789abcd twice; the default of the first part would drop
abbrev pub exact : Config
exact = record
    (one_header 7
    (Bits 0 (lane 1 0 8) ∷ Bits 8 (lane 2 0 8) ∷ Bits 16 (lane 3 0 8) ∷ Bits 24 (lane 4 0 8) ∷ Bits 32 (lane 5 0 8) ∷ Bits 40 (lane 6 0 8) ∷ Bits 48 (lane 7 0 8) ∷ [])
    seven_lanes
    (record {
      start = 0;
      units = exact_part 1 0 false (range_with_len 0 8) (range_with_len 8 6) (range_with_len 14 12) (record { cell = 4656; number = 5 } ∷ []) ∷ [];
      code = instruction (copy 65 0 9 (Held 0) ∷ []) ∷ instruction (copy 65 0 9 (Held 8) ∷ []) ∷ instruction (copy 0 0 1 (Constant 1) ∷ []) ∷ [];
      srows = record { block = 2; row = 528; bits = 18364758544493064705 } ∷ record { block = 10; row = 280; bits = 4328719366 } ∷ [];
      trows = [];
    }
    ∷ record {
      start = 1;
      units =
          exact_part 2 4 true (range_with_len 0 16) (range_with_len 16 12) (range_with_len 28 24)
          (record { cell = 6032; number = 9 } ∷ record { cell = 14302; number = 7 } ∷ record { cell = 21675; number = 8 } ∷ [])
          ∷ [];
      code = instruction (copy 65 0 9 (Held 0) ∷ []) ∷ instruction (copy 65 0 9 (Held 8) ∷ []) ∷ instruction (copy 65 0 9 (Constant 3) ∷ []) ∷ [];
      srows =
          record { block = 4; row = 671; bits = 1407689370531846314085440190152704 }
          ∷ record { block = 5; row = 671; bits = 291 }
          ∷ record { block = 9; row = 986; bits = 1203552815971897488506880 }
          ∷ record { block = 14; row = 57; bits = 81985529216486657 }
          ∷ record { block = 19; row = 1007; bits = 73588229205 }
          ∷ record { block = 23; row = 456; bits = 4328719365 }
          ∷ record { block = 26; row = 597; bits = 402659214167068932833280 } ∷ [];
      trows = [];
    } ∷ []))
    { seed = 5 }

abbrev pub first_key : List ℕ
first_key = 0x01 ∷ 0x23 ∷ 0x45 ∷ 0x67 ∷ 0x89 ∷ 0xab ∷ 0xcd ∷ []

abbrev pub second_key : List ℕ
second_key = 0xfe ∷ 0xdc ∷ 0xba ∷ 0x98 ∷ 0x76 ∷ 0x54 ∷ 0x32 ∷ []

-- a hit in the first part keeps the second one from running; of two cells with the key the one of least index is hit;
-- a key that no cell has takes the default of the last part, also where the key is as empty as an unoccupied cell
pub exact_run : outcomes_of exact (packet 0 second_key ∷ packet 0 (first_key ++ 1 ∷ []) ∷ packet 0 (replicate 7 0) ∷ [])
    ≡ sent 6 second_key (record { number = 5; age = 8 } ∷ []) ∷ sent 324 (first_key ++ 1 ∷ []) (record { number = 7; age = 9 } ∷ []) ∷ sent 3 (replicate 7 0) [] ∷ []
exact_run = refl

-- the second part alone: a cell of its second quantum, and its record there
pub exact_second_quantum : own_look exact 1 0 0xfedcba98765432 ≡ Some (record { code = 0; held = 0x0102030405; number = 9 })
exact_second_quantum = refl

pub exact_first_quantum : own_look exact 1 0 0x0123456789abcd ≡ Some (record { code = 1; held = 0x1122334455; number = 7 })
exact_first_quantum = refl

pub exact_other_key : own_look exact 1 0 0x0123456789abce ≡ None
exact_other_key = refl

pub exact_counts : chip_counts_of exact (inputs_of exact (packet 0 second_key ∷ packet 0 (first_key ++ 1 ∷ []) ∷ packet 0 (replicate 7 0) ∷ packet 1 first_key ∷ []))
    ≡ record { entry = 5; packets = 1; bytes = 7 } ∷ record { entry = 7; packets = 2; bytes = 15 } ∷ record { entry = 8; packets = 0; bytes = 0 } ∷ record { entry = 9; packets = 0; bytes = 0 } ∷ []
exact_counts = refl

-- a hit is counted 8 cycles after the stage's start, and not before
pub exact_counts_before : chip_counts_of exact (Some (packet 0 second_key) ∷ replicate 7 None)
    ≡ record { entry = 5; packets = 0; bytes = 0 } ∷ record { entry = 7; packets = 0; bytes = 0 } ∷ record { entry = 8; packets = 0; bytes = 0 } ∷ record { entry = 9; packets = 0; bytes = 0 } ∷ []
exact_counts_before = refl

pub exact_counts_after : chip_counts_of exact (Some (packet 0 second_key) ∷ replicate 8 None)
    ≡ record { entry = 5; packets = 1; bytes = 7 } ∷ record { entry = 7; packets = 0; bytes = 0 } ∷ record { entry = 8; packets = 0; bytes = 0 } ∷ record { entry = 9; packets = 0; bytes = 0 } ∷ []
exact_counts_after = refl

-- a counted table whose ternary key is 48 bits in words 1 to 6, two TCAM blocks wide, with records of 9 bits and a head:
-- row 1 is 0a0b0c0d0e0f, row 2 is 0a in the first byte, row 7 is a last bit of 1; row 0 is not in use
abbrev pub ternary : Config
ternary =
    one_header 6
    (Bits 0 (lane 1 0 8) ∷ Bits 8 (lane 2 0 8) ∷ Bits 16 (lane 3 0 8) ∷ Bits 24 (lane 4 0 8) ∷ Bits 32 (lane 5 0 8) ∷ Bits 40 (lane 6 0 8) ∷ [])
    six_lanes
    (record {
      start = 0;
      units =
          Slot (record
          (table_slot 0 2 9 six_lanes (Ternary 1 (0 ∷ 1 ∷ []) (0 ∷ []) (1 ∷ 2 ∷ []))
          (record { cell = 1; number = 10 } ∷ record { cell = 2; number = 11 } ∷ record { cell = 7; number = 12 } ∷ []))
          { counted = true })
          ∷ [];
      code = instruction (copy 65 0 9 (Held 0) ∷ []) ∷ instruction (copy 0 0 1 (Constant 1) ∷ []) ∷ instruction (copy 65 0 9 (Constant 4) ∷ []) ∷ [];
      srows = record { block = 0; row = 0; bits = 0x101 * 2 ^ 17 + 0x201 * 2 ^ 34 } ∷ record { block = 0; row = 1; bits = 0x09 * 2 ^ 17 } ∷ [];
      trows =
          record { block = 0; row = 1; value = 0x0b0c0d0e0f; mask = 0xffffffffff }
          ∷ record { block = 0; row = 7; value = 1; mask = 1 }
          ∷ record { block = 1; row = 1; value = 0x0a; mask = 0xff }
          ∷ record { block = 1; row = 2; value = 0x0a; mask = 0xff } ∷ [];
    } ∷ [])

pub ternary_run : outcomes_of ternary (packet 0 (10 ∷ 11 ∷ 12 ∷ 13 ∷ 14 ∷ 15 ∷ []) ∷ packet 0 (10 ∷ 11 ∷ 12 ∷ 13 ∷ 14 ∷ 17 ∷ []) ∷ packet 0 (9 ∷ 0 ∷ 0 ∷ 0 ∷ 0 ∷ 1 ∷ []) ∷ packet 0 (9 ∷ 0 ∷ 0 ∷ 0 ∷ 0 ∷ 2 ∷ []) ∷ [])
    ≡ sent 1 (10 ∷ 11 ∷ 12 ∷ 13 ∷ 14 ∷ 15 ∷ []) (record { number = 10; age = 8 } ∷ [])
    ∷ sent 2 (10 ∷ 11 ∷ 12 ∷ 13 ∷ 14 ∷ 17 ∷ []) (record { number = 11; age = 8 } ∷ [])
    ∷ record { verdict = verdict.Dropped; bytes = []; counted = record { number = 12; age = 8 } ∷ [] }
    ∷ sent 4 (9 ∷ 0 ∷ 0 ∷ 0 ∷ 0 ∷ 2 ∷ []) [] ∷ []
ternary_run = refl

-- a cell without data
pub no_data : data_at (sram_row []) [] 3 0 (record { way = 2; row = 671; position = 1 }) ≡ 0
no_data = refl

-- a ternary table on f of two quanta, behind a gate and a slot without memory, with two actions and no data: 7 takes the first action,
-- and 8 the second; 9 takes the first one, in the second quantum; slots behind it for either action and for a miss
abbrev pub outcomes : Config
outcomes = one_byte
    (record {
      start = 0;
      units =
          Gate (record { node = 5; guard = None; tests = record { lane = lane 1 0 8; value = 0; mask = 128 } ∷ [] })
          ∷ plain_slot 0 None
          ∷ Slot (record
          (table_slot 1 2 0 (lane 1 0 8 ∷ []) (Ternary 2 (0 ∷ 1 ∷ []) (0 ∷ 1 ∷ []) (2 ∷ 3 ∷ 4 ∷ 5 ∷ []))
          (record { cell = 0; number = 0 } ∷ record { cell = 1; number = 1 } ∷ record { cell = 2053; number = 2 } ∷ []))
          { counted = true })
          ∷ plain_slot 2 (Some (record { parent = 1; mask = 4 }))
          ∷ plain_slot 3 (Some (record { parent = 1; mask = 8 }))
          ∷ plain_slot 4 (Some (record { parent = 1; mask = 2 })) ∷ [];
      code =
          instruction []
          ∷ instruction [] ∷ instruction [] ∷ instruction []
          ∷ instruction (copy 65 0 9 (Constant 1) ∷ [])
          ∷ instruction (copy 65 0 9 (Constant 2) ∷ [])
          ∷ instruction (copy 65 0 9 (Constant 3) ∷ []) ∷ [];
      srows = record { block = 0; row = 0; bits = 0x1109 } ∷ record { block = 1; row = 0; bits = 0x09 * 2 ^ 40 } ∷ [];
      trows =
          record { block = 0; row = 0; value = 7; mask = 255 }
          ∷ record { block = 0; row = 1; value = 8; mask = 255 }
          ∷ record { block = 1; row = 5; value = 9; mask = 255 } ∷ [];
    } ∷ [])

pub outcomes_run : outcomes_of outcomes (packet 0 (7 ∷ []) ∷ packet 0 (8 ∷ []) ∷ packet 0 (9 ∷ []) ∷ packet 0 (6 ∷ []) ∷ [])
    ≡ sent 1 (7 ∷ []) (record { number = 0; age = 8 } ∷ []) ∷ sent 2 (8 ∷ []) (record { number = 1; age = 8 } ∷ [])
    ∷ sent 1 (9 ∷ []) (record { number = 2; age = 8 } ∷ []) ∷ sent 3 (6 ∷ []) [] ∷ []
outcomes_run = refl
