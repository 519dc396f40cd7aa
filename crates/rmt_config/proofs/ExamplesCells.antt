-- Stages whose rows and cells keep the rules of form, and stages that break one each.
use Rattle.std.specs.Prelude.{◌≡◌, ℕ, ◌+◌, ◌*◌, ◌-◌, ◌^◌, Bool, List, [], ◌∷◌, map, true, false, refl}
use Rattle.std.proofs.Common.{lit<, lit≤, ◌/◌, ◌%◌, arith}
use Rattle.std.specs.List.{range_with_len}
use Rattle.std.proofs.lemmas.Bool.{false≢true}
use Rattle.std.proofs.lemmas.List.Elements.{All-nil, All-cons}
use Rattle.rmt_config.specs.Types.{Stage, SramRow, TcamRow, SlotUnit, CellNumber}
use Rattle.rmt_config.specs.declared.config.Unit.TheVariants.{Slot}
use Rattle.rmt_config.specs.declared.config.Memory.TheVariants.{Exact, Ternary}
use Rattle.rmt_config.specs.declared.config.Source.TheVariants.{Held}
use Rattle.rmt_config.specs.Cells.{content_of}
use Rattle.rmt_config.specs.Instructions.{first_code}
use Rattle.rmt_config.specs.WayRows.{row_among}
use Rattle.rmt_config.specs.declared.part_ways.PartWays.{PartWays}
use Rattle.rmt_config.specs.CellForm.{numbers_are_formed, SlotHolds, StageHolds, Coded, MemoryEnds, exact, ternary}
use Rattle.rmt_config.specs.StageForm.{rows_are_formed, srow_number, trow_number}
use Rattle.rmt_config.specs.Layouts.{exact_keys, exact_records, ternary_keys, ternary_records}
use Rattle.rmt_config.proofs.ExamplesParts.{lane, copy, instruction, table_slot}
use Rattle.rmt_config.proofs.SlotLaws.{formed-rows, exact-fits, ternary-fits, exact-slot, ternary-slot}
use Rattle.rmt_config.proofs.ToldTests.{told-from_test}

-- ---- an exact part of two quanta: a key of 16 bits, so entries of 24, 4 of them in a row of one block; records of 9 bits, 12 in a row

-- its numbers: 1 is way 0, row 0, position 1; 9190 is way 1, row 249, position 2; 12289 is way 1, row 1024, position 1, in the second quantum
abbrev pub exact_slot : List CellNumber → SlotUnit
exact_slot = table_slot 0 2 9 (lane 64 0 16 ∷ []) (Exact 1 4 2 0 (range_with_len 0 8) (range_with_len 8 4) [])

abbrev pub exact_stage : List CellNumber → List SramRow → Stage
exact_stage numbers srows = record {
  start = 0;
  units = Slot (exact_slot numbers) ∷ [];
  code = instruction [] ∷ instruction (copy 65 0 9 (Held 0) ∷ []) ∷ instruction [] ∷ [];
  srows = srows;
  trows = [];
}

abbrev pub three_numbers : List CellNumber
three_numbers = record { cell = 1; number = 6 } ∷ record { cell = 9190; number = 4 } ∷ record { cell = 12289; number = 5 } ∷ []

-- head 01 with key beef, head 09 with key 0102, head 01 with key 0304; the records are 3, none, and 511
abbrev pub exact_rows : List SramRow
exact_rows =
    record { block = 0; row = 0; bits = 0xbeef01 * 2 ^ 24 }
    ∷ record { block = 1; row = 249; bits = 0x010209 * 2 ^ 48 }
    ∷ record { block = 5; row = 0; bits = 0x030401 * 2 ^ 24 }
    ∷ record { block = 8; row = 0; bits = 3 * 2 ^ 9 }
    ∷ record { block = 10; row = 341; bits = 511 * 2 ^ 45 } ∷ []

-- what its three cells hold, and the neighbour of the last, which is empty, as the same place in the first quantum is
pub exact_cells : map (content_of (exact_stage three_numbers exact_rows) (exact_slot three_numbers)) (1 ∷ 9190 ∷ 12289 ∷ 12288 ∷ [])
    ≡ record { head = 1; key = 0xbeef; mask = 2 ^ 16 - 1; held = 3 } ∷ record { head = 9; key = 0x0102; mask = 2 ^ 16 - 1; held = 0 }
    ∷ record { head = 1; key = 0x0304; mask = 2 ^ 16 - 1; held = 511 } ∷ record { head = 0; key = 0; mask = 2 ^ 16 - 1; held = 0 } ∷ []
exact_cells = refl

pub exact_rows_kept : rows_are_formed (exact_stage three_numbers exact_rows) ≡ true
exact_rows_kept = refl

abbrev pub Holds : Stage → Coded → Type 0
Holds stage c = SlotHolds 0 stage c.first c.slot

pub exact_kept : StageHolds 0 (exact_stage three_numbers exact_rows)
exact_kept =
    let stage = exact_stage three_numbers exact_rows in
    let s = exact_slot three_numbers in
    let cells : List ℕ = 1 ∷ 9190 ∷ 12289 ∷ [] in
    let entries = told-from_test (exact_keys 1 4 2 16) (λ r. srow_number r / 1024) (λ r. srow_number r % 1024) (λ (r : SramRow). r.bits) cells exact_rows (range_with_len 0 8) refl in
    let records = told-from_test (exact_records 4 2 9) (λ r. srow_number r / 1024) (λ r. srow_number r % 1024) (λ (r : SramRow). r.bits) cells exact_rows (range_with_len 8 4) refl in
    let fit = exact-fits s 1 4 2 0 (range_with_len 0 8) (range_with_len 8 4) [] refl refl in
    let holds = (exact-slot 0 stage 0 s 1 4 2 0 (range_with_len 0 8) (range_with_len 8 4) [] (formed-rows stage refl refl) fit).0 (refl, (entries, records)) in
    All-cons (Holds stage) (record { first = 0; slot = s }) [] holds (All-nil (Holds stage))

-- ---- rows that break a rule

abbrev pub rows_of : List SramRow → Bool
rows_of srows = rows_are_formed (exact_stage [] srows)

pub rows_out_of_order : rows_of (record { block = 0; row = 1; bits = 1 } ∷ record { block = 0; row = 0; bits = 1 } ∷ []) ≡ false
rows_out_of_order = refl

pub row_twice : rows_of (record { block = 0; row = 1; bits = 1 } ∷ record { block = 0; row = 1; bits = 2 } ∷ []) ≡ false
row_twice = refl

pub row_of_zeros : rows_of (record { block = 0; row = 1; bits = 0 } ∷ []) ≡ false
row_of_zeros = refl

pub row_not_there : rows_of (record { block = 0; row = 1024; bits = 1 } ∷ []) ≡ false
row_not_there = refl

pub last_row_there : rows_of (record { block = 0; row = 1023; bits = 1 } ∷ []) ≡ true
last_row_there = refl

pub row_of_no_slot : rows_of (record { block = 12; row = 0; bits = 1 } ∷ []) ≡ false
row_of_no_slot = refl

-- ---- numbers that break a rule

abbrev pub numbers_of : List CellNumber → List SramRow → Bool
numbers_of numbers srows = numbers_are_formed 0 0 (exact_stage numbers srows) (exact_slot numbers)

pub numbers_kept : numbers_of three_numbers exact_rows ≡ true
numbers_kept = refl

abbrev pub one_row : ℕ → List SramRow
one_row bits = record { block = 0; row = 0; bits = bits } ∷ []

abbrev pub cells_are : List ℕ → List CellNumber
cells_are [] = []
cells_are (n ∷ ns) = record { cell = n; number = n } ∷ cells_are ns

pub empty_cell_told : numbers_of (cells_are (1 ∷ 2 ∷ [])) (one_row (0xbeef01 * 2 ^ 24)) ≡ false
empty_cell_told = refl

pub cells_fall : numbers_of (cells_are (1 ∷ 0 ∷ [])) (one_row (0xbeef01 * 2 ^ 24 + 0xbeef01)) ≡ false
cells_fall = refl

pub cells_rise : numbers_of (cells_are (0 ∷ 1 ∷ [])) (one_row (0xbeef01 * 2 ^ 24 + 0xbeef01)) ≡ true
cells_rise = refl

pub cell_not_there : numbers_of (cells_are (32768 ∷ [])) (one_row 0) ≡ false
cell_not_there = refl

pub visible_bit_set : numbers_of (cells_are (1 ∷ [])) (one_row (0xbeef03 * 2 ^ 24)) ≡ false
visible_bit_set = refl

-- instruction 1 is the slot's own, and 2 its default's
pub last_instruction : numbers_of (cells_are (1 ∷ [])) (one_row (0xbeef09 * 2 ^ 24)) ≡ true
last_instruction = refl

pub default_instruction : numbers_of (cells_are (1 ∷ [])) (one_row (0xbeef11 * 2 ^ 24)) ≡ false
default_instruction = refl

-- ---- bits that break a rule

abbrev pub Broken : List ℕ → List SramRow → Type 0
Broken cells srows = SlotHolds 0 (exact_stage (cells_are cells) srows) 0 (exact_slot (cells_are cells)) → ⊥

-- an occupied cell that has no number
pub cell_not_told : Broken [] (one_row (0xbeef01 * 2 ^ 24))
cell_not_told holds = false≢true (holds.others 1 (lit< tt) refl)

-- a key in a cell that isn't occupied
pub key_of_no_cell : Broken [] (one_row (0xbeef00 * 2 ^ 24))
key_of_no_cell holds = false≢true (holds.others 1 (lit< tt) refl)

-- a record of a cell that isn't occupied, beside that of one that is
pub record_of_no_cell : Broken (1 ∷ []) (record { block = 0; row = 0; bits = 0xbeef01 * 2 ^ 24 } ∷ record { block = 8; row = 0; bits = 3 * 2 ^ 9 + 1 } ∷ [])
record_of_no_cell holds = false≢true (holds.others 0 (lit< tt) refl)

-- a bit behind the last entry of a row
pub bit_behind_entries : Broken [] (one_row (2 ^ 96))
bit_behind_entries holds = at holds.ends
  where
    at : MemoryEnds (exact_stage [] (one_row (2 ^ 96))) (exact_slot []) (Exact 1 4 2 0 (range_with_len 0 8) (range_with_len 8 4) []) → ⊥
    at (exact _ _ _ _ _ _ _ ends records) = absurd (omega (arith, ends 0 0))

-- a bit behind the last record of a row
pub bit_behind_records : Broken [] (record { block = 8; row = 0; bits = 2 ^ 108 } ∷ [])
bit_behind_records holds = at holds.ends
  where
    at : MemoryEnds (exact_stage [] (record { block = 8; row = 0; bits = 2 ^ 108 } ∷ [])) (exact_slot []) (Exact 1 4 2 0 (range_with_len 0 8) (range_with_len 8 4) []) → ⊥
    at (exact _ _ _ _ _ _ _ ends records) = absurd (omega (arith, records.rows 0 0))

-- a record behind that of the last cell of a quantum, of which there are 16,384
pub record_behind_cells : Broken [] (record { block = 9; row = 341; bits = 2 ^ 36 } ∷ [])
record_behind_cells holds = at holds.ends
  where
    at : MemoryEnds (exact_stage [] (record { block = 9; row = 341; bits = 2 ^ 36 } ∷ [])) (exact_slot []) (Exact 1 4 2 0 (range_with_len 0 8) (range_with_len 8 4) []) → ⊥
    at (exact _ _ _ _ _ _ _ ends records) = absurd (omega (arith, records.quantum 0 16384 (lit< tt) (lit≤ tt) (lit< tt)))

-- ---- a ternary part of two quanta: a key of 48 bits, two TCAM blocks wide; records of 9 bits and a head, 6 in a row

abbrev pub ternary_slot : List CellNumber → SlotUnit
ternary_slot = table_slot 0 1 9 (lane 160 0 32 ∷ lane 64 0 16 ∷ []) (Ternary 2 (range_with_len 0 4) (range_with_len 0 2) [])

abbrev pub ternary_stage : List CellNumber → List SramRow → List TcamRow → Stage
ternary_stage numbers srows trows = record {
  start = 0;
  units = Slot (ternary_slot numbers) ∷ [];
  code = instruction (copy 65 0 9 (Held 0) ∷ []) ∷ instruction [] ∷ [];
  srows = srows;
  trows = trows;
}

-- row 7 of the first quantum and row 5 of the second, whose number is 2,053
abbrev pub two_rows : List TcamRow
two_rows =
    record { block = 0; row = 7; value = 0x0102; mask = 0xffff }
    ∷ record { block = 2; row = 5; value = 0; mask = 0xff }
    ∷ record { block = 3; row = 5; value = 0x0a; mask = 0xff } ∷ []

abbrev pub two_records : List SramRow
two_records = record { block = 0; row = 1; bits = 0x0501 * 2 ^ 17 } ∷ record { block = 1; row = 0; bits = 0x0601 * 2 ^ 85 } ∷ []

pub ternary_first_cell : content_of (ternary_stage (cells_are (7 ∷ 2053 ∷ [])) two_records two_rows) (ternary_slot (cells_are (7 ∷ 2053 ∷ []))) 7
    ≡ record { head = 1; key = 0x0102; mask = 0xffff; held = 5 }
ternary_first_cell = refl

pub ternary_second_cell : content_of (ternary_stage (cells_are (7 ∷ 2053 ∷ [])) two_records two_rows) (ternary_slot (cells_are (7 ∷ 2053 ∷ []))) 2053
    ≡ record { head = 1; key = 0x0a * 2 ^ 40; mask = 0xff * 2 ^ 40 + 0xff; held = 6 }
ternary_second_cell = refl

pub ternary_empty_cell : content_of (ternary_stage (cells_are (7 ∷ 2053 ∷ [])) two_records two_rows) (ternary_slot (cells_are (7 ∷ 2053 ∷ []))) 5
    ≡ record { head = 0; key = 0; mask = 0; held = 0 }
ternary_empty_cell = refl

pub ternary_kept : StageHolds 0 (ternary_stage (cells_are (7 ∷ 2053 ∷ [])) two_records two_rows)
ternary_kept =
    let stage = ternary_stage (cells_are (7 ∷ 2053 ∷ [])) two_records two_rows in
    let s = ternary_slot (cells_are (7 ∷ 2053 ∷ [])) in
    let cells : List ℕ = 7 ∷ 2053 ∷ [] in
    let keys = told-from_test (ternary_keys 2 48) (λ r. trow_number r / 2048) (λ r. trow_number r % 2048) (λ (r : TcamRow). r.mask) cells two_rows (range_with_len 0 4) refl in
    let records = told-from_test (ternary_records 2 17) (λ r. srow_number r / 1024) (λ r. srow_number r % 1024) (λ (r : SramRow). r.bits) cells two_records (range_with_len 0 2) refl in
    let fit = ternary-fits s 2 (range_with_len 0 4) (range_with_len 0 2) [] refl refl in
    let holds = (ternary-slot 0 stage 0 s 2 (range_with_len 0 4) (range_with_len 0 2) [] (formed-rows stage refl refl) fit).0 (refl, (keys, records)) in
    All-cons (Holds stage) (record { first = 0; slot = s }) [] holds (All-nil (Holds stage))

abbrev pub trows_of : List TcamRow → Bool
trows_of trows = rows_are_formed (ternary_stage [] [] trows)

pub value_in_mask : trows_of (record { block = 0; row = 2047; value = 1; mask = 3 } ∷ []) ≡ true
value_in_mask = refl

pub value_outside_mask : trows_of (record { block = 0; row = 0; value = 4; mask = 3 } ∷ []) ≡ false
value_outside_mask = refl

pub no_mask : trows_of (record { block = 0; row = 0; value = 0; mask = 0 } ∷ []) ≡ false
no_mask = refl

pub trow_not_there : trows_of (record { block = 0; row = 2048; value = 0; mask = 1 } ∷ []) ≡ false
trow_not_there = refl

pub trow_of_no_slot : trows_of (record { block = 4; row = 0; value = 0; mask = 1 } ∷ []) ≡ false
trow_of_no_slot = refl

-- a row whose record isn't in use
pub row_without_record : SlotHolds 0 (ternary_stage [] [] two_rows) 0 (ternary_slot []) → ⊥
row_without_record holds = false≢true (holds.others 7 (lit< tt) refl)

-- a bit past the key, at 48
pub bit_past_key : SlotHolds 0 (ternary_stage [] [] (record { block = 1; row = 0; value = 0; mask = 256 } ∷ [])) 0 (ternary_slot []) → ⊥
bit_past_key holds = at holds.ends
  where
    at : MemoryEnds (ternary_stage [] [] (record { block = 1; row = 0; value = 0; mask = 256 } ∷ [])) (ternary_slot []) (Ternary 2 (range_with_len 0 4) (range_with_len 0 2) []) → ⊥
    at (ternary _ _ _ _ ends records) = absurd (omega (arith, ends 0 0))

-- ---- rows of ways, and instructions

-- ways 4 to 7 of a table, of one row each
pub ways_of_one_row : PartWays
ways_of_one_row = record {
  first = 4;
  rows = 1;
  per = 4;
  some_rows = omega arith;
  few_rows = omega arith;
  low_ways = omega arith;
  few_cells = omega arith;
}

pub row_of_the_third_way : row_among ways_of_one_row 7 (1 ∷ 2 ∷ []) 2 ≡ 2
unfolding ways_of_one_row
row_of_the_third_way = refl

-- behind two actions stands the default's instruction, and then those of the next unit
pub first_of_the_next_unit : first_code (exact_stage [] []) 1 ≡ 3
first_of_the_next_unit = refl
