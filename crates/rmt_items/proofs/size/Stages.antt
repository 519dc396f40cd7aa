-- The stages of a configuration are spelled with few bytes, but for the numbers of entries.
use Rattle.std.proofs.Common.{◌≡◌, ◌+◌, ◌*◌, ◌^◌, ◌<◌, ◌≤◌, ◌&&◌, true, false, ltb, List, [], ◌∷◌, ◌++◌, length, get_or, replicate, length-append, arith}
use Rattle.std.specs.Prelude.{All}
use Rattle.std.specs.List.{flat_map, list_all, sum_by}
use Rattle.std.proofs.lemmas.Bool.{and_parts, ltb-true}
use Rattle.std.proofs.lemmas.List.{length-replicate}
use Rattle.std.proofs.lemmas.List.Concat.{length-flat_map}
use Rattle.std.proofs.lemmas.List.Elements.{All-weaker}
use Rattle.std.proofs.lemmas.List.Sums.{AllPass-from_list_all, sum_by-le-sum_by}
use Rattle.rmt_items.specs.Types.{Stage, SramRow, TcamRow, Unit as ChipUnit, Vliw, Operation, Source}
use Rattle.rmt_config.specs.Instructions.{unit_instructions}
use Rattle.rmt_config.specs.declared.config.Unit.TheVariants.{Gate, Slot}
use Rattle.rmt_config.specs.declared.config.Source.TheVariants.{Word, Held, Constant}
use Rattle.rmt_config.specs.declared.form.code.InstructionRole.{InstructionRole}
use Rattle.rmt_config.specs.CellForm.{numbers_of_stage, numbers_of_unit}
use Rattle.rmt_config.specs.CodeForm.{code_is_formed, places_of, unit_places, vliw_is_formed}
use Rattle.rmt_config.specs.MemoryRules.{FormedRows}
use Rattle.rmt_config.specs.Resources.{unit_sram}
use Rattle.rmt_config.specs.Spelling.{CountsFitStage, CountsFitVliw, spelled_list32, spelled_list8, spelled_operation, spelled_source, spelled_srow, spelled_stage, spelled_trow, spelled_unit, spelled_vliw, two_bytes}
use Rattle.rmt_config.specs.StageForm.{rows_are_formed, srow_fits, srow_number, stage_is_formed, trow_fits, trow_number, tcam_blocks}
use Rattle.rmt_config.specs.UnitForm.{unit_is_formed}
use Rattle.rmt_config.proofs.SlotLaws.{formed-rows, unit-formed}
use Rattle.rmt_items.proofs.size.Lists.{each_within, flat_map_by, flat_map_short, rows_few}
use Rattle.rmt_items.proofs.size.Units.{unit_short}

-- ---- what the rules of form say of a stage by itself

pub record StageParts (s : Stage) : Type 0 where
  pub start : ltb s.start 65536 ≡ true
  pub units : list_all unit_is_formed s.units ≡ true
  pub code : code_is_formed (places_of s.units) s.code ≡ true
  pub srows : list_all srow_fits s.srows ≡ true
  pub trows : list_all trow_fits s.trows ≡ true

pub stage_parts : (s : Stage) → stage_is_formed s ≡ true → StageParts s
stage_parts s formed =
    let srows = and_parts _ _ (and_parts _ _ (and_parts _ _ formed).0).0 in
    let code = and_parts _ _ (and_parts _ _ srows.0).0 in
    let units = and_parts _ _ code.0 in
    record { start = (and_parts _ _ units.0).0; units = units.1; code = code.1; srows = srows.1; trows = (and_parts _ _ formed).1 }

-- ---- instructions

source_short : (s : Source) → length (spelled_source s) ≤ 5
source_short (Word word low) = omega arith
source_short (Held low) = omega arith
source_short (Constant value) = omega arith

operation_short : (op : Operation) → length (spelled_operation op) ≤ 14
operation_short op = omega (arith, source_short op.left, source_short op.right, length-append (spelled_source op.left) (spelled_source op.right))

vliw_short : (v : Vliw) → CountsFitVliw v → length (spelled_vliw v) ≤ 3571
vliw_short v few =
    let ops = flat_map_short spelled_operation 14 255 v.ops (omega (arith, few)) (λ k d lt. operation_short (get_or v.ops k d)) in
    omega (arith, ops)

-- one instruction for each place, and places as many as instructions are counted
code_long : (places : List InstructionRole) (code : List Vliw) → code_is_formed places code ≡ true → length code ≡ length places
code_long [] [] h = omega arith
code_long [] (v ∷ code) h = absurd cc
code_long (place ∷ places) [] h = absurd cc
code_long (place ∷ places) (v ∷ code) h =
    omega (arith, code_long places code (and_parts (vliw_is_formed place v) (code_is_formed places code) h).1)

unit_places_few : (u : ChipUnit) → length (unit_places u) ≤ unit_instructions u
unit_places_few (Gate g) = omega arith
unit_places_few (Slot s) =
    let own : InstructionRole = record { held = s.held; is_default = false } in
    let default : InstructionRole = record { held = s.held; is_default = true } in
    omega (arith, length-append (replicate s.actions own) (default ∷ []), length-replicate s.actions own)

code_few : (s : Stage) → stage_is_formed s ≡ true → sum_by unit_instructions s.units ≤ 32 → length s.code ≤ 32
code_few s formed few =
    let each = sum_by-le-sum_by (λ u. length (unit_places u)) unit_instructions s.units unit_places_few in
    omega (arith, code_long (places_of s.units) s.code (stage_parts s formed).code, length-flat_map unit_places s.units, each, few)

-- ---- rows

srow_low : (r : SramRow) → srow_fits r ≡ true → r.row < 1024 → srow_number r < 108544
srow_low r fits row =
    let block : r.block < 106 = ltb-true r.block 106 (and_parts (ltb r.block 106) (ltb r.row 65536) (and_parts _ _ fits).0).0 in
    omega (arith, block, row)

-- rows rise by block and row
srows_few : (s : Stage) → stage_is_formed s ≡ true → FormedRows s → length s.srows ≤ 108544
srows_few s formed rows =
    let fits = AllPass-from_list_all srow_fits s.srows (stage_parts s formed).srows in
    rows_few srow_number 108544 s.srows rows.srise (λ k d lt. srow_low (get_or s.srows k d) (fits k d lt) (rows.slow k d lt))

trow_low : (r : TcamRow) → trow_fits r ≡ true → r.row < 2048 → trow_number r < 32768
trow_low r fits row =
    let front = (and_parts (ltb r.block 16 && ltb r.row 65536) (ltb r.value (2 ^ 40)) (and_parts _ _ fits).0).0 in
    let block : r.block < 16 = ltb-true r.block 16 (and_parts (ltb r.block 16) (ltb r.row 65536) front).0 in
    omega (arith, block, row)

trows_few : (s : Stage) → stage_is_formed s ≡ true → FormedRows s → length s.trows ≤ 32768
trows_few s formed rows =
    let fits = AllPass-from_list_all trow_fits s.trows (stage_parts s formed).trows in
    rows_few trow_number 32768 s.trows rows.trise (λ k d lt. trow_low (get_or s.trows k d) (fits k d lt) (rows.tlow k d lt))

-- ---- stages

units_short : (s : Stage) → stage_is_formed s ≡ true → length (flat_map unit_sram s.units) ≤ 106 → length (flat_map tcam_blocks s.units) ≤ 16
    → All (λ u. length (spelled_unit u) ≤ 2812 + 8 * length (numbers_of_unit u)) s.units
units_short s formed sram tcam k d lt =
    unit_short (get_or s.units k d) (unit-formed s.units k d lt (stage_parts s formed).units)
    (omega (arith, each_within unit_sram s.units k d lt, sram)) (omega (arith, each_within tcam_blocks s.units k d lt, tcam))

-- a stage that keeps the rules of form and the limits
pub record StageFits (s : Stage) : Type 0 where
  pub formed : stage_is_formed s ≡ true
  pub rows : rows_are_formed s ≡ true
  pub counts : CountsFitStage s
  pub sram : length (flat_map unit_sram s.units) ≤ 106
  pub tcam : length (flat_map tcam_blocks s.units) ≤ 16
  pub code : sum_by unit_instructions s.units ≤ 32

pub stage_short : (s : Stage) → StageFits s → length (spelled_stage s) ≤ 3200000 + 8 * length (numbers_of_stage s)
stage_short s fits =
    let rows = formed-rows s fits.formed fits.rows in
    let units = flat_map_by spelled_unit numbers_of_unit 2812 s.units (units_short s fits.formed fits.sram fits.tcam) in
    let code = flat_map_short spelled_vliw 3571 32 s.code (code_few s fits.formed fits.code)
    (All-weaker CountsFitVliw (λ v. length (spelled_vliw v) ≤ 3571) vliw_short s.code fits.counts.each_vliw) in
    let srows = flat_map_short spelled_srow 17 108544 s.srows (srows_few s fits.formed rows) (λ k d lt. omega arith) in
    let trows = flat_map_short spelled_trow 13 32768 s.trows (trows_few s fits.formed rows) (λ k d lt. omega arith) in
    let first = length-append (two_bytes s.start ++ spelled_list8 spelled_unit s.units) (flat_map spelled_vliw s.code) in
    let second = length-append (two_bytes s.start ++ spelled_list8 spelled_unit s.units ++ flat_map spelled_vliw s.code) (spelled_list32 spelled_srow s.srows) in
    let third = length-append (two_bytes s.start ++ spelled_list8 spelled_unit s.units ++ flat_map spelled_vliw s.code ++ spelled_list32 spelled_srow s.srows) (spelled_list32 spelled_trow s.trows) in
    omega (arith, units, code, srows, trows, first, second, third, fits.counts.units)
