-- The rules of form of a stage by itself: its units, its code, and the places of its rows.
use Rattle.std.specs.Prelude.{ℕ, ◌+◌, ◌*◌, ◌^◌, List, [], ◌∷◌, length, map, ◌++◌, Bool, true, not, ◌&&◌, ◌==◌, nat_lt, bit_and}
use Rattle.std.specs.List.{flat_map, list_all, list_any}
use Rattle.rmt_config.specs.Types.{Stage, SramRow, TcamRow, Unit, Memory}
use Rattle.rmt_config.specs.declared.config.Unit.TheVariants.{Gate, Slot}
use Rattle.rmt_config.specs.declared.config.Memory.TheVariants.{Without, Exact, Ternary}
use Rattle.rmt_config.specs.Order.{rises_from}
use Rattle.rmt_config.specs.UnitForm.{unit_is_formed}
use Rattle.rmt_config.specs.CodeForm.{places_of, code_is_formed}

-- ---- what is looked at while a stage is read

-- a row's block is one of the stage's, and its other numbers fit their places in an image
abbrev pub srow_fits : SramRow → Bool
srow_fits r = nat_lt r.block 106 && nat_lt r.row 65536 && nat_lt r.bits (2 ^ 112)

abbrev pub trow_fits : TcamRow → Bool
trow_fits r = nat_lt r.block 16 && nat_lt r.row 65536 && nat_lt r.value (2 ^ 40) && nat_lt r.mask (2 ^ 40)

abbrev pub stage_is_formed : Stage → Bool
stage_is_formed s =
    nat_lt s.start 65536 && nat_lt (length s.units) 256 && list_all unit_is_formed s.units
    && code_is_formed (places_of s.units) s.code
    && nat_lt (length s.srows) (2 ^ 32) && list_all srow_fits s.srows
    && nat_lt (length s.trows) (2 ^ 32) && list_all trow_fits s.trows

-- the first start is 0, and each is above the one before
abbrev pub starts_are_formed : List ℕ → Bool
starts_are_formed [] = true
starts_are_formed (start ∷ starts) = (start == 0) && rises_from 1 starts

abbrev pub stages_are_formed : List Stage → Bool
stages_are_formed stages =
    nat_lt (length stages) 256 && list_all stage_is_formed stages && starts_are_formed (map (λ (s : Stage). s.start) stages)

-- ---- what is looked at when all is read: the rows

-- the blocks of a memory that rows of SRAM and of TCAM may stand in
abbrev pub memory_sram_blocks : Memory → List ℕ
memory_sram_blocks Without = []
memory_sram_blocks (Exact width per quanta first_way keys records counters) = keys ++ records
memory_sram_blocks (Ternary quanta keys records counters) = records

abbrev pub memory_tcam_blocks : Memory → List ℕ
memory_tcam_blocks Without = []
memory_tcam_blocks (Exact width per quanta first_way keys records counters) = []
memory_tcam_blocks (Ternary quanta keys records counters) = keys

abbrev pub sram_blocks : Unit → List ℕ
sram_blocks (Gate g) = []
sram_blocks (Slot s) = memory_sram_blocks s.memory

abbrev pub tcam_blocks : Unit → List ℕ
tcam_blocks (Gate g) = []
tcam_blocks (Slot s) = memory_tcam_blocks s.memory

-- whether a block stands in a list
abbrev pub is_listed : ℕ → List ℕ → Bool
is_listed block blocks = list_any (λ b. b == block) blocks

-- the number of a row among the rows of all blocks, where a block has 1,024 or 2,048
abbrev pub srow_number : SramRow → ℕ
srow_number r = 1024 * r.block + r.row

abbrev pub trow_number : TcamRow → ℕ
trow_number r = 2048 * r.block + r.row

-- a row that there is, of a block that some slot of the stage lists, and not all zero
abbrev pub srow_is_formed : List Unit → SramRow → Bool
srow_is_formed units r = nat_lt r.row 1024 && is_listed r.block (flat_map sram_blocks units) && not (r.bits == 0)

abbrev pub trow_is_formed : List Unit → TcamRow → Bool
trow_is_formed units r =
    nat_lt r.row 2048 && is_listed r.block (flat_map tcam_blocks units) && not (r.mask == 0) && (bit_and r.value r.mask == r.value)

-- rows rise by block and then row
abbrev pub rows_are_formed : Stage → Bool
rows_are_formed s =
    list_all (srow_is_formed s.units) s.srows && rises_from 0 (map srow_number s.srows)
    && list_all (trow_is_formed s.units) s.trows && rises_from 0 (map trow_number s.trows)
