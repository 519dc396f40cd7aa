-- The rows of a stage in lists.
use Rattle.std.specs.Prelude.{◌≡◌, ◌≢◌, ℕ, ◌+◌, ◌*◌, ◌^◌, ◌<◌, ◌≤◌, List, All, map, length, true, bit_and, if◌then◌else◌, nat_lt, slice_index}
use Rattle.rmt_filling.specs.Types.{SramRow, TcamRow}
use Rattle.rmt_config.specs.Cells.{Blocks, sram_row, tcam_row}
use Rattle.rmt_config.specs.Order.{rises_from}
use Rattle.rmt_config.specs.StageForm.{srow_number, trow_number}
use Rattle.rmt_filling.specs.declared.tcam.TcamRows.{TcamRows}

-- ---- TCAM

-- rows in one list, so many a block; 0 where there is none
abbrev pub row_in : ℕ → List ℕ → Blocks
row_in size xs block row = if nat_lt row size then slice_index xs (block * size + row) else 0

-- the values of the rows of a stage's TCAM blocks, and their masks
unfoldable pub values_of : TcamRows → Blocks
values_of rows = row_in 2048 rows.values.items

unfoldable pub masks_of : TcamRows → Blocks
masks_of rows = row_in 2048 rows.masks.items

-- ---- lists of rows

-- a listed row of SRAM: it is there, and isn't 0
pub record IsSramRow (held : Blocks) (r : SramRow) : Type 0 where
  pub row : r.row < 1024
  pub bits : r.bits < 2 ^ 112
  pub some : r.bits ≢ 0
  pub there : r.bits ≡ held r.block r.row

-- a listed row of TCAM: some bit of it counts
pub record IsTcamRow (values masks : Blocks) (r : TcamRow) : Type 0 where
  pub row : r.row < 2048
  pub value : r.value < 2 ^ 40
  pub mask : r.mask < 2 ^ 40
  pub some : r.mask ≢ 0
  pub masked : bit_and r.value r.mask ≡ r.value
  pub there : r.mask ≡ masks r.block r.row

-- the rows before that of a number are listed, by block and row
pub record IsSramListed (held : Blocks) (upto : ℕ) (rows : List SramRow) : Type 0 where
  pub each : All (IsSramRow held) rows
  pub before : All (λ (r : SramRow). srow_number r < upto) rows
  pub rise : rises_from 0 (map srow_number rows) ≡ true
  pub few : length rows ≤ upto
  pub found : (b r : ℕ) → r < 1024 → 1024 * b + r < upto → sram_row rows b r ≡ held b r

pub record IsTcamListed (values masks : Blocks) (upto : ℕ) (rows : List TcamRow) : Type 0 where
  pub each : All (IsTcamRow values masks) rows
  pub before : All (λ (r : TcamRow). trow_number r < upto) rows
  pub rise : rises_from 0 (map trow_number rows) ≡ true
  pub few : length rows ≤ upto
  pub value : (b r : ℕ) → r < 2048 → 2048 * b + r < upto → tcam_row (λ t. t.value) rows b r ≡ values b r
  pub mask : (b r : ℕ) → r < 2048 → 2048 * b + r < upto → tcam_row (λ t. t.mask) rows b r ≡ masks b r

-- all rows of a stage that aren't 0 are listed, by block and row
pub record ListsSram (held : Blocks) (rows : List SramRow) : Type 0 where
  pub each : All (IsSramRow held) rows
  pub blocks : All (λ (r : SramRow). r.block < 106) rows
  pub rise : rises_from 0 (map srow_number rows) ≡ true
  pub few : length rows < 2 ^ 32
  pub same : (b r : ℕ) → sram_row rows b r ≡ held b r

pub record ListsTcam (values masks : Blocks) (rows : List TcamRow) : Type 0 where
  pub each : All (IsTcamRow values masks) rows
  pub blocks : All (λ (r : TcamRow). r.block < 16) rows
  pub rise : rises_from 0 (map trow_number rows) ≡ true
  pub few : length rows < 2 ^ 32
  pub value : (b r : ℕ) → tcam_row (λ t. t.value) rows b r ≡ values b r
  pub mask : (b r : ℕ) → tcam_row (λ t. t.mask) rows b r ≡ masks b r
