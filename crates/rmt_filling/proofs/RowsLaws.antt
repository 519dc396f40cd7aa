-- The rows of a stage, behind its blocks and theirs.
use Rattle.std.proofs.Common.{◌≡◌, ℕ, ◌*◌, ◌≤◌, length, arith}
use Rattle.rmt_pack.specs.declared.rows.Rows.{Rows}
use Rattle.rmt_pack.specs.Rows.{blocks_of}
use Rattle.rmt_filling.specs.declared.tcam.TcamRows.{TcamRows}
use Rattle.rmt_filling.specs.Listing.{values_of, masks_of}
use Rattle.rmt_filling.proofs.GridLaws.{row_in-high, row_in-past}

pub sram-off : (rows : Rows) (b r : ℕ) → 1024 ≤ r → blocks_of rows b r ≡ 0
unfolding blocks_of
sram-off rows b r le = row_in-high 1024 rows.bits.items b r le

pub sram-past : (rows : Rows) (b r : ℕ) → 106 ≤ b → blocks_of rows b r ≡ 0
unfolding blocks_of
sram-past rows b r le =
    let whole : length rows.bits.items ≡ 106 * 1024 = omega (arith, rows.bits.ok, rows.whole) in row_in-past 1024 106 rows.bits.items b r whole le

pub tcam-off : (rows : TcamRows) (b r : ℕ) → 2048 ≤ r → (values_of rows b r ≡ 0) × (masks_of rows b r ≡ 0)
unfolding values_of masks_of
tcam-off rows b r le = (row_in-high 2048 rows.values.items b r le, row_in-high 2048 rows.masks.items b r le)

pub tcam-past : (rows : TcamRows) (b r : ℕ) → 16 ≤ b → (values_of rows b r ≡ 0) × (masks_of rows b r ≡ 0)
unfolding values_of masks_of
tcam-past rows b r le =
    let values : length rows.values.items ≡ 16 * 2048 = omega (arith, rows.values.ok, rows.values_whole) in
    let masks : length rows.masks.items ≡ 16 * 2048 = omega (arith, rows.masks.ok, rows.masks_whole) in
    (row_in-past 2048 16 rows.values.items b r values le, row_in-past 2048 16 rows.masks.items b r masks le)
