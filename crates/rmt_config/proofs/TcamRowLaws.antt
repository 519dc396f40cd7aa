-- What a row of a TCAM block holds, told from rows in rising order.
use Rattle.std.proofs.Common.{◌≡◌, ℕ, ◌+◌, ◌*◌, ◌<◌, ◌≤◌, List, length, get_or, map, true, refl}
use Rattle.std.specs.Prelude.{All}
use Rattle.rmt_config.specs.Types.{TcamRow}
use Rattle.rmt_config.specs.Order.{rises_from}
use Rattle.rmt_config.specs.StageForm.{trow_number}
use Rattle.rmt_config.specs.Cells.{tcam_row}
use Rattle.rmt_config.proofs.HeldRows.{found-numbered, none-numbered}

pub trow-found : (val : TcamRow → ℕ) (rows : List TcamRow) (at block row : ℕ) (d : TcamRow) → rises_from 0 (map trow_number rows) ≡ true → All (λ (r : TcamRow). r.row < 2048) rows
    → row < 2048 → at < length rows → trow_number (get_or rows at d) ≡ block * 2048 + row → val (get_or rows at d) ≡ tcam_row val rows block row
trow-found val rows at block row d rise low lr lt e =
    found-numbered (λ (r : TcamRow). r.block) (λ (r : TcamRow). r.row) val trow_number 2048 rows at block row d (λ r. refl) rise low lr lt e

pub trow-none : (val : TcamRow → ℕ) (rows : List TcamRow) (at block row : ℕ) → rises_from 0 (map trow_number rows) ≡ true
    → ((k : ℕ) (d : TcamRow) → k < at → trow_number (get_or rows k d) < block * 2048 + row)
    → ((k : ℕ) (d : TcamRow) → at ≤ k → k < length rows → block * 2048 + row ≤ trow_number (get_or rows k d))
    → ((d : TcamRow) → at < length rows → trow_number (get_or rows at d) ≡ block * 2048 + row → ⊥) → 0 ≡ tcam_row val rows block row
trow-none val rows at block row rise below above other =
    none-numbered (λ (r : TcamRow). r.block) (λ (r : TcamRow). r.row) val trow_number 2048 rows at block row (λ r. refl) rise below above other
