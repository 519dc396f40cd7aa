-- What is read of a cell is what it holds.
use Rattle.std.proofs.Common.{◌≡◌, ℕ, ◌+◌, ◌*◌, ◌/◌, ◌%◌, ◌^◌, ◌<◌, ◌≤◌, List, [], ◌∷◌, ◌++◌, length, map, ◌&&◌, ◌==◌, sym, ap, ◌∙◌, subst, arith}
use Rattle.std.specs.Prelude.{All}
use Rattle.rmt_bits.specs.Bits.{bytes_of, number_of, slice}
use Rattle.rmt_bits.proofs.BitLaws.{slice-whole}
use Rattle.rmt_bits.proofs.ByteLaws.{length-bytes_of, number_of_push}
use Rattle.rmt_config.specs.declared.config.TcamRow.{TcamRow}
use Rattle.rmt_config.specs.Cells.{Blocks, tcam_row, unit_row}
use Rattle.rmt_config.specs.BlockCounts.{divided_up}
use Rattle.rmt_config.proofs.CellLayouts.{up-least}
use Rattle.rmt_config.proofs.UnitBits.{Within}
use Rattle.rmt_book.specs.Words.{joined}
use Rattle.rmt_book.proofs.WordLaws.{joined-unit}
use Rattle.rmt_bits.proofs.FindLaws.{found-lt}
use Rattle.rmt_config.proofs.LayoutLaws.{bytes_hold}

-- ---- bytes of a number

pub bytes-few : (bits y : ℕ) (bytes : List ℕ) → bytes ≡ bytes_of (divided_up bits 8) y → bits < 65536 → length bytes ≤ 8192
bytes-few bits y bytes is few =
    let least = up-least bits 8 (omega arith) in
    let e = ap (λ (bs : List ℕ). length bs) is ∙ length-bytes_of (divided_up bits 8) y in
    omega (arith, e, least, few)

-- what the bytes of an entry say, of which the last one is its head
pub headed : (bytes rest : List ℕ) (head n v : ℕ) → v < 2 ^ n → head < 256 → bytes ≡ bytes_of (divided_up n 8) v → bytes ≡ rest ++ head ∷ [] → (head ≡ v % 256) × (number_of rest ≡ v / 256)
headed bytes rest head n v lt low is split =
    let all : v ≡ 256 * number_of rest + head = sym (bytes_hold n v lt) ∙ ap number_of (sym is ∙ split) ∙ number_of_push rest head in
    (omega (arith, all, low), omega (arith, all, low))

-- the bytes of a row of blocks side by side
pub row-kept : (held : Blocks) (row : ℕ) (blocks blocks' words bytes : List ℕ) (bits : ℕ) → words ≡ map (λ b. held b row) blocks' → blocks' ≡ blocks → unit_row 40 held row blocks < 2 ^ bits
    → bytes ≡ bytes_of (divided_up bits 8) (slice (joined 40 words) 0 bits) → number_of bytes ≡ unit_row 40 held row blocks
row-kept held row blocks blocks' words bytes bits are same lt is =
    let x = unit_row 40 held row blocks in
    let here : joined 40 words ≡ x = ap (joined 40) are ∙ joined-unit 40 held row blocks' ∙ ap (unit_row 40 held row) same in
    ap number_of is ∙ ap (λ n. number_of (bytes_of (divided_up bits 8) (slice n 0 bits))) here
    ∙ ap (λ n. number_of (bytes_of (divided_up bits 8) n)) (slice-whole x bits lt) ∙ bytes_hold bits x lt

-- ---- rows of TCAM

pub tcam-within : (val : TcamRow → ℕ) (rows : List TcamRow) → All (λ (r : TcamRow). val r < 2 ^ 40) rows → Within 40 (tcam_row val rows)
tcam-within val rows all block row = found-lt (λ (r : TcamRow). (r.block == block) && (r.row == row)) val (2 ^ 40) rows (omega arith) all

pub values-small : (rows : List TcamRow) → All (λ (r : TcamRow). r.value ≤ r.mask) rows → All (λ (r : TcamRow). r.mask < 2 ^ 40) rows → All (λ (r : TcamRow). r.value < 2 ^ 40) rows
values-small rows within masks k d lt = let a = within k d lt in let b = masks k d lt in omega arith
