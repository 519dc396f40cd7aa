-- What a cell holds is told by what is kept of it, and a changed cell that is to hold what is kept holds just that.
use Rattle.std.proofs.Common.{◌≡◌, ◌≢◌, ℕ, ◌+◌, ◌*◌, ◌%◌, cond, Option, Some, None, refl, sym, ap, ◌∙◌, arith}
use Rattle.std.proofs.lemmas.Bool.{eqb-true, ne_eqb}
use Rattle.rmt_bits.specs.Bits.{number_of}
use Rattle.rmt_config.specs.declared.config.CellNumber.{CellNumber}
use Rattle.rmt_config.specs.Cells.{Content}
use Rattle.rmt_config.specs.LaneForm.{bits_of_lanes}
use Rattle.rmt_config.specs.Rooms.{PartAt}
use Rattle.rmt_config.specs.RunCells.{emptied, written_content, written_mask}
use Rattle.rmt_book.specs.declared.kept.Kept.{Kept}
use Rattle.rmt_update.specs.BookStands.{IsKeptOf}
use Rattle.rmt_book.specs.Coming.{empty_write, kept_write}

-- what a cell of a part holds of which this is kept
abbrev pub kept_content : PartAt → Option Kept → Content
kept_content p None = emptied p.slot
kept_content p (Some k) = record {
  head = 1 + 2 * k.visible + 8 * k.code;
  key = number_of k.key.items;
  mask = written_mask (bits_of_lanes p.slot.keys) p.slot.memory k.mask.items;
  held = number_of k.held.items;
}

-- and its number
abbrev pub kept_number : Option Kept → ℕ
kept_number None = 0
kept_number (Some k) = k.number

pub content-is : (seed : ℕ) (p : PartAt) (x : Content) (n : CellNumber) (o : Option Kept) → IsKeptOf seed p x n o → x ≡ kept_content p o
content-is seed p x n None h = h.0
content-is seed p x n (Some k) h =
    let occupied : x.head % 2 ≡ 1 = eqb-true (x.head % 2) 1 h.0 in
    let visible = h.1.visible in
    let code = h.1.code in
    let head : x.head ≡ 1 + 2 * k.visible + 8 * k.code = omega (arith, occupied, visible, code) in
    ap (λ m. record { head = m; key = x.key; mask = x.mask; held = x.held }) head
    ∙ ap (λ m. record { head = 1 + 2 * k.visible + 8 * k.code; key = m; mask = x.mask; held = x.held }) (sym h.1.key)
    ∙ ap (λ m. record { head = 1 + 2 * k.visible + 8 * k.code; key = number_of k.key.items; mask = m; held = x.held }) (sym h.1.mask)
    ∙ ap (λ m. record { head = 1 + 2 * k.visible + 8 * k.code; key = number_of k.key.items; mask = written_mask (bits_of_lanes p.slot.keys) p.slot.memory k.mask.items; held = m }) (sym h.1.held)

pub number-is : (seed : ℕ) (p : PartAt) (x : Content) (n : CellNumber) (o : Option Kept) → IsKeptOf seed p x n o → n.number ≡ kept_number o
number-is seed p x n None h = h.1
number-is seed p x n (Some k) h = sym h.1.number

-- a changed cell of a part
pub written-is : (p : PartAt) (stage place : ℕ) (k : Kept) → k.visible ≢ 0 → written_content (kept_write stage place k.visible k) p.slot ≡ kept_content p (Some k)
written-is p stage place k seen = ap (λ b. cond b (emptied p.slot) (kept_content p (Some k))) (ne_eqb k.visible 0 seen)

pub empty-is : (p : PartAt) (stage place cell : ℕ) → written_content (empty_write stage place cell) p.slot ≡ kept_content p None
empty-is p stage place cell = refl
