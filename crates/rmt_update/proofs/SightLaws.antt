-- What a version sees of a kept cell is what its packets see of the cell itself.
use Rattle.std.proofs.Common.{◌≡◌, ℕ, ◌+◌, ◌/◌, ◌%◌, ◌^◌, ◌<◌, ◌==◌, ◌&&◌, true, inl, inr, sym, ap, ◌∙◌, arith}
use Rattle.std.proofs.lemmas.Bool.{cases_lt}
use Rattle.rmt_config.specs.declared.config.CellNumber.{CellNumber}
use Rattle.rmt_config.specs.declared.config.Memory.{Memory}
use Rattle.rmt_config.specs.Cells.{Content, is_occupied}
use Rattle.rmt_config.specs.RunCells.{has_bit, sees}
use Rattle.rmt_book.specs.declared.kept.Kept.{Kept}
use Rattle.rmt_book.specs.Kept.{IsKept}
use Rattle.rmt_book.specs.Seen.{is_seen}

-- the visible bit of a parity
bit-of : (head parity : ℕ) (k : Kept) → parity < 2 → k.visible ≡ head / 2 % 4 → is_seen (parity == 1) k ≡ (head / 2 ^ (1 + parity) % 2 == 1)
bit-of head parity k lt is =
    elim (cases_lt parity 1) as (λ _. is_seen (parity == 1) k ≡ (head / 2 ^ (1 + parity) % 2 == 1)) [
      | inl low ↦
          let none : parity ≡ 0 = omega (arith, low) in
          let same : k.visible / 1 % 2 ≡ head / 2 % 2 = omega (arith, is) in
          ap (λ r. is_seen (r == 1) k) none ∙ ap (λ v. v == 1) same ∙ ap (λ r. head / 2 ^ (1 + r) % 2 == 1) (sym none)
      | inr high ↦
          let one : parity ≡ 1 = omega (arith, lt, high) in
          let same : k.visible / 2 % 2 ≡ head / 4 % 2 = omega (arith, is) in
          ap (λ r. is_seen (r == 1) k) one ∙ ap (λ v. v == 1) same ∙ ap (λ r. head / 2 ^ (1 + r) % 2 == 1) (sym one)
    ]

-- of an occupied cell with names
pub seen-as-packets : (version bits : ℕ) (m : Memory) (x : Content) (n : CellNumber) (k : Kept) → is_occupied x.head ≡ true → IsKept bits m x n k
    → is_seen (version % 2 == 1) k ≡ sees true version x.head
seen-as-packets version bits m x n k occupied kept =
    bit-of x.head (version % 2) k (omega arith) kept.visible ∙ ap (λ b. b && has_bit version x.head) (sym occupied)
