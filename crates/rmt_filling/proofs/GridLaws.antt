-- The rows of blocks in one list.
use Rattle.std.proofs.lemmas.Bool.Decides.{nat_tests}
use Rattle.std.proofs.Common.{◌≡◌, ℕ, ◌+◌, ◌*◌, ◌<◌, ◌≤◌, List, length, get_or, set, cond, sym, ap, ◌∙◌, arith, inl, inr}
use Rattle.std.proofs.lemmas.Bool.{cases_lt, lt-ltb, le-ltb}
use Rattle.std.proofs.lemmas.List.{get_or-set_same, get_or-set_other, get_or_past}
use Rattle.std.proofs.lemmas.Nat.{same_from_place, mul-le}
use Rattle.rmt_filling.specs.Listing.{row_in}

pub row_in-low : (size : ℕ) (xs : List ℕ) (block row : ℕ) → row < size → row_in size xs block row ≡ get_or xs (block * size + row) 0
row_in-low size xs block row lt = ap (λ b. cond b (get_or xs (block * size + row) 0) 0) (lt-ltb row size lt)

pub row_in-high : (size : ℕ) (xs : List ℕ) (block row : ℕ) → size ≤ row → row_in size xs block row ≡ 0
row_in-high size xs block row le = ap (λ b. cond b (get_or xs (block * size + row) 0) 0) (le-ltb row size le)

pub row_in-none : (size : ℕ) (xs : List ℕ) (block row : ℕ) → ((k : ℕ) → get_or xs k 0 ≡ 0) → row_in size xs block row ≡ 0
row_in-none size xs block row none = let here = none (block * size + row) in grind (arith, nat_tests, here)

-- blocks behind the last
pub row_in-past : (size many : ℕ) (xs : List ℕ) (block row : ℕ) → length xs ≡ many * size → many ≤ block → row_in size xs block row ≡ 0
row_in-past size many xs block row whole past =
    elim (cases_lt row size) as (λ _. row_in size xs block row ≡ 0) [
      | inl lt ↦
          let le = mul-le many size block size past (omega arith) in
          row_in-low size xs block row lt ∙ get_or_past xs (block * size + row) 0 (omega (arith, le, whole))
      | inr le ↦ row_in-high size xs block row le
    ]

pub row_in-set_same : (size : ℕ) (xs : List ℕ) (block row x : ℕ) → row < size → block * size + row < length xs → row_in size (set xs (block * size + row) x) block row ≡ x
row_in-set_same size xs block row x lt there = row_in-low size (set xs (block * size + row) x) block row lt ∙ get_or-set_same xs (block * size + row) x 0 there

pub row_in-set_other : (size : ℕ) (xs : List ℕ) (block row x b r : ℕ) → row < size → (b ≡ block → r ≡ row → ⊥) → row_in size (set xs (block * size + row) x) b r ≡ row_in size xs b r
row_in-set_other size xs block row x b r lt other =
    elim (cases_lt r size) as (λ _. row_in size (set xs (block * size + row) x) b r ≡ row_in size xs b r) [
      | inl low ↦
          row_in-low size (set xs (block * size + row) x) b r low
          ∙ get_or-set_other xs (block * size + row) (b * size + r) x 0 (λ e. let same = same_from_place b r block row size low lt e in other same.0 same.1)
          ∙ sym (row_in-low size xs b r low)
      | inr high ↦ row_in-high size (set xs (block * size + row) x) b r high ∙ sym (row_in-high size xs b r high)
    ]
