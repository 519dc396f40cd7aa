-- The rows of blocks in one list.
use Rattle.std.proofs.Common.{◌≡◌, ℕ, ◌+◌, ◌*◌, ◌^◌, ◌<◌, ◌≤◌, List, length, get_or, set, cond, ltb, sym, ap, ◌∙◌, subst, inl, inr}
use Rattle.std.specs.Prelude.{All}
use Rattle.std.proofs.lemmas.Bool.{cases_lt, lt-ltb, le-ltb}
use Rattle.std.proofs.lemmas.List.{get_or_read, get_or-set_same, get_or-set_other}
use Rattle.std.proofs.Math.ListN.{get_or-eq_default}
use Rattle.std.proofs.lemmas.Nat.{same_from_place, pow_pos}
use Rattle.rmt_config.proofs.UnitBits.{Within}
use Rattle.rmt_pack.specs.declared.rows.Rows.{Rows}
use Rattle.rmt_pack.specs.Rows.{blocks_of}

-- what is read of a row of a block, where each block has so many rows
pub row_read : (size : ℕ) (xs : List ℕ) (block row got : ℕ) → row < size → block * size + row < length xs
    → got ≡ get_or xs (block * size + row) got → got ≡ cond (ltb row size) (get_or xs (block * size + row) 0) 0
row_read size xs block row got lt there is =
    get_or_read xs (block * size + row) got there is 0 ∙ sym (ap (λ b. cond b (get_or xs (block * size + row) 0) 0) (lt-ltb row size lt))

abbrev pub row_at : List ℕ → ℕ → ℕ → ℕ
row_at xs block row = cond (ltb row 1024) (get_or xs (block * 1024 + row) 0) 0

pub row_at-low : (xs : List ℕ) (block row : ℕ) → row < 1024 → row_at xs block row ≡ get_or xs (block * 1024 + row) 0
row_at-low xs block row lt = ap (λ b. cond b (get_or xs (block * 1024 + row) 0) 0) (lt-ltb row 1024 lt)

pub row_at-high : (xs : List ℕ) (block row : ℕ) → 1024 ≤ row → row_at xs block row ≡ 0
row_at-high xs block row le = ap (λ b. cond b (get_or xs (block * 1024 + row) 0) 0) (le-ltb row 1024 le)

pub row_at-none : (xs : List ℕ) (block row : ℕ) → ((k : ℕ) → get_or xs k 0 ≡ 0) → row_at xs block row ≡ 0
row_at-none xs block row none =
    elim (cases_lt row 1024) as (λ _. row_at xs block row ≡ 0) [
      | inl lt ↦ row_at-low xs block row lt ∙ none (block * 1024 + row)
      | inr le ↦ row_at-high xs block row le
    ]

pub row_at-lt : (xs : List ℕ) (block row : ℕ) → All (λ x. x < 2 ^ 112) xs → row_at xs block row < 2 ^ 112
row_at-lt xs block row small =
    elim (cases_lt row 1024) as (λ _. row_at xs block row < 2 ^ 112) [
      | inl lt ↦ subst (λ n. n < 2 ^ 112) (sym (row_at-low xs block row lt)) (item (block * 1024 + row))
      | inr le ↦ subst (λ n. n < 2 ^ 112) (sym (row_at-high xs block row le)) (pow_pos 112)
    ]
  where
    item : (k : ℕ) → get_or xs k 0 < 2 ^ 112
    item k =
        elim (cases_lt k (length xs)) as (λ _. get_or xs k 0 < 2 ^ 112) [
          | inl lt ↦ small k 0 lt
          | inr le ↦ subst (λ n. n < 2 ^ 112) (sym (get_or-eq_default xs 0 le)) (pow_pos 112)
        ]

pub row_at-set_same : (xs : List ℕ) (block row x : ℕ) → row < 1024 → block * 1024 + row < length xs → row_at (set xs (block * 1024 + row) x) block row ≡ x
row_at-set_same xs block row x lt there = row_at-low (set xs (block * 1024 + row) x) block row lt ∙ get_or-set_same xs (block * 1024 + row) x 0 there

pub row_at-set_other : (xs : List ℕ) (block row x b r : ℕ) → row < 1024 → (b ≡ block → r ≡ row → ⊥) → row_at (set xs (block * 1024 + row) x) b r ≡ row_at xs b r
row_at-set_other xs block row x b r lt other =
    elim (cases_lt r 1024) as (λ _. row_at (set xs (block * 1024 + row) x) b r ≡ row_at xs b r) [
      | inl low ↦
          row_at-low (set xs (block * 1024 + row) x) b r low
          ∙ get_or-set_other xs (block * 1024 + row) (b * 1024 + r) x 0 (λ e. let same = same_from_place b r block row 1024 low lt e in other same.0 same.1)
          ∙ sym (row_at-low xs b r low)
      | inr high ↦ row_at-high (set xs (block * 1024 + row) x) b r high ∙ sym (row_at-high xs b r high)
    ]

-- each row has 112 bits
pub blocks-within : (rows : Rows) → Within 112 (blocks_of rows)
unfolding blocks_of
blocks-within rows block row = row_at-lt rows.bits.items block row rows.within
