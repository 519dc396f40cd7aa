-- A test of bits that may be set, which computes on rows that are written out.
use Rattle.std.proofs.Common.{◌≡◌, ℕ, zero, suc, ◌+◌, ◌*◌, ◌/◌, ◌%◌, ◌<◌, List, length, get_or, Bool, true, ◌&&◌, ◌||◌, not, eqb, ap, ◌∙◌, arith, inl, inr}
use Rattle.std.specs.Prelude.{IsTrue}
use Rattle.std.specs.List.{list_all}
use Rattle.std.specs.Int.{bit_at}
use Rattle.std.proofs.lemmas.Bool.{and_parts, or_cases, cases_eq, both_ways, not-true, eq-eqb, eqb-true}
use Rattle.std.proofs.lemmas.List.Sums.{AllPass-from_list_all}
use Rattle.rmt_config.specs.declared.form.layout.CellLayout.{CellLayout}
use Rattle.rmt_config.specs.Layouts.{is_told, BlocksTold}
use Rattle.rmt_config.proofs.UnitBits.{one_is_not_zero}

-- what passes at each number below one
abbrev pub all_below : (ℕ → Bool) → ℕ → Bool
all_below p zero = true
all_below p (suc n) = p n && all_below p n

below-at : (p : ℕ → Bool) (n k : ℕ) → all_below p n ≡ true → k < n → p k ≡ true
below-at p zero k h lt = absurd (omega (arith, lt))
below-at p (suc n) k h lt =
    let parts = and_parts (p n) (all_below p n) h in
    elim (cases_eq k n) as (λ _. p k ≡ true) [
      | inl same ↦ ap p same ∙ parts.0
      | inr other ↦ below-at p n k parts.1 (omega (arith, lt, other))
    ]

abbrev pub row_test : CellLayout → List ℕ → ℕ → ℕ → ℕ → ℕ → Bool
row_test l cells unit place row bits =
    all_below (λ t. eqb (bit_at bits t) 0 || is_told l cells unit row ((place * l.bits + t) / l.entry)) l.bits

abbrev pub blocks_test : {X : Type 0} → CellLayout → (X → ℕ) → (X → ℕ) → (X → ℕ) → List ℕ → List X → List ℕ → Bool
blocks_test l block row bits cells rows blocks =
    all_below (λ j. list_all (λ x. not (eqb (block x) (get_or blocks j 0)) || row_test l cells (j / l.side) (j % l.side) (row x) (bits x)) rows) (length blocks)

pub told-from_test : {X : Type 0} (l : CellLayout) (block row bits : X → ℕ) (cells : List ℕ) (rows : List X) (blocks : List ℕ)
    → blocks_test l block row bits cells rows blocks ≡ true → BlocksTold l block row bits cells rows blocks
told-from_test {X} l block row bits cells rows blocks h j lt k d ltk e t small one =
    elim (or_cases (not (eqb (block x) (get_or blocks j 0))) (row_test l cells (j / l.side) (j % l.side) (row x) (bits x)) here) as (λ _. Told) [
      | inl other ↦ absurd (both_ways (eqb (block x) (get_or blocks j 0)) (not-true (eqb (block x) (get_or blocks j 0)) other) (eq-eqb (block x) (get_or blocks j 0) e))
      | inr same ↦ bit same
    ]
  where
    x : X
    x = get_or rows k d

    Told : Type 0
    Told = IsTrue (is_told l cells (j / l.side) (row x) ((j % l.side * l.bits + t) / l.entry))

    here : (not (eqb (block x) (get_or blocks j 0)) || row_test l cells (j / l.side) (j % l.side) (row x) (bits x)) ≡ true
    here =
        AllPass-from_list_all (λ x. not (eqb (block x) (get_or blocks j 0)) || row_test l cells (j / l.side) (j % l.side) (row x) (bits x)) rows
        (below-at (λ j. list_all (λ x. not (eqb (block x) (get_or blocks j 0)) || row_test l cells (j / l.side) (j % l.side) (row x) (bits x)) rows) (length blocks) j h lt)
        k d ltk

    bit : row_test l cells (j / l.side) (j % l.side) (row x) (bits x) ≡ true → Told
    bit same =
        elim (or_cases (eqb (bit_at (bits x) t) 0) (is_told l cells (j / l.side) (row x) ((j % l.side * l.bits + t) / l.entry))
        (below-at (λ t. eqb (bit_at (bits x) t) 0 || is_told l cells (j / l.side) (row x) ((j % l.side * l.bits + t) / l.entry)) l.bits t same small)) as (λ _. Told) [
          | inl none ↦ absurd (one_is_not_zero (bit_at (bits x) t) (eqb-true (bit_at (bits x) t) 0 none) one)
          | inr told ↦ told
        ]
