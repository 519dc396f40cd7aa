-- Cells that are all free: each is linked to the next.
use Rattle.std.proofs.Common.{◌≡◌, ℕ, zero, suc, ◌+◌, ◌<◌, ◌≤◌, List, [], ◌∷◌, ◌++◌, Bool, cond, eqb, length, get_or, refl, ap, ◌∙◌, ⊎_elim, arith}
use Rattle.std.proofs.lemmas.Bool.{cases_eq, eq-eqb, ne_eqb}
use Rattle.std.proofs.lemmas.List.FromFn.{get_or-range_with_len, length-range_with_len}
use Rattle.std.specs.List.{range_with_len}
use Rattle.rmt_cells.specs.declared.cells.Cells.{Cells}
use Rattle.rmt_cells.specs.Links.{walk, times}
use Rattle.rmt_cells.specs.Stands.{Stands, free_cells, held_cells}
use Rattle.rmt_cells.proofs.Walks.{times_append, times_cons}

-- a walk over such links comes to one number after the other
walk_row : (n a k : ℕ) → a + k ≤ n → walk (range_with_len 1 n) a k ≡ range_with_len a k
walk_row n a zero le = refl
walk_row n a (suc k) le =
    let next : 1 + a ≡ a + 1 = omega arith in
    let step : get_or (range_with_len 1 n) a 0 ≡ a + 1 = get_or-range_with_len 1 n a 0 (omega arith) ∙ next in
    ap (λ (cells : List ℕ). a ∷ cells) (ap (λ (cell : ℕ). walk (range_with_len 1 n) cell k) step ∙ walk_row n (a + 1) k (omega arith))

times_other : (cell x : ℕ) (xs : List ℕ) → (x ≡ cell → ⊥) → times cell (x ∷ xs) ≡ times cell xs
times_other cell x xs other =
    let none : ◌≡◌ {A = ℕ} (cond (eqb x cell) 1 0) 0 = ap (λ (b : Bool). cond b 1 0) (ne_eqb x cell other) in
    omega (arith, times_cons cell x xs, none)

times_same : (cell x : ℕ) (xs : List ℕ) → x ≡ cell → times cell (x ∷ xs) ≡ times cell xs + 1
times_same cell x xs same =
    let one : ◌≡◌ {A = ℕ} (cond (eqb x cell) 1 0) 1 = ap (λ (b : Bool). cond b 1 0) (eq-eqb x cell same) in
    omega (arith, times_cons cell x xs, one)

pub times_before : (cell a k : ℕ) → cell < a → times cell (range_with_len a k) ≡ 0
times_before cell a zero lt = refl
times_before cell a (suc k) lt = times_other cell a (range_with_len (a + 1) k) (λ same. omega arith) ∙ times_before cell (a + 1) k (omega arith)

times_past : (cell a k : ℕ) → a + k ≤ cell → times cell (range_with_len a k) ≡ 0
times_past cell a zero le = refl
times_past cell a (suc k) le = times_other cell a (range_with_len (a + 1) k) (λ same. omega arith) ∙ times_past cell (a + 1) k (omega arith)

times_within : (cell a k : ℕ) → a ≤ cell → cell < a + k → times cell (range_with_len a k) ≡ 1
times_within cell a zero le lt = absurd (omega arith)
times_within cell a (suc k) le lt =
    ⊎_elim
    (λ (same : a ≡ cell).
    let rest = times_before cell (a + 1) k (omega arith) in
    omega (arith, times_same cell a (range_with_len (a + 1) k) same, rest))
    (λ (other : a ≡ cell → ⊥).
    let later : a + 1 ≤ cell = omega (arith, other) in
    times_other cell a (range_with_len (a + 1) k) other ∙ times_within cell (a + 1) k later (omega arith))
    (cases_eq a cell)

module _ (n : ℕ) (s : Cells) (links : s.links.items ≡ range_with_len 1 n) (blocks : length s.blocks.items ≡ n) (first : s.first ≡ 0) (free : s.free ≡ n) (few : n ≤ 65536) where
  row : free_cells s ≡ range_with_len 0 n
  row =
      ap (λ (ls : List ℕ). walk ls s.first s.free) links ∙ ap (λ (cell : ℕ). walk (range_with_len 1 n) cell s.free) first
      ∙ ap (λ (k : ℕ). walk (range_with_len 1 n) 0 k) free ∙ walk_row n 0 n (omega arith)

  times_row : (cell : ℕ) → times cell (free_cells s ++ held_cells s.links.items []) ≡ times cell (range_with_len 0 n)
  times_row cell =
      let all = times_append cell (free_cells s) (held_cells s.links.items []) in
      let here = ap (times cell) row in
      let none : times cell (held_cells s.links.items []) ≡ 0 = refl in
      omega (arith, all, here, none)

  pub fresh : Stands n [] s
  fresh = record {
    links = ap length links ∙ length-range_with_len 1 n;
    blocks = blocks;
    few = few;
    once = λ cell lt. times_row cell ∙ times_within cell 0 n (omega arith) (omega arith);
    within = λ cell past. times_row cell ∙ times_past cell 0 n (omega arith);
    all = omega (arith, free);
    holds = λ h there. absurd (omega (arith, there.1));
  }
