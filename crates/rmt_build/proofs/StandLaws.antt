-- Entries that stand each in one cell of their table: which of them stand in a part.
use Rattle.std.proofs.Common.{◌≡◌, ℕ, zero, suc, ◌+◌, ◌-◌, ◌<◌, ◌≤◌, ◌&&◌, ◌==◌, true, false, List, [], ◌∷◌, map, refl, sym, ap, ◌∙◌, subst, inl, inr, arith}
use Rattle.std.specs.Prelude.{AllPairs, Contains, filter, nat_le, nat_lt}
use Rattle.std.specs.List.{IsDistinct, range_with_len}
use Rattle.std.proofs.lemmas.Bool.{and_parts, both_ways, cases_lt, eq-eqb, le-leb, leb-true, lt-ltb, ltb-true, ne_eqb}
use Rattle.std.proofs.lemmas.List.Elements.{All-from_recursion, All-contains}
use Rattle.std.proofs.lemmas.List.Sorted.{All-permutation, Contains-permutation}
use Rattle.std.proofs.lemmas.Map.Keys.{IsDistinct-IsPermutation, IsDistinct-from_apart, IsDistinct-head, IsDistinct-tail}
use Rattle.rmt_bits.proofs.AllLaws.{All-range}
use Rattle.rmt_build.specs.Types.{Kind}
use Rattle.rmt_ast.specs.declared.program.Kind.TheVariants.{Keyless, Exact, Prefix, Ternary}
use Rattle.rmt_pack.specs.declared.placement.Part.{Part}
use Rattle.rmt_pack.specs.Placements.{quanta_in}
use Rattle.rmt_pack.proofs.BlockLaws.{range-apart}
use Rattle.rmt_pack.proofs.FindLaws.{Contains-range}
use Rattle.rmt_filling.specs.declared.stands.Stand.{Stand}
use Rattle.rmt_build.specs.Plans.{quanta_before}
use Rattle.rmt_filling.specs.EntryCells.{StandOnce, cells_for, counted_from, stands_there, stands_within}
use Rattle.rmt_build.proofs.PartLaws.{quanta_more}
use Rattle.rmt_bits.proofs.MemberLaws.{Contains-unmap, Contains-map, Contains-split, Contains-filter, Contains-unfilter}
use Rattle.rmt_bits.proofs.OptionLaws.{eqb-sym}

-- ---- each entry once

range_distinct : (n : ℕ) → IsDistinct (λ x y. x == y) (range_with_len 0 n)
range_distinct n = IsDistinct-from_apart (λ x y. x == y) (range_with_len 0 n) (λ i j d lt inside. ne_eqb _ _ (range-apart 0 n i j d lt inside))

first_other : (x y : Stand) (xs : List Stand) → IsDistinct (λ a b. a == b) (map (λ (s : Stand). s.entry) (x ∷ xs)) → Contains xs y → x.entry ≡ y.entry → ⊥
first_other x y xs distinct there e =
    let apart = All-from_recursion (λ m. (x.entry == m) ≡ false) (map (λ (s : Stand). s.entry) xs)
    (IsDistinct-head (λ a b. a == b) x.entry (map (λ (s : Stand). s.entry) xs) distinct) in
    both_ways (x.entry == y.entry)
    (All-contains (λ m. (x.entry == m) ≡ false) (map (λ (s : Stand). s.entry) xs) y.entry apart (Contains-map (λ (s : Stand). s.entry) xs y there)) (eq-eqb x.entry y.entry e)

same_stand : (xs : List Stand) (a b : Stand) → IsDistinct (λ x y. x == y) (map (λ (s : Stand). s.entry) xs) → Contains xs a → Contains xs b → a.entry ≡ b.entry → a ≡ b
same_stand [] a b distinct in_a in_b e = absurd (let lt = in_a.1 in omega (arith, lt))
same_stand (x ∷ xs) a b distinct in_a in_b e = elim (Contains-split x xs a in_a) [
  | inl first_a ↦ elim (Contains-split x xs b in_b) [
    | inl first_b ↦ sym first_a ∙ first_b
    | inr later_b ↦ absurd (first_other x b xs distinct later_b (ap (λ (s : Stand). s.entry) first_a ∙ e))
  ]
  | inr later_a ↦ elim (Contains-split x xs b in_b) [
    | inl first_b ↦ absurd (first_other x a xs distinct later_a (ap (λ (s : Stand). s.entry) first_b ∙ sym e))
    | inr later_b ↦ same_stand xs a b (IsDistinct-tail (λ m n. m == n) x.entry (map (λ (s : Stand). s.entry) xs) distinct) later_a later_b e
  ]
]

module _ (count : ℕ) (own : List Stand) (once : StandOnce count own) where
  pub entry_there : (i : ℕ) → i < count → (s : Stand) × Contains own s × (s.entry ≡ i)
  entry_there i lt =
      Contains-unmap (λ (s : Stand). s.entry) own i
      (Contains-permutation (range_with_len 0 count) (map (λ (s : Stand). s.entry) own) i once.each (Contains-range count i lt))

  pub entry_within : (s : Stand) → Contains own s → s.entry < count
  entry_within s there =
      let all = All-range (λ x. x < count) 0 count (λ w lt. omega (arith, lt)) in
      let entries = All-permutation (λ x. x < count) (range_with_len 0 count) (map (λ (x : Stand). x.entry) own) once.each all in
      All-contains (λ x. x < count) (map (λ (x : Stand). x.entry) own) s.entry entries (Contains-map (λ (x : Stand). x.entry) own s there)

  pub one_stand : (a b : Stand) → Contains own a → Contains own b → a.entry ≡ b.entry → a ≡ b
  one_stand a b in_a in_b e =
      same_stand own a b
      (IsDistinct-IsPermutation (λ x y. x == y) eqb-sym (range_with_len 0 count) (map (λ (s : Stand). s.entry) own) once.each (range_distinct count)) in_a in_b e

  -- two that stand in one cell are one
  pub one_cell : (a b : Stand) → Contains own a → Contains own b → a.cell ≡ b.cell → a ≡ b
  one_cell a b in_a in_b e = rising_same own a b once.rise in_a in_b e
    where
      later_apart : (x y : Stand) (xs : List Stand) → AllPairs (λ (s r : Stand). s.cell < r.cell) (x ∷ xs) → Contains xs y → x.cell < y.cell
      later_apart x y xs rise there =
          All-contains (λ (r : Stand). x.cell < r.cell) xs y (λ k d lt. rise 0 (suc k) d (omega arith) (omega (arith, lt))) there

      rising_same : (xs : List Stand) (s r : Stand) → AllPairs (λ (u v : Stand). u.cell < v.cell) xs → Contains xs s → Contains xs r → s.cell ≡ r.cell → s ≡ r
      rising_same [] s r rise in_s in_r same = absurd (let lt = in_s.1 in omega (arith, lt))
      rising_same (x ∷ xs) s r rise in_s in_r same = elim (Contains-split x xs s in_s) [
        | inl first_s ↦ elim (Contains-split x xs r in_r) [
          | inl first_r ↦ sym first_s ∙ first_r
          | inr later_r ↦
              let here : x.cell ≡ s.cell = ap (λ (u : Stand). u.cell) first_s in
              absurd (omega (arith, later_apart x r xs rise later_r, here, same))
        ]
        | inr later_s ↦ elim (Contains-split x xs r in_r) [
          | inl first_r ↦
              let here : x.cell ≡ r.cell = ap (λ (u : Stand). u.cell) first_r in
              absurd (omega (arith, later_apart x s xs rise later_s, here, same))
          | inr later_r ↦ rising_same xs s r (λ i j d lt inside. rise (suc i) (suc j) d (omega (arith, lt)) (omega (arith, inside))) later_s later_r same
        ]
      ]

-- ---- a part

pub within_from : (first cells : ℕ) (own : List Stand) (y : Stand) → Contains (stands_within first cells own) y
    → (s : Stand) × Contains own s × (s.entry ≡ y.entry) × (s.cell ≡ first + y.cell) × (y.cell < cells)
within_from first cells own y there =
    let found = Contains-unmap (counted_from first) (filter (stands_there first cells) own) y there in
    let s = found.0 in
    let kept = Contains-unfilter (stands_there first cells) own s found.1 in
    let both = and_parts (nat_le first s.cell) (nat_lt s.cell (first + cells)) kept.1 in
    let low = leb-true first s.cell both.0 in
    let high = ltb-true s.cell (first + cells) both.1 in
    let cell : s.cell - first ≡ y.cell = ap (λ (x : Stand). x.cell) found.2 in
    (s, kept.0, ap (λ (x : Stand). x.entry) found.2, omega (arith, low, cell), omega (arith, low, high, cell))

pub within_to : (first cells : ℕ) (own : List Stand) (s : Stand) (cell : ℕ) → Contains own s → s.cell ≡ first + cell → cell < cells
    → Contains (stands_within first cells own) (record { cell = cell; entry = s.entry })
within_to first cells own s cell there is lt =
    let low : nat_le first s.cell ≡ true = le-leb first s.cell (omega (arith, is)) in
    let high : nat_lt s.cell (first + cells) ≡ true = lt-ltb s.cell (first + cells) (omega (arith, is, lt)) in
    let both : stands_there first cells s ≡ true = ap (λ b. b && nat_lt s.cell (first + cells)) low ∙ high in
    let own_there = Contains-map (counted_from first) (filter (stands_there first cells) own) s (Contains-filter (stands_there first cells) own s there both) in
    let moved : s.cell - first ≡ cell = omega (arith, is) in
    subst (λ c. Contains (stands_within first cells own) (record { cell = c; entry = s.entry })) moved own_there

-- ---- cells of quanta

pub cells_add : (kind : Kind) (per a b : ℕ) → cells_for kind per (a + b) ≡ cells_for kind per a + cells_for kind per b
cells_add Keyless per a b = refl
cells_add Exact per a b = omega arith
cells_add Prefix per a b = omega arith
cells_add Ternary per a b = omega arith

module _ (kind : Kind) (per : ℕ) (parts : List Part) (n : ℕ) where
  -- the number of the first cell of the part in stage k, over the whole table, and how many it has
  abbrev pub first_cell : ℕ → ℕ
  first_cell k = cells_for kind per (quanta_before parts n k)

  abbrev pub part_cells : ℕ → ℕ
  part_cells k = cells_for kind per (quanta_in parts n k)

  first_next : (k : ℕ) → first_cell (k + 1) ≡ first_cell k + part_cells k
  first_next k = ap (cells_for kind per) (quanta_more parts n k) ∙ cells_add kind per (quanta_before parts n k) (quanta_in parts n k)

  first_rises : (d k : ℕ) → first_cell k ≤ first_cell (k + d)
  first_rises zero k = let e : k + 0 ≡ k = omega arith in subst (λ j. first_cell k ≤ first_cell j) (sym e) (omega arith)
  first_rises (suc d) k =
      let e : k + d + 1 ≡ k + suc d = omega arith in
      subst (λ j. first_cell k ≤ first_cell j) e (omega (arith, first_rises d k, first_next (k + d)))

  -- a cell lies in one part
  pub behind_parts : (j k : ℕ) → j < k → first_cell j + part_cells j ≤ first_cell k
  behind_parts j k lt =
      let rest = first_rises (k - (j + 1)) (j + 1) in
      let e : j + 1 + (k - (j + 1)) ≡ k = omega (arith, lt) in
      let all : first_cell (j + 1) ≤ first_cell k = subst (λ i. first_cell (j + 1) ≤ first_cell i) e rest in
      omega (arith, all, first_next j)

  -- and a cell below the first one of a stage lies in a part of an earlier one
  pub some_part : (stages x : ℕ) → x < first_cell stages → (k : ℕ) × (k < stages) × (first_cell k ≤ x) × (x < first_cell k + part_cells k)
  some_part zero x lt = absurd (let none : first_cell 0 ≡ 0 = no_cells kind in omega (arith, lt, none))
    where
      no_cells : (kd : Kind) → cells_for kd per (quanta_before parts n 0) ≡ 0
      no_cells Keyless = refl
      no_cells Exact = omega arith
      no_cells Prefix = omega arith
      no_cells Ternary = omega arith
  some_part (suc stages) x lt = elim (cases_lt x (first_cell stages)) [
    | inl less ↦ let r = some_part stages x less in (r.0, (let below = r.1 in omega (arith, below)), r.2, r.3)
    | inr more ↦
        let e : stages + 1 ≡ suc stages = omega arith in
        let next : first_cell (suc stages) ≡ first_cell stages + part_cells stages = sym (ap first_cell e) ∙ first_next stages in
        (stages, omega arith, more, omega (arith, lt, next))
  ]
