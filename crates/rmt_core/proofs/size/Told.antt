-- A map tells of no more cells than numbers of entries are listed, and each fits its places.
use Rattle.std.proofs.Common.{◌≡◌, ℕ, ◌+◌, ◌^◌, ◌==◌, ◌<◌, ◌≤◌, Bool, true, false, cond, ltb, List, [], ◌∷◌, length, get_or, map, length-append, inl, inr, sym, ap, arith}
use Rattle.std.specs.Prelude.{All}
use Rattle.std.specs.List.{flat_map, list_all, range_with_len, sum_by}
use Rattle.std.proofs.lemmas.Bool.{and_parts, cases_eq, eq-eqb, ltb-true, ne_eqb}
use Rattle.std.proofs.lemmas.List.{length-map}
use Rattle.std.proofs.lemmas.List.Concat.{length-flat_map}
use Rattle.std.proofs.lemmas.List.Elements.{All-append, All-head, All-map, All-nil, All-tail}
use Rattle.std.proofs.lemmas.List.Sums.{AllPass-from_list_all, sum_by-le, sum_by-le-sum_by}
use Rattle.rmt_bits.proofs.AllLaws.{All-flat_map}
use Rattle.rmt_core.specs.Types.{Stage, Unit as ChipUnit, SlotUnit, CellNumber}
use Rattle.rmt_config.specs.declared.config.Unit.TheVariants.{Gate, Slot}
use Rattle.rmt_config.specs.CellForm.{numbers_of_stage, numbers_of_unit}
use Rattle.rmt_config.specs.StageForm.{stage_is_formed}
use Rattle.rmt_config.specs.UnitForm.{memory_is_formed, number_is_formed, slot_head_is_formed, unit_is_formed}
use Rattle.rmt_config.proofs.SlotLaws.{unit-formed}
use Rattle.rmt_build.specs.Told.{cell_told, cells_told, stages_told, unit_told}
use Rattle.rmt_verify.specs.Spelling.{CellFits}
use Rattle.rmt_items.proofs.size.Stages.{stage_parts}
use Rattle.rmt_core.proofs.size.Sums.{one_most, only, sum_by-both}

-- ---- how many

-- a slot's are told of its node
slot_count : (k n : ℕ) (s : SlotUnit) → length (unit_told n k (Slot s)) ≤ only (λ _. length s.numbers) s.node n
slot_count k n s =
    elim (cases_eq n s.node) as (λ _. length (unit_told n k (Slot s)) ≤ only (λ _. length s.numbers) s.node n) [
      | inl same ↦ let here = ap (λ b. cond b (length s.numbers) 0) (eq-eqb n s.node same) in let most = all_most (s.node == n) in omega (arith, most, here)
      | inr other ↦ let none = ap (λ b. length (cond b (map (cell_told k) s.numbers) [])) (ne_eqb s.node n (λ e. other (sym e))) in omega (arith, none)
    ]
  where
    all_most : (b : Bool) → length (cond b (map (cell_told k) s.numbers) []) ≤ length s.numbers
    all_most true = omega (arith, length-map s.numbers (cell_told k))
    all_most false = omega arith

module _ (nodes : ℕ) where
  abbrev numbered : List ℕ
  numbered = range_with_len 0 nodes

  unit_count : (k : ℕ) (u : ChipUnit) → sum_by (λ n. length (unit_told n k u)) numbered ≤ length (numbers_of_unit u)
  unit_count k (Gate g) = let none = sum_by-le (λ n. length (unit_told n k (Gate g))) 0 numbered (λ i d lt. omega arith) in omega (arith, none)
  unit_count k (Slot s) =
      let each = sum_by-le-sum_by (λ n. length (unit_told n k (Slot s))) (only (λ _. length s.numbers) s.node) numbered (λ n. slot_count k n s) in
      let one = one_most (λ _. length s.numbers) s.node 0 nodes in
      omega (arith, each, one, length-map s.numbers (λ (x : CellNumber). x.number))

  units_count : (k : ℕ) (us : List ChipUnit) → sum_by (λ n. length (flat_map (unit_told n k) us)) numbered ≤ length (flat_map numbers_of_unit us)
  units_count k [] = let none = sum_by-le (λ n. length (flat_map (unit_told n k) [])) 0 numbered (λ i d lt. omega arith) in omega (arith, none)
  units_count k (u ∷ us) =
      let first = λ (n : ℕ). length (unit_told n k u) in
      let rest = λ (n : ℕ). length (flat_map (unit_told n k) us) in
      let each = sum_by-le-sum_by (λ n. length (flat_map (unit_told n k) (u ∷ us))) (λ n. first n + rest n) numbered
      (λ n. omega (arith, length-append (unit_told n k u) (flat_map (unit_told n k) us))) in
      let both = sum_by-both first rest numbered in
      omega (arith, each, both, unit_count k u, units_count k us, length-append (numbers_of_unit u) (flat_map numbers_of_unit us))

  stages_count : (k : ℕ) (stages : List Stage) → sum_by (λ n. length (stages_told n k stages)) numbered ≤ length (flat_map numbers_of_stage stages)
  stages_count k [] = let none = sum_by-le (λ n. length (stages_told n k [])) 0 numbered (λ i d lt. omega arith) in omega (arith, none)
  stages_count k (stage ∷ stages) =
      let first = λ (n : ℕ). length (flat_map (unit_told n k) stage.units) in
      let rest = λ (n : ℕ). length (stages_told n (k + 1) stages) in
      let each = sum_by-le-sum_by (λ n. length (stages_told n k (stage ∷ stages))) (λ n. first n + rest n) numbered
      (λ n. omega (arith, length-append (flat_map (unit_told n k) stage.units) (stages_told n (k + 1) stages))) in
      let both = sum_by-both first rest numbered in
      omega (arith, each, both, units_count k stage.units, stages_count (k + 1) stages, length-append (numbers_of_stage stage) (flat_map numbers_of_stage stages))

  pub cells_few : (stages : List Stage) → length (cells_told nodes stages) ≤ length (flat_map numbers_of_stage stages)
  cells_few stages = omega (arith, length-flat_map (λ n. stages_told n 0 stages) numbered, stages_count 0 stages)

-- ---- each

number_fits : (k : ℕ) (x : CellNumber) → k < 2 ^ 8 → number_is_formed x ≡ true → CellFits (cell_told k x)
number_fits k x low formed =
    let parts = and_parts (ltb x.cell (2 ^ 32)) (ltb x.number (2 ^ 32)) formed in
    record { entry = ltb-true x.number (2 ^ 32) parts.1; stage = low; cell = ltb-true x.cell (2 ^ 32) parts.0 }

slot_fits : (n k : ℕ) (s : SlotUnit) → k < 2 ^ 8 → list_all number_is_formed s.numbers ≡ true → All CellFits (unit_told n k (Slot s))
slot_fits n k s low numbers = by (s.node == n)
  where
    by : (b : Bool) → All CellFits (cond b (map (cell_told k) s.numbers) [])
    by true = All-map CellFits (cell_told k) s.numbers (λ i d lt. number_fits k (get_or s.numbers i d) low (AllPass-from_list_all number_is_formed s.numbers numbers i d lt))
    by false = All-nil CellFits

unit_fits : (n k : ℕ) (u : ChipUnit) → k < 2 ^ 8 → unit_is_formed u ≡ true → All CellFits (unit_told n k u)
unit_fits n k (Gate g) low formed = All-nil CellFits
unit_fits n k (Slot s) low formed =
    let head = (and_parts (slot_head_is_formed s) (memory_is_formed s s.memory) formed).0 in
    slot_fits n k s low (and_parts _ _ head).1

stages_fit : (n k : ℕ) (stages : List Stage) → k + length stages ≤ 2 ^ 8 → All (λ (s : Stage). stage_is_formed s ≡ true) stages → All CellFits (stages_told n k stages)
stages_fit n k [] low formed = All-nil CellFits
stages_fit n k (stage ∷ stages) low formed =
    let own = stage_parts stage (All-head (λ (s : Stage). stage_is_formed s ≡ true) stage stages formed) in
    All-append CellFits (flat_map (unit_told n k) stage.units) (stages_told n (k + 1) stages)
    (All-flat_map CellFits (unit_told n k) stage.units (λ i d lt. unit_fits n k (get_or stage.units i d) (omega (arith, low)) (unit-formed stage.units i d lt own.units)))
    (stages_fit n (k + 1) stages (omega (arith, low)) (All-tail (λ (s : Stage). stage_is_formed s ≡ true) stage stages formed))

pub cells_fit : (nodes : ℕ) (stages : List Stage) → length stages ≤ 2 ^ 8 → All (λ (s : Stage). stage_is_formed s ≡ true) stages → All CellFits (cells_told nodes stages)
cells_fit nodes stages few formed =
    All-flat_map CellFits (λ n. stages_told n 0 stages) (range_with_len 0 nodes) (λ i d lt. stages_fit (get_or (range_with_len 0 nodes) i d) 0 stages (omega (arith, few)) formed)
