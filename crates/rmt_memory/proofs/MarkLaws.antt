-- Marks of the keys of cells.
use Rattle.std.proofs.Common.{◌≡◌, ℕ, ◌+◌, ◌*◌, ◌/◌, ◌%◌, ◌^◌, ◌<◌, ◌≤◌, ◌∷◌, ◌++◌, List, eqb, length, take, drop, get_or, true, None, sym, ap, ◌∙◌, subst, arith, inl, inr}
use Rattle.std.proofs.lemmas.Bool.{and_parts, cases_eq}
use Rattle.std.proofs.lemmas.Nat.{mod_below, mul-le}
use Rattle.std.proofs.Math.Seq.{take-append_seam}
use Rattle.rmt_bits.specs.Hash.{fnv, hash_row}
use Rattle.rmt_config.specs.Cells.{is_occupied}
use Rattle.rmt_memory.specs.declared.runs.Runs.{Runs}
use Rattle.rmt_config.specs.declared.part_ways.PartWays.{PartWays}
use Rattle.rmt_memory.specs.Marking.{IsMarked, AreMarked}
use Rattle.rmt_memory.specs.RunWrites.{RunSet}
use Rattle.rmt_memory.specs.Searching.{FirstByWays, run_of}

-- the cells of a row are among those of all ways
row-below : (w rows per r count : ℕ) → w < 4 → r < rows → 4 * rows * per ≤ count → (w * rows + r) * per + per ≤ count
row-below w rows per r count lw lr le =
    let way : (w + 1) * rows ≤ 4 * rows = mul-le (w + 1) rows 4 rows (omega (arith, lw)) (omega arith) in
    let ways : (w + 1) * rows ≡ w * rows + rows = omega arith in
    let row : w * rows + r + 1 ≤ 4 * rows = omega (arith, way, ways, lr) in
    let next : (w * rows + r + 1) * per ≡ (w * rows + r) * per + per = omega arith in
    let most : (w * rows + r + 1) * per ≤ 4 * rows * per = mul-le (w * rows + r + 1) per (4 * rows) per row (omega arith) in
    omega (arith, next, most, le)

-- a key without a mark is in no cell
pub unmarked : (ways : PartWays) (cells : Runs) (stored seed sight : ℕ) (words key : List ℕ) → AreMarked cells stored cells.count words → stored ≡ length key → 4 * ways.rows * ways.per ≤ cells.count
    → (IsMarked words key → ⊥) → FirstByWays ways cells seed sight key None
unmarked ways cells stored seed sight words key marked size within none = λ way lt j from to has.
    let row = row-below way ways.rows ways.per (hash_row seed (ways.first + way) key ways.rows) cells.count lt (mod_below (fnv (seed ∷ (ways.first + way) ∷ key) / 2 ^ 32) ways.rows (let some = ways.some_rows in omega (arith, some))) within in
    let occupied : is_occupied (get_or (run_of cells j) 0 0) ≡ true = (and_parts (is_occupied (get_or (run_of cells j) 0 0)) (eqb (get_or (run_of cells j) 0 0 / 2 ^ sight % 2) 1) has.0).0 in
    let is : take stored (drop 1 (run_of cells j)) ≡ key = ap (λ n. take n (drop 1 (run_of cells j))) size ∙ has.1 in
    none (subst (IsMarked words) is (marked j (omega (arith, to, row)) occupied))

-- a cell is written whose key is marked
pub marked-set : (old new : Runs) (at stored head : ℕ) (key held words words' : List ℕ) → RunSet at (head ∷ key ++ held) old new → AreMarked old stored old.count words → length key ≡ stored
    → IsMarked words' key → ((other : List ℕ) → IsMarked words other → IsMarked words' other) → AreMarked new stored new.count words'
marked-set old new at stored head key held words words' put marked size own others = λ n lt occupied.
    let inside : n < old.count = (let e = put.stay.count in omega (arith, e, lt)) in
    elim (cases_eq n at) as (λ _. IsMarked words' (take stored (drop 1 (run_of new n)))) [
      | inl same ↦
          let run : run_of new n ≡ head ∷ (key ++ held) = ap (run_of new) same ∙ put.run in
          let front : take stored (drop 1 (run_of new n)) ≡ key =
          ap (λ (bs : List ℕ). take stored (drop 1 bs)) run ∙ ap (λ k. take k (key ++ held)) (sym size) ∙ take-append_seam key held in
          subst (IsMarked words') (sym front) own
      | inr other ↦
          let run : run_of new n ≡ run_of old n = put.stay.others n inside other in
          subst (λ (bs : List ℕ). IsMarked words' (take stored (drop 1 bs))) (sym run)
          (others (take stored (drop 1 (run_of old n))) (marked n inside (subst (λ (bs : List ℕ). is_occupied (get_or bs 0 0) ≡ true) run occupied)))
    ]
