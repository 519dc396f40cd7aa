-- The chains that are held stand in no order.
use Rattle.std.proofs.Common.{◌≡◌, ℕ, List, [], ◌∷◌, ◌++◌, length, refl, ◌∙◌, arith}
use Rattle.std.specs.Prelude.{sum_by}
use Rattle.std.specs.List.Sorted.{IsPermutation}
use Rattle.std.proofs.lemmas.List.Sorted.{Contains-permutation, IsPermutation-sym, sum_by-IsPermutation}
use Rattle.std.proofs.lemmas.List.Sums.{sum_by-cons}
use Rattle.rmt_cells.specs.declared.cells.Cells.{Cells}
use Rattle.rmt_cells.specs.Links.{times}
use Rattle.rmt_cells.specs.Pieces.{cells_for}
use Rattle.rmt_cells.specs.Stands.{Held, Stands, chain_cells, free_cells, held_cells}
use Rattle.rmt_cells.proofs.StandsLaws.{held_cons}
use Rattle.rmt_cells.proofs.Walks.{times_append}

-- a cell stands in all chains as often as in each of them together
times_held : (links : List ℕ) (cell : ℕ) (hs : List Held) → times cell (held_cells links hs) ≡ sum_by (λ (h : Held). times cell (chain_cells links h)) hs
times_held links cell [] = refl
times_held links cell (h ∷ hs) =
    let split = held_cons links h hs cell in
    let sum = sum_by-cons (λ (x : Held). times cell (chain_cells links x)) h hs in
    let rest = times_held links cell hs in
    omega (arith, split, sum, rest)

pub reordered : (count : ℕ) (xs ys : List Held) (s : Cells) → Stands count xs s → IsPermutation xs ys → Stands count ys s
reordered count xs ys s stands moved =
    let l = s.links.items in
    let same : (cell : ℕ) → times cell (free_cells s ++ held_cells l ys) ≡ times cell (free_cells s ++ held_cells l xs) =
    λ cell.
    let a = times_append cell (free_cells s) (held_cells l ys) in
    let b = times_append cell (free_cells s) (held_cells l xs) in
    let sums = sum_by-IsPermutation (λ (h : Held). times cell (chain_cells l h)) xs ys moved in
    omega (arith, a, b, sums, times_held l cell xs, times_held l cell ys) in
    record {
      links = stands.links;
      blocks = stands.blocks;
      few = stands.few;
      once = λ cell lt. same cell ∙ stands.once cell lt;
      within = λ cell past. same cell ∙ stands.within cell past;
      all =
          let was = stands.all in
          let sum = sum_by-IsPermutation (λ (h : Held). cells_for (length h.bytes)) xs ys moved in
          omega (arith, was, sum);
      holds = λ h there. stands.holds h (Contains-permutation ys xs h (IsPermutation-sym xs ys moved) there);
    }
