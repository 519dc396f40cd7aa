-- The spot of a number, part by part.
use Rattle.std.proofs.Common.{◌≡◌, ℕ, zero, suc, ◌+◌, ◌-◌, ◌<◌, ◌≤◌, cond, List, [], ◌∷◌, drop, get_or, length, refl, sym, ap, ◌∙◌, arith}
use Rattle.std.specs.Prelude.{nat_lt}
use Rattle.std.proofs.lemmas.Bool.{le-ltb, lt-ltb}
use Rattle.std.proofs.lemmas.List.{drop_all}
use Rattle.rmt_book.specs.declared.table.PartCells.{PartCells}
use Rattle.rmt_book.specs.PartShape.{cell_count}
use Rattle.rmt_book.specs.Spots.{spot_from}

drop-one : (xs : List PartCells) (i : ℕ) (d : PartCells) → i < length xs → drop i xs ≡ get_or xs i d ∷ drop (i + 1) xs
drop-one [] i d lt = absurd (omega (arith, lt))
drop-one (x ∷ xs) zero d lt = refl
drop-one (x ∷ xs) (suc i) d lt = let e : suc (i + 1) ≡ suc i + 1 = omega arith in drop-one xs i d (omega (arith, lt)) ∙ ap (λ n. get_or xs i d ∷ drop n (x ∷ xs)) e

module _ (xs : List PartCells) (number at left count : ℕ) (x : PartCells) (lt : at < length xs) (is : x ≡ get_or xs at x) (so_far : spot_from 0 xs number ≡ spot_from at (drop at xs) left) (size : count ≡ cell_count x.shape.grid) where
  here : spot_from 0 xs number ≡ cond (nat_lt left (cell_count x.shape.grid)) (record { part = at; cell = left }) (spot_from (at + 1) (drop (at + 1) xs) (left - cell_count x.shape.grid))
  here = so_far ∙ ap (λ ys. spot_from at ys left) (drop-one xs at x lt ∙ ap (λ y. y ∷ drop (at + 1) xs) (sym is))

  pub spot-here : left < count → record { part = at; cell = left } ≡ spot_from 0 xs number
  spot-here less =
      let below : left < cell_count x.shape.grid = omega (arith, less, size) in
      sym (here ∙ ap (λ b. cond b (record { part = at; cell = left }) (spot_from (at + 1) (drop (at + 1) xs) (left - cell_count x.shape.grid))) (lt-ltb left (cell_count x.shape.grid) below))

  pub spot-later : count ≤ left → spot_from 0 xs number ≡ spot_from (at + 1) (drop (at + 1) xs) (left - count)
  spot-later le =
      let above : cell_count x.shape.grid ≤ left = omega (arith, le, size) in
      here ∙ ap (λ b. cond b (record { part = at; cell = left }) (spot_from (at + 1) (drop (at + 1) xs) (left - cell_count x.shape.grid))) (le-ltb left (cell_count x.shape.grid) above)
      ∙ ap (λ n. spot_from (at + 1) (drop (at + 1) xs) (left - n)) (sym size)

pub spot-behind : (xs : List PartCells) (number at left : ℕ) → length xs ≤ at → at ≤ length xs → spot_from 0 xs number ≡ spot_from at (drop at xs) left → record { part = length xs; cell = left } ≡ spot_from 0 xs number
spot-behind xs number at left ge le so_far =
    let same : at ≡ length xs = omega (arith, ge, le) in
    sym (so_far ∙ ap (λ ys. spot_from at ys left) (drop_all at xs ge) ∙ ap (λ k. record { part = k; cell = left }) same)
