-- What packets of a version see of some cells: one with bit 1 of its head, one with bit 2, one with both, and one with a visible bit that is empty.
use Rattle.std.proofs.Common.{◌≡◌, ℕ, ◌==◌, cond, List, [], ◌∷◌, map, refl}
use Rattle.rmt_config.specs.Cells.{Content}
use Rattle.rmt_config.specs.RunCells.{RunCells}
use Rattle.rmt_refine.specs.Commits.{seen_by}

abbrev content : ℕ → Content
content n = record { head = cond (n == 0) 3 (cond (n == 1) 5 (cond (n == 2) 7 2)); key = n; mask = 15; held = 0 }

abbrev cells : RunCells
cells = record { version = 0; seed = 6; content = λ k place n. content n; number = λ k place n. n }

abbrev heads : ℕ → List ℕ
heads version = map (λ n. ((seen_by version cells).content 0 0 n).head) (0 ∷ 1 ∷ 2 ∷ 3 ∷ [])

even_version : heads 4 ≡ 3 ∷ 0 ∷ 7 ∷ 0 ∷ []
even_version = refl

odd_version : heads 5 ≡ 0 ∷ 5 ∷ 7 ∷ 0 ∷ []
odd_version = refl

same_seed : (seen_by 5 cells).seed ≡ 6
same_seed = refl
