use Rattle.std.proofs.Common.{◌≡◌, ◌+◌, ◌*◌, ◌<◌, ◌≤◌, ℕ, Option, Some, None, arith}
use Rattle.std.specs.Prelude.{IfSome}
use Rattle.std.proofs.lemmas.Nat.{mul-le}
use Rattle.rmt_memory.specs.Searching.{FirstIn, HasCell}
use Rattle.rmt_memory.proofs.exact.first_in_way.Goals as goal

ends : (row rows per count : ℕ) → row < 4 * rows → 4 * rows * per ≤ count → row * per + per ≤ count
ends row rows per count lt le =
    let next : (row + 1) * per ≡ row * per + per = omega arith in
    let most : (row + 1) * per ≤ 4 * rows * per = mul-le (row + 1) per (4 * rows) per (omega (arith, lt)) (omega arith) in
    omega (arith, next, most, le)

first-below : (P : ℕ → Type 0) (from to count : ℕ) (found : Option ℕ) → to ≤ count → FirstIn P from to found → IfSome found (λ i. i < count)
first-below P from to count None le first = tt
first-below P from to count (Some i) le first = let lt = first.1 in omega (arith, lt, le)

pub first_with-requires-clause-to : goal.first_with-requires-clause-to
first_with-requires-clause-to c = ends c.row_of.result c.args.ways.rows c.args.ways.per c.args.cells.now.count c.row_of.ensures.within c.requires.within

pub returns-clause-within : goal.returns-clause-within
returns-clause-within c =
    first-below (HasCell c.args.cells.now c.args.sight c.args.key.now) (c.row_of.result * c.args.ways.per) (c.row_of.result * c.args.ways.per + c.args.ways.per) c.args.cells.now.count c.first_with.result
    (ends c.row_of.result c.args.ways.rows c.args.ways.per c.args.cells.now.count c.row_of.ensures.within c.requires.within) c.first_with.ensures
