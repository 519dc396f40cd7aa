use Rattle.std.proofs.Common.{◌≡◌, ◌<◌, ◌≤◌, ℕ, ◌+◌, ◌*◌, arith}
use Rattle.std.proofs.lemmas.Nat.{mul-le}
use Rattle.rmt_update.proofs.book.open.open_in_way.Goals as goal

end : (row rows per : ℕ) → row < 4 * rows → row * per + per ≤ 4 * (rows * per)
end row rows per lt =
    let next : (row + 1) * per ≡ row * per + per = omega arith in
    let same : 4 * rows * per ≡ 4 * (rows * per) = omega arith in
    let most : (row + 1) * per ≤ 4 * rows * per = mul-le (row + 1) per (4 * rows) per (omega (arith, lt)) (omega arith) in
    omega (arith, next, same, most)

pub overflow_mul-row : goal.overflow_mul-row
overflow_mul-row c = let last = end c.row_of-row.result c.args.ways.rows c.args.ways.per c.row_of-row.ensures.within in omega (arith, c.args.ways.few_cells, last)

pub first_open-requires : goal.first_open-requires
first_open-requires c = let last = end c.row_of-row.result c.args.ways.rows c.args.ways.per c.row_of-row.ensures.within in omega (arith, c.args.ways.few_cells, last)
