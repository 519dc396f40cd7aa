use Rattle.std.proofs.Common.{◌≡◌, ℕ, ◌+◌, ◌-◌, ◌*◌, ◌/◌, ◌%◌, ◌<◌, ap, ◌∙◌, arith}
use Rattle.std.proofs.lemmas.Nat.{div-add-mod', div_below, mod_below}
use Rattle.rmt_config.proofs.form.names.exact_part.place_of.Goals as goal

-- what is left of a number behind its quotient
rest-is : (n k q : ℕ) → q ≡ n / k → n - q * k ≡ n % k
rest-is n k q e = ap (λ m. n - m * k) e ∙ rest
  where
    rest : n - n / k * k ≡ n % k
    rest = let split = div-add-mod' n k in omega (arith, split)

-- a quotient leaves no less than nothing
whole-within : (n k q : ℕ) → q ≡ n / k → q * k + n % k ≡ n
whole-within n k q e = ap (λ m. m * k + n % k) e ∙ div-add-mod' n k

row-low : (n per quanta : ℕ) → 0 < per → n < 4096 * quanta * per → n / per < 4096 * quanta
row-low n per quanta some lt = div_below n per (4096 * quanta) some lt

row-is : (n per per' row : ℕ) → per' ≡ per → row ≡ n / per' → row ≡ n / per
row-is n per per' row e er = er ∙ ap (λ m. n / m) e

way-is : (n per quanta row way rows : ℕ) → row ≡ n / per → rows ≡ 1024 * quanta → way ≡ row / rows → way ≡ n / per / (1024 * quanta)
way-is n per quanta row way rows er es ew = ew ∙ ap (λ m. m / rows) er ∙ ap (λ m. n / per / m) es

pub overflow_mul-rows : goal.overflow_mul-rows
overflow_mul-rows c = omega (arith, c.from-rows.ensures)

pub row_near-row-requires : goal.row_near-row-requires
row_near-row-requires c = omega (arith, c.from-per.ensures, c.requires.per)

pub way_of-way-requires : goal.way_of-way-requires
way_of-way-requires c = record {
  some = omega (arith, c.from-rows.ensures, c.requires.quanta);
  few = omega (arith, c.from-rows.ensures);
  within =
      let row = row-is c.args.cell c.args.per c.from-per.result c.row_near-row.result c.from-per.ensures c.row_near-row.ensures in
      let low = row-low c.args.cell c.args.per c.args.quanta c.requires.per c.requires.within in
      omega (arith, c.from-rows.ensures, row, low);
}

pub overflow_mul-result : goal.overflow_mul-result
overflow_mul-result c = let whole = whole-within c.row_near-row.result (1024 * c.from-rows.result) c.way_of-way.result c.way_of-way.ensures.value in omega (arith, whole)

pub overflow_sub-result : goal.overflow_sub-result
overflow_sub-result c = let whole = whole-within c.row_near-row.result (1024 * c.from-rows.result) c.way_of-way.result c.way_of-way.ensures.value in omega (arith, whole)

pub overflow_mul-result-2 : goal.overflow_mul-result-2
overflow_mul-result-2 c = let whole = whole-within c.args.cell c.from-per.result c.row_near-row.result c.row_near-row.ensures in omega (arith, whole)

pub overflow_sub-result-2 : goal.overflow_sub-result-2
overflow_sub-result-2 c = let whole = whole-within c.args.cell c.from-per.result c.row_near-row.result c.row_near-row.ensures in omega (arith, whole)

pub returns-clause-way : goal.returns-clause-way
returns-clause-way c =
    let row = row-is c.args.cell c.args.per c.from-per.result c.row_near-row.result c.from-per.ensures c.row_near-row.ensures in
    way-is c.args.cell c.args.per c.args.quanta c.row_near-row.result c.way_of-way.result (1024 * c.from-rows.result) row (ap (λ n. 1024 * n) c.from-rows.ensures) c.way_of-way.ensures.value

pub returns-clause-row : goal.returns-clause-row
returns-clause-row c =
    let row = row-is c.args.cell c.args.per c.from-per.result c.row_near-row.result c.from-per.ensures c.row_near-row.ensures in
    rest-is c.row_near-row.result (1024 * c.from-rows.result) c.way_of-way.result c.way_of-way.ensures.value
    ∙ ap (λ n. n % (1024 * c.from-rows.result)) row ∙ ap (λ n. c.args.cell / c.args.per % (1024 * n)) c.from-rows.ensures

pub returns-clause-position : goal.returns-clause-position
returns-clause-position c =
    rest-is c.args.cell c.from-per.result c.row_near-row.result c.row_near-row.ensures ∙ ap (λ n. c.args.cell % n) c.from-per.ensures

pub returns-clause-low : goal.returns-clause-low
returns-clause-low c =
    let rest = rest-is c.row_near-row.result (1024 * c.from-rows.result) c.way_of-way.result c.way_of-way.ensures.value in
    let some : 0 < 1024 * c.from-rows.result = omega (arith, c.from-rows.ensures, c.requires.quanta) in
    omega (arith, rest, mod_below c.row_near-row.result (1024 * c.from-rows.result) some, c.from-rows.ensures)

pub returns-clause-inside : goal.returns-clause-inside
returns-clause-inside c =
    let rest = rest-is c.args.cell c.from-per.result c.row_near-row.result c.row_near-row.ensures in
    let some : 0 < c.from-per.result = omega (arith, c.from-per.ensures, c.requires.per) in
    omega (arith, rest, mod_below c.args.cell c.from-per.result some, c.from-per.ensures)
