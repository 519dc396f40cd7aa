use Rattle.std.proofs.Common.{◌≡◌, ℕ, ◌+◌, ◌-◌, take, drop, ◌*◌, ◌/◌, ◌%◌, ◌<◌, ◌≤◌, length, sym, subst, arith}
use Rattle.std.proofs.lemmas.Nat.{div_below, mod_below, mul-le}
use Rattle.std.specs.Prelude.{All, slice_index_or}
use Rattle.rmt_config.specs.Layouts.{listed_cells, RowTold}
use Rattle.rmt_config.proofs.RiseLaws.{run-order, run-all, run-back}
use Rattle.rmt_config.proofs.form.set_bits.block_is_told.Goals as goal

pub joined-requires : goal.joined-requires
joined-requires g c =
    let low = mul-le c.args.block c.args.listed.now.layout.rows 256 2048 (omega arith) c.requires.listed.layout.most_rows in
    omega (arith, low)

pub first_from-first-requires : goal.first_from-first-requires
first_from-first-requires g c = c.requires.order

pub joined-requires-2 : goal.joined-requires-2
joined-requires-2 g c =
    let low = mul-le (c.args.block + 1) c.args.listed.now.layout.rows 256 2048 (omega arith) c.requires.listed.layout.most_rows in
    omega (arith, low)

pub first_from-end-requires : goal.first_from-end-requires
first_from-end-requires g c = c.requires.order

pub run_of-run-requires-clause-order : goal.run_of-run-requires-clause-order
run_of-run-requires-clause-order g c =
    run-order g.R.Numbered.place_of c.args.rows.now c.first_from-first.result c.first_from-end.result c.joined.result c.joined-2.result
    (omega (arith, c.joined.ensures, c.joined-2.ensures)) c.first_from-first.ensures.within c.first_from-first.ensures.below c.first_from-end.ensures.above

pub run_of-run-requires-clause-within : goal.run_of-run-requires-clause-within
run_of-run-requires-clause-within g c = c.first_from-end.ensures.within

pub rows_are_told-requires-clause-listed : goal.rows_are_told-requires-clause-listed
rows_are_told-requires-clause-listed g c = c.requires.listed

pub rows_are_told-requires-clause-unit : goal.rows_are_told-requires-clause-unit
rows_are_told-requires-clause-unit g c =
    let l = c.args.listed.now.layout in
    div_below c.args.at l.side (l.quanta * l.units) c.requires.listed.layout.some_side c.requires.at

pub rows_are_told-requires-clause-place : goal.rows_are_told-requires-clause-place
rows_are_told-requires-clause-place g c = mod_below c.args.at c.args.listed.now.layout.side c.requires.listed.layout.some_side

pub returns : goal.returns
returns g c =
    let l = c.args.listed.now.layout in
    let f = g.R.Numbered.place_of in
    let xs = c.args.rows.now in
    let first = c.first_from-first.result in
    let end = c.first_from-end.result in
    let b = c.args.block in
    let P : g.row.R.Denot → Type 0 = λ x. RowTold l (listed_cells c.args.listed.now.numbers.now) (c.args.at / l.side) (c.args.at % l.side) (f x % l.rows) (g.R.MemoryRow.bits_of x) in
    let run : c.run_of-run.result.now ≡ take (end - first) (drop first xs) = c.run_of-run.ensures in
    let e1 : c.joined.result ≡ b * l.rows = omega (arith, c.joined.ensures) in
    let e2 : c.joined-2.result ≡ (b + 1) * l.rows = omega (arith, c.joined-2.ensures) in
    let from : (k : ℕ) (d : g.row.R.Denot) → first ≤ k → k < length xs → b * l.rows ≤ f (slice_index_or xs k d) =
    λ k d le lt. subst (λ n. n ≤ f (slice_index_or xs k d)) e1 (c.first_from-first.ensures.above k d le lt) in
    let before : (k : ℕ) (d : g.row.R.Denot) → k < first → f (slice_index_or xs k d) < b * l.rows =
    λ k d lt. subst (λ n. f (slice_index_or xs k d) < n) e1 (c.first_from-first.ensures.below k d lt) in
    let behind : (k : ℕ) (d : g.row.R.Denot) → end ≤ k → k < length xs → (b + 1) * l.rows ≤ f (slice_index_or xs k d) =
    λ k d le lt. subst (λ n. n ≤ f (slice_index_or xs k d)) e2 (c.first_from-end.ensures.above k d le lt) in
    let upto : (k : ℕ) (d : g.row.R.Denot) → k < end → f (slice_index_or xs k d) < (b + 1) * l.rows =
    λ k d lt. subst (λ n. f (slice_index_or xs k d) < n) e2 (c.first_from-end.ensures.below k d lt) in (
      λ stands. run-all P f xs first end l.rows b c.requires.listed.layout.some_rows from c.first_from-end.ensures.within before behind (subst (All P) run (c.rows_are_told.ensures.0 stands)),
      λ all. c.rows_are_told.ensures.1 (subst (All P) (sym run) (run-back P f xs first end l.rows b from c.first_from-end.ensures.within upto all)),
    )
