use Rattle.std.proofs.Common.{ℕ, ◌%◌, refl, sym, subst}
use Rattle.std.proofs.lemmas.Bool.{both_ways, false≢true}
use Rattle.std.proofs.lemmas.Nat.{mod_below}
use Rattle.std.specs.Prelude.{All}
use Rattle.std.proofs.lemmas.List.Elements.{All-more}
use Rattle.std.proofs.lemmas.List.{take_all}
use Rattle.rmt_config.specs.Layouts.{listed_cells, RowTold}
use Rattle.rmt_config.proofs.form.set_bits.rows_are_told.Goals as goal

pub row_is_told-requires-clause-listed : goal.row_is_told-requires-clause-listed
row_is_told-requires-clause-listed g c = c.requires.listed

pub row_is_told-requires-clause-unit : goal.row_is_told-requires-clause-unit
row_is_told-requires-clause-unit g c = c.requires.unit

pub row_is_told-requires-clause-place : goal.row_is_told-requires-clause-place
row_is_told-requires-clause-place g c = c.requires.place

pub row_is_told-requires-clause-row : goal.row_is_told-requires-clause-row
row_is_told-requires-clause-row g c = mod_below c.place.result c.args.listed.now.layout.rows c.requires.listed.layout.some_rows

pub returns-then-not-row_is_told : goal.returns-then-not-row_is_told
returns-then-not-row_is_told g c =
    let l = c.args.listed.now.layout in
    let Told : ℕ → ℕ → Type 0 = λ n b. RowTold l (listed_cells c.args.listed.now.numbers.now) c.args.unit c.args.place (n % l.rows) b in
    let P : g.row.R.Denot → Type 0 = λ x. Told (g.R.Numbered.place_of x) (g.R.MemoryRow.bits_of x) in
    let item = c.row-item.result in (
      λ f. absurd (false≢true f),
      λ all.
          let here : P item = subst P (sym c.row-item.is) (all c.loop-row.row-index item c.loop-row-test.true) in
          let one : Told c.place.result (g.R.MemoryRow.bits_of item) = subst (λ n. Told n (g.R.MemoryRow.bits_of item)) (sym c.place.ensures) here in
          let raw : Told c.place.result c.bits.result = subst (λ b. Told c.place.result b) (sym c.bits.ensures) one in
          absurd (both_ways c.row_is_told.result c.if-not-row_is_told.true (c.row_is_told.ensures.1 raw)),
    )

pub loop-row-preserved : goal.loop-row-preserved
loop-row-preserved g c =
    let l = c.args.listed.now.layout in
    let Told : ℕ → ℕ → Type 0 = λ n b. RowTold l (listed_cells c.args.listed.now.numbers.now) c.args.unit c.args.place (n % l.rows) b in
    let P : g.row.R.Denot → Type 0 = λ x. Told (g.R.Numbered.place_of x) (g.R.MemoryRow.bits_of x) in
    let raw : Told c.place.result c.bits.result = c.row_is_told.ensures.0 c.if-not-row_is_told.false in
    let one : Told (g.R.Numbered.place_of c.row-item.result) c.bits.result = subst (λ n. Told n c.bits.result) c.place.ensures raw in
    let here : P c.row-item.result = subst (λ b. Told (g.R.Numbered.place_of c.row-item.result) b) c.bits.ensures one in
    All-more P c.args.rows.now c.loop-row.row-index c.row-item.result c.loop-row-test.true c.loop-row.invariant (subst P c.row-item.is here)

pub returns : goal.returns
returns g c =
    let l = c.args.listed.now.layout in
    let P : g.row.R.Denot → Type 0 = λ x. RowTold l (listed_cells c.args.listed.now.numbers.now) c.args.unit c.args.place (g.R.Numbered.place_of x % l.rows) (g.R.MemoryRow.bits_of x) in
    (λ _. subst (All P) (take_all c.loop-row.row-index c.args.rows.now c.loop-row-test.false) c.loop-row.invariant, λ _. refl)
