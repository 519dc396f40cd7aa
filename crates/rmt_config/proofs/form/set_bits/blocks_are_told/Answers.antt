use Rattle.std.proofs.Common.{◌≡◌, ℕ, ◌/◌, ◌%◌, get_or, refl, subst, sym, below_more, arith}
use Rattle.std.specs.Prelude.{All}
use Rattle.std.proofs.lemmas.Bool.{both_ways, false≢true}
use Rattle.rmt_config.specs.Layouts.{listed_cells, RowTold}
use Rattle.rmt_config.proofs.form.set_bits.blocks_are_told.Goals as goal

pub loop-block-init : goal.loop-block-init
loop-block-init g c = record { same = refl; told = λ j lt. absurd (omega (arith, lt)) }

pub block_is_told-requires-clause-listed : goal.block_is_told-requires-clause-listed
block_is_told-requires-clause-listed g c = record { layout = c.requires.layout; rise = c.requires.rise }

pub block_is_told-requires-clause-at : goal.block_is_told-requires-clause-at
block_is_told-requires-clause-at g c = omega (arith, c.loop-block.invariant.same, c.loop-block-test.true, c.requires.blocks)

pub block_is_told-requires-clause-order : goal.block_is_told-requires-clause-order
block_is_told-requires-clause-order g c = c.requires.order

pub returns-then-not-block_is_told : goal.returns-then-not-block_is_told
returns-then-not-block_is_told g c =
    let l = c.args.layout.now in
    let bs = c.args.blocks.now in
    let i = c.loop-block.block-index in
    let Told : ℕ → Type 0 = λ j. All (λ x. g.R.Numbered.place_of x / l.rows ≡ get_or bs i 0
    → RowTold l (listed_cells c.args.numbers.now) (j / l.side) (j % l.side) (g.R.Numbered.place_of x % l.rows) (g.R.MemoryRow.bits_of x)) c.args.rows.now in (
      λ f. absurd (false≢true f),
      λ told. absurd (both_ways c.block_is_told.result c.if-not-block_is_told.true
          (c.block_is_told.ensures.1 (subst Told (sym c.loop-block.invariant.same) (told i c.loop-block-test.true)))),
    )

pub loop-block-preserved : goal.loop-block-preserved
loop-block-preserved g c =
    let l = c.args.layout.now in
    let bs = c.args.blocks.now in
    let at = c.loop-block.at in
    let Told : ℕ → ℕ → Type 0 = λ j i. All (λ x. g.R.Numbered.place_of x / l.rows ≡ get_or bs i 0
    → RowTold l (listed_cells c.args.numbers.now) (j / l.side) (j % l.side) (g.R.Numbered.place_of x % l.rows) (g.R.MemoryRow.bits_of x)) c.args.rows.now in
    record {
      same = omega (arith, c.loop-block.invariant.same);
      told = below_more (λ j. Told j j) at c.loop-block.invariant.told
          (subst (Told at) (sym c.loop-block.invariant.same) (c.block_is_told.ensures.0 c.if-not-block_is_told.false));
    }

pub returns : goal.returns
returns g c = (λ _. λ j lt. c.loop-block.invariant.told j (omega (arith, lt, c.loop-block.invariant.same, c.loop-block-test.false)), λ _. refl)
