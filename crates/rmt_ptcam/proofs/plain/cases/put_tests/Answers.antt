use Rattle.std.proofs.Common.{◌≡◌, ◌<◌, ℕ, List, length, sym, subst, ap, ◌∙◌, arith}
use Rattle.std.specs.Prelude.{Contains, slice_index, slice_index_or}
use Rattle.rmt_bits.specs.Bits.{number_of}
use Rattle.rmt_ptcam.specs.Types.{Test}
use Rattle.rmt_ast.specs.State.{width_of}
use Rattle.rmt_ast.specs.WellFormed.{IsTest}
use Rattle.rmt_ptcam.specs.Plain.{with_field}
use Rattle.rmt_ptcam.proofs.PlainLaws.{test_at, as_many, fold_more, fold_end}
use Rattle.rmt_ptcam.proofs.plain.cases.put_tests.Goals as goal

abbrev no_test : Test
no_test = record { value = 0; mask = 0 }

pub bounds-select-place : goal.bounds-select-place
bounds-select-place c =
    let same = as_many c.args.program.now c.args.header.now.select c.args.tests.now c.requires.tests in
    subst (λ (xs : List ℕ). c.loop-place.place < length xs) (sym c.as_slice-select.ensures) (omega (arith, same, c.loop-place-test.true))

pub put_test-requires-clause-own : goal.put_test-requires-clause-own
put_test-requires-clause-own c =
    let same = as_many c.args.program.now c.args.header.now.select c.args.tests.now c.requires.tests in
    subst (λ (xs : List ℕ). Contains c.args.header.now.fields (slice_index xs c.loop-place.place)) (sym c.as_slice-select.ensures)
    (c.requires.own c.loop-place.place 0 (omega (arith, same, c.loop-place-test.true)))

pub put_test-requires-clause-fits : goal.put_test-requires-clause-fits
put_test-requires-clause-fits c =
    subst (λ (xs : List ℕ). IsTest (width_of c.args.program.now (slice_index xs c.loop-place.place)) (slice_index_or c.args.tests.now c.loop-place.place no_test)) (sym c.as_slice-select.ensures)
    (test_at c.args.program.now c.args.header.now.select c.args.tests.now c.loop-place.place no_test c.requires.tests c.loop-place-test.true)

pub loop-place-preserved : goal.loop-place-preserved
loop-place-preserved c =
    let p = c.args.program.now in
    let h = c.args.header.now in
    let ts = c.args.tests.now in
    let i = c.loop-place.place in
    let same = as_many p h.select ts c.requires.tests in
    let inside : i < length h.select = omega (arith, same, c.loop-place-test.true) in
    let at : slice_index c.as_slice-select.result.now i ≡ slice_index h.select i = ap (λ (xs : List ℕ). slice_index xs i) c.as_slice-select.ensures in
    record {
      values =
          fold_more (with_field p h) (λ (t : Test). t.value) h.select ts i (number_of c.loop-place.values) (number_of c.put_test.new.values) no_test inside c.loop-place-test.true
          (c.put_test.ensures.values ∙ ap (λ (f : ℕ). with_field p h (number_of c.loop-place.values) (f, (slice_index_or ts i no_test).value)) at)
          ∙ c.loop-place.invariant.values;
      masks =
          fold_more (with_field p h) (λ (t : Test). t.mask) h.select ts i (number_of c.loop-place.masks) (number_of c.put_test.new.masks) no_test inside c.loop-place-test.true
          (c.put_test.ensures.masks ∙ ap (λ (f : ℕ). with_field p h (number_of c.loop-place.masks) (f, (slice_index_or ts i no_test).mask)) at)
          ∙ c.loop-place.invariant.masks;
      as_many_values = c.put_test.ensures.as_many_values ∙ c.loop-place.invariant.as_many_values;
      as_many_masks = c.put_test.ensures.as_many_masks ∙ c.loop-place.invariant.as_many_masks;
    }

pub returns-clause-values : goal.returns-clause-values
returns-clause-values c =
    let same = as_many c.args.program.now c.args.header.now.select c.args.tests.now c.requires.tests in
    sym (fold_end (with_field c.args.program.now c.args.header.now) (λ (t : Test). t.value) c.args.header.now.select c.args.tests.now c.loop-place.place _ (omega (arith, same, c.loop-place-test.false)))
    ∙ c.loop-place.invariant.values

pub returns-clause-masks : goal.returns-clause-masks
returns-clause-masks c =
    let same = as_many c.args.program.now c.args.header.now.select c.args.tests.now c.requires.tests in
    sym (fold_end (with_field c.args.program.now c.args.header.now) (λ (t : Test). t.mask) c.args.header.now.select c.args.tests.now c.loop-place.place _ (omega (arith, same, c.loop-place-test.false)))
    ∙ c.loop-place.invariant.masks
