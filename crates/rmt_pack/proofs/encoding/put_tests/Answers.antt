use Rattle.std.proofs.Common.{◌≡◌, ℕ, List, Bool, ◌<◌, ◌+◌, ◌-◌, ◌*◌, ◌^◌, ◌∙◌, ap, arith, get_or, length, refl, subst, sym, take}
use Rattle.std.specs.List.{AllZip}
use Rattle.rmt_ast.specs.declared.program.Test.{Test}
use Rattle.rmt_ast.specs.WellFormed.{IsTest}
use Rattle.rmt_bits.specs.Bits.{deposit, number_of}
use Rattle.rmt_config.specs.Rooms.{mask_or_value, tests_as_one}
use Rattle.rmt_pack.proofs.BesideLaws.{key_end, key_step, next_place, part_fits, place_fits, test_below}
use Rattle.rmt_pack.proofs.encoding.put_tests.Goals as goal

abbrev none : Test
none = record { value = 0; mask = 0 }

-- the mask or the value of a test fits its width
test_fits : (m : Bool) (ws : List ℕ) (ts : List Test) (i : ℕ) → AllZip IsTest ws ts → i < length ts → (i < length ws) × (mask_or_value m (get_or ts i none) < 2 ^ get_or ws i 0)
test_fits m ws ts i zip lt = test_below (mask_or_value m) (part_fits m) ws ts i 0 none zip lt

pub bounds-widths-at : goal.bounds-widths-at
bounds-widths-at c = (test_fits c.args.mask c.args.widths.now c.args.tests.now c.loop-at.at c.requires.tests c.loop-at-test.true).0

pub bounds-widths-at-in-loop-at : goal.bounds-widths-at-in-loop-at
bounds-widths-at-in-loop-at c = (test_fits c.args.mask c.args.widths.now c.args.tests.now c.loop-at.at c.requires.tests c.loop-at-test.true).0

pub bytes_of_bits-requires-clause-small : goal.bytes_of_bits-requires-clause-small
bytes_of_bits-requires-clause-small c =
    subst (λ (n : ℕ). n < 2 ^ get_or c.args.widths.now c.loop-at.at 0) (sym c.part_of.ensures)
    (test_fits c.args.mask c.args.widths.now c.args.tests.now c.loop-at.at c.requires.tests c.loop-at-test.true).1

pub bytes_of_bits-requires-clause-within : goal.bytes_of_bits-requires-clause-within
bytes_of_bits-requires-clause-within c =
    let in_ws = (test_fits c.args.mask c.args.widths.now c.args.tests.now c.loop-at.at c.requires.tests c.loop-at-test.true).0 in
    let long = c.loop-at.invariant.long in
    let room = c.requires.room in
    place_fits c.args.widths.now c.loop-at.at 0 c.args.first c.loop-at.from (8 * length c.loop-at.bytes) in_ws c.loop-at.invariant.place (omega (arith, long, room))

pub loop-at-preserved : goal.loop-at-preserved
loop-at-preserved c =
    let ws = c.args.widths.now in
    let ts = c.args.tests.now in
    let i = c.loop-at.at in
    let in_ws = (test_fits c.args.mask ws ts i c.requires.tests c.loop-at-test.true).0 in
    let long = c.loop-at.invariant.long in
    let room = c.requires.room in
    let size : length c.bytes_of_bits.new.into ≡ length c.loop-at.bytes = c.bytes_of_bits.auto.into in
    let fits = place_fits ws i 0 c.args.first c.loop-at.from (8 * length c.loop-at.bytes) in_ws c.loop-at.invariant.place (omega (arith, long, room)) in
    let step = key_step (mask_or_value c.args.mask) ws ts i 0 none (number_of c.loop-at.bytes) (number_of c.bytes_of_bits.new.into) c.loop-at.from (8 * length c.loop-at.bytes) in_ws c.loop-at-test.true fits
    c.loop-at.invariant.number
    (c.bytes_of_bits.ensures ∙ ap (deposit (number_of c.loop-at.bytes) (8 * length c.loop-at.bytes - (c.loop-at.from + get_or ws i 0)) (get_or ws i 0)) c.part_of.ensures) in
    record {
      long = size ∙ long;
      place = next_place ws i 0 c.args.first c.loop-at.from in_ws c.loop-at.invariant.place;
      fits = λ k. let b = c.type_inv.bytes k in omega (arith, b);
      number = step ∙ ap (λ n. tests_as_one (mask_or_value c.args.mask) (take (i + 1) ws) (take (i + 1) ts) * 2 ^ (8 * n - (c.loop-at.from + get_or ws i 0))) (sym size);
    }

pub returns-clause-number : goal.returns-clause-number
returns-clause-number c =
    let long = c.loop-at.invariant.long in
    let room = c.requires.room in
    key_end (mask_or_value c.args.mask) c.args.widths.now c.args.tests.now c.loop-at.at (number_of c.loop-at.bytes) c.args.first c.loop-at.from (8 * length c.loop-at.bytes) c.requires.tests c.loop-at-test.false c.loop-at.invariant.place
    (omega (arith, long, room)) c.loop-at.invariant.number

pub bytes_of_bits-requires-clause-short : goal.bytes_of_bits-requires-clause-short
bytes_of_bits-requires-clause-short c = c.requires.narrow c.loop-at.at 0 (test_fits c.args.mask c.args.widths.now c.args.tests.now c.loop-at.at c.requires.tests c.loop-at-test.true).0

pub loop-at-init : goal.loop-at-init
loop-at-init c =
    let zero = c.requires.zero in
    record { long = refl; place = omega arith; fits = λ k. let b = c.type_inv.bytes k in omega (arith, b); number = omega (arith, zero) }
