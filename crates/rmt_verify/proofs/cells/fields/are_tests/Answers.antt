use Rattle.std.proofs.Common.{◌≡◌, ◌*◌, ◌==◌, true, length, get_or, refl, sym, ◌∙◌, arith}
use Rattle.std.proofs.lemmas.Bool.{eqb-true}
use Rattle.rmt_bits.specs.Bits.{number_of}
use Rattle.rmt_ast.specs.declared.program.Test.{Test}
use Rattle.rmt_config.specs.Rooms.{mask_or_value}
use Rattle.rmt_verify.proofs.FieldLaws.{one, place_next, tests_agree, tests_differ, tests_end, tests_first, width_there}
use Rattle.rmt_verify.proofs.cells.fields.are_tests.Goals as goal

abbrev none : Test
none = record { value = 0; mask = 0 }

pub loop-at-init : goal.loop-at-init
loop-at-init c =
    let sum_is = c.width_sum.ensures in
    let room = c.requires.room in
    record {
      place = omega (arith, sum_is, room);
      same = tests_first c.args.mask c.args.widths.now c.args.tests.now (number_of c.args.bytes.now) c.requires.tests c.requires.small;
    }

pub bounds-widths-at : goal.bounds-widths-at
bounds-widths-at c = width_there c.args.widths.now c.args.tests.now c.loop-at.at c.requires.tests c.loop-at-test.true

pub bits_of_bytes-requires-clause-within : goal.bits_of_bytes-requires-clause-within
bits_of_bytes-requires-clause-within c =
    let next = (place_next c.args.mask c.args.widths.now c.args.tests.now (number_of c.args.bytes.now) c.requires.tests c.loop-at.from (8 * length c.args.bytes.now) c.loop-at.at c.loop-at-test.true c.loop-at.invariant.place).0 in
    omega (arith, next)

pub returns-then-bits_of_bytes-part_of : goal.returns-then-bits_of_bytes-part_of
returns-then-bits_of_bytes-part_of c =
    let part : c.part_of.result ≡ mask_or_value c.args.mask (get_or c.args.tests.now c.loop-at.at none) = c.part_of.ensures in (
      λ nothing. absurd cc,
      λ same. absurd (
          tests_differ c.args.mask c.args.widths.now c.args.tests.now (number_of c.args.bytes.now) c.requires.tests c.loop-at.from (8 * length c.args.bytes.now) c.loop-at.at c.bits_of_bytes.result none
          c.loop-at-test.true c.loop-at.invariant.place c.bits_of_bytes.ensures c.loop-at.invariant.same (λ e. c.if-bits_of_bytes-part_of.true (e ∙ sym part)) same),
    )

pub bounds-widths-at-in-loop-at : goal.bounds-widths-at-in-loop-at
bounds-widths-at-in-loop-at c = width_there c.args.widths.now c.args.tests.now c.loop-at.at c.requires.tests c.loop-at-test.true

pub overflow_add-from : goal.overflow_add-from
overflow_add-from c =
    let next = (place_next c.args.mask c.args.widths.now c.args.tests.now (number_of c.args.bytes.now) c.requires.tests c.loop-at.from (8 * length c.args.bytes.now) c.loop-at.at c.loop-at-test.true c.loop-at.invariant.place).0 in
    let few = c.requires.few in
    record { fits = omega (arith, next, few) }

pub loop-at-preserved : goal.loop-at-preserved
loop-at-preserved c = record {
  place = (place_next c.args.mask c.args.widths.now c.args.tests.now (number_of c.args.bytes.now) c.requires.tests c.loop-at.from (8 * length c.args.bytes.now) c.loop-at.at c.loop-at-test.true c.loop-at.invariant.place).0;
  same = tests_agree c.args.mask c.args.widths.now c.args.tests.now (number_of c.args.bytes.now) c.requires.tests c.loop-at.from (8 * length c.args.bytes.now) c.loop-at.at c.bits_of_bytes.result none
      c.loop-at-test.true c.loop-at.invariant.place c.bits_of_bytes.ensures c.loop-at.invariant.same (c.if-bits_of_bytes-part_of.false ∙ c.part_of.ensures);
}

pub returns : goal.returns
returns c =
    let yes : (number_of c.args.bytes.now == one c.args.mask c.args.widths.now c.args.tests.now) ≡ true =
    sym c.loop-at.invariant.same ∙ tests_end c.args.mask c.args.widths.now c.args.tests.now (number_of c.args.bytes.now) c.requires.tests c.loop-at.at c.loop-at-test.false in
    (λ always. eqb-true _ _ yes, λ same. refl)
