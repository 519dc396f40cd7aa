use Rattle.std.proofs.Common.{arith}
use Rattle.rmt_ptcam.proofs.NeedLaws.{place_found, place_further, place_past}
use Rattle.rmt_ptcam.proofs.plain.headers.place_of.Goals as goal
use Rattle.rmt_ast.proofs.WellFormedLemmas.{bits_of-drop}

pub returns-then-other-field-clause-place : goal.returns-then-other-field-clause-place
returns-then-other-field-clause-place c =
    let here = place_found c.args.program.now c.args.fields.now c.args.field c.loop-other.other-index (omega arith) c.if-other-field.true in
    omega (arith, here, c.loop-other.invariant.place)

pub returns-then-other-field-clause-within : goal.returns-then-other-field-clause-within
returns-then-other-field-clause-within c = omega (arith, c.loop-other.invariant.bits, c.requires.short)

pub overflow_add-from : goal.overflow_add-from
overflow_add-from c =
    let more = bits_of-drop c.args.program.now c.args.fields.now c.loop-other.other-index (omega arith) in
    omega (arith, more, c.loop-other.invariant.bits, c.requires.short, c.width_of.ensures.width)

pub loop-other-preserved : goal.loop-other-preserved
loop-other-preserved c =
    let more = bits_of-drop c.args.program.now c.args.fields.now c.loop-other.other-index (omega arith) in
    let further = place_further c.args.program.now c.args.fields.now c.args.field c.loop-other.other-index (omega arith) c.if-other-field.false in
    record {
      bits = omega (arith, more, c.loop-other.invariant.bits, c.width_of.ensures.width);
      place = omega (arith, further, c.loop-other.invariant.place, c.width_of.ensures.width);
    }

pub returns : goal.returns
returns c =
    let none = place_past c.args.program.now c.args.fields.now c.args.field c.loop-other.other-index (omega arith) in
    record {
      place = omega (arith, none, c.loop-other.invariant.place);
      within = omega (arith, c.loop-other.invariant.bits, c.requires.short);
    }
