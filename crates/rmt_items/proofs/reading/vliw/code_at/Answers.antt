use Rattle.std.proofs.Common.{false}
use Rattle.std.proofs.lemmas.Result.{err_from_is_err_and}
use Rattle.rmt_config.specs.declared.form.code.InstructionRole.{InstructionRole}
use Rattle.rmt_items.specs.Readers.{fault_of, each}
use Rattle.rmt_items.specs.Reading.{vliw_at}
use Rattle.rmt_bits.proofs.ReaderLoops.{each_goes_on, each_ends, each_is_done}
use Rattle.rmt_items.proofs.reading.vliw.code_at.Goals as goal

abbrev none : InstructionRole
none = record { held = 0; is_default = false }

pub returns-in_err-vliw : goal.returns-in_err-vliw
returns-in_err-vliw c =
    let p = err_from_is_err_and c.from_residual.result c.from_residual.ensures.1 in
    rw (p.1, p.2) (each_ends vliw_at (fault_of c.in_err-vliw.field-0.0) c.loop-place.code.items c.args.places.now c.loop-place.place-index none c.loop-place.rest.now
    (each vliw_at c.args.places.now c.args.bytes.now) c.loop-place-test.true c.in_err-vliw.ensures c.loop-place.invariant)

pub loop-place-preserved : goal.loop-place-preserved
loop-place-preserved c =
    rw c.in_ok-put.ensures (each_goes_on vliw_at c.loop-place.code.items c.args.places.now c.loop-place.place-index none c.loop-place.rest.now c.in_ok-vliw.vliw c.in_ok-vliw.after.now
    (each vliw_at c.args.places.now c.args.bytes.now) c.loop-place-test.true c.in_ok-vliw.ensures c.loop-place.invariant)

pub returns : goal.returns
returns c =
    rw c.from_vec.ensures (each_is_done vliw_at c.loop-place.code.items c.args.places.now c.loop-place.place-index c.loop-place.rest.now
    (each vliw_at c.args.places.now c.args.bytes.now) c.loop-place-test.false c.loop-place.invariant)
