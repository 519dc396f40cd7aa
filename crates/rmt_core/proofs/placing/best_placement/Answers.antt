use Rattle.std.proofs.Common.{Err, ap, sym, ◌∙◌}
use Rattle.rmt_bits.proofs.OptionLaws.{done_not_failed}
use Rattle.rmt_phv.proofs.FieldCount.{few_fields}
use Rattle.rmt_phv.specs.declared.fault.PhvFull.TheVariants as phv
use Rattle.rmt_core.proofs.PlacerLaws.{both_stuck, unpacked}
use Rattle.rmt_core.proofs.placing.best_placement.Goals as goal

pub pack_fields-requires-clause-few_fields : goal.pack_fields-requires-clause-few_fields
pack_fields-requires-clause-few_fields c = few_fields c.args.program.now c.requires.program

pub returns-in-Err-At-clause-none : goal.returns-in-Err-At-clause-none
returns-in-Err-At-clause-none c = λ _.
    unpacked c.args.budget c.args.program.now c.pack_fields.result c.in-Err-At.field-0-0 c.in-Err-At.field-0-1
    (c.in-Err-At.is ∙ ap Err c.in-Err-At.field-0-is) c.pack_fields.ensures.packed

pub returns-clause-none : goal.returns-clause-none
returns-clause-none c = λ _.
    let stuck = c.in-Err-At-place_better in
    both_stuck c.args.budget c.args.program.now c.in-Ok.places c.in_ok-deps.deps stuck.field-0 stuck.field-0-0 stuck.field-0-1 stuck.field-0-2 stuck.field-0-is
    (sym (c.in-Ok.ensures.packed (done_not_failed c.in-Ok.places phv.NoMemory))) c.in_ok-deps.ensures.edges stuck.ensures.exact stuck.ensures.refused
