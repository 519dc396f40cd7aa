use Rattle.rmt_phv.proofs.FieldCount.{few_fields}
use Rattle.rmt_map_tests.proofs.actions.instruction_in.Goals as goal

pub pack_fields-requires-clause-few_fields : goal.pack_fields-requires-clause-few_fields
pack_fields-requires-clause-few_fields c = few_fields c.args.program.now c.requires.program

pub instruction-requires-clause-folded : goal.instruction-requires-clause-folded
instruction-requires-clause-folded c = (c.args.action, c.in-Ok.ensures.is_folding)
