use Rattle.rmt_phv.proofs.FieldCount.{few_fields}
use Rattle.rmt_verify_tests.proofs.parsers.parser_of.Goals as goal

-- a program that a text means is well formed, so its fields and actions are few enough to be packed
pub pack_fields-requires : goal.pack_fields-requires
pack_fields-requires c =
    let formed = c.one_meaning.ensures.formed c.args.text.now c.in-Ok.program c.in-Ok.ensures in
    record { few_fields = few_fields c.in-Ok.program formed; few_actions = formed.counts.actions }

pub plain_parser-requires-clause-places : goal.plain_parser-requires-clause-places
plain_parser-requires-clause-places c = c.in-Ok-pack_fields.ensures.places
