use Rattle.rmt_phv.proofs.FieldCount.{few_fields}
use Rattle.rmt_verify_tests.proofs.joins.replays.joins_of_text.Goals as goal

-- a program that a text means is well formed, so its fields and actions are few enough to be packed
pub pack_fields-requires : goal.pack_fields-requires
pack_fields-requires c =
    record { few_fields = few_fields c.in-Ok.program c.in-Ok.ensures.formed; few_actions = c.in-Ok.ensures.formed.counts.actions }

pub joins_of-requires-clause-places : goal.joins_of-requires-clause-places
joins_of-requires-clause-places c = c.in-Ok-pack_fields.ensures.places
