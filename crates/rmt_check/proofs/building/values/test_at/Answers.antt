use Rattle.std.proofs.Common.{arith}
use Rattle.rmt_check.specs.StoredFields.{named_at}
use Rattle.rmt_check.proofs.Bounds.{width_narrow}
use Rattle.rmt_check.proofs.building.values.test_at.Goals as goal

pub test_of-requires : goal.test_of-requires
test_of-requires g c = grind (arith, width_narrow (g.N.Lookup.text c.args.names.now) (named_at c.args.key) c.requires)
