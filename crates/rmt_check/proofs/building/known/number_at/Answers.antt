use Rattle.std.proofs.Common.{arith}
use Rattle.rmt_check.specs.StoredFields.{named_at}
use Rattle.rmt_check.proofs.Bounds.{field_small}
use Rattle.rmt_check.proofs.building.known.number_at.Goals as goal

pub overflow_cast-result : goal.overflow_cast-result
overflow_cast-result g c = grind (arith, field_small (g.N.Lookup.text c.args.names.now) (named_at c.args.key) c.requires)
