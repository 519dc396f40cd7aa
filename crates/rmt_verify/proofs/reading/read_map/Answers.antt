use Rattle.std.proofs.Common.{arith}
use Rattle.rmt_verify.proofs.Whole.{is_found, is_only}
use Rattle.rmt_verify.proofs.reading.read_map.Goals as goal

pub returns-clause-found : goal.returns-clause-found
returns-clause-found c = is_found c.args.bytes.now c.map.result (λ i. omega (arith, c.type_inv.bytes i)) c.map.ensures

pub returns-clause-only : goal.returns-clause-only
returns-clause-only c = is_only c.args.bytes.now c.map.result c.map.ensures
