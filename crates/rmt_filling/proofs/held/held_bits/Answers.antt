use Rattle.std.proofs.Common.{arith}
use Rattle.rmt_pack.proofs.NeedLaws.{data_bits-few, params-small}
use Rattle.rmt_filling.proofs.held.held_bits.Goals as goal

pub data_bits-requires : goal.data_bits-requires
data_bits-requires c = params-small c.args.program.now c.requires c.args.table.now

pub overflow_cast-result : goal.overflow_cast-result
overflow_cast-result c = let few = data_bits-few c.args.program.now c.requires c.args.table.now in omega (arith, few, c.data_bits.ensures)

pub returns-clause-few : goal.returns-clause-few
returns-clause-few c = let few = data_bits-few c.args.program.now c.requires c.args.table.now in omega (arith, few, c.data_bits.ensures)
