use Rattle.std.proofs.Common.{refl, arith}
use Rattle.rmt_pack.proofs.ShapeLaws.{exact-is}
use Rattle.rmt_map_tests.proofs.memories.wide_part.Goals as goal

pub returns-clause-shape : goal.returns-clause-shape
returns-clause-shape c = exact-is _ 40 28 0 refl (omega arith) (omega arith) (omega arith) (omega arith) (omega arith) (omega arith) (omega arith) c.in_ok-blocks.ensures c.new.ensures refl refl (omega arith)
