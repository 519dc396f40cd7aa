use Rattle.std.proofs.Common.{refl, arith}
use Rattle.rmt_pack.proofs.ShapeLaws.{ternary-is}
use Rattle.rmt_map_tests.proofs.memories.ternary_part.Goals as goal

pub returns-clause-shape : goal.returns-clause-shape
returns-clause-shape c = ternary-is _ 0 2 refl (omega arith) (omega arith) (omega arith) (omega arith) refl refl (omega arith) c.new.ensures c.in_ok-blocks.ensures refl (omega arith)
