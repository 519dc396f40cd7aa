use Rattle.std.proofs.Common.{arith}
use Rattle.rmt_update.proofs.book.loading.are_bytes.Goals as goal

pub returns : goal.returns
returns c = λ k. let b = c.type_inv.bytes k in omega (arith, b)
