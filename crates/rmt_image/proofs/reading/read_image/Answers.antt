use Rattle.std.proofs.Common.{arith}
use Rattle.rmt_image.proofs.Whole.{is_found, image_again}
use Rattle.rmt_image.proofs.reading.read_image.Goals as goal

pub returns-clause-found : goal.returns-clause-found
returns-clause-found c = is_found c.args.bytes.now c.image.result (λ i. omega (arith, c.type_inv.bytes i)) c.image.ensures

pub returns-clause-only : goal.returns-clause-only
returns-clause-only c = λ config spells other. image_again c.args.bytes.now config spells c.image.result (c.image.ensures other)
