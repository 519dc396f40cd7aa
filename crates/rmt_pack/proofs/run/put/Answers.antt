use Rattle.std.proofs.Common.{◌^◌, ◌<◌, sym, subst}
use Rattle.rmt_bits.proofs.BitLaws.{deposit-lt}
use Rattle.rmt_pack.proofs.run.put.Goals as goal

pub set_row-requires-clause-bits : goal.set_row-requires-clause-bits
set_row-requires-clause-bits c =
    subst (λ n. n < 2 ^ 112) (sym c.deposit.ensures)
    (deposit-lt c.row-old.result c.args.piece.low c.args.piece.len c.args.bits 112 c.requires.within c.row-old.ensures.within c.requires.bits)
