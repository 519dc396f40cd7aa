use Rattle.std.proofs.Common.{sym, arith}
use Rattle.rmt_io.proofs.Numbered.{fails_next_none}
use Rattle.rmt_io.proofs.calls.is_failing.Goals as goal

pub returns-in-None : goal.returns-in-None
returns-in-None c =
    sym (fails_next_none c.args.fails.now.items c.args.calls (λ k h. omega (arith, c.type_inv.fails k 0 h, c.in-None.ensures)))
