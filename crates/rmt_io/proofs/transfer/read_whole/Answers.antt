use Rattle.std.proofs.Common.{◌<◌, length, arith}
use Rattle.rmt_io.proofs.Fronts.{front_is_known}
use Rattle.rmt_io.proofs.transfer.read_whole.Goals as goal

pub returns-then-len-limit-clause-content : goal.returns-then-len-limit-clause-content
returns-then-len-limit-clause-content g c =
    let v = c.read_to_end.new.buf in
    let short : length v.items < c.take-front.result.limit = omega (arith, v.ok, v.small, c.len.ensures, c.if-len-limit.true, c.saturating_add.ensures, c.take-front.ensures.limit) in
    front_is_known _ (g.R.Read.remaining c.args.reader) v.items (rw (c.clear.ensures.items, c.take-front.ensures.inner) at c.in-Ok.ensures.bytes) short
