use Rattle.std.proofs.lemmas.Result.{err_from_is_err_and}
use Rattle.rmt_runs.proofs.reader.PacketReader.next_line.Goals as goal

pub returns-in_err-find-clause-next : goal.returns-in_err-find-clause-next
returns-in_err-find-clause-next g c =
    let p = err_from_is_err_and c.from_residual.result c.from_residual.ensures.1 in
    rw (p.1, p.2) (record { line = tt; end = tt; too_long = λ long. c.in_err-find.ensures.next.too_long (cc); ready = tt })
