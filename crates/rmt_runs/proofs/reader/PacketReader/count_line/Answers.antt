use Rattle.std.proofs.Common.{◌+◌, ap, arith}
use Rattle.rmt_runs.proofs.ReaderLaws.{few_given}
use Rattle.rmt_runs.proofs.reader.PacketReader.count_line.Goals as goal

pub overflow_add-self : goal.overflow_add-self
overflow_add-self c =
    let few = few_given (c.args.self.now.given + 1) c.args.self.now.is_finished c.args.self.now.lines c.requires in
    let same = ap (λ r. r.given) c.self.view_is in
    let lines = ap (λ r. r.lines.taken) c.self.view_is in
    omega (arith, few, same, lines, c.self.invariant.0)

pub returns-clause-few : goal.returns-clause-few
returns-clause-few c =
    let few = few_given (c.args.self.now.given + 1) c.args.self.now.is_finished c.args.self.now.lines c.requires in
    let same = ap (λ r. r.given) c.self.view_is in
    let lines = ap (λ r. r.lines.taken) c.self.view_is in
    omega (arith, few, same, lines, c.self.invariant.0)
