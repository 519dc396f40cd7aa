use Rattle.std.proofs.Common.{sym}
use Rattle.std.proofs.lemmas.Bool.{le-ltb, lt-ltb}
use Rattle.std.proofs.lemmas.List.{append-nil}
use Rattle.rmt_build.proofs.loading.push_ways.Goals as goal

pub returns-in_ok-push : goal.returns-in_ok-push
returns-in_ok-push c = let e = lt-ltb 0 c.args.quanta c.if-quanta-gt0.true in rw e c.in_ok-push.ensures.ok

pub returns-else-quanta-gt0 : goal.returns-else-quanta-gt0
returns-else-quanta-gt0 c = let e = le-ltb 0 c.args.quanta c.if-quanta-gt0.false in rw e (sym (append-nil c.args.layout.now))
