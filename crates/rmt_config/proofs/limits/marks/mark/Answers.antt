use Rattle.std.proofs.Common.{◌<◌, arith}
use Rattle.rmt_config.proofs.LimitLemmas.{one_marked}
use Rattle.rmt_config.proofs.limits.marks.mark.Goals as goal

pub returns : goal.returns
returns c = λ ns m. let byte : c.args.byte < 256 = omega arith in one_marked ns c.args.marks.now c.args.byte byte m
