use Rattle.std.proofs.Common.{◌<◌, ◌≤◌, length, arith}
use Rattle.rmt_check.proofs.ReadingLaws.{each_more, each_over}
use Rattle.rmt_check.proofs.reading.lists.SequenceAmong.among.Goals as goal

pub loop-at-preserved : goal.loop-at-preserved
loop-at-preserved g c =
    let ts = c.args.trees.now in
    let within : c.loop-at.at < length ts = grind arith in
    each_more g.T.Part.seen ts _ c.loop-at.at _ _ _ c.read.result within c.beyond.ensures c.loop-at.invariant c.read.ensures c.in_ok-add_read.ensures

pub returns : goal.returns
returns g c =
    let ts = c.args.trees.now in
    let past : length ts ≤ c.loop-at.at = grind arith in
    each_over g.T.Part.seen ts c.loop-at.at _ _ past c.loop-at.invariant
