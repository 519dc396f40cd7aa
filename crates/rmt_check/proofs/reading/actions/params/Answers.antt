use Rattle.std.proofs.Common.{◌<◌, ◌≤◌, length, arith}
use Rattle.rmt_check.specs.Reading.{param_at}
use Rattle.rmt_check.proofs.ReadingLaws.{each_more, each_over}
use Rattle.rmt_check.proofs.reading.actions.params.Goals as goal

pub loop-at-preserved : goal.loop-at-preserved
loop-at-preserved c =
    let ts = c.args.trees.now in
    let within : c.loop-at.at < length ts = grind arith in
    each_more param_at ts _ c.loop-at.at _ _ _ c.param.result within c.beyond.ensures c.loop-at.invariant c.param.ensures c.in_ok-add_read.ensures

pub returns : goal.returns
returns c =
    let ts = c.args.trees.now in
    let past : length ts ≤ c.loop-at.at = grind arith in
    each_over param_at ts c.loop-at.at _ _ past c.loop-at.invariant
