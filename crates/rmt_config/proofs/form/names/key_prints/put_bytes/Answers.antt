use Rattle.rmt_config.proofs.LoopLaws.{taken-all, taken-more}
use Rattle.rmt_config.proofs.form.names.key_prints.put_bytes.Goals as goal

pub loop-byte-preserved : goal.loop-byte-preserved
loop-byte-preserved c =
    taken-more c.args.into.now.items c.args.bytes.now c.loop-byte.byte-index c.loop-byte.into.items c.push.new.self.items c.from.result c.loop-byte-test.true c.from.ensures
    c.in_ok-push.ensures.items c.loop-byte.invariant

pub returns : goal.returns
returns c = taken-all c.args.into.now.items c.args.bytes.now c.loop-byte.byte-index c.loop-byte.into.items c.loop-byte-test.false c.loop-byte.invariant
