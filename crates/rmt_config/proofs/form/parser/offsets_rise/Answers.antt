use Rattle.std.proofs.Common.{◌+◌, drop, get_or, sym, ap, ◌∙◌, arith}
use Rattle.std.proofs.lemmas.List.{drop_all}
use Rattle.rmt_config.specs.Order.{rises_from}
use Rattle.rmt_config.proofs.RiseLaws.{one_off, rise_on}
use Rattle.rmt_config.proofs.form.parser.offsets_rise.Goals as goal

pub loop-offset-preserved : goal.loop-offset-preserved
loop-offset-preserved c =
    let ns = c.args.offsets.now in
    let i = c.loop-offset.offset-index in
    rise_on c.loop-offset.least (get_or ns i 0) (drop i ns) (drop (i + 1) ns) _ (one_off ns i 0 c.loop-offset-test.true) (omega arith) c.loop-offset.invariant

pub returns : goal.returns
returns c = sym (ap (rises_from c.loop-offset.least) (drop_all c.loop-offset.offset-index c.args.offsets.now c.loop-offset-test.false)) ∙ c.loop-offset.invariant
