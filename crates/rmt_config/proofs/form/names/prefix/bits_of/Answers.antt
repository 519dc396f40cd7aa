use Rattle.rmt_config.proofs.PrefixRows.{first-sum}
use Rattle.rmt_config.proofs.form.names.prefix.bits_of.Goals as goal

pub returns : goal.returns
returns c = first-sum c.args.keys.now c.requires
