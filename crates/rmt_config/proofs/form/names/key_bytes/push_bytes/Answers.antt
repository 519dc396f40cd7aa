use Rattle.rmt_config.proofs.HighFirst.{last-appended}
use Rattle.rmt_config.proofs.form.names.key_bytes.push_bytes.Goals as goal

pub returns : goal.returns
returns c =
    last-appended c.extend_from_slice.result _ c.args.into.now.items _ c.args.count c.args.bits c.requires c.to_be_bytes-bytes.ensures c.extend_from_slice.ensures.items
