use Rattle.std.proofs.Common.{◌≡◌, length, drop, ap, ◌∙◌}
use Rattle.std.proofs.lemmas.List.{take_at}
use Rattle.rmt_bits.specs.Bits.{number_of}
use Rattle.rmt_config.specs.Rooms.{args_as_one}
use Rattle.rmt_filling.proofs.ternary.headed_bytes.Goals as goal

pub returns-clause-value : goal.returns-clause-value
returns-clause-value c =
    let new = c.put_head.new.bytes in
    let long : length new ≡ c.in_ok-bytes.bytes.len = c.put_head.auto.bytes ∙ c.deref_mut.ensures.len in
    ap number_of (take_at new (drop (length new) c.in_ok-bytes.bytes.items) c.in_ok-bytes.bytes.len long)
    ∙ c.put_head.ensures (args_as_one c.args.widths.now c.args.args.now) (ap number_of c.deref_mut.ensures.value ∙ c.in_ok-bytes.ensures.number)
