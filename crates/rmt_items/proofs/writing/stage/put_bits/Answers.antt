use Rattle.std.proofs.Common.{ℕ, List, take, drop, ap, ◌∙◌}
use Rattle.rmt_config.proofs.HighFirst.{high_first}
use Rattle.rmt_items.proofs.Appending.{appended_as}
use Rattle.rmt_items.proofs.writing.stage.put_bits.Goals as goal

pub returns : goal.returns
returns c =
    appended_as c.extend_from_slice.result _ c.args.out.now.items _ _ c.extend_from_slice.ensures.items
    (ap (λ (t : List ℕ). take 14 (drop 2 t)) c.to_be_bytes-bytes.ensures ∙ high_first 14 c.args.bits)
