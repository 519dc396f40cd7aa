use Rattle.std.proofs.Common.{◌≡◌}
use Rattle.std.specs.List.{flat_map, range_with_len}
use Rattle.rmt_sample.specs.Texts.{packet_line}
use Rattle.rmt_sample.proofs.make.packets.Given as goal

abbrev pub invariant-loop-j : goal.invariant-loop-j
invariant-loop-j l = l.text.items ≡ flat_map packet_line (range_with_len 0 l.j)
