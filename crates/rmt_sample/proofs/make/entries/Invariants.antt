use Rattle.std.proofs.Common.{◌≡◌, ◌++◌}
use Rattle.std.specs.List.{flat_map, range_with_len}
use Rattle.rmt_sample.specs.Texts.{host_line, station_line}
use Rattle.rmt_sample.proofs.make.entries.Given as goal

abbrev pub invariant-loop-i : goal.invariant-loop-i
invariant-loop-i l = l.text.items ≡ flat_map station_line (range_with_len 0 l.i)

abbrev pub invariant-loop-i-2 : goal.invariant-loop-i-2
invariant-loop-i-2 l = l.text.items ≡ flat_map station_line (range_with_len 0 l.n) ++ flat_map host_line (range_with_len 0 l.i)
