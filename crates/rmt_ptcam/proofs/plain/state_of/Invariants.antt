use Rattle.std.proofs.Common.{◌≡◌}
use Rattle.std.specs.List.{filter, range_with_len}
use Rattle.rmt_ptcam.specs.Needs.{is_looked_up}
use Rattle.rmt_ptcam.proofs.plain.state_of.Given as goal

abbrev pub invariant-loop-byte : goal.invariant-loop-byte
invariant-loop-byte l = l.lookups ≡ filter (is_looked_up l.program l.header) (range_with_len 0 l.byte)
