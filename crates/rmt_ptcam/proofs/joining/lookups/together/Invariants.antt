use Rattle.std.proofs.Common.{◌≡◌, ◌-◌}
use Rattle.std.specs.Prelude.{◌||◌, ◌&&◌, nat_le}
use Rattle.std.specs.List.{filter, range_with_len}
use Rattle.rmt_bits.specs.Members.{is_among}
use Rattle.rmt_ptcam.proofs.joining.lookups.together.Given as goal

abbrev pub invariant-loop-offset : goal.invariant-loop-offset
invariant-loop-offset l = l.to ≡ filter (λ o. is_among l.here o || (nat_le l.bytes o && is_among l.there (o - l.bytes))) (range_with_len 0 l.offset)
