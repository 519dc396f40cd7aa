use Rattle.std.proofs.Common.{◌≡◌, ◌≤◌, length}
use Rattle.std.specs.List.{filter, range_with_len}
use Rattle.rmt_ptcam.specs.Needs.{is_looked_up}
use Rattle.rmt_ptcam.proofs.plain.need.count_lookups.Given as goal

abbrev pub invariant-loop-byte : goal.invariant-loop-byte
invariant-loop-byte l = record {
  counted : l.count ≡ length (filter (is_looked_up l.program l.header) (range_with_len 0 l.byte));
  few : l.count ≤ l.byte;
}
