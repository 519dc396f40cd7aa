use Rattle.std.proofs.Common.{◌≡◌, min, take}
use Rattle.rmt_ptcam.specs.Needs.{entries_in}
use Rattle.rmt_ptcam.proofs.plain.need.count_entries.Given as goal

abbrev pub invariant-loop-header : goal.invariant-loop-header
invariant-loop-header l = l.count ≡ min (entries_in (take l.header-index l.headers)) 4294967295
