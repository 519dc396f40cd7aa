use Rattle.std.proofs.Common.{◌≡◌, take, fold}
use Rattle.rmt_entries.specs.KeySets.{mixed}
use Rattle.rmt_entries.proofs.key_set.place_of.Given as goal

abbrev pub invariant-loop-number : goal.invariant-loop-number
invariant-loop-number l = l.print ≡ fold mixed 0 (take l.number-index l.key)
