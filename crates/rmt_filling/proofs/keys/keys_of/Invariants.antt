use Rattle.std.proofs.Common.{◌≡◌, take}
use Rattle.rmt_filling.specs.Keys.{keys_of}
use Rattle.rmt_filling.proofs.keys.keys_of.Given as goal

abbrev pub invariant-loop-entry : goal.invariant-loop-entry
invariant-loop-entry l = l.keys ≡ keys_of l.program l.table (take l.entry-index l.entries)
