use Rattle.std.proofs.Common.{◌≡◌, length}
use Rattle.rmt_plain.specs.Running.{AreReady}
use Rattle.rmt_plain.proofs.lookup.lookups_of.Given as goal

abbrev pub invariant-loop-list : goal.invariant-loop-list
invariant-loop-list l = record {
  one_each : length l.lookups.items ≡ length l.yielded;
  ranked : AreReady l.program 0 l.yielded l.lookups.items;
}
