-- The packets before the next line have entered.
use Rattle.std.proofs.Common.{◌≤◌, ◌+◌, ◌-◌, [], length}
use Rattle.rmt_config.specs.declared.config.Config.{Config}
use Rattle.rmt_drive.specs.Tallies.{IsBounded, StandsFor}
use Rattle.rmt_drive.proofs.TallyLaws.{Reached}
use Rattle.rmt_drive.proofs.sampling.enter.run_packets.Given as goal

abbrev pub invariant-loop-line : goal.invariant-loop-line
invariant-loop-line l = record {
  within : l.at ≤ length l.text;
  numbered : l.number ≤ l.at + 1;
  reached : (c : Config) → StandsFor c [] l.fn.run → Reached c l.text l.at l.number l.run;
  bounded : IsBounded l.run.tally;
}

abbrev pub decreases-loop-line : goal.decreases-loop-line
decreases-loop-line l = length l.text - l.at
