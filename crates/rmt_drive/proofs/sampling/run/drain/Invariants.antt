-- One empty cycle after another.
use Rattle.std.proofs.Common.{List, ◌++◌, Option, None}
use Rattle.std.specs.Prelude.{replicate}
use Rattle.rmt_bits.specs.Packet.{Packet}
use Rattle.rmt_config.specs.declared.config.Config.{Config}
use Rattle.rmt_drive.specs.Tallies.{IsBounded, StandsFor}
use Rattle.rmt_drive.proofs.sampling.run.drain.Given as goal

abbrev pub invariant-loop-age : goal.invariant-loop-age
invariant-loop-age l = record {
  stands : (c : Config) (inputs : List (Option Packet)) → StandsFor c inputs l.fn.run → StandsFor c (inputs ++ replicate l._age None) l.run;
  bounded : IsBounded l.run.tally;
}
