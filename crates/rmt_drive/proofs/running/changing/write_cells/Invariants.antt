-- One changed cell after another.
use Rattle.std.proofs.Common.{◌≡◌, ◌+◌, ◌≤◌, ◌++◌, List, take}
use Rattle.std.specs.Prelude.{map}
use Rattle.rmt_io.specs.Outside.{OnlyPrinted, SinkState}
use Rattle.rmt_config.specs.declared.config.Config.{Config}
use Rattle.rmt_config.specs.RunInputs.{Input, Writes}
use Rattle.rmt_chip.specs.Stands.{spare_of}
use Rattle.rmt_drive.specs.declared.watch.Watch.{Watch}
use Rattle.rmt_drive.specs.ChipCycles.{Goes}
use Rattle.rmt_drive.proofs.running.changing.write_cells.Given as goal

abbrev pub invariant-loop-write : goal.invariant-loop-write
invariant-loop-write g l = record {
  goes : (w : Watch) (c : Config) (made : List Input) (before : SinkState) → Goes w c made l.fn.run l.fn.chip before (g.O.Sink.state l.fn.out)
      → Goes w c (made ++ map Writes (take l.write-index l.writes)) l.run l.chip before (g.O.Sink.state l.out);
  cycles : l.run.cycles ≡ l.fn.run.cycles + l.write-index;
  spare : spare_of l.fn.chip ≤ spare_of l.chip + l.write-index;
  only_printed : OnlyPrinted (g.O.Sink.state l.fn.out) (g.O.Sink.state l.out);
}
