-- One cycle after another with nothing, as long as it waits.
use Rattle.std.proofs.Common.{◌≡◌, ◌+◌, ◌≤◌, ◌++◌, List}
use Rattle.std.specs.Prelude.{replicate}
use Rattle.rmt_io.specs.Outside.{OnlyPrinted, SinkState}
use Rattle.rmt_ast.specs.Events.{Event}
use Rattle.rmt_config.specs.declared.config.Config.{Config}
use Rattle.rmt_config.specs.Commits.{RunState, waits}
use Rattle.rmt_config.specs.RunInputs.{Idle, Input}
use Rattle.rmt_chip.specs.Stands.{spare_of}
use Rattle.rmt_drive.specs.declared.watch.Watch.{Watch}
use Rattle.rmt_drive.specs.ChipCycles.{Came, Goes}
use Rattle.rmt_drive.proofs.running.wait.wait.Given as goal

abbrev pub invariant-loop-age : goal.invariant-loop-age
invariant-loop-age g l = record {
  goes : (w : Watch) (c : Config) (events : List Event) (made : List Input) (r : RunState) (before : SinkState) → Came w c events made r l.fn.run l.fn.chip before (g.O.Sink.state l.fn.out)
      → (l._age ≤ waits r l.moved) × Goes w c (made ++ replicate l._age Idle) l.run l.chip before (g.O.Sink.state l.out);
  cycles : l.run.cycles ≡ l.fn.run.cycles + l._age;
  spare : spare_of l.fn.chip ≤ spare_of l.chip;
  only_printed : OnlyPrinted (g.O.Sink.state l.fn.out) (g.O.Sink.state l.out);
}
