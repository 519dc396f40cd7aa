-- What the sink gained and what is left are the text.
use Rattle.std.proofs.Common.{◌≡◌, ◌++◌, List, ℕ, length}
use Rattle.rmt_io.specs.Outside.{Gained, OnlyPrinted}
use Rattle.rmt_runs.proofs.printing.print.Given as goal

abbrev pub invariant-loop-rest : goal.invariant-loop-rest
invariant-loop-rest g l = record {
  gained : List ℕ;
  text : l.fn.text ≡ gained ++ l.rest;
  bytes : Gained (g.O.Sink.state l.fn.out) (g.O.Sink.state l.out) gained;
  printed : OnlyPrinted (g.O.Sink.state l.fn.out) (g.O.Sink.state l.out);
}

abbrev pub decreases-loop-rest : goal.decreases-loop-rest
decreases-loop-rest g l = length l.rest
