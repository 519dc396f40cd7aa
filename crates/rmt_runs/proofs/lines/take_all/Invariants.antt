-- The lines so far are taken; the reader gives them by their fronts.
use Rattle.std.proofs.Common.{◌≡◌, ◌≤◌, ◌-◌, ℕ, List, [], IsTrue}
use Rattle.rmt_io.specs.Outside.{OnlyPrinted, OnlyRead}
use Rattle.rmt_runs.specs.ReadsOn.{ReadsLines}
use Rattle.rmt_runs.specs.TextLines.{fronts_of}
use Rattle.rmt_runs.proofs.lines.take_all.Given as goal

abbrev pub invariant-loop-frame : goal.invariant-loop-frame
invariant-loop-frame g l = record {
  lines : List (ℕ × List ℕ);
  stands : (x : g.T.TakesLines.Subject) → g.T.TakesLines.Stands x [] l.fn.taker (g.O.Sink.state l.fn.out) (g.O.Sink.state l.fn.out)
      → g.T.TakesLines.Stands x lines l.taker (g.O.Sink.state l.fn.out) (g.O.Sink.state l.out);
  reads : IsTrue (g.F.Shelf.state l.fn.shelf).tells
      → (gave : List (ℕ × List ℕ)) × ReadsLines l.limit (g.F.Shelf.state l.fn.shelf).rest gave l.reader (g.F.Shelf.state l.shelf).rest × (fronts_of gave ≡ lines);
  few : g.T.TakesLines.IsFew l.reader.given l.taker;
  given : l.reader.given ≤ 1099511627776;
  lent : g.T.TakesLines.lent l.taker ≡ g.T.TakesLines.lent l.fn.taker;
  only_read : OnlyRead (g.F.Shelf.state l.fn.shelf) (g.F.Shelf.state l.shelf);
  only_printed : OnlyPrinted (g.O.Sink.state l.fn.out) (g.O.Sink.state l.out);
}

abbrev pub decreases-loop-frame : goal.decreases-loop-frame
decreases-loop-frame g l = 1099511627776 - l.reader.given
