use Rattle.std.proofs.Common.{◌≡◌, ◌+◌, ℕ, false, List, [], IsTrue}
use Rattle.rmt_io.specs.Outside.{OnlyRead}
use Rattle.rmt_runs.specs.ReadsOn.{AtLine, HasLines, ReadsLines}
use Rattle.rmt_runs.proofs.reader.PacketReader.find.Given as goal

-- a packet line is at hand, or all bytes that came were taken
abbrev pub invariant-loop-is_ready : goal.invariant-loop-is_ready
invariant-loop-is_ready g l = record {
  line : IsTrue l.is_ready → IsTrue (g.F.Shelf.state l.fn.shelf).tells → (limit : ℕ) (text : List ℕ) (gave : List (ℕ × List ℕ)) → ReadsLines limit text gave l.fn.self (g.F.Shelf.state l.fn.shelf).rest
      → AtLine limit text gave l.self (g.F.Shelf.state l.shelf).rest;
  reads : l.is_ready ≡ false → IsTrue (g.F.Shelf.state l.fn.shelf).tells → (limit : ℕ) (text : List ℕ) (gave : List (ℕ × List ℕ)) → ReadsLines limit text gave l.fn.self (g.F.Shelf.state l.fn.shelf).rest
      → ReadsLines limit text gave l.self (g.F.Shelf.state l.shelf).rest;
  empty : l.is_ready ≡ false → l.self.waiting ≡ [];
  ready : l.self.lines.is_ready ≡ l.is_ready;
  one_more : IsTrue l.is_ready → HasLines (l.self.given + 1) l.self.is_finished l.self.lines;
  given : l.self.given ≡ l.fn.self.given;
  going_on : l.self.is_finished ≡ false;
  only_read : OnlyRead (g.F.Shelf.state l.fn.shelf) (g.F.Shelf.state l.shelf);
}

abbrev pub decreases-loop-is_ready : goal.decreases-loop-is_ready
decreases-loop-is_ready g l = l.self.left
