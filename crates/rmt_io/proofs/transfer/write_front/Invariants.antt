use Rattle.std.specs.Io.KnownBytes.{Keeps}
use Rattle.rmt_io.proofs.transfer.write_front.Given as goal

-- an interrupted write gave no byte
abbrev pub invariant-loop : goal.invariant-loop
invariant-loop g l = Keeps (g.W.Write.contents l.initial.writer) (g.W.Write.contents l.writer)
