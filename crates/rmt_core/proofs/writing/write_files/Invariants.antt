-- The files before the next one were written.
use Rattle.std.proofs.Common.{take}
use Rattle.rmt_core.specs.Writing.{WroteAll, writes_of}
use Rattle.rmt_core.proofs.writing.write_files.Given as goal

abbrev pub invariant-loop-file : goal.invariant-loop-file
invariant-loop-file g l = WroteAll (writes_of (take l.file-index l.files)) (g.F.Shelf.state l.initial.shelf) (g.F.Shelf.state l.shelf)
