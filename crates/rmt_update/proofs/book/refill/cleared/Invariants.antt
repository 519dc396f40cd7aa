use Rattle.std.proofs.Common.{take}
use Rattle.std.specs.List.{AllZip}
use Rattle.rmt_update.specs.Refill.{IsCleared}
use Rattle.rmt_update.proofs.book.refill.cleared.Given as goal

abbrev pub invariant-loop-part : goal.invariant-loop-part
invariant-loop-part l = AllZip IsCleared (take l.part-index l.parts) l.clear.items
