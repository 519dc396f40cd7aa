use Rattle.std.proofs.Common.{◌≡◌, take}
use Rattle.rmt_filling.specs.EntryCells.{stands_within}
use Rattle.rmt_filling.proofs.stands.stands_from.Given as goal

-- those of the entries so far
abbrev pub invariant-loop-stand : goal.invariant-loop-stand
invariant-loop-stand l = l.own ≡ stands_within l.first l.cells (take l.stand-index l.stands)
