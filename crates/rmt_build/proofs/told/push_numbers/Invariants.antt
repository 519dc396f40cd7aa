use Rattle.std.proofs.Common.{◌≡◌, ◌++◌, map, take}
use Rattle.rmt_build.specs.Told.{cell_told}
use Rattle.rmt_build.proofs.told.push_numbers.Given as goal

-- those of the numbers so far
abbrev pub invariant-loop-number : goal.invariant-loop-number
invariant-loop-number l = l.cells ≡ l.initial.cells ++ map (cell_told l.stage) (take l.number-index l.numbers)
