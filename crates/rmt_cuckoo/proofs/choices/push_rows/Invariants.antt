use Rattle.std.proofs.Common.{◌≡◌, ◌++◌, take}
use Rattle.rmt_cuckoo.specs.Choices.{rows_in}
use Rattle.rmt_cuckoo.proofs.choices.push_rows.Given as goal

-- the cells in the ways so far stand behind those from before
abbrev pub invariant-loop-way : goal.invariant-loop-way
invariant-loop-way l = l.cells.items ≡ l.fn.cells.items ++ rows_in l.seed (take l.way-index l.ways) l.key
