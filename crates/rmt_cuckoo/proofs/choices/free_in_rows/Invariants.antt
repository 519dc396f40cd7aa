use Rattle.std.proofs.Common.{◌<◌, All, take, get_or}
use Rattle.rmt_cuckoo.specs.Choices.{rows_in}
use Rattle.rmt_cuckoo.proofs.choices.free_in_rows.Given as goal

-- the cells in the ways so far are taken
abbrev pub invariant-loop-way : goal.invariant-loop-way
invariant-loop-way l = All (λ c. 0 < get_or l.holders c 0) (rows_in l.seed (take l.way-index l.ways) l.key)
