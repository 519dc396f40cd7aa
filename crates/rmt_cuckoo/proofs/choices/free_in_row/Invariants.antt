use Rattle.std.proofs.Common.{◌-◌, ◌<◌, All, get_or}
use Rattle.std.specs.List.{range_with_len}
use Rattle.rmt_cuckoo.proofs.choices.free_in_row.Given as goal

-- the cells so far are taken
abbrev pub invariant-loop-cell : goal.invariant-loop-cell
invariant-loop-cell l = All (λ c. 0 < get_or l.holders c 0) (range_with_len l.start (l.cell - l.start))
