use Rattle.std.proofs.Common.{take}
use Rattle.rmt_lists.specs.Settled.{Extends}
use Rattle.rmt_lists.specs.Stands.{somes}
use Rattle.rmt_lists.proofs.settle.add_each.Given as goal

-- the entries so far stand behind those of their tables
abbrev pub invariant-loop-place : goal.invariant-loop-place
invariant-loop-place l = Extends l.fn.lists.items (somes (take l.place-index l.come)) l.lists.items
