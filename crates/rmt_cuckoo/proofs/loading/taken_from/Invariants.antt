use Rattle.rmt_cuckoo.specs.Search.{AreTaken}
use Rattle.rmt_cuckoo.proofs.loading.taken_from.Given as goal

-- the cells so far are taken
abbrev pub invariant-loop-cell : goal.invariant-loop-cell
invariant-loop-cell l = AreTaken l.holders l.cell
