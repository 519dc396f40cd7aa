use Rattle.std.proofs.Common.{◌≡◌, ◌++◌, ◌+◌, ◌*◌, drop}
use Rattle.rmt_cuckoo.specs.Loading.{cells_of, ways_of, ways_from}
use Rattle.rmt_cuckoo.proofs.way.way_list.Given as goal

-- the ways and cells so far, and those of the parts left, are all
abbrev pub invariant-loop-at : goal.invariant-loop-at
invariant-loop-at l = record {
  cells : l.cells + cells_of (drop l.at l.layout) ≡ cells_of l.layout;
  ways : l.ways.items ++ ways_from (4 * l.at) l.cells (drop l.at l.layout) ≡ ways_of l.layout;
}
