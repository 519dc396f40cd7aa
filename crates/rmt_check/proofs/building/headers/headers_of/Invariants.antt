use Rattle.std.proofs.Common.{◌≡◌, ◌++◌, ◌+◌, drop, take}
use Rattle.rmt_check.specs.Meaning.{headers_from}
use Rattle.rmt_check.specs.Sizes.{count_of}
use Rattle.rmt_check.proofs.building.headers.headers_of.Given as goal

abbrev pub invariant-loop-header : goal.invariant-loop-header
invariant-loop-header g l = record {
  built : l.headers ++ headers_from (g.N.Lookup.text l.names) l.valid (drop l.header-index l.header-items) ≡ headers_from (g.N.Lookup.text l.names) 3 l.header-items;
  count : l.valid ≡ 3 + count_of (take l.header-index l.header-items);
}
