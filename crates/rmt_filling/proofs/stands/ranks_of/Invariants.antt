use Rattle.std.proofs.Common.{◌≡◌, ◌^◌, ◌<◌, All, map, take}
use Rattle.rmt_ast.specs.declared.entry.Entry.{Entry}
use Rattle.rmt_filling.specs.Sorting.{rank_in}
use Rattle.rmt_filling.proofs.stands.ranks_of.Given as goal

abbrev pub invariant-loop-entry : goal.invariant-loop-entry
invariant-loop-entry l = record {
  ranks : l.ranks.items ≡ map (rank_in l.kind) (take l.entry-index l.entries);
  fits : All (λ (e : Entry). e.rank < 2 ^ 32) (take l.entry-index l.entries);
}
