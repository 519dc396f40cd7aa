use Rattle.std.proofs.Common.{◌≡◌, [], vec_len}
use Rattle.rmt_cuckoo.specs.Choices.{choices_at}
use Rattle.rmt_cuckoo.specs.Search.{AreTaken, IsLoaded, IsMarked}
use Rattle.rmt_cuckoo.proofs.loader.load.Given as goal

-- the keys so far are loaded, and the search has come to nothing
abbrev pub invariant-loop : goal.invariant-loop
invariant-loop l = record {
  loaded : IsLoaded (choices_at l.choices) l.counter l.loading;
  holders : vec_len l.loading.holders ≡ l.count;
  seen : vec_len l.search.seen ≡ l.count;
  steps : l.search.steps.items ≡ [];
  marks : IsMarked [] l.search.seen.items;
  taken : AreTaken l.loading.holders.items l.loading.taken;
}
