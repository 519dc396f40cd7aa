use Rattle.std.proofs.Common.{◌≡◌, ◌≤◌, ◌+◌, ◌-◌, length, vec_len}
use Rattle.rmt_cuckoo.specs.Choices.{choices_at}
use Rattle.rmt_cuckoo.specs.Search.{IsSearching}
use Rattle.rmt_cuckoo.proofs.search.Search.place.Given as goal

-- the keys stand as they did, and the places so far have no free cell
abbrev pub invariant-loop-place : goal.invariant-loop-place
invariant-loop-place l = record {
  loading : l.loading ≡ l.fn.loading;
  searching : IsSearching (choices_at l.choices) (vec_len l.fn.loading.cells) l.fn.loading.holders.items l.self.steps.items l.self.seen.items l.place;
  known : l.place ≤ length l.self.steps.items + 1;
}

abbrev pub decreases-loop-place : goal.decreases-loop-place
decreases-loop-place l = length l.fn.loading.holders.items + 1 - l.place
