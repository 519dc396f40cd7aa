use Rattle.std.proofs.Common.{◌≡◌, ℕ, List, length, vec_len}
use Rattle.rmt_cuckoo.specs.Search.{IsReady}
use Rattle.rmt_cuckoo.proofs.MoveLaws.{AreTakenBut}
use Rattle.rmt_cuckoo.proofs.search.settle.Given as goal

-- the key at the place may move to the hole
abbrev pub invariant-loop-place : goal.invariant-loop-place
invariant-loop-place l = record {
  ready : (choices : ℕ → List ℕ) → IsReady choices (vec_len l.fn.loading.cells) l.fn.loading l.steps l.fn.free l.fn.place
      → IsReady choices (vec_len l.fn.loading.cells) l.loading l.steps l.hole l.place;
  size : length l.loading.holders.items ≡ length l.fn.loading.holders.items;
  many : l.loading.taken ≡ l.fn.loading.taken;
  taken : AreTakenBut l.loading.holders.items l.hole l.loading.taken;
}

abbrev pub decreases-loop-place : goal.decreases-loop-place
decreases-loop-place l = l.place
