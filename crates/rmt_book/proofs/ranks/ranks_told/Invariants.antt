use Rattle.std.proofs.Common.{◌≡◌, ◌≤◌, ℕ, drop, eqb, length, option_map}
use Rattle.std.specs.Prelude.{find}
use Rattle.std.specs.BTreeMap.{get}
use Rattle.std.specs.Ordering.{nat_cmp}
use Rattle.rmt_ast.specs.declared.names.RankOf.{RankOf}
use Rattle.rmt_book.proofs.ranks.ranks_told.Given as goal

-- the ranks from a place on
abbrev pub invariant-loop-left : goal.invariant-loop-left
invariant-loop-left l = record {
  within : l.left ≤ length l.ranks;
  so_far : (n : ℕ) → get nat_cmp l.told n ≡ option_map (λ (r : RankOf). r.rank) (find (λ (r : RankOf). eqb r.number n) (drop l.left l.ranks));
}

abbrev pub decreases-loop-left : goal.decreases-loop-left
decreases-loop-left l = l.left
