use Rattle.std.proofs.Common.{◌≡◌, ◌<◌, ℕ, List, length, get_or, eqb, ◌&&◌, ◌||◌, take}
use Rattle.std.specs.List.{list_any}
use Rattle.rmt_ast.specs.declared.program.Assign.{Assign}
use Rattle.rmt_phv.specs.Sets.{has}
use Rattle.rmt_phv.proofs.writers.add_action.Given as goal

-- the action is in the sets of the fields that the assignments so far set
abbrev pub invariant-loop-assign : goal.invariant-loop-assign
invariant-loop-assign l = record {
  length_kept : length l.sets ≡ length l.initial.sets;
  added : (f n : ℕ) (d : List ℕ) → f < length l.initial.sets
      → has (get_or l.sets f d) n ≡ ((eqb n l.number && list_any (λ (a : Assign). eqb a.dest f) (take l.assign-index l.assign-items)) || has (get_or l.initial.sets f d) n);
}
