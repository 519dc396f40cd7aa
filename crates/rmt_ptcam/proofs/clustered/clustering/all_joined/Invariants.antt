use Rattle.std.proofs.Common.{◌≡◌, ◌≤◌, ℕ}
use Rattle.rmt_ptcam.specs.Clustering.{all_headers, some_headers}
use Rattle.rmt_ptcam.specs.Grouping.{Stand, parser_in}
use Rattle.rmt_ptcam.proofs.clustered.clustering.all_joined.Given as goal

abbrev pub decreases-loop-left : goal.decreases-loop-left
decreases-loop-left l = l.left

-- what is left to do gives the whole, whatever is behind in the last header
abbrev pub invariant-loop-left : goal.invariant-loop-left
invariant-loop-left l = record {
  so_far : (behind : ℕ) × (some_headers l.program l.left (record { parser = parser_in l.groups; joins = l.joins; behind = behind }) ≡ all_headers l.program (parser_in l.initial.groups));
  stand : Stand l.groups;
  few : l.left ≤ 64;
}
