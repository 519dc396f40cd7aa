use Rattle.std.proofs.Common.{◌≡◌, take}
use Rattle.std.specs.List.{enumerate_from, flat_map, list_any}
use Rattle.indexmap.specs.IndexSet.{contains}
use Rattle.rmt_check.specs.Rules.{earliest}
use Rattle.rmt_check.proofs.SeenNames.{again}
use Rattle.rmt_check.proofs.rules.repeats.repeated_in.Given as goal

abbrev pub invariant-loop-mark : goal.invariant-loop-mark
invariant-loop-mark g l = record {
  places_so_far : l.first ≡ earliest (flat_map (again (λ x y. g.K.PartialEq.eq x.0 y.0) (λ x. x.1) l.marks) (take l.mark-index (enumerate_from 0 l.marks)));
  keys_so_far : (k : _) → contains g.K.PartialEq.eq l.seen k ≡ list_any (λ x. g.K.PartialEq.eq k x.0) (take l.mark-index l.marks);
}
