use Rattle.std.proofs.Common.{◌≡◌, take, true}
use Rattle.std.specs.List.{list_all}
use Rattle.rmt_verify.specs.EdgeSpans.{is_kept}
use Rattle.rmt_verify.proofs.edges.all_kept.Given as goal

abbrev pub invariant-loop-edge : goal.invariant-loop-edge
invariant-loop-edge l = list_all (is_kept l.spans l.starts) (take l.edge-index l.edges) ≡ true
