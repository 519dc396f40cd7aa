use Rattle.std.proofs.Common.{◌≡◌, ◌≤◌, drop, fold}
use Rattle.std.specs.List.{enumerate_from}
use Rattle.rmt_check.specs.Reading.{all_added, with_arm}
use Rattle.rmt_check.proofs.ReadingLaws.{arms, adds_of}
use Rattle.rmt_check.proofs.reading.control.+push_nodes.Given as goal

abbrev pub decreases-push_nodes : goal.decreases-push_nodes
decreases-push_nodes l = goal.size-push_nodes l

abbrev pub invariant-loop-part : goal.invariant-loop-part
invariant-loop-part l = all_added (adds_of (drop l.part-index l.part-items)) l.under l.nodes ≡ all_added (adds_of l.part-items) l.under l.initial.nodes

abbrev pub invariant-loop-part-2 : goal.invariant-loop-part-2
invariant-loop-part-2 l = (l.arm ≤ l.part-index)
    × (fold (with_arm l.parent) l.nodes (enumerate_from l.arm (arms (drop l.part-index l.part-items)))
    ≡ fold (with_arm l.parent) l.initial.nodes (enumerate_from 0 (arms l.part-items)))
