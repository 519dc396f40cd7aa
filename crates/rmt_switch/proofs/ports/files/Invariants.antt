use Rattle.std.proofs.Common.{◌≡◌, ◌+◌, ◌++◌, length}
use Rattle.std.specs.Vec.Iter.{into_iter_items}
use Rattle.rmt_switch.specs.Ports.{files_from}
use Rattle.rmt_switch.proofs.ports.files.Given as goal

-- the files so far, and those of the ports that are left
abbrev pub invariant-loop-bytes : goal.invariant-loop-bytes
invariant-loop-bytes l = record {
  can : (goal.iterator-loop-bytes).can_next l.bytes-iterator;
  ends : (goal.iterator-loop-bytes).is_finite l.bytes-iterator;
  files : l.files ++ files_from l.port (into_iter_items l.bytes-iterator) ≡ files_from 0 l.fn.captures.items;
  left : l.port + length (into_iter_items l.bytes-iterator) ≡ 512;
}
