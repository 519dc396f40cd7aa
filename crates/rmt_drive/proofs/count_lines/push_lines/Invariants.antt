use Rattle.std.proofs.Common.{◌≡◌, ◌++◌, take}
use Rattle.std.specs.List.{flat_map}
use Rattle.rmt_drive.specs.SimText.{count_line}
use Rattle.rmt_drive.proofs.count_lines.push_lines.Given as goal

abbrev pub invariant-loop-count : goal.invariant-loop-count
invariant-loop-count l = l.text.items ≡ l.initial.text.items ++ flat_map count_line (take l.count-index l.counts)
