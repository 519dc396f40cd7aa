use Rattle.std.proofs.Common.{◌≡◌, take}
use Rattle.rmt_entries.specs.Lines.{is_printable}
use Rattle.rmt_entries.proofs.line.is_printable.Given as goal

abbrev pub invariant-loop-byte : goal.invariant-loop-byte
invariant-loop-byte l = l.all ≡ is_printable (take l.byte-index l.line)
