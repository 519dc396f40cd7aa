use Rattle.std.proofs.Common.{◌≡◌, take}
use Rattle.rmt_check.specs.Reading.{control_text}
use Rattle.rmt_check.proofs.reading.control.control_text.Given as goal

abbrev pub invariant-loop-part : goal.invariant-loop-part
invariant-loop-part l = l.nodes ≡ control_text (take l.part-index l.parts)
