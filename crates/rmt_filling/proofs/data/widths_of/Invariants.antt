use Rattle.std.proofs.Common.{◌≡◌, map, take}
use Rattle.rmt_ast.specs.State.{width_of}
use Rattle.rmt_filling.proofs.data.widths_of.Given as goal

abbrev pub invariant-loop-field : goal.invariant-loop-field
invariant-loop-field l = l.widths ≡ map (width_of l.program) (take l.field-index l.fields)
