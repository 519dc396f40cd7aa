use Rattle.std.proofs.Common.{◌≡◌, ◌++◌, drop, map}
use Rattle.rmt_ast.specs.State.{width_of}
use Rattle.rmt_ast.proofs.naming.widths_of.Given as goal

-- the widths so far, and then the others
abbrev pub invariant-loop-field : goal.invariant-loop-field
invariant-loop-field l = l.widths ++ map (width_of l.program) (drop l.field-index l.fields) ≡ map (width_of l.program) l.fields
