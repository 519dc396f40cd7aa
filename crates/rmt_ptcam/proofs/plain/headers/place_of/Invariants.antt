use Rattle.std.proofs.Common.{◌≡◌, ◌+◌, drop}
use Rattle.rmt_ast.specs.WellFormed.{bits_of}
use Rattle.rmt_ptcam.specs.Needs.{place_in}
use Rattle.rmt_ptcam.proofs.plain.headers.place_of.Given as goal

abbrev pub invariant-loop-other : goal.invariant-loop-other
invariant-loop-other l = record {
  bits : l.from + bits_of l.program (drop l.other-index l.fields) ≡ bits_of l.program l.fields;
  place : l.from + place_in l.program (drop l.other-index l.fields) l.field ≡ place_in l.program l.fields l.field;
}
