use Rattle.std.proofs.Common.{◌≡◌, ◌+◌, ◌*◌, length, drop}
use Rattle.rmt_bits.specs.Bits.{number_of}
use Rattle.rmt_ast.specs.State.{set_fields}
use Rattle.rmt_ast.specs.WellFormed.{bits_of}
use Rattle.rmt_plain.proofs.fields.set_fields.Given as goal

abbrev pub invariant-loop-field : goal.invariant-loop-field
invariant-loop-field l = record {
  from_is : l.from + bits_of l.program (drop l.field-index l.fields) ≡ 8 * length l.bytes;
  rest : set_fields l.program (drop l.field-index l.fields) (number_of l.bytes) l.state ≡ set_fields l.program l.fields (number_of l.bytes) l.initial.state;
}
