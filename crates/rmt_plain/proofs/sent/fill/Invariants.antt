use Rattle.std.proofs.Common.{◌≡◌, ◌+◌, ◌*◌, ◌^◌, ℕ, length, drop}
use Rattle.rmt_bits.specs.Bits.{number_of}
use Rattle.rmt_ast.specs.State.{IsState, joined}
use Rattle.rmt_ast.specs.WellFormed.{bits_of}
use Rattle.rmt_plain.proofs.sent.fill.Given as goal

abbrev pub invariant-loop-field : goal.invariant-loop-field
invariant-loop-field l = record {
  at_is : l.at + bits_of l.program (drop l.field-index l.fields) ≡ 8 * length l.bytes;
  high : (k : ℕ) × (number_of l.bytes ≡ k * 2 ^ bits_of l.program (drop l.field-index l.fields));
  so_far : IsState l.program l.state → number_of l.bytes + joined l.program (drop l.field-index l.fields) l.state ≡ joined l.program l.fields l.state;
}
