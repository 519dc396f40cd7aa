use Rattle.std.proofs.Common.{◌≡◌, ℕ, ◌+◌, ◌*◌, ◌<◌, Some, length}
use Rattle.std.specs.Prelude.{slice_get, slice_index}
use Rattle.rmt_bits.specs.Bits.{number_of, slice}
use Rattle.rmt_config.specs.Effects.{begin_of}
use Rattle.rmt_verify.proofs.cells.fields.are_arguments.Given as goal

-- the arguments so far are there
abbrev pub invariant-loop-at : goal.invariant-loop-at
invariant-loop-at l = record {
  place : l.above + begin_of l.widths l.at ≡ 8 * length l.bytes;
  so_far : (i width : ℕ) → i < l.at → slice_get l.widths i ≡ Some width → slice (number_of l.bytes) (begin_of l.widths i) width ≡ slice_index l.args i;
}
