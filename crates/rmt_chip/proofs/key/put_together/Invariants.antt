use Rattle.std.proofs.Common.{◌≡◌, ◌+◌, ◌-◌, ◌*◌, ◌^◌, length, take}
use Rattle.std.specs.Prelude.{slice_index}
use Rattle.rmt_bits.specs.Bits.{number_of}
use Rattle.rmt_config.specs.LaneForm.{bits_of_lanes}
use Rattle.rmt_config.specs.Life.{key_of}
use Rattle.rmt_chip.proofs.key.put_together.Given as goal

abbrev pub invariant-loop-piece : goal.invariant-loop-piece
invariant-loop-piece l = record {
  at_is : l.at + bits_of_lanes l.lanes ≡ 8 * length l.fn.buffer + bits_of_lanes (take l.piece-index l.lanes);
  so_far : number_of l.buffer ≡ key_of (λ w. slice_index l.fn.vector w) (take l.piece-index l.lanes) * 2 ^ (8 * length l.fn.buffer - l.at);
}
