use Rattle.std.proofs.Common.{◌≡◌, ◌*◌, ◌/◌, ◌^◌, ◌≤◌, ◌++◌, drop}
use Rattle.rmt_bits.specs.Bits.{number_of}
use Rattle.rmt_config.specs.NamesForm.{args_of_data}
use Rattle.rmt_book.proofs.told.args_of.Given as goal

-- the arguments so far, and then the others
abbrev pub invariant-loop-width : goal.invariant-loop-width
invariant-loop-width l = record {
  few : l.low ≤ 256 * l.width-index;
  so_far : l.args ++ args_of_data (drop l.width-index l.widths) (number_of l.held / 2 ^ l.low) ≡ args_of_data l.widths (number_of l.held);
}
