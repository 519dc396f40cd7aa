use Rattle.std.proofs.Common.{◌≡◌, ◌+◌, ◌-◌, ◌*◌, ◌^◌, ◌<◌, ◌≤◌, length, drop}
use Rattle.std.specs.Prelude.{sum}
use Rattle.rmt_bits.specs.Bits.{number_of}
use Rattle.rmt_config.specs.Rooms.{args_as_one}
use Rattle.rmt_pack.proofs.encoding.put_args.Given as goal

-- the arguments so far stand below the highest `above` bits, and there is room for the others
abbrev pub invariant-loop-at : goal.invariant-loop-at
invariant-loop-at l = record {
  room : sum (drop l.at l.widths) ≤ l.above;
  within : l.above ≤ 8 * length l.bytes;
  small : number_of l.bytes < 2 ^ (8 * length l.bytes - l.above);
  value : number_of l.bytes + 2 ^ (8 * length l.bytes - l.above) * args_as_one (drop l.at l.widths) (drop l.at l.args) ≡ 2 ^ l.low * args_as_one l.widths l.args;
}
