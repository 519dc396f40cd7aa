use Rattle.std.proofs.Common.{◌≡◌, ℕ, ◌+◌, ◌-◌, ◌*◌, ◌^◌, ◌<◌, get_or, length, take}
use Rattle.std.specs.Prelude.{sum}
use Rattle.rmt_bits.specs.Bits.{number_of}
use Rattle.rmt_config.specs.Rooms.{mask_or_value, tests_as_one}
use Rattle.rmt_pack.proofs.encoding.put_tests.Given as goal

-- the tests so far stand at their places, and behind them only zeros
abbrev pub invariant-loop-at : goal.invariant-loop-at
invariant-loop-at l = record {
  long : length l.bytes ≡ length l.fn.bytes;
  place : l.from ≡ l.first + sum (take l.at l.widths);
  fits : (k : ℕ) → get_or l.bytes k 0 < 2 ^ 8;
  number : number_of l.bytes ≡ tests_as_one (mask_or_value l.mask) (take l.at l.widths) (take l.at l.tests) * 2 ^ (8 * length l.bytes - l.from);
}
