use Rattle.std.proofs.Common.{◌≡◌, ◌+◌, ◌*◌, ◌==◌, drop, length}
use Rattle.std.specs.Prelude.{sum}
use Rattle.rmt_bits.specs.Bits.{number_of}
use Rattle.rmt_verify.proofs.FieldLaws.{left_of, one}
use Rattle.rmt_verify.proofs.cells.fields.are_tests.Given as goal

-- the tests so far agree
abbrev pub invariant-loop-at : goal.invariant-loop-at
invariant-loop-at l = record {
  place : l.from + sum (drop l.at l.widths) ≡ 8 * length l.bytes;
  same : left_of l.mask l.widths l.tests (number_of l.bytes) l.at ≡ (number_of l.bytes == one l.mask l.widths l.tests);
}
