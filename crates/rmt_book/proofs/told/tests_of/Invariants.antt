use Rattle.std.proofs.Common.{◌≡◌, ◌≤◌, ◌-◌, ◌^◌, ◌++◌, drop, sum}
use Rattle.std.specs.Prelude.{if◌then◌else◌}
use Rattle.rmt_bits.specs.Bits.{number_of}
use Rattle.rmt_config.specs.NamesForm.{tests_of_key}
use Rattle.rmt_book.proofs.told.tests_of.Given as goal

-- the tests so far, and then the others
abbrev pub invariant-loop-width : goal.invariant-loop-width
invariant-loop-width l = record {
  within : l.low ≤ sum l.widths;
  place : l.low ≡ sum (drop l.width-index l.widths);
  so_far : l.tests ++ tests_of_key (drop l.width-index l.widths) (number_of l.key) (if l.whole then 2 ^ sum l.widths - 1 else number_of l.mask)
      ≡ tests_of_key l.widths (number_of l.key) (if l.whole then 2 ^ sum l.widths - 1 else number_of l.mask);
}
