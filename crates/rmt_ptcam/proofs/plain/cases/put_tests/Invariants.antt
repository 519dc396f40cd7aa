use Rattle.std.proofs.Common.{◌≡◌, length, map, drop, fold}
use Rattle.std.specs.List.{zip}
use Rattle.rmt_bits.specs.Bits.{number_of}
use Rattle.rmt_ptcam.specs.Types.{Test}
use Rattle.rmt_ptcam.specs.Plain.{with_field}
use Rattle.rmt_ptcam.proofs.plain.cases.put_tests.Given as goal

-- the tests that are left
abbrev pub invariant-loop-place : goal.invariant-loop-place
invariant-loop-place l = record {
  values : fold (with_field l.program l.header) (number_of l.values) (zip (drop l.place l.header.select) (map (λ (t : Test). t.value) (drop l.place l.tests)))
      ≡ fold (with_field l.program l.header) (number_of l.initial.values) (zip l.header.select (map (λ (t : Test). t.value) l.tests));
  masks : fold (with_field l.program l.header) (number_of l.masks) (zip (drop l.place l.header.select) (map (λ (t : Test). t.mask) (drop l.place l.tests)))
      ≡ fold (with_field l.program l.header) (number_of l.initial.masks) (zip l.header.select (map (λ (t : Test). t.mask) l.tests));
  as_many_values : length l.values ≡ length l.initial.values;
  as_many_masks : length l.masks ≡ length l.initial.masks;
}
