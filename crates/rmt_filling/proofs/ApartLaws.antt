-- The entries of a part stand in its cells, no two in one.
use Rattle.std.proofs.Common.{◌≡◌, ◌≢◌, ℕ, ◌+◌, ◌-◌, ◌<◌, List, true, ltb, leb, get_or, map, arith}
use Rattle.std.specs.Prelude.{All, filter}
use Rattle.std.specs.List.{range_with_len}
use Rattle.std.proofs.lemmas.Bool.{and_parts, ltb-true, leb-true}
use Rattle.std.proofs.lemmas.List.Elements.{All-filter, All-map, All-weaker, filter_passes}
use Rattle.std.proofs.lemmas.List.Sorted.{All-permutation}
use Rattle.std.proofs.lemmas.List.Kept.{AllPairs-filter}
use Rattle.rmt_bits.proofs.AllLaws.{All-range, All-unmap}
use Rattle.rmt_filling.specs.declared.stands.Stand.{Stand}
use Rattle.rmt_filling.specs.Rooms.{StandApart}
use Rattle.rmt_filling.specs.EntryCells.{StandOnce, counted_from, stands_there, stands_within}
use Rattle.rmt_bits.proofs.PairLaws.{AllPairs-map}

-- the entries of a part, of a table whose entries stand once
pub part-apart : (count first cells : ℕ) (own : List Stand) → StandOnce count own → StandApart count cells (stands_within first cells own)
part-apart count first cells own once =
    let there = stands_there first cells in
    let inside = filter there own in
    let passed : All (λ (s : Stand). there s ≡ true) inside = filter_passes there own in
    let few : All (λ (s : Stand). s.entry < count) own =
    All-unmap (λ n. n < count) (λ (s : Stand). s.entry) own
    (All-permutation (λ n. n < count) (range_with_len 0 count) (map (λ (s : Stand). s.entry) own) once.each (All-range (λ n. n < count) 0 count (λ n lt. omega (arith, lt)))) in
    record {
      entries = All-map (λ (s : Stand). s.entry < count) (counted_from first) inside (All-filter there (λ (s : Stand). s.entry < count) own few);
      cells = All-map (λ (s : Stand). s.cell < cells) (counted_from first) inside
          (All-weaker (λ (s : Stand). there s ≡ true) (λ (s : Stand). s.cell - first < cells)
          (λ s passes.
          let parts = and_parts (leb first s.cell) (ltb s.cell (first + cells)) passes in
          omega (arith, leb-true first s.cell parts.0, ltb-true s.cell (first + cells) parts.1)) inside passed);
      apart = AllPairs-map (λ (a b : Stand). a.cell ≢ b.cell) (counted_from first) inside
          (λ i j d less lt.
          let rise : (get_or inside i d).cell < (get_or inside j d).cell = AllPairs-filter (λ (a b : Stand). a.cell < b.cell) there own once.rise i j d less lt in
          let parts = and_parts (leb first (get_or inside i d).cell) (ltb (get_or inside i d).cell (first + cells)) (passed i d (omega (arith, less, lt))) in
          λ same. omega (arith, rise, leb-true first (get_or inside i d).cell parts.0, same));
    }
