use Rattle.std.proofs.Common.{◌≡◌, length, map, arith}
use Rattle.rmt_chip_tests.specs.declared.cells.Kept.{Kept as KeptOf}
use Rattle.rmt_cells.specs.Stands.{Held}
use Rattle.rmt_chip_tests.proofs.KeptCells.{there}
use Rattle.rmt_chip_tests.proofs.cells.rest.Goals as goal

abbrev held_of : KeptOf → Held
held_of k = record { chain = k.chain; bytes = k.bytes.items }

pub read-requires : goal.read-requires
read-requires c =
    let (count, stands) = c.requires.stands in
    let kept = c.args.kept.now in
    let x = c.index-kept-place.result in
    let size : length x.bytes.items ≡ c.len-len.result = omega (arith, c.len-len.ensures, x.bytes.ok.0) in
    record {
      held = (
        count,
        map held_of kept,
        x.bytes.items,
        stands,
        there held_of kept c.args.place x c.requires.inside c.index-kept-place.is,
        omega (arith, size, c.if-at-len.false, c.as_mut_slice.ensures.len, c.in_ok-into.ensures.len),
      );
    }
