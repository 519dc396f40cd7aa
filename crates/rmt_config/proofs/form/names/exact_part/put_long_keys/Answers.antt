use Rattle.std.proofs.Common.{◌≡◌, ℕ, ◌+◌, List, ◌++◌, ◌/◌, ◌<◌, length, sym, subst, ap, ◌∙◌, arith}
use Rattle.rmt_bits.specs.Bits.{bytes_of}
use Rattle.std.proofs.lemmas.Nat.{row_fits}
use Rattle.rmt_bits.proofs.ByteLaws.{length-bytes_of}
use Rattle.rmt_config.specs.Cells.{entry_at, sram_row}
use Rattle.rmt_config.specs.ExactCells.{key_of, key_size}
use Rattle.rmt_config.proofs.ExactCellLaws.{cells-done, cells-more, cells-stop, key-there, number_at}
use Rattle.rmt_config.proofs.form.names.exact_part.put_long_keys.Goals as goal
use Rattle.rmt_config.proofs.form.names.exact_part.put_long_keys.Goals.{After-stands_at}

abbrev key : After-stands_at → ℕ
key c = key_of c.args.cells.now (number_at c.args.cells.now c.loop-number.number-index)

-- what was read are the bytes of the cell's key
read : (c : After-stands_at) → c.as_slice-bytes.result.now ≡ bytes_of (key_size c.args.cells.now) (key c)
read c =
    let p = c.args.cells.now in
    let place = c.place_of-place in
    c.as_slice-bytes.ensures.value ∙ c.in_ok-put_key.ensures ∙ ap (λ (old : List ℕ). old ++ bytes_of (key_size p) (entry_at (sram_row p.rows.now) p.blocks.now p.width p.bits (record { way = place.result.way; row = place.result.row; position = place.result.position }) / 256)) c.clear.ensures.items
    ∙ ap (bytes_of (key_size p)) (key-there p (number_at p c.loop-number.number-index) place.result place.ensures.way place.ensures.row place.ensures.position)

pub place_of-place-requires : goal.place_of-place-requires
place_of-place-requires c = record {
  per = c.requires.cells.per;
  quanta = c.requires.cells.quanta;
  within = c.requires.cells.within c.loop-number.number-index (record { cell = 0; number = 0 }) c.loop-number-test.true;
}

pub put_key-requires : goal.put_key-requires
put_key-requires c = record {
  cells = c.requires.cells;
  four = c.place_of-place.ensures.four;
  low = c.place_of-place.ensures.low;
  fits =
      let p = c.args.cells.now in
      let entry = row_fits c.place_of-place.result.position (p.bits + 8) p.per (p.bits + 8) c.place_of-place.ensures.inside (omega arith) in
      omega (arith, entry, c.requires.cells.fits);
}

pub stands_at-requires : goal.stands_at-requires
stands_at-requires c = record { quanta = c.requires.cells.quanta; ways = c.requires.cells.ways; four = c.place_of-place.ensures.four }

pub put_kept-requires : goal.put_kept-requires
put_kept-requires c =
    let size = key_size c.args.cells.now in
    let at = (goal.at.put_kept-requires c).After-stands_at in
    let long : 8 < size = omega (arith, c.requires.long) in
    subst (λ (bs : List ℕ). 8 < length bs) (sym (read at)) (subst (λ n. 8 < n) (sym (length-bytes_of size (key at))) long)

pub returns-then-not-stands_at : goal.returns-then-not-stands_at
returns-then-not-stands_at c =
    let at = (goal.at.returns-then-not-stands_at c).After-stands_at in
    cells-stop c.args.cells.now c.args.whole c.args.kept.now.items c.loop-number.number-index c.loop-number.kept.items c.loop-number.invariant c.loop-number-test.true c.requires.cells c.place_of-place.result
    c.place_of-place.ensures.four c.place_of-place.ensures.way c.place_of-place.ensures.row c.as_slice-bytes.result.now c.stands_at.result (read at) c.stands_at.ensures c.if-not-stands_at.true

pub loop-number-preserved : goal.loop-number-preserved
loop-number-preserved c =
    let at = (goal.at.loop-number-preserved c).After-stands_at in
    cells-more c.args.cells.now c.args.whole c.args.kept.now.items c.loop-number.number-index c.loop-number.kept.items c.loop-number.invariant c.loop-number-test.true c.requires.cells c.place_of-place.result
    c.place_of-place.ensures.four c.place_of-place.ensures.way c.place_of-place.ensures.row c.as_slice-bytes.result.now c.stands_at.result (read at) c.stands_at.ensures c.if-not-stands_at.false c.put_kept.new.into.items c.in_ok-put_kept.ensures

pub returns : goal.returns
returns c = cells-done c.args.cells.now c.args.whole c.args.kept.now.items c.loop-number.number-index c.loop-number.kept.items c.loop-number.invariant c.loop-number-test.false
