use Rattle.std.proofs.Common.{◌≡◌, ℕ, ◌+◌, List, ◌≤◌, length, sym, subst, ap, ◌∙◌, arith}
use Rattle.rmt_bits.specs.Bits.{bytes_of, number_of}
use Rattle.std.proofs.lemmas.Nat.{row_fits}
use Rattle.rmt_bits.proofs.ByteLaws.{length-bytes_of}
use Rattle.rmt_config.specs.ExactCells.{key_of, key_size}
use Rattle.rmt_config.proofs.ExactCellLaws.{cells-done, cells-more, cells-stop, key-there, number_at}
use Rattle.rmt_config.proofs.HighFirst.{last-of}
use Rattle.rmt_config.proofs.form.names.exact_part.put_short_keys.Goals as goal
use Rattle.rmt_config.proofs.form.names.exact_part.put_short_keys.Goals.{After-stands_at}

abbrev key : After-stands_at → ℕ
key c = key_of c.args.cells.now (number_at c.args.cells.now c.loop-number.number-index)

-- what was read is the cell's key
key-is : (c : After-stands_at) → c.short_key-key.result ≡ key c
key-is c =
    let p = c.args.cells.now in
    let place = c.place_of-place in
    c.short_key-key.ensures.value ∙ key-there p (number_at p c.loop-number.number-index) place.result place.ensures.way place.ensures.row place.ensures.position

-- and its bytes are those of the cell's key
read : (c : After-stands_at) → c.lowest-bytes.result.now ≡ bytes_of (key_size c.args.cells.now) (key c)
read c =
    c.lowest-bytes.ensures
    ∙ last-of _ c.divided_up-size.result c.short_key-key.result (omega (arith, c.divided_up-size.ensures, c.requires.short)) c.to_be_bytes-all.ensures
    ∙ ap (λ size. bytes_of size c.short_key-key.result) c.divided_up-size.ensures ∙ ap (bytes_of (key_size c.args.cells.now)) (key-is c)

pub lowest-bytes-requires-clause-few : goal.lowest-bytes-requires-clause-few
lowest-bytes-requires-clause-few c = omega (arith, c.divided_up-size.ensures, c.requires.short)

pub place_of-place-requires : goal.place_of-place-requires
place_of-place-requires c = record {
  per = c.requires.cells.per;
  quanta = c.requires.cells.quanta;
  within = c.requires.cells.within c.loop-number.number-index (record { cell = 0; number = 0 }) c.loop-number-test.true;
}

pub short_key-key-requires-clause-cells : goal.short_key-key-requires-clause-cells
short_key-key-requires-clause-cells c = c.requires.cells

pub short_key-key-requires-clause-four : goal.short_key-key-requires-clause-four
short_key-key-requires-clause-four c = c.place_of-place.ensures.four

pub short_key-key-requires-clause-low : goal.short_key-key-requires-clause-low
short_key-key-requires-clause-low c = c.place_of-place.ensures.low

pub short_key-key-requires-clause-fits : goal.short_key-key-requires-clause-fits
short_key-key-requires-clause-fits c =
    let p = c.args.cells.now in
    let entry = row_fits c.place_of-place.result.position (p.bits + 8) p.per (p.bits + 8) c.place_of-place.ensures.inside (omega arith) in
    omega (arith, entry, c.requires.cells.fits)

pub stands_at-requires : goal.stands_at-requires
stands_at-requires c = record { quanta = c.requires.cells.quanta; ways = c.requires.cells.ways; four = c.place_of-place.ensures.four }

pub put_kept-requires : goal.put_kept-requires
put_kept-requires c =
    let size = key_size c.args.cells.now in
    let at = (goal.at.put_kept-requires c).After-stands_at in
    let short : size ≤ 8 = omega (arith, c.requires.short) in (
      subst (λ (bs : List ℕ). length bs ≤ 8) (sym (read at)) (subst (λ n. n ≤ 8) (sym (length-bytes_of size (key at))) short),
      ap number_of (read at ∙ ap (bytes_of size) (sym (key-is at))) ∙ c.short_key-key.ensures.bytes,
    )

pub returns-then-not-stands_at : goal.returns-then-not-stands_at
returns-then-not-stands_at c =
    let at = (goal.at.returns-then-not-stands_at c).After-stands_at in
    cells-stop c.args.cells.now c.args.whole c.args.kept.now.items c.loop-number.number-index c.loop-number.kept.items c.loop-number.invariant c.loop-number-test.true c.requires.cells c.place_of-place.result
    c.place_of-place.ensures.four c.place_of-place.ensures.way c.place_of-place.ensures.row c.lowest-bytes.result.now c.stands_at.result (read at) c.stands_at.ensures c.if-not-stands_at.true

pub loop-number-preserved : goal.loop-number-preserved
loop-number-preserved c =
    let at = (goal.at.loop-number-preserved c).After-stands_at in
    cells-more c.args.cells.now c.args.whole c.args.kept.now.items c.loop-number.number-index c.loop-number.kept.items c.loop-number.invariant c.loop-number-test.true c.requires.cells c.place_of-place.result
    c.place_of-place.ensures.four c.place_of-place.ensures.way c.place_of-place.ensures.row c.lowest-bytes.result.now c.stands_at.result (read at) c.stands_at.ensures c.if-not-stands_at.false c.put_kept.new.into.items c.in_ok-put_kept.ensures

pub returns : goal.returns
returns c = cells-done c.args.cells.now c.args.whole c.args.kept.now.items c.loop-number.number-index c.loop-number.kept.items c.loop-number.invariant c.loop-number-test.false
