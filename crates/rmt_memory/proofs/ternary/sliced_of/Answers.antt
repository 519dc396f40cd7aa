use Rattle.std.proofs.Common.{◌≡◌, ◌<◌, ◌/◌, ◌%◌, ℕ, List, length, map, get_or, cond, Some, None, sym, ap, subst, ◌∙◌, arith}
use Rattle.rmt_memory.specs.Types.{TcamRow}
use Rattle.rmt_config.specs.Cells.{tcam_row, blocks_at}
use Rattle.rmt_bits.specs.Grouping.{Compared}
use Rattle.rmt_memory.specs.Comparing.{compared_at}
use Rattle.rmt_memory.specs.Laying.{nowhere}
use Rattle.rmt_memory.specs.Searching.{run_of}
use Rattle.rmt_memory.specs.Slicing.{RowFits}
use Rattle.rmt_memory.specs.Sights.{seen_by}
use Rattle.rmt_memory.proofs.PutLaws.{RowsPut, no-rows, one-row, rows-are}
use Rattle.rmt_memory.proofs.ternary.sliced_of.Goals as goal
use Rattle.rmt_memory.proofs.SliceLaws.{compared, compared-same}

-- what was read of a row of a unit is what the row compares
row_is : (rows : List TcamRow) (blocks unit ms vs : List ℕ) (side cell : ℕ) → unit ≡ blocks_at blocks side (cell / 2048)
    → ms ≡ map (λ b. tcam_row (λ (t : TcamRow). t.mask) rows b (cell % 2048)) unit → vs ≡ map (λ b. tcam_row (λ (t : TcamRow). t.value) rows b (cell % 2048)) unit → compared ms vs ≡ compared_at rows blocks side cell
row_is rows blocks unit ms vs side cell is m v =
    let read = λ (val : TcamRow → ℕ). ap (λ (bs : List ℕ). map (λ b. tcam_row val rows b (cell % 2048)) bs) is in
    compared-same _ _ _ _ (m ∙ read (λ (t : TcamRow). t.mask)) (v ∙ read (λ (t : TcamRow). t.value))

pub put-requires-clause-row : goal.put-requires-clause-row
put-requires-clause-row c =
    let i = c.loop-at.at in
    let inside : i < length c.args.numbers.now = omega arith in
    let low = c.requires.inside i nowhere inside in
    let width = c.loop-at.invariant.width in
    omega (arith, low, width)

pub put-requires-clause-fits : goal.put-requires-clause-fits
put-requires-clause-fits c =
    let i = c.loop-at.at in
    let inside : i < length c.args.numbers.now = omega arith in
    let here : compared c.deref.result.now c.deref-in-loop-at.result.now ≡ compared_at c.args.rows.now c.args.blocks.now c.args.side (get_or c.args.numbers.now i nowhere).cell =
    row_is _ _ _ _ _ _ _ c.piece_at-unit.ensures.value (c.deref.ensures.value ∙ c.in_ok-bits.ensures.masks) (c.deref-in-loop-at.ensures.value ∙ c.in_ok-bits.ensures.values) in
    subst (λ w. RowFits w (compared c.deref.result.now c.deref-in-loop-at.result.now)) (sym c.loop-at.invariant.words) (subst (RowFits c.args.side) (sym here) (c.requires.fit i nowhere inside))

pub loop-at-preserved : goal.loop-at-preserved
loop-at-preserved c =
    let i = c.loop-at.at in
    let numbers = c.args.numbers.now in
    let inside : i < length numbers = omega arith in
    let cell = (get_or numbers i nowhere).cell in
    let here : compared c.deref.result.now c.deref-in-loop-at.result.now ≡ compared_at c.args.rows.now c.args.blocks.now c.args.side cell =
    row_is _ _ _ _ _ _ _ c.piece_at-unit.ensures.value (c.deref.ensures.value ∙ c.in_ok-bits.ensures.masks) (c.deref-in-loop-at.ensures.value ∙ c.in_ok-bits.ensures.values) in
    let head : get_or c.run_at.result.now 0 0 ≡ get_or (run_of c.args.heads.now i) 0 0 = ap (λ (bs : List ℕ). get_or bs 0 0) c.run_at.ensures.value in
    record {
      words = c.put.ensures.words ∙ c.loop-at.invariant.words;
      width = c.put.ensures.width ∙ c.loop-at.invariant.width;
      put = λ shown sight few shows.
          one-row numbers shown sight c.args.count few i c.loop-at.sliced c.put.new.self
          (λ v. cond (seen_by v (get_or c.run_at.result.now 0 0)) (Some (compared c.deref.result.now c.deref-in-loop-at.result.now)) None)
          inside c.requires.inside (c.loop-at.invariant.put shown sight few shows) c.put.ensures
          (ap (λ h. cond (seen_by sight h) (Some (compared c.deref.result.now c.deref-in-loop-at.result.now)) None) head
          ∙ ap (λ (e : Compared). cond (seen_by sight (get_or (run_of c.args.heads.now i) 0 0)) (Some e) None) here ∙ sym (shows.listed i inside));
    }

pub returns-clause-stands : goal.returns-clause-stands
returns-clause-stands c = λ shown sight few shows.
    let end : c.loop-at.at ≡ length c.args.numbers.now = omega (arith, c.loop-at-test.false, c.loop-at.auto.at-end) in
    rows-are c.args.numbers.now shown sight c.args.count few c.loop-at.sliced
    (subst (λ n. RowsPut c.args.numbers.now shown sight c.args.count n c.loop-at.sliced) end (c.loop-at.invariant.put shown sight few shows)) shows.others

pub loop-at-init : goal.loop-at-init
loop-at-init c = record {
  words = c.in_ok-sliced.ensures.words;
  width = c.in_ok-sliced.ensures.width;
  put = λ shown sight few shows. no-rows c.args.numbers.now shown sight c.args.count few c.in_ok-sliced.sliced (c.in_ok-sliced.ensures.stands sight few);
}
