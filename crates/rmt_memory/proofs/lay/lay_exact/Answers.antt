use Rattle.std.proofs.Common.{◌≡◌, List, ℕ, ◌*◌, ◌%◌, ◌/◌, sym, refl, ap, ◌∙◌, subst, arith}
use Rattle.std.proofs.lemmas.Bool.{and_from, eq-eqb, le-leb}
use Rattle.std.proofs.lemmas.Nat.{mod_below}
use Rattle.rmt_memory.specs.Types.{SramRow, CellNumber}
use Rattle.rmt_config.specs.declared.form.layout.CellLayout.{CellLayout}
use Rattle.rmt_config.specs.LaneForm.{bits_of_lanes}
use Rattle.rmt_config.specs.BlockCounts.{divided_up}
use Rattle.rmt_config.specs.Cells.{sram_row, cell_of, data_at, entry_at}
use Rattle.rmt_memory.specs.Laying.{runs_of}
use Rattle.rmt_memory.specs.Laid.{CellsLaid}
use Rattle.rmt_memory.proofs.LayLaws.{cells-below, exact-heads, exact-keys, cells-hold}
use Rattle.rmt_memory.proofs.LayoutLaws.{rows-formed, exact-in, exact-blocks, exact-cells, exact-few, few-bits}
use Rattle.rmt_memory.proofs.lay.lay_exact.Goals as goal

pub runs_of-requires : goal.runs_of-requires
runs_of-requires c = record {
  rows = rows-formed c.args.stage.now c.as_slice-rows.result.now c.as_slice-rows.ensures c.requires.rows;
  layout = exact-in _ _ _ _ _ _ c.requires.fits _ (c.key_bits-bits.ensures ∙ ap bits_of_lanes c.as_slice.ensures) _ c.exact_keys-layout.ensures;
  blocks = exact-blocks _ _ _ _ _ _ c.requires.fits _ (c.key_bits-bits.ensures ∙ ap bits_of_lanes c.as_slice.ensures) _ c.exact_keys-layout.ensures;
  cells = exact-cells _ _ _ _ _ _ c.requires.fits _ (c.key_bits-bits.ensures ∙ ap bits_of_lanes c.as_slice.ensures) _ c.exact_keys-layout.ensures c.as_slice-numbers.result.now c.as_slice-numbers.ensures c.requires.numbers.below;
  bits = let entry = ap (λ (l : CellLayout). l.entry) c.exact_keys-layout.ensures in omega (arith, entry);
}

pub runs_of-requires-2 : goal.runs_of-requires-2
runs_of-requires-2 c = record {
  rows = rows-formed c.args.stage.now c.as_slice-rows.result.now c.as_slice-rows.ensures c.requires.rows;
  layout = exact-in _ _ _ _ _ _ c.requires.fits _ (c.key_bits-bits.ensures ∙ ap bits_of_lanes c.as_slice.ensures) _ c.exact_keys-layout.ensures;
  blocks = exact-blocks _ _ _ _ _ _ c.requires.fits _ (c.key_bits-bits.ensures ∙ ap bits_of_lanes c.as_slice.ensures) _ c.exact_keys-layout.ensures;
  cells = exact-cells _ _ _ _ _ _ c.requires.fits _ (c.key_bits-bits.ensures ∙ ap bits_of_lanes c.as_slice.ensures) _ c.exact_keys-layout.ensures c.as_slice-numbers.result.now c.as_slice-numbers.ensures c.requires.numbers.below;
  bits = let entry = ap (λ (l : CellLayout). l.entry) c.exact_keys-layout.ensures in omega (arith, entry);
}

pub exact_data-requires : goal.exact_data-requires
exact_data-requires c = record {
  rows = rows-formed c.args.stage.now c.as_slice-rows.result.now c.as_slice-rows.ensures c.requires.rows;
  per = c.requires.fits.some_p;
  quanta = c.requires.fits.some_d;
  few = c.requires.fits.most_d;
  records = c.requires.fits.records;
  cells =
      let count = 4096 * c.args.format.quanta * c.args.format.per in
      cells-below c.args.slot.now.numbers c.as_slice-numbers.result.now count count c.as_slice-numbers.ensures refl c.requires.numbers.below;
}

pub overflow_mul-count-2 : goal.overflow_mul-count-2
overflow_mul-count-2 c = let few = exact-few _ _ _ _ _ _ c.requires.fits in omega (arith, few)

pub cells_of-requires : goal.cells_of-requires
cells_of-requires c = record {
  heads = c.in_ok-heads.ensures.count;
  keys = c.in_ok-found.ensures.count;
  held = c.in_ok-held.ensures.count;
  head_size = c.in_ok-heads.ensures.size;
  inside =
      let count = 4096 * c.args.format.quanta * c.args.format.per in
      cells-below c.args.slot.now.numbers c.as_slice-numbers.result.now count count c.as_slice-numbers.ensures refl c.requires.numbers.below;
  few = let few = exact-few _ _ _ _ _ _ c.requires.fits in omega (arith, few);
  tail = c.number_size-tail.ensures.few;
  short =
      let few = few-bits _ _ (c.key_bits-bits.ensures ∙ ap bits_of_lanes c.as_slice.ensures) c.requires.fits.most_bits in
      let key = c.in_ok-found.ensures.size in
      let held = c.in_ok-held.ensures.size in
      let most = c.requires.fits.most_held in
      omega (arith, few, key, held, most);
}

pub marks_of-requires : goal.marks_of-requires
marks_of-requires c = let size = c.in_ok-cells.ensures.size in omega (arith, size)

pub invariant_of-ways : goal.invariant_of-ways
invariant_of-ways c =
    let some = c.requires.fits.some_d in
    let most = c.requires.fits.most_d in
    let few = exact-few _ _ _ _ _ _ c.requires.fits in
    record { some_rows = omega (arith, some); few_rows = omega (arith, most); low_ways = c.requires.ways; few_cells = omega (arith, few) }

pub invariant_of-result : goal.invariant_of-result
invariant_of-result c =
    let few = few-bits _ _ (c.key_bits-bits.ensures ∙ ap bits_of_lanes c.as_slice.ensures) c.requires.fits.most_bits in
    let key = c.in_ok-found.ensures.size in
    let all = c.in_ok-cells.ensures.all in
    let found = c.in_ok-found.found in
    let cells = c.in_ok-cells.cells in
    let f = c.args.format in
    record {
      short = omega (arith, few, key);
      size = c.in_ok-cells.ensures.size;
      few = c.number_size-tail.ensures.few;
      within = and_from _ _ (eq-eqb found.size found.size refl) (le-leb (4 * (1024 * f.quanta) * f.per) cells.count (omega (arith, all)));
      marked = c.in_ok-marks.ensures;
    }

pub returns : goal.returns
returns c = record {
  laid = λ cs.
      let slot = c.args.slot.now in
      let k = c.args.format.width in
      let p = c.args.format.per in
      let d = c.args.format.quanta in
      let ks = c.args.keys.now in
      let rs = c.args.records.now in
      let bits : c.key_bits-bits.result ≡ bits_of_lanes slot.keys = c.key_bits-bits.ensures ∙ ap bits_of_lanes c.as_slice.ensures in
      let b = bits_of_lanes slot.keys in
      let l = c.exact_keys-layout.result in
      let rows = c.args.stage.now.srows in
      let rows' = c.as_slice-rows.result.now in
      let numbers = slot.numbers in
      let numbers' = c.as_slice-numbers.result.now in
      let fits = c.requires.fits in
      let size : c.in_ok-found.found.size ≡ divided_up b 8 = c.in_ok-found.ensures.size ∙ ap (λ n. divided_up n 8) bits in
      let heads = c.in_ok-heads.heads in
      let found = c.in_ok-found.found in
      let held = c.in_ok-held.held in
      let entry : ℕ → ℕ = λ n. entry_at (sram_row rows) ks k b (cell_of (1024 * d) p n) in
      let kept : ℕ → ℕ = λ n. data_at (sram_row rows) rs p slot.held (cell_of (1024 * d) p n) in
      let fs : heads.bytes.items ≡ runs_of 1 (λ n. entry n % 256) numbers =
      c.in_ok-heads.ensures.bytes ∙ exact-heads rows rows' numbers numbers' l ks k p d b c.key_bits-bits.result c.exact_keys-layout.ensures bits c.as_slice-rows.ensures c.as_slice-numbers.ensures fits.some_p fits.some_d in
      let gs : found.bytes.items ≡ runs_of (divided_up b 8) (λ n. entry n / 256) numbers =
      c.in_ok-found.ensures.bytes ∙ exact-keys rows rows' numbers numbers' l ks k p d b c.key_bits-bits.result c.exact_keys-layout.ensures bits c.as_slice-rows.ensures c.as_slice-numbers.ensures fits.some_p fits.some_d in
      let hs : held.bytes.items ≡ runs_of (divided_up slot.held 8) kept numbers =
      c.in_ok-held.ensures.bytes
      ∙ ap (λ (xs : List SramRow). runs_of (divided_up slot.held 8) (λ n. data_at (sram_row xs) rs p slot.held (cell_of (1024 * d) p n)) numbers') c.as_slice-rows.ensures
      ∙ ap (λ (ns : List CellNumber). runs_of (divided_up slot.held 8) kept ns) c.as_slice-numbers.ensures in
      let cells = subst (λ (ns : List CellNumber). CellsLaid c.number_size-tail.result ns heads found held (4096 * d * p) c.in_ok-cells.cells) c.as_slice-numbers.ensures c.in_ok-cells.ensures in
      record {
        fits = record {
          key = size;
          held = c.in_ok-held.ensures.size;
          cells = cells.all;
          numbers = λ counted some. c.number_size-tail.ensures.counted counted;
          keys = and_from _ _ (and_from _ _ (and_from _ _ (eq-eqb c.args.format.first_way c.args.format.first_way refl) (eq-eqb (1024 * d) (1024 * d) refl)) (eq-eqb p p refl)) (eq-eqb found.size (divided_up b 8) size);
        };
        listed = cells-hold c.number_size-tail.result heads found held c.in_ok-cells.cells found.size held.size (4096 * d * p) (λ n. entry n % 256) (λ n. entry n / 256) kept numbers cells c.requires.numbers.rise
            (λ n. mod_below (entry n) 256 (omega arith)) c.in_ok-heads.ensures.size fs refl (gs ∙ ap (λ z. runs_of z (λ n. entry n / 256) numbers) (sym size))
            refl (hs ∙ ap (λ z. runs_of z kept numbers) (sym c.in_ok-held.ensures.size));
        others = cells.others;
        vectors = tt;
      };
}
