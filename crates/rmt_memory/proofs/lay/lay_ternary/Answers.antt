use Rattle.std.proofs.Common.{◌≡◌, ℕ, List, ◌+◌, ◌-◌, ◌*◌, ◌/◌, ◌%◌, ◌<◌, ◌≤◌, length, get_or, cond, Some, None, sym, refl, ap, ◌∙◌, subst, arith}
use Rattle.std.proofs.lemmas.Bool.{and_from, eq-eqb}
use Rattle.std.proofs.lemmas.Nat.{mod_below}
use Rattle.rmt_memory.specs.Types.{TcamRow, CellNumber}
use Rattle.rmt_config.specs.LaneForm.{bits_of_lanes}
use Rattle.rmt_config.specs.BlockCounts.{divided_up}
use Rattle.rmt_config.specs.Cells.{Content, content_of, row_record, sram_row}
use Rattle.rmt_config.specs.PrefixRow.{PrefixRows}
use Rattle.rmt_config.specs.declared.config.Memory.TheVariants.{Ternary}
use Rattle.rmt_bits.specs.Grouping.{Compared}
use Rattle.rmt_memory.specs.Comparing.{ShowsListed, compared_at}
use Rattle.rmt_memory.specs.Laying.{cell_at, nowhere, runs_of}
use Rattle.rmt_memory.specs.Laid.{CellsLaid}
use Rattle.rmt_memory.specs.Searching.{run_of}
use Rattle.rmt_memory.specs.Slicing.{RowFits}
use Rattle.rmt_memory.specs.Sights.{seen_by}
use Rattle.rmt_memory.specs.Memories.{compared_of}
use Rattle.rmt_memory.proofs.LayLaws.{cells-below, ternary-heads, ternary-data, compared-is, compared-fits, cells-hold, head-of}
use Rattle.rmt_memory.proofs.LayoutLaws.{rows-formed, ternary-in, ternary-blocks, ternary-cells, ternary-entry, few-bits}
use Rattle.rmt_memory.proofs.RunLaws.{runs-none}
use Rattle.rmt_memory.proofs.lay.lay_ternary.Goals as goal
use Rattle.rmt_config.proofs.CellLayouts.{width-is}
use Rattle.rmt_config.proofs.CellLaws.{blocks-there}

pub runs_of-requires : goal.runs_of-requires
runs_of-requires c = record {
  rows = rows-formed c.args.stage.now c.as_slice-rows.result.now c.as_slice-rows.ensures c.requires.rows;
  layout = ternary-in _ _ _ _ c.requires.fits _ c.ternary_records-layout.ensures;
  blocks = ternary-blocks _ _ _ _ c.requires.fits _ c.ternary_records-layout.ensures;
  cells = ternary-cells _ _ _ _ c.requires.fits _ c.ternary_records-layout.ensures c.as_slice-numbers.result.now c.as_slice-numbers.ensures c.requires.numbers.below;
  bits = let entry = ternary-entry _ _ _ _ c.requires.fits _ c.ternary_records-layout.ensures in omega (arith, entry);
}

pub runs_of-requires-2 : goal.runs_of-requires-2
runs_of-requires-2 c = record {
  rows = rows-formed c.args.stage.now c.as_slice-rows.result.now c.as_slice-rows.ensures c.requires.rows;
  layout = ternary-in _ _ _ _ c.requires.fits _ c.ternary_records-layout.ensures;
  blocks = ternary-blocks _ _ _ _ c.requires.fits _ c.ternary_records-layout.ensures;
  cells = ternary-cells _ _ _ _ c.requires.fits _ c.ternary_records-layout.ensures c.as_slice-numbers.result.now c.as_slice-numbers.ensures c.requires.numbers.below;
  bits = let entry = ternary-entry _ _ _ _ c.requires.fits _ c.ternary_records-layout.ensures in omega (arith, entry);
}

pub overflow_mul-count : goal.overflow_mul-count
overflow_mul-count c = let most = c.requires.fits.most_d in omega (arith, most)

pub overflow_add-bits : goal.overflow_add-bits
overflow_add-bits c =
    let few = few-bits _ _ (c.key_bits-bits.ensures ∙ ap bits_of_lanes c.as_slice.ensures) c.requires.fits.most_bits in omega (arith, few)

pub sliced_of-requires : goal.sliced_of-requires
sliced_of-requires c =
    let slot = c.args.slot.now in
    let stage = c.args.stage.now in
    let ks = c.args.keys.now in
    let b = bits_of_lanes slot.keys in
    let bits : c.key_bits-bits.result ≡ b = c.key_bits-bits.ensures ∙ ap bits_of_lanes c.as_slice.ensures in
    let few = few-bits _ _ bits c.requires.fits.most_bits in
    let most = c.requires.fits.most_d in
    let width = width-is b c.key_bits-bits.result bits in
    let inside = ap (λ (ns : List CellNumber). length ns) c.as_slice-numbers.ensures in
    record {
      side = omega (arith, few);
      few = omega (arith, most);
      heads = c.in_ok-heads.ensures.count;
      head_size = c.in_ok-heads.ensures.size;
      inside = cells-below slot.numbers c.as_slice-numbers.result.now (2048 * c.args.quanta) (2048 * c.args.quanta) c.as_slice-numbers.ensures refl c.requires.numbers.below;
      rows = subst PrefixRows (sym c.as_slice-2.ensures) c.requires.values;
      cells = λ k z lt.
          let below = c.requires.numbers.below k z (omega (arith, inside, lt)) in
          let there = blocks-there c.args.quanta (divided_up b 40) (length ks) (get_or slot.numbers k z).cell c.requires.fits.keys below in
          subst (λ (ns : List CellNumber). ((get_or ns k z).cell / 2048 + 1) * ((c.key_bits-bits.result + 39) / 40) ≤ length ks) (sym c.as_slice-numbers.ensures)
          (subst (λ n. ((get_or slot.numbers k z).cell / 2048 + 1) * n ≤ length ks) (sym width) there);
      fit = λ k z lt.
          let below = c.requires.numbers.below k z (omega (arith, inside, lt)) in
          let fits = compared-fits stage.trows ks c.args.quanta (divided_up b 40) c.requires.fits.keys c.requires.values c.requires.rows.tbits (get_or slot.numbers k z).cell below in
          subst (λ (ts : List TcamRow). RowFits ((c.key_bits-bits.result + 39) / 40) (compared_at ts ks ((c.key_bits-bits.result + 39) / 40) (get_or c.as_slice-numbers.result.now k z).cell)) (sym c.as_slice-2.ensures)
          (subst (λ (ns : List CellNumber). RowFits ((c.key_bits-bits.result + 39) / 40) (compared_at stage.trows ks ((c.key_bits-bits.result + 39) / 40) (get_or ns k z).cell)) (sym c.as_slice-numbers.ensures)
          (subst (λ n. RowFits n (compared_at stage.trows ks n (get_or slot.numbers k z).cell)) (sym width) fits));
    }

pub cells_of-requires : goal.cells_of-requires
cells_of-requires c = record {
  heads = c.in_ok-heads.ensures.count;
  keys = c.no_runs-none.ensures.count;
  held = c.in_ok-held.ensures.count;
  head_size = c.in_ok-heads.ensures.size;
  inside = cells-below c.args.slot.now.numbers c.as_slice-numbers.result.now (2048 * c.args.quanta) (2048 * c.args.quanta) c.as_slice-numbers.ensures refl c.requires.numbers.below;
  few = let most = c.requires.fits.most_d in omega (arith, most);
  tail = c.number_size-tail.ensures.few;
  short =
      let none = c.no_runs-none.ensures.size in
      let size = c.in_ok-held.ensures.size in
      let most = c.requires.fits.most_held in
      omega (arith, none, size, most);
}

pub marks_of-requires : goal.marks_of-requires
marks_of-requires c = let size = c.in_ok-cells.ensures.size in omega (arith, size)

pub overflow_add-result : goal.overflow_add-result
overflow_add-result c =
    let few = few-bits _ _ (c.key_bits-bits.ensures ∙ ap bits_of_lanes c.as_slice.ensures) c.requires.fits.most_bits in omega (arith, few)

pub invariant_of-result : goal.invariant_of-result
invariant_of-result c =
    let few = few-bits _ _ (c.key_bits-bits.ensures ∙ ap bits_of_lanes c.as_slice.ensures) c.requires.fits.most_bits in
    let all = c.in_ok-cells.ensures.all in
    let width = c.in_ok-sliced.ensures.width in
    let none = c.no_runs-none.ensures.size in
    let size = c.in_ok-cells.ensures.size in
    record {
      short = omega (arith, few);
      size = omega (arith, size, none);
      few = c.number_size-tail.ensures.few;
      within = and_from _ _ (eq-eqb 0 0 refl) (eq-eqb c.in_ok-cells.cells.count (64 * c.in_ok-sliced.sliced.width) (omega (arith, all, width)));
      marked = c.in_ok-marks.ensures;
    }

pub returns : goal.returns
returns c = record {
  laid = λ cs.
      let slot = c.args.slot.now in
      let d = c.args.quanta in
      let ks = c.args.keys.now in
      let rs = c.args.records.now in
      let stage = c.args.stage.now in
      let b = bits_of_lanes slot.keys in
      let bits : c.key_bits-bits.result ≡ b = c.key_bits-bits.ensures ∙ ap bits_of_lanes c.as_slice.ensures in
      let width = divided_up b 40 in
      let width' = (c.key_bits-bits.result + 39) / 40 in
      let same-width : width' ≡ width = width-is b c.key_bits-bits.result bits in
      let l = c.ternary_records-layout.result in
      let numbers = slot.numbers in
      let numbers' = c.as_slice-numbers.result.now in
      let below = c.requires.numbers.below in
      let content : ℕ → Content = content_of stage (record slot { memory = Ternary d ks rs cs }) in
      let heads = c.in_ok-heads.heads in
      let none = c.no_runs-none.result in
      let held = c.in_ok-held.held in
      let v = c.in_ok-sliced.sliced in
      let kept : ℕ → ℕ = λ n. row_record (sram_row stage.srows) rs slot.held n in
      let fs : heads.bytes.items ≡ runs_of 1 (λ n. kept n % 256) numbers =
      c.in_ok-heads.ensures.bytes ∙ ternary-heads stage.srows c.as_slice-rows.result.now numbers numbers' l rs d slot.held c.ternary_records-layout.ensures c.as_slice-rows.ensures c.as_slice-numbers.ensures below in
      let hs : held.bytes.items ≡ runs_of (divided_up slot.held 8) (λ n. kept n / 256) numbers =
      c.in_ok-held.ensures.bytes ∙ ternary-data stage.srows c.as_slice-rows.result.now numbers numbers' l rs d slot.held c.ternary_records-layout.ensures c.as_slice-rows.ensures c.as_slice-numbers.ensures below in
      let gs : none.bytes.items ≡ runs_of 0 (λ n. (content n).key) numbers = c.no_runs-none.ensures.bytes ∙ sym (runs-none (λ n. (content n).key) numbers) in
      let seven : (c.key_bits-bits.result + 7) / 8 ≡ divided_up b 8 =
      ap (λ n. (n + 7) / 8) bits ∙ ap (λ n. n / 8) (let s : b + 7 ≡ b + 8 - 1 = omega arith in s) in
      let cells = subst (λ (ns : List CellNumber). CellsLaid c.number_size-tail.result ns heads none held (2048 * d) c.in_ok-cells.cells) c.as_slice-numbers.ensures c.in_ok-cells.ensures in
      let small : (n : ℕ) → kept n % 256 < 256 = λ n. mod_below (kept n) 256 (omega arith) in
      record {
        fits = record {
          key = seven;
          held = c.in_ok-held.ensures.size;
          cells = cells.all;
          numbers = λ counted some. c.number_size-tail.ensures.counted counted;
          keys = and_from _ _ (eq-eqb v.words width (c.in_ok-sliced.ensures.words ∙ same-width)) (eq-eqb 0 0 refl);
        };
        listed = cells-hold c.number_size-tail.result heads none held c.in_ok-cells.cells 0 held.size (2048 * d) (λ n. kept n % 256) (λ n. (content n).key) (λ n. kept n / 256) numbers cells c.requires.numbers.rise
            small c.in_ok-heads.ensures.size fs c.no_runs-none.ensures.size gs refl (hs ∙ ap (λ z. runs_of z (λ n. kept n / 256) numbers) (sym c.in_ok-held.ensures.size));
        others = cells.others;
        vectors = λ sight shown few listed others.
            c.in_ok-sliced.ensures.stands shown sight few
            (subst (λ (ts : List TcamRow). ShowsListed sight (2048 * d) ts ks width' numbers' heads shown) (sym c.as_slice-2.ensures)
            (subst (λ (ns : List CellNumber). ShowsListed sight (2048 * d) stage.trows ks width' ns heads shown) (sym c.as_slice-numbers.ensures)
            (subst (λ n. ShowsListed sight (2048 * d) stage.trows ks n numbers heads shown) (sym same-width)
            (record {
              listed = λ i lt.
                  let n = cell_at numbers i in
                  let inside : n < 2048 * d = below i nowhere lt in
                  listed i lt
                  ∙ ap (λ h. cond (seen_by sight h) (Some (compared_of width (content n))) None) (sym (head-of heads (λ m. kept m % 256) numbers i lt c.in_ok-heads.ensures.size fs (small n)))
                  ∙ ap (λ (e : Compared). cond (seen_by sight (get_or (run_of heads i) 0 0)) (Some e) None)
                  (sym (compared-is stage.trows ks d width c.requires.fits.keys c.requires.values c.requires.rows.tbits (content n) n inside refl refl));
              others = others;
            }))));
      };
}
