use Rattle.std.proofs.Common.{◌≡◌, ℕ, List, ◌*◌, sym, ap, ◌∙◌, subst, arith}
use Rattle.std.specs.Prelude.{IfOk}
use Rattle.rmt_bits.specs.Bits.{slice}
use Rattle.rmt_config.specs.declared.form.layout.CellLayout.{CellLayout}
use Rattle.rmt_config.specs.BlockCounts.{divided_up}
use Rattle.rmt_config.specs.Cells.{sram_row, cell_of, data_at}
use Rattle.rmt_config.specs.Layouts.{exact_records}
use Rattle.rmt_config.proofs.CellLayouts.{exact-data}
use Rattle.rmt_memory.specs.declared.runs.Runs.{Runs}
use Rattle.rmt_memory.specs.Laying.{entry_of, runs_of}
use Rattle.rmt_config.proofs.SpelledBytes.{slice-whole}
use Rattle.rmt_memory.proofs.RunLaws.{runs-none, runs-same}
use Rattle.rmt_memory.proofs.lay.exact_data.Goals as goal

pub returns-then-held-eq0-clause-bytes : goal.returns-then-held-eq0-clause-bytes
returns-then-held-eq0-clause-bytes c =
    let value = λ (n : ℕ). data_at (sram_row c.args.rows.now) c.args.records.now c.args.per c.args.held (cell_of (1024 * c.args.quanta) c.args.per n) in
    let size : divided_up c.args.held 8 ≡ 0 = ap (λ h. divided_up h 8) c.if-held-eq0.true in
    c.no_runs.ensures.bytes ∙ sym (ap (λ n. runs_of n value c.args.numbers.now) size ∙ runs-none value c.args.numbers.now)

pub runs_of-requires-clause-cells : goal.runs_of-requires-clause-cells
runs_of-requires-clause-cells c =
    λ k d lt.
    let e : c.exact_records-layout.result.ways * c.exact_records-layout.result.quanta * c.exact_records-layout.result.way ≡ 4 * c.args.quanta * (1024 * c.args.per) =
    ap (λ (l : CellLayout). l.ways * l.quanta * l.way) c.exact_records-layout.ensures in
    let same : 4 * c.args.quanta * (1024 * c.args.per) ≡ 4096 * c.args.quanta * c.args.per = omega arith in
    let below = c.requires.cells k d lt in
    omega (arith, e, same, below)

pub returns-clause-bytes : goal.returns-clause-bytes
returns-clause-bytes c =
    let sram = sram_row c.args.rows.now in
    let records = c.args.records.now in
    let held = c.args.held in
    let size = divided_up held 8 in
    let numbers = c.args.numbers.now in
    let l = c.exact_records-layout.result in
    let l' = exact_records c.args.per c.args.quanta held in
    let read = λ (n : ℕ). slice (entry_of l sram records n) 0 held in
    let value = λ (n : ℕ). data_at sram records c.args.per held (cell_of (1024 * c.args.quanta) c.args.per n) in
    let same : (n : ℕ) → read n ≡ value n = λ n.
    ap (λ (m : CellLayout). slice (entry_of m sram records n) 0 held) c.exact_records-layout.ensures
    ∙ slice-whole _ _ held ∙ sym (exact-data sram records c.args.per c.args.quanta held n c.requires.per c.requires.quanta) in
    subst (λ (bs : List ℕ). IfOk c.runs_of.result (λ (r : Runs). r.bytes.items ≡ bs)) (runs-same size read value numbers (λ k d lt. same _)) c.runs_of.ensures.bytes
