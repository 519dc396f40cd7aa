use Rattle.std.proofs.Common.{ℕ, ◌%◌, Bool, sym, ap, ◌∙◌}
use Rattle.std.proofs.lemmas.List.Folds.{list_all-map}
use Rattle.rmt_config.specs.CellForm.{head_is_formed}
use Rattle.rmt_config.specs.Cells.{sram_row}
use Rattle.rmt_config.specs.Layouts.{entry_in, local_of, quantum_of}
use Rattle.rmt_config.specs.Types.{CellNumber}
use Rattle.rmt_config.specs.declared.form.cells.Entries.{Entries}
use Rattle.rmt_config.specs.declared.form.cells.HeadRule.{HeadRule}
use Rattle.rmt_config.proofs.RowForm.{all_done, all_step, all_stop}
use Rattle.rmt_config.proofs.form.cells.heads_fit.Goals as goal

abbrev holds : Entries → HeadRule → ℕ → Bool
holds e rule n =
    head_is_formed rule.visible rule.first rule.actions (entry_in e.layout (sram_row e.rows.now) e.blocks.now (quantum_of e.layout n) (local_of e.layout n) % 256)

pub head_of-requires : goal.head_of-requires
head_of-requires c = record { entries = c.requires.entries; cell = c.requires.cells c.loop-number.number-index (record { cell = 0; number = 0 }) c.loop-number-test.true }

pub head_fits-requires : goal.head_fits-requires
head_fits-requires c = c.requires.first

pub returns-then-not-head_fits : goal.returns-then-not-head_fits
returns-then-not-head_fits c =
    let ns = c.args.numbers.now in
    let i = c.loop-number.number-index in
    let rule = c.args.rule in
    let test : CellNumber → Bool = λ n. holds c.args.entries.now rule n.cell in
    let found = ap (head_is_formed rule.visible rule.first rule.actions) (sym c.head_of.ensures) ∙ sym c.head_fits.ensures ∙ c.if-not-head_fits.true in
    all_stop test ns i (record { cell = 0; number = 0 }) _ c.loop-number-test.true found (sym (list_all-map (holds c.args.entries.now rule) (λ (n : CellNumber). n.cell) _) ∙ c.loop-number.invariant)

pub loop-number-preserved : goal.loop-number-preserved
loop-number-preserved c =
    let ns = c.args.numbers.now in
    let i = c.loop-number.number-index in
    let rule = c.args.rule in
    let test : CellNumber → Bool = λ n. holds c.args.entries.now rule n.cell in
    let found = ap (head_is_formed rule.visible rule.first rule.actions) (sym c.head_of.ensures) ∙ sym c.head_fits.ensures ∙ c.if-not-head_fits.false in
    list_all-map (holds c.args.entries.now rule) (λ (n : CellNumber). n.cell) _
    ∙ all_step test ns i (record { cell = 0; number = 0 }) _ c.loop-number-test.true found (sym (list_all-map (holds c.args.entries.now rule) (λ (n : CellNumber). n.cell) _) ∙ c.loop-number.invariant)

pub returns : goal.returns
returns c =
    let rule = c.args.rule in
    let test : CellNumber → Bool = λ n. holds c.args.entries.now rule n.cell in
    all_done test c.args.numbers.now c.loop-number.number-index _ c.loop-number-test.false (sym (list_all-map (holds c.args.entries.now rule) (λ (n : CellNumber). n.cell) _) ∙ c.loop-number.invariant)
