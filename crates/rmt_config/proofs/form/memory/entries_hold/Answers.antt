use Rattle.std.proofs.Common.{sym, refl, ◌∙◌, subst}
use Rattle.rmt_config.specs.MemoryRules.{SramRows}
use Rattle.rmt_config.specs.StageForm.{srow_number}
use Rattle.rmt_config.specs.Types.{SramRow}
use Rattle.rmt_config.proofs.MemoryHolds.{cells-same, rows-same, then_second, true-same}
use Rattle.rmt_config.proofs.form.memory.entries_hold.Goals as goal

pub cells_are_formed-requires-clause-entries : goal.cells_are_formed-requires-clause-entries
cells_are_formed-requires-clause-entries c = record {
  heads = c.requires.heads;
  blocks = c.requires.blocks;
  rows = subst SramRows (sym c.as_slice-rows.ensures) (record { rise = c.requires.rows.srise; low = c.requires.rows.slow; small = c.requires.rows.sbits });
}

pub returns : goal.returns
returns c =
    let p = c.args.place.now in
    let l = c.args.layout.now in
    let held = c.cells_are_formed.ensures
    ∙ cells-same l l p.stage.now.srows c.as_slice-rows.result.now p.slot.now.numbers c.as_slice-numbers.result.now c.args.blocks.now p.visible p.first p.slot.now.actions refl c.as_slice-rows.ensures c.as_slice-numbers.ensures in
    let told = rows-same srow_number (λ (r : SramRow). r.bits) c.blocks_are_told.result l l p.stage.now.srows c.as_slice-rows.result.now p.slot.now.numbers c.as_slice-numbers.result.now c.args.blocks.now
    refl c.as_slice-rows.ensures c.as_slice-numbers.ensures c.blocks_are_told.ensures in
    then_second c.cells_are_formed.result c.blocks_are_told.result _ _ (true-same _ _ held) c.if-not-cells_are_formed.false told
