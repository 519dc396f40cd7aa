use Rattle.std.proofs.Common.{◌≡◌, ◌+◌, Some, ◌∙◌, refl, subst, sym, ap, arith}
use Rattle.std.specs.Prelude.{slice_get}
use Rattle.rmt_bits.proofs.ListLaws.{slice_get-seen}
use Rattle.rmt_config.specs.Instructions.{unit_instructions}
use Rattle.rmt_pack.specs.declared.rows.Rows.{Rows}
use Rattle.rmt_pack.specs.Rows.{blocks_of}
use Rattle.rmt_filling.specs.declared.tcam.TcamRows.{TcamRows}
use Rattle.rmt_filling.specs.Holding.{Held}
use Rattle.rmt_filling.specs.Listing.{masks_of, values_of}
use Rattle.rmt_build.specs.Written.{SlotWritten, UnitsWritten}
use Rattle.rmt_build.proofs.UnitsLaws.{instructions-more, units-gate, units-slot, units-zero}
use Rattle.rmt_build.proofs.filling.write_units.Goals as goal
use Rattle.rmt_build.proofs.filling.write_units.Goals.{in-Gate, in-Slot+in_ok-write_slot-in-Slot}

-- what rows hold
held : Rows → TcamRows → Held
held sram tcam = record { sram = blocks_of sram; values = values_of tcam; masks = masks_of tcam }

pub write_slot-requires-clause-zeros : goal.write_slot-requires-clause-zeros
unfolding held
write_slot-requires-clause-zeros c =
    let at = slice_get-seen c.args.units.now c.args.units.now c.loop-unit.unit-index c.unit-item.result refl c.loop-unit-test.true c.unit-item.is in
    (units-zero c.args.planned.now.program.now c.args.planned.now.entries.now c.args.planned.now.plan.now c.args.planned.now.stage c.args.units.now (held c.loop-unit.sram c.loop-unit.tcam) c.loop-unit.unit-index c.in-Slot.slot c.requires.apart (at ∙ ap Some c.in-Slot.is) c.loop-unit.invariant.written).0

pub write_slot-requires-clause-zero_values : goal.write_slot-requires-clause-zero_values
unfolding held
write_slot-requires-clause-zero_values c =
    let at = slice_get-seen c.args.units.now c.args.units.now c.loop-unit.unit-index c.unit-item.result refl c.loop-unit-test.true c.unit-item.is in
    (units-zero c.args.planned.now.program.now c.args.planned.now.entries.now c.args.planned.now.plan.now c.args.planned.now.stage c.args.units.now (held c.loop-unit.sram c.loop-unit.tcam) c.loop-unit.unit-index c.in-Slot.slot c.requires.apart (at ∙ ap Some c.in-Slot.is) c.loop-unit.invariant.written).1

pub write_slot-requires-clause-zero_masks : goal.write_slot-requires-clause-zero_masks
unfolding held
write_slot-requires-clause-zero_masks c =
    let at = slice_get-seen c.args.units.now c.args.units.now c.loop-unit.unit-index c.unit-item.result refl c.loop-unit-test.true c.unit-item.is in
    (units-zero c.args.planned.now.program.now c.args.planned.now.entries.now c.args.planned.now.plan.now c.args.planned.now.stage c.args.units.now (held c.loop-unit.sram c.loop-unit.tcam) c.loop-unit.unit-index c.in-Slot.slot c.requires.apart (at ∙ ap Some c.in-Slot.is) c.loop-unit.invariant.written).2

pub loop-unit-preserved : goal.loop-unit-preserved
unfolding held
loop-unit-preserved c =
    let p = c.args.planned.now.program.now in
    let lists = c.args.planned.now.entries.now in
    let plan = c.args.planned.now.plan.now in
    let k = c.args.planned.now.stage in
    let units = c.args.units.now in
    let i = c.loop-unit.unit-index in
    let u = c.unit-item.result in
    let at : slice_get units i ≡ Some u = slice_get-seen units units i u refl c.loop-unit-test.true c.unit-item.is in
    let more = instructions-more units i u at in
    let first = c.loop-unit.invariant.first in
    let written = c.loop-unit.invariant.written in
    elim c.match-unit.branch [
      | in-Gate w ↦ record {
        written = subst (λ (s : Rows). UnitsWritten p lists plan k units (i + 1) (held s c.match-unit.tcam)) (sym w.sram-is)
            (subst (λ (t : TcamRows). UnitsWritten p lists plan k units (i + 1) (held c.loop-unit.sram t)) (sym w.tcam-is)
            (units-gate p lists plan k units (held c.loop-unit.sram c.loop-unit.tcam) i _ (at ∙ ap Some w.in-Gate.is) written));
        first =
            let own : unit_instructions u ≡ 0 = ap unit_instructions w.in-Gate.is in
            omega (arith, more, first, own, w.first-is);
      }
      | in-Slot+in_ok-write_slot-in-Slot w ↦
          let slot = w.in-Slot.slot in
          let old = held c.loop-unit.sram c.loop-unit.tcam in
          let new = held w.write_slot.new.sram w.write_slot.new.tcam in
          let done = w.in_ok-write_slot-in-Slot.ensures in
          record {
            written = subst (λ (s : Rows). UnitsWritten p lists plan k units (i + 1) (held s c.match-unit.tcam)) (sym w.sram-is)
                (subst (λ (t : TcamRows). UnitsWritten p lists plan k units (i + 1) (held w.write_slot.new.sram t)) (sym w.tcam-is)
                (units-slot p lists plan k units old new i slot c.requires.apart (at ∙ ap Some w.in-Slot.is)
                (subst (λ n. SlotWritten p lists plan k n new slot) first done.written) done.others done.other_values done.other_masks written));
            first =
                let own : unit_instructions u ≡ slot.actions + 1 = ap unit_instructions w.in-Slot.is in
                omega (arith, more, first, own, w.first-is);
          }
    ]
