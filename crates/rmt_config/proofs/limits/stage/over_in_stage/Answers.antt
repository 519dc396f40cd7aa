use Rattle.std.proofs.Common.{ap, sym, ◌∙◌, length}
use Rattle.std.specs.List.{flat_map, count_by, sum_by}
use Rattle.std.proofs.lemmas.List.Concat.{length-flat_map}
use Rattle.rmt_config.specs.declared.limits.total.Resource.TheVariants as resource
use Rattle.rmt_config.specs.Resources.{unit_sram, is_slot, is_gate}
use Rattle.rmt_config.specs.Limits.{told}
use Rattle.rmt_config.specs.LimitSteps.{taken_by, hit_of}
use Rattle.rmt_config.proofs.limits.stage.over_in_stage.Goals as goal
use Rattle.rmt_config.specs.StageForm.{tcam_blocks}

pub returns-in-Sram : goal.returns-in-Sram
returns-in-Sram c =
    let units = c.args.stage.now.units in
    let sum = c.total.ensures ∙ ap (λ us. told (sum_by (taken_by resource.Sram) us)) c.as_slice-units.ensures ∙ ap told (sym (length-flat_map unit_sram units)) in
    c.over.ensures (length (flat_map unit_sram units)) sum ∙ sym (ap (λ limit. hit_of limit c.args.number c.args.stage.now) c.in-Sram.is)

pub returns-in-Tcam : goal.returns-in-Tcam
returns-in-Tcam c =
    let units = c.args.stage.now.units in
    let sum = c.total-in-Tcam.ensures ∙ ap (λ us. told (sum_by (taken_by resource.Tcam) us)) c.as_slice-units.ensures ∙ ap told (sym (length-flat_map tcam_blocks units)) in
    c.over-in-Tcam.ensures (length (flat_map tcam_blocks units)) sum ∙ sym (ap (λ limit. hit_of limit c.args.number c.args.stage.now) c.in-Tcam.is)

pub returns-in-Slots : goal.returns-in-Slots
returns-in-Slots c =
    let sum = c.total-in-Slots.ensures ∙ ap (λ us. told (sum_by (taken_by resource.Slots) us)) c.as_slice-units.ensures in
    c.over-in-Slots.ensures (count_by is_slot c.args.stage.now.units) sum ∙ sym (ap (λ limit. hit_of limit c.args.number c.args.stage.now) c.in-Slots.is)

pub returns-in-Gates : goal.returns-in-Gates
returns-in-Gates c =
    let sum = c.total-in-Gates.ensures ∙ ap (λ us. told (sum_by (taken_by resource.Gates) us)) c.as_slice-units.ensures in
    c.over-in-Gates.ensures (count_by is_gate c.args.stage.now.units) sum ∙ sym (ap (λ limit. hit_of limit c.args.number c.args.stage.now) c.in-Gates.is)
