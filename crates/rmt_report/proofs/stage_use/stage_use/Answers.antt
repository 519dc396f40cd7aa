use Rattle.std.proofs.Common.{◌≡◌, refl, ap, sym, ◌∙◌, length, arith}
use Rattle.std.specs.List.{flat_map, count_by, sum_by}
use Rattle.std.proofs.lemmas.List.Concat.{length-flat_map}
use Rattle.rmt_config.specs.Instructions.{unit_instructions}
use Rattle.rmt_config.specs.declared.limits.total.Resource.TheVariants as resource
use Rattle.rmt_config.specs.Resources.{is_slot, is_gate, unit_data, unit_sram, exact_words, ternary_words, crossbar_bits}
use Rattle.rmt_config.specs.StageForm.{tcam_blocks}
use Rattle.rmt_report.proofs.ReportLaws.{of_total}
use Rattle.rmt_report.proofs.stage_use.stage_use.Goals as goal

pub returns : goal.returns
returns c =
    let units = c.args.stage.now.units in
    let fits = c.requires in
    let us = c.as_slice-units.result.now in
    let same = c.as_slice-units.ensures in
    let data_bits : c.total.result ≡ sum_by unit_data units =
    of_total resource.DataBits us units c.total.result (sum_by unit_data units) 1280 c.total.ensures same refl fits.data_bits (omega arith) in
    let gates : c.total-2.result ≡ count_by is_gate units =
    of_total resource.Gates us units c.total-2.result (count_by is_gate units) 16 c.total-2.ensures same refl fits.gates (omega arith) in
    let instructions : c.total-3.result ≡ sum_by unit_instructions units =
    of_total resource.Instructions us units c.total-3.result (sum_by unit_instructions units) 32 c.total-3.ensures same refl fits.instructions (omega arith) in
    let slots : c.total-4.result ≡ count_by is_slot units =
    of_total resource.Slots us units c.total-4.result (count_by is_slot units) 16 c.total-4.ensures same refl fits.slots (omega arith) in
    let sram : c.total-5.result ≡ length (flat_map unit_sram units) =
    of_total resource.Sram us units c.total-5.result (length (flat_map unit_sram units)) 106 c.total-5.ensures same (sym (length-flat_map unit_sram units)) fits.sram (omega arith) in
    let tcam : c.total-6.result ≡ length (flat_map tcam_blocks units) =
    of_total resource.Tcam us units c.total-6.result (length (flat_map tcam_blocks units)) 16 c.total-6.ensures same (sym (length-flat_map tcam_blocks units)) fits.tcam (omega arith) in
    let exact : c.exact_bits.result ≡ crossbar_bits exact_words units = c.exact_bits.ensures ∙ ap (crossbar_bits exact_words) same in
    let ternary : c.ternary_bits.result ≡ crossbar_bits ternary_words units = c.ternary_bits.ensures ∙ ap (crossbar_bits ternary_words) same in
    rw (data_bits, gates, instructions, slots, sram, tcam, exact, ternary) refl
