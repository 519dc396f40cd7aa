use Rattle.std.specs.List.{flat_map}
use Rattle.rmt_check.specs.Parts.{MetaText}
use Rattle.rmt_check.specs.Names.{metadata}
use Rattle.rmt_check.specs.Rules.{field_widths, no_widths, param_widths}
use Rattle.rmt_check.proofs.Earliest.{Found, flat_map-flat_map, found_in, join}
use Rattle.rmt_check.proofs.rules.widths.width_range.Goals as goal

pub returns : goal.returns
returns c =
    let headers = found_in (flat_map field_widths) c.earliest_of-headers.ensures c.as_slice.ensures in
    let metas : Found (no_widths (metadata c.args.source.now)) c.earliest_of-metas.result =
    record { is = rw flat_map-flat_map (found_in (flat_map (λ (m : MetaText). no_widths m.fields)) c.earliest_of-metas.ensures c.as_slice-2.ensures).is } in
    let actions = found_in (flat_map param_widths) c.earliest_of-actions.ensures c.as_slice-3.ensures in
    (join c.earlier-2.ensures.value (join c.earlier.ensures.value headers metas) actions).is
