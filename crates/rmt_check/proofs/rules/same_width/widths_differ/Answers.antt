use Rattle.std.proofs.Common.{ap, ◌∙◌}
use Rattle.std.specs.List.{flat_map}
use Rattle.rmt_check.specs.Parts.{Source}
use Rattle.rmt_check.specs.Names.{nodes_of}
use Rattle.rmt_check.specs.Rules.{operand_widths, case_widths, gate_widths}
use Rattle.rmt_check.proofs.Earliest.{found_in, join}
use Rattle.rmt_check.proofs.rules.same_width.widths_differ.Goals as goal

pub returns : goal.returns
returns g c =
    let s = g.N.Lookup.text c.args.names.now in
    let source = c.source-source.ensures in
    let actions = found_in (flat_map (operand_widths s)) c.in_ok-actions.ensures (c.as_slice.ensures ∙ ap (λ (t : Source). t.actions) source) in
    let headers = found_in (flat_map (case_widths s)) c.earliest_of-headers.ensures (c.as_slice-2.ensures ∙ ap (λ (t : Source). t.headers) source) in
    let nodes = found_in (flat_map (gate_widths s)) c.earliest_of-nodes.ensures (c.nodes_of.ensures ∙ ap nodes_of source) in
    (join c.earlier-2.ensures.value (join c.earlier.ensures.value actions headers) nodes).is
