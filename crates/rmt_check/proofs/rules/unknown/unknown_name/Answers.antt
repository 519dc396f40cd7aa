use Rattle.std.proofs.Common.{ap, ◌∙◌}
use Rattle.std.specs.List.{flat_map}
use Rattle.rmt_check.specs.Parts.{Source}
use Rattle.rmt_check.specs.Names.{nodes_of}
use Rattle.rmt_check.specs.Rules.{unknown_own, unknown_targets, unknown_in_action, unknown_in_table, unknown_at_node}
use Rattle.rmt_check.proofs.Earliest.{found_in, join}
use Rattle.rmt_check.proofs.rules.unknown.unknown_name.Goals as goal

pub returns : goal.returns
returns g c =
    let s = g.N.Lookup.text c.args.names.now in
    let source = c.source-source.ensures in
    let headers = c.as_slice-headers.ensures ∙ ap (λ (t : Source). t.headers) source in
    let own = found_in (flat_map (unknown_own s)) c.earliest_of-own.ensures headers in
    let targets = found_in (flat_map (unknown_targets s)) c.earliest_of-targets.ensures headers in
    let actions = found_in (flat_map (unknown_in_action s)) c.in_ok-actions.ensures (c.as_slice-actions.ensures ∙ ap (λ (t : Source). t.actions) source) in
    let tables = found_in (flat_map (unknown_in_table s)) c.earliest_of-tables.ensures (c.as_slice.ensures ∙ ap (λ (t : Source). t.tables) source) in
    let nodes = found_in (flat_map (unknown_at_node s)) c.earliest_of-nodes.ensures (c.nodes_of.ensures ∙ ap nodes_of source) in
    let found = join c.earlier-found.ensures.value (join c.earlier.ensures.value own targets) actions in
    (join c.earlier-3.ensures.value (join c.earlier-2.ensures.value found tables) nodes).is
