use Rattle.std.proofs.Common.{◌≡◌, ◌∙◌, map, ap}
use Rattle.rmt_check.specs.Parts.{Source}
use Rattle.rmt_check.specs.Names.{fields_of, nodes_of}
use Rattle.rmt_check.specs.Meaning.{action_of, field_of, headers_from, node_of, table_of}
use Rattle.rmt_check.proofs.Together.{held, first_made, second_made}
use Rattle.rmt_check.proofs.building.build.Goals as goal

pub returns : goal.returns
returns g c =
    let s = g.N.Lookup.text c.args.names.now in
    let m = c.in_ok-nodes in
    let source = c.source-source.ensures in
    let left = first_made c.both.result c.both-3.result (m.fields, m.headers) (m.actions, m.tables) c.in_ok-nodes.ensures.second c.both-3.ensures.first in
    let right = second_made c.both-2.result c.both-3.result (m.fields, m.headers) (m.actions, m.tables) c.in_ok-nodes.ensures.second c.both-3.ensures.second in
    let nodes = held (λ ns. ns ≡ map (node_of s) c.nodes_of.result.now) c.mapped.result m.nodes c.in_ok-nodes.ensures.first c.mapped.ensures ∙ ap (map (node_of s)) (c.nodes_of.ensures ∙ ap nodes_of source) in
    let fields = held (λ fs. fs ≡ map field_of (fields_of s)) c.fields_of.result m.fields (first_made c.fields_of.result c.both.result m.fields m.headers left c.both.ensures.first) c.fields_of.ensures in
    let headers = held (λ hs. hs ≡ headers_from s 3 s.headers) c.headers_of.result m.headers (second_made c.headers_of.result c.both.result m.fields m.headers left c.both.ensures.second) c.headers_of.ensures in
    let actions =
    held (λ xs. xs ≡ map (action_of s) c.as_slice.result.now) c.mapped-2.result m.actions (first_made c.mapped-2.result c.both-2.result m.actions m.tables right c.both-2.ensures.first) c.mapped-2.ensures
    ∙ ap (map (action_of s)) (c.as_slice.ensures ∙ ap (λ (t : Source). t.actions) source) in
    let tables =
    held (λ ts. ts ≡ map (table_of s) c.as_slice-2.result.now) c.mapped-3.result m.tables (second_made c.mapped-3.result c.both-2.result m.actions m.tables right c.both-2.ensures.second) c.mapped-3.ensures
    ∙ ap (map (table_of s)) (c.as_slice-2.ensures ∙ ap (λ (t : Source). t.tables) source) in
    record { program = λ i. record { fields = fields i; headers = headers i; actions = actions i; tables = tables i; nodes = nodes i } }
