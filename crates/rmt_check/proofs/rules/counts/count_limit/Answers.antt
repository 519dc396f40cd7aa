use Rattle.std.proofs.Common.{List, ◌==◌, drop, length, map}
use Rattle.std.specs.List.{flat_map}
use Rattle.rmt_lexer.specs.Text.{first_place}
use Rattle.rmt_check.specs.Parts.{MetaText, HeaderText, ActionText, NodeText}
use Rattle.rmt_check.specs.Rules.{declared_names, places, many_params, many_assigns, bad_size_of, when}
use Rattle.rmt_check.proofs.Earliest.{found_in, join}
use Rattle.rmt_check.proofs.rules.counts.count_limit.Goals as goal

pub returns : goal.returns
returns c =
    let none = found_in (λ (hs : List HeaderText). when (length hs == 0) first_place) c.place_when-no_header.ensures c.as_slice-headers.ensures in
    let headers = found_in (λ (hs : List HeaderText). map (λ (h : HeaderText). h.ident.place) (drop 64 hs)) c.earliest_beyond-header.ensures c.as_slice-headers.ensures in
    let actions = found_in (λ (xs : List ActionText). map (λ (a : ActionText). a.ident.place) (drop 256 xs)) c.earliest_beyond-action.ensures c.as_slice-actions.ensures in
    let params = found_in (flat_map many_params) c.earliest_of-param.ensures c.as_slice-actions.ensures in
    let assigns = found_in (flat_map many_assigns) c.earliest_of-assign.ensures c.as_slice-actions.ensures in
    let fields = found_in (λ (ms : List MetaText). places (drop 256 (declared_names (flat_map (λ (m : MetaText). m.fields) ms)))) c.in_ok-field.ensures c.as_slice-metas.ensures in
    let nodes = found_in (λ (ns : List NodeText). map (λ (n : NodeText). n.place) (drop 128 ns)) c.earliest_beyond-node.ensures c.nodes_of.ensures in
    let sizes = found_in (flat_map bad_size_of) c.earliest_of-size.ensures c.as_slice.ensures in
    let found = join c.earlier-found.ensures.value (join c.earlier-2.ensures.value (join c.earlier.ensures.value none headers) actions) params in
    let found = join c.earlier-5.ensures.value (join c.earlier-4.ensures.value (join c.earlier-3.ensures.value found assigns) fields) nodes in
    (join c.earlier-6.ensures.value found sizes).is
