use Rattle.std.proofs.Common.{List, ℕ, ap₂, ◌∙◌, not}
use Rattle.std.specs.List.{flat_map}
use Rattle.rmt_check.specs.Parts.{CaseText, Ident, Position}
use Rattle.rmt_ast.specs.NameList.{is_known}
use Rattle.rmt_check.specs.Names.{header_names}
use Rattle.rmt_check.specs.Rules.{earliest, target_names, unknown, when}
use Rattle.rmt_check.proofs.Earliest.{Found, join, targets_joined}
use Rattle.rmt_check.proofs.rules.unknown.UnknownTargetFlawHeaderText.at.Goals as goal

pub returns : goal.returns
returns g c =
    let names = header_names (g.N.Lookup.text c.args.names.now) in
    let broken : Ident → List Position = λ i. when (not (is_known names i.name)) i.place in
    let cases : Found (flat_map (λ (x : CaseText). unknown names (target_names x.target)) c.args.header.now.cases) c.earliest_of.result = record { is = c.earliest_of.ensures ∙ ap₂ (λ (ns : List (List ℕ)) (cs : List CaseText). earliest (flat_map (λ (x : CaseText). unknown ns (target_names x.target)) cs)) c.headers-headers.ensures c.as_slice.ensures } in
    let other : Found (unknown names (target_names c.args.header.now.other)) c.unknown_among.result = record { is = c.unknown_among.ensures ∙ ap₂ (λ (ns : List (List ℕ)) (is : List Ident). earliest (unknown ns is)) c.headers-headers.ensures c.target_names.ensures } in
    targets_joined broken c.args.header.now _ (join c.earlier.ensures.value cases other).is
