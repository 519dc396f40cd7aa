use Rattle.std.proofs.Common.{◌≡◌, List, [], ◌∷◌, ℕ, ap, ap₂, ◌∙◌}
use Rattle.std.specs.List.{flat_map}
use Rattle.rmt_check.specs.Parts.{ArmText}
use Rattle.rmt_check.specs.Names.{table_names, ident_names, listed_by}
use Rattle.rmt_check.specs.Rules.{earliest, unknown, arm_names}
use Rattle.rmt_check.proofs.Earliest.{flat_map-flat_map}
use Rattle.rmt_check.proofs.rules.unknown.UnknownInNodeFlawNodeText.at.Goals as goal

pub returns-in-Apply : goal.returns-in-Apply
returns-in-Apply g c =
    let s = g.N.Lookup.text c.args.names.now in
    let t = c.in-Apply.table in
    let list = ident_names (listed_by s t.name) in
    let table = c.unknown_one.ensures ∙ ap (λ (ns : List (List ℕ)). earliest (unknown ns (t ∷ []))) c.tables.ensures in
    let known = c.list-list.ensures ∙ ap (λ (name : List ℕ). ident_names (listed_by s name)) c.as_slice.ensures in
    let each = c.earliest_of.ensures ∙ ap₂ (λ (ns : List (List ℕ)) (arms : List ArmText). earliest (flat_map (λ (a : ArmText). unknown ns (arm_names a)) arms)) known c.as_slice-in-Apply.ensures in
    let arms : c.earliest_of.result ≡ earliest (unknown list (flat_map arm_names c.in-Apply.arms)) = rw flat_map-flat_map each in
    rw c.in-Apply.is (c.earlier.ensures.joined (unknown (table_names s) (t ∷ [])) (unknown list (flat_map arm_names c.in-Apply.arms)) table arms)
