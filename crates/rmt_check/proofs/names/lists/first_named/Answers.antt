use Rattle.std.proofs.Common.{List, ℕ, sym, ap, ◌∙◌}
use Rattle.rmt_ast.specs.NameList.{number_of}
use Rattle.rmt_ast.proofs.NameListLaws.{find_found, find_missing}
use Rattle.rmt_check.proofs.names.lists.first_named.Goals as goal

pub returns-in-Some : goal.returns-in-Some
returns-in-Some g c =
    let known = ap (λ (ns : List (List ℕ)). number_of ns c.args.name.now) (sym c.requires) ∙ sym c.in-Some.ensures.number in
    sym c.get.ensures.item ∙ sym (find_found (λ x. (g.T.Labelled.ident_of x).name) c.args.name.now c.args.parts.now c.in-Some.number known)

pub returns-in-None : goal.returns-in-None
returns-in-None g c =
    let unknown = ap (λ (ns : List (List ℕ)). number_of ns c.args.name.now) (sym c.requires) ∙ sym c.in-None.ensures.number in
    sym (find_missing (λ x. (g.T.Labelled.ident_of x).name) c.args.name.now c.args.parts.now unknown)
