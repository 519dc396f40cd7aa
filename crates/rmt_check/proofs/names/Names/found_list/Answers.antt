use Rattle.std.proofs.Common.{List, ℕ, Option, option_map, slice_get, sym, ap, ◌∙◌}
use Rattle.std.proofs.lemmas.Option.{slice_get-map}
use Rattle.rmt_check.specs.Parts.{TableText}
use Rattle.rmt_ast.specs.NameList.{number_of}
use Rattle.rmt_check.specs.Names.{ident_names, listed}
use Rattle.rmt_ast.proofs.NameListLaws.{find_found, find_missing}
use Rattle.rmt_check.proofs.names.Names.found_list.Goals as goal

abbrev list_of : TableText → List (List ℕ)
list_of t = ident_names (listed t)

pub returns-in-Some : goal.returns-in-Some
returns-in-Some c =
    let ts = c.self.inside.source.now.tables in
    let n = c.in-Some.number in
    let known = ap (λ (ns : List (List ℕ)). number_of ns c.args.table.now) (sym c.self.invariant.tables) ∙ sym c.in-Some.ensures.number in
    let found = find_found (λ (t : TableText). t.ident.name) c.args.table.now ts n known in
    rw (← c.self.view_is) (
    sym c.get.ensures.item ∙ ap (λ (ls : List (List (List ℕ))). slice_get ls n) c.self.invariant.lists ∙ slice_get-map list_of ts n
    ∙ ap (λ (o : Option TableText). option_map list_of o) (sym found)
    )

pub returns-in-None : goal.returns-in-None
returns-in-None c =
    let unknown = ap (λ (ns : List (List ℕ)). number_of ns c.args.table.now) (sym c.self.invariant.tables) ∙ sym c.in-None.ensures.number in
    rw (← c.self.view_is) (ap (λ (o : Option TableText). option_map list_of o) (sym (find_missing (λ (t : TableText). t.ident.name) c.args.table.now c.self.inside.source.now.tables unknown)))
