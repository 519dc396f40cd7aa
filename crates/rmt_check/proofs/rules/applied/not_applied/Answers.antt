use Rattle.std.proofs.Common.{◌≡◌, ◌∙◌, ℕ, List, Option, IfOk, map, not, sym, ap, ap₂, subst}
use Rattle.std.proofs.lemmas.Simd.{map-map}
use Rattle.std.specs.Borrow.{Bor}
use Rattle.std.specs.List.{flat_map}
use Rattle.rmt_ast.specs.NameList.{is_known}
use Rattle.rmt_check.specs.Parts.{Position, Ident, TableText}
use Rattle.rmt_check.specs.Names.{ident_names}
use Rattle.rmt_check.specs.Rules.{earliest, when}
use Rattle.rmt_check.proofs.rules.applied.not_applied.Goals as goal

pub returns : goal.returns
returns c =
    let known =
    ap (map (λ (t : Bor Ident). t.now.name)) c.as_slice.ensures.value ∙ sym (map-map (λ (i : Ident). i.name) (λ (t : Bor Ident). t.now) c.in_ok-applied.applied.items)
    ∙ ap ident_names c.in_ok-applied.ensures in
    let places = ap₂ (λ (ns : List (List ℕ)) (ts : List TableText). earliest (flat_map (λ (t : TableText). when (not (is_known ns t.ident.name)) t.ident.place) ts)) known c.as_slice-2.ensures in
    subst (λ (e : Option Position). IfOk c.first_unapplied.result (λ p. p ≡ e)) places c.first_unapplied.ensures
