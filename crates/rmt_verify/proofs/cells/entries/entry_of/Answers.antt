use Rattle.std.proofs.Common.{ℕ, Result, Contains, ap, sym, subst, ◌∙◌, rules}
use Rattle.std.specs.Ordering.{nat_cmp}
use Rattle.std.specs.List.Sorted.{IsBinarySearchResult}
use Rattle.std.proofs.lemmas.Fn.{always_returns_same}
use Rattle.std.proofs.lemmas.List.Elements.{Contains-get_or}
use Rattle.std.proofs.lemmas.Map.Lookups.{exact_unsigned}
use Rattle.rmt_ast.specs.declared.entry.Entry.{Entry}
use Rattle.rmt_bits.proofs.SearchLaws.{not_found}
use Rattle.rmt_verify.proofs.cells.entries.entry_of.Goals as goal

pub returns-in-Ok : goal.returns-in-Ok
returns-in-Ok c =
    let es = c.args.entries.now in
    let e = c.index-entries-place.result in
    let found = c.in-Ok.ensures.position (λ (x : Entry). x.number) (always_returns_same _ _ _ (λ a r q k. search rules)) in (
      subst (Contains es) (sym c.index-entries-place.is) (Contains-get_or es c.in-Ok.place e c.in-Ok.ensures.bound),
      ap (λ (x : Entry). x.number) c.index-entries-place.is ∙ exact_unsigned _ _ (found e),
    )

pub returns-in-Err : goal.returns-in-Err
returns-in-Err c =
    let es = c.args.entries.now in
    let found : IsBinarySearchResult (λ (x : Entry). nat_cmp x.number c.args.number) es c.binary_search_by_key.result =
    c.binary_search_by_key.ensures.position (λ (x : Entry). x.number) (always_returns_same _ _ _ (λ a r q k. search rules)) in
    not_found (λ (x : Entry). x.number) es c.args.number c.in-Err.field-0 c.requires (subst (λ (r : Result ℕ ℕ). IsBinarySearchResult (λ (x : Entry). nat_cmp x.number c.args.number) es r) c.in-Err.is found)
