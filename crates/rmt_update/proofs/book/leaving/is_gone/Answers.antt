use Rattle.std.proofs.Common.{◌≡◌, ◌≢◌, ◌==◌, ℕ, ◌<◌, List, Result, Ok, Err, get_or, length, refl, sym, ◌∙◌}
use Rattle.std.specs.Prelude.{AllPairs, is_ok}
use Rattle.std.specs.List.Sorted.{IsBinarySearchResult, IsSearchInRange}
use Rattle.std.specs.Ordering.{nat_cmp}
use Rattle.std.proofs.lemmas.Bool.{eq-eqb, false_from_ne_true}
use Rattle.std.proofs.lemmas.List.Elements.{All-contains, Contains-get_or}
use Rattle.std.proofs.lemmas.Map.Lookups.{exact_unsigned}
use Rattle.rmt_bits.proofs.MemberLaws.{Contains-from_any, list_any-Contains}
use Rattle.rmt_bits.proofs.SearchLaws.{not_found}
use Rattle.rmt_bits.specs.Members.{is_among}
use Rattle.rmt_update.proofs.book.leaving.is_gone.Goals as goal

searched : (ns : List ℕ) (n : ℕ) → AllPairs (λ (a b : ℕ). a < b) ns → (r : Result ℕ ℕ) → IsBinarySearchResult (λ m. nat_cmp m n) ns r → IsSearchInRange r (length ns) → is_ok r ≡ is_among ns n
searched ns n rise (Ok i) at inside = sym (list_any-Contains (λ m. m == n) ns (get_or ns i 0) (Contains-get_or ns i 0 inside) (eq-eqb (get_or ns i 0) n (exact_unsigned (get_or ns i 0) n (at 0))))
searched ns n rise (Err i) at inside =
    sym (false_from_ne_true (is_among ns n) (λ there. All-contains (λ m. m ≢ n) ns n (not_found (λ (m : ℕ). m) ns n i rise at) (Contains-from_any ns n there) refl))

pub returns : goal.returns
returns c = c.is_ok.ensures.value ∙ searched c.args.gone.now c.args.number c.requires c.binary_search.result c.binary_search.ensures.position c.binary_search.ensures.bound
