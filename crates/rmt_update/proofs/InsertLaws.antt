-- What is found in a map into which a value was put.
use Rattle.std.proofs.Common.{◌≡◌, Bool, true, false, cond, List, [], ◌∷◌, Option, Some, refl, sym, ap, ◌∙◌}
use Rattle.std.specs.BTreeMap.{insert_entry, is_at}
use Rattle.std.specs.Cmp.{IsTotalOrder, eq_by_cmp_equiv}
use Rattle.std.specs.Map.{lookup}
use Rattle.std.specs.Ordering.{is_eq, match_ordering}
use Rattle.std.specs.declared.cmp.Ordering.{Ordering}
use Rattle.std.specs.declared.cmp.Ordering.TheVariants.{Less, Equal, Greater}
use Rattle.std.proofs.lemmas.Map.Lookups.{CmpEqualImpliesEq}

pub is-equal : (o : Ordering) → is_eq o ≡ true → o ≡ Equal
is-equal Less e = cc
is-equal Equal e = refl
is-equal Greater e = cc

module _ {K : Type 0} {cmp : K → K → Ordering} (order : IsTotalOrder cmp) (exact : CmpEqualImpliesEq cmp) where
  pub own-key : (k : K) → is_at (cmp k) k ≡ true
  own-key k = (eq_by_cmp_equiv order).refl k

  pub same-key : (q k : K) → is_at (cmp q) k ≡ true → q ≡ k
  same-key q k e = exact q k (is-equal (cmp q k) e)

module _ {K X : Type 0} {cmp : K → K → Ordering} (order : IsTotalOrder cmp) (exact : CmpEqualImpliesEq cmp) where
  -- a value is found at its key, and all others as before
  pub lookup-insert : (es : List (K × X)) (k q : K) (v : X) → lookup (is_at (cmp q)) (insert_entry cmp es k v) ≡ cond (is_at (cmp q) k) (Some v) (lookup (is_at (cmp q)) es)
  lookup-insert [] k q v = refl
  lookup-insert (e ∷ es) k q v = by (cmp k e.0) refl (lookup-insert es k q v)
    where
      there : Option X
      there = lookup (is_at (cmp q)) es

      twice : (b : Bool) → cond b (Some v) there ≡ cond b (Some v) (cond b (Some e.1) there)
      twice true = refl
      twice false = refl

      swap : (a b : Bool) → (a ≡ true → b ≡ true → ⊥) → cond b (Some e.1) (cond a (Some v) there) ≡ cond a (Some v) (cond b (Some e.1) there)
      swap true true apart = absurd (apart refl refl)
      swap true false apart = refl
      swap false b apart = refl

      by : (o : Ordering) → cmp k e.0 ≡ o → lookup (is_at (cmp q)) (insert_entry cmp es k v) ≡ cond (is_at (cmp q) k) (Some v) there
          → lookup (is_at (cmp q)) (match_ordering o ((k, v) ∷ e ∷ es) ((e.0, v) ∷ es) (e ∷ insert_entry cmp es k v)) ≡ cond (is_at (cmp q) k) (Some v) (cond (is_at (cmp q) e.0) (Some e.1) there)
      by Less h rest = refl
      by Equal h rest =
          twice (is_at (cmp q) e.0) ∙ ap (λ j. cond (is_at (cmp q) j) (Some v) (cond (is_at (cmp q) e.0) (Some e.1) there)) (sym (exact k e.0 h))
      by Greater h rest =
          ap (cond (is_at (cmp q) e.0) (Some e.1)) rest
          ∙ swap (is_at (cmp q) k) (is_at (cmp q) e.0) (λ a b. none (sym h ∙ ap (cmp k) (sym (same-key order exact q e.0 b) ∙ same-key order exact q k a) ∙ is-equal (cmp k k) (own-key order exact k)))
        where
          none : Greater ≡ Equal → ⊥
          none e = cc
