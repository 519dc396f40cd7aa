-- Entries put one after another, and what a stable sort leaves of them of which the first one of each key is kept.
use Rattle.std.proofs.Common.{◌≡◌, Bool, true, false, ◌&&◌, cond, List, [], ◌∷◌, ◌++◌, not, Option, Some, None, append_assoc, refl, sym, ap, ◌∙◌, subst}
use Rattle.std.specs.Prelude.{filter, fold, reverse}
use Rattle.std.specs.BTreeMap.{insert_entry, is_at}
use Rattle.std.specs.Cmp.{IsTotalOrder}
use Rattle.std.specs.FinMap.Entries.{below_all, find, is_sorted, same_entries}
use Rattle.std.specs.List.{AllByRecursion, dedup, dedup_from}
use Rattle.std.specs.List.Sorted.{IsSortedByKey, IsStableByKey, IsStrictlySortedBy, ties}
use Rattle.std.specs.Map.{keys_of, lookup}
use Rattle.std.specs.Ordering.{eq_by_cmp, is_eq, is_lt, match_ordering, ordering_reverse}
use Rattle.std.specs.declared.cmp.Ordering.{Ordering}
use Rattle.std.specs.declared.cmp.Ordering.TheVariants.{Less, Equal, Greater}
use Rattle.std.proofs.Math.Dec.{T}
use Rattle.std.proofs.lemmas.Cmp.{on_total}
use Rattle.std.proofs.lemmas.List.{append-nil, reverse-append}
use Rattle.std.proofs.lemmas.List.Elements.{All-from_recursion, recursion_from_All}
use Rattle.std.proofs.lemmas.List.Kept.{IsStrictlySortedBy-dedup}
use Rattle.std.proofs.lemmas.Map.Lookups.{CmpEqualImpliesEq}
use Rattle.std.proofs.lemmas.Map.Views.{All-keys-insert_entry}
use Rattle.rmt_update.proofs.InsertLaws.{is-equal, lookup-insert}

both-hold : (a b : Bool) → T a → T b → T (a && b)
both-hold true b x y = y
both-hold false b x y = absurd x

module _ {K X : Type 0} (R : K → K → Ordering) where
  -- entries with others, one after another
  abbrev pub puts : List (K × X) → List (K × X) → List (K × X)
  puts es xs = fold (λ (m : List (K × X)) (x : K × X). insert_entry R m x.0 x.1) es xs

  -- a look-up in two lists asks the second one last
  lookup-behind : (test : K → Bool) (xs ys zs : List (K × X)) → lookup test ys ≡ lookup test zs → lookup test (xs ++ ys) ≡ lookup test (xs ++ zs)
  lookup-behind test [] ys zs e = e
  lookup-behind test (x ∷ xs) ys zs e = ap (cond (test x.0) (Some x.1)) (lookup-behind test xs ys zs e)

  find-lookup : (q : K) (es : List (K × X)) → find R q es ≡ lookup (is_at (R q)) es
  find-lookup q [] = refl
  find-lookup q (e ∷ es) = ap (cond (eq_by_cmp R q e.0) (Some e.1)) (find-lookup q es)

  below-from : (k : K) (es : List (K × X)) → AllByRecursion (λ y. R k y ≡ Less) (keys_of es) → T (below_all R k es)
  below-from k [] all = tt
  below-from k (e ∷ es) all = subst (λ (o : Ordering). T (is_lt o && below_all R k es)) (sym all.0) (below-from k es all.1)

  keys-below : (k : K) (es : List (K × X)) → AllByRecursion (λ (y : K × X). R k y.0 ≡ Less) es → AllByRecursion (λ y. R k y ≡ Less) (keys_of es)
  keys-below k [] all = tt
  keys-below k (e ∷ es) all = (all.0, keys-below k es all.1)

  keys-sorted : (es : List (K × X)) → IsStrictlySortedBy (λ (x y : K × X). R x.0 y.0) es → IsStrictlySortedBy R (keys_of es)
  unfolding IsStrictlySortedBy
  keys-sorted [] s = tt
  keys-sorted (e ∷ es) s = (keys-below e.0 es s.0, keys-sorted es s.1)

  sorted-test : (es : List (K × X)) → IsStrictlySortedBy R (keys_of es) → T (is_sorted R es)
  unfolding IsStrictlySortedBy
  sorted-test [] s = tt
  sorted-test (e ∷ es) s = both-hold (below_all R e.0 es) (is_sorted R es) (below-from e.0 es s.0) (sorted-test es s.1)

  -- the first one of each key stands for all of it
  module _ (same : K × X → K × X → Bool) (test : K → Bool) (alike : (x y : K × X) → same x y ≡ true → test x.0 ≡ test y.0) where
    lookup-dedup_from : (k : K × X) (xs : List (K × X)) → lookup test (dedup_from same k xs) ≡ lookup test (k ∷ xs)
    lookup-dedup_from k [] = refl
    lookup-dedup_from k (x ∷ xs) = by (same x k) refl (lookup-dedup_from k xs) (lookup-dedup_from x xs)
      where
        once : (b : Bool) (o : Option X) → cond b (Some k.1) o ≡ cond b (Some k.1) (cond b (Some x.1) o)
        once true o = refl
        once false o = refl

        by : (b : Bool) → same x k ≡ b → lookup test (dedup_from same k xs) ≡ lookup test (k ∷ xs) → lookup test (dedup_from same x xs) ≡ lookup test (x ∷ xs)
            → lookup test (cond b (dedup_from same k xs) (k ∷ dedup_from same x xs)) ≡ cond (test k.0) (Some k.1) (cond (test x.0) (Some x.1) (lookup test xs))
        by true e first later = first ∙ once (test k.0) (lookup test xs) ∙ ap (λ b. cond (test k.0) (Some k.1) (cond b (Some x.1) (lookup test xs))) (sym (alike x k e))
        by false e first later = ap (cond (test k.0) (Some k.1)) later

    lookup-dedup : (xs : List (K × X)) → lookup test (dedup same xs) ≡ lookup test xs
    lookup-dedup [] = refl
    lookup-dedup (x ∷ xs) = lookup-dedup_from x xs

module _ {K X : Type 0} {R : K → K → Ordering} (order : IsTotalOrder R) where
  farther : (k j : K) (es : List (K × X)) → R k j ≡ Less → AllByRecursion (λ y. R j y ≡ Less) (keys_of es) → AllByRecursion (λ y. R k y ≡ Less) (keys_of es)
  farther k j [] h all = tt
  farther k j (e ∷ es) h all = (order.trans k j e.0 h all.0, farther k j es h all.1)

  -- a new entry keeps the others in order
  insert-by : (e : K × X) (es : List (K × X)) (k : K) (v : X) (o : Ordering) → R k e.0 ≡ o → IsStrictlySortedBy R (keys_of (e ∷ es)) → IsStrictlySortedBy R (keys_of (insert_entry R es k v))
      → IsStrictlySortedBy R (keys_of (match_ordering o ((k, v) ∷ e ∷ es) ((e.0, v) ∷ es) (e ∷ insert_entry R es k v)))
  unfolding IsStrictlySortedBy
  insert-by e es k v Less h s rest = ((h, farther k e.0 es h s.0), s)
  insert-by e es k v Equal h s rest = s
  insert-by e es k v Greater h s rest = (
    recursion_from_All (λ y. R e.0 y ≡ Less) (keys_of (insert_entry R es k v))
        (All-keys-insert_entry R k v (λ y. R e.0 y ≡ Less) es (All-from_recursion (λ y. R e.0 y ≡ Less) (keys_of es) s.0) (order.antisymm e.0 k ∙ ap ordering_reverse h)),
    rest,
  )

  insert-sorted : (es : List (K × X)) (k : K) (v : X) → IsStrictlySortedBy R (keys_of es) → IsStrictlySortedBy R (keys_of (insert_entry R es k v))
  unfolding IsStrictlySortedBy
  insert-sorted [] k v s = (tt, tt)
  insert-sorted (e ∷ es) k v s = insert-by e es k v (R k e.0) refl s (insert-sorted es k v s.1)

  puts-sorted : (es xs : List (K × X)) → IsStrictlySortedBy R (keys_of es) → IsStrictlySortedBy R (keys_of (puts R es xs))
  puts-sorted es [] s = s
  puts-sorted es (x ∷ xs) s = puts-sorted (insert_entry R es x.0 x.1) xs (insert-sorted es x.0 x.1 s)

  -- entries put one after another are in order
  pub puts-in-order : (xs : List (K × X)) → IsStrictlySortedBy R (keys_of (puts R [] xs))
  unfolding IsStrictlySortedBy
  puts-in-order xs = puts-sorted [] xs tt

  -- what ties with an entry has a key that is equal to its own
  ties-key : (x y : K × X) → ties (λ (a b : K × X). is_lt (R a.0 b.0)) x y ≡ is_at (R x.0) y.0
  ties-key x y = ap (λ (o : Ordering). not (is_lt (R x.0 y.0)) && not (is_lt o)) (order.antisymm y.0 x.0) ∙ by (R x.0 y.0)
    where
      by : (o : Ordering) → (not (is_lt o) && not (is_lt (ordering_reverse o))) ≡ is_eq o
      by Less = refl
      by Equal = refl
      by Greater = refl

  first-tied : List (K × X) → Option X
  first-tied [] = None
  first-tied (e ∷ es) = Some e.1

  lookup-tied : (x : K × X) (es : List (K × X)) → lookup (is_at (R x.0)) es ≡ first-tied (filter (ties (λ (a b : K × X). is_lt (R a.0 b.0)) x) es)
  unfolding first-tied
  lookup-tied x [] = refl
  lookup-tied x (e ∷ es) = by (is_at (R x.0) e.0) refl (lookup-tied x es)
    where
      by : (b : Bool) → is_at (R x.0) e.0 ≡ b → lookup (is_at (R x.0)) es ≡ first-tied (filter (ties (λ (a b : K × X). is_lt (R a.0 b.0)) x) es)
          → cond (is_at (R x.0) e.0) (Some e.1) (lookup (is_at (R x.0)) es) ≡ first-tied (filter (ties (λ (a b : K × X). is_lt (R a.0 b.0)) x) (e ∷ es))
      by true h rest =
          ap (λ b. cond b (Some e.1) (lookup (is_at (R x.0)) es)) h
          ∙ ap (λ b. first-tied (cond b (e ∷ filter (ties (λ (a b : K × X). is_lt (R a.0 b.0)) x) es) (filter (ties (λ (a b : K × X). is_lt (R a.0 b.0)) x) es))) (sym (ties-key x e ∙ h))
      by false h rest =
          ap (λ b. cond b (Some e.1) (lookup (is_at (R x.0)) es)) h ∙ rest
          ∙ ap (λ b. first-tied (cond b (e ∷ filter (ties (λ (a b : K × X). is_lt (R a.0 b.0)) x) es) (filter (ties (λ (a b : K × X). is_lt (R a.0 b.0)) x) es))) (sym (ties-key x e ∙ h))

  -- a stable sort answers as before
  lookup-stable : (xs ys : List (K × X)) → IsStableByKey (λ (x : K × X). x.0) R xs ys → (q : K) → lookup (is_at (R q)) ys ≡ lookup (is_at (R q)) xs
  lookup-stable xs ys stable q = by (lookup (is_at (R q)) ys) (lookup (is_at (R q)) xs) refl refl
    where
      at : (v : X) → lookup (is_at (R q)) ys ≡ lookup (is_at (R q)) xs
      at v = lookup-tied (q, v) ys ∙ ap first-tied (stable (q, v)) ∙ sym (lookup-tied (q, v) xs)

      by : (o p : Option X) → lookup (is_at (R q)) ys ≡ o → lookup (is_at (R q)) xs ≡ p → lookup (is_at (R q)) ys ≡ lookup (is_at (R q)) xs
      by (Some v) p a b = at v
      by None (Some v) a b = at v
      by None None a b = a ∙ sym b

  module _ (exact : CmpEqualImpliesEq R) where
    lookup-puts : (es xs : List (K × X)) (q : K) → lookup (is_at (R q)) (puts R es xs) ≡ lookup (is_at (R q)) (reverse xs ++ es)
    lookup-puts es [] q = refl
    lookup-puts es (x ∷ xs) q =
        lookup-puts (insert_entry R es x.0 x.1) xs q
        ∙ lookup-behind R (is_at (R q)) (reverse xs) (insert_entry R es x.0 x.1) (x ∷ es) (lookup-insert order exact es x.0 q x.1)
        ∙ ap (lookup (is_at (R q))) (sym (append_assoc (reverse xs) (x ∷ []) es) ∙ ap (λ ys. ys ++ es) (sym (reverse-append (x ∷ []) xs)))

    -- entries from the last one on, in order, of each key the first one, are these entries put one after another
    pub sorted-puts : (same : K × X → K × X → Bool) → ((x y : K × X) → same x y ≡ eq_by_cmp R x.0 y.0) → (xs ys : List (K × X)) → IsSortedByKey (λ (x : K × X). x.0) R ys
        → IsStableByKey (λ (x : K × X). x.0) R (reverse xs) ys → dedup same ys ≡ puts R [] xs
    sorted-puts same are xs ys sorted stable =
        same_entries R order exact (dedup same ys) (puts R [] xs) (sorted-test R (dedup same ys) strict) (sorted-test R (puts R [] xs) (puts-in-order xs)) (λ q.
        find-lookup R q (dedup same ys)
        ∙ lookup-dedup R same (is_at (R q)) (λ x y e. ap is_eq (alike q x y e)) ys ∙ lookup-stable (reverse xs) ys stable q ∙ ap (lookup (is_at (R q))) (sym (append-nil (reverse xs))) ∙ sym (lookup-puts [] xs q)
        ∙ sym (find-lookup R q (puts R [] xs)))
      where
        alike : (q : K) (x y : K × X) → same x y ≡ true → R q x.0 ≡ R q y.0
        alike q x y e = ap (R q) (exact x.0 y.0 (is-equal (R x.0 y.0) (sym (are x y) ∙ e)))

        strict : IsStrictlySortedBy R (keys_of (dedup same ys))
        strict = keys-sorted R (dedup same ys) (IsStrictlySortedBy-dedup (on_total (λ (x : K × X). x.0) order) are ys sorted)
