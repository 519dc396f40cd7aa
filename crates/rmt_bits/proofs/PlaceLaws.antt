-- Places by lists of numbers, after one was put.
use Rattle.std.proofs.Common.{◌≡◌, ◌≢◌, ℕ, ◌==◌, Bool, true, false, cond, List, [], ◌∷◌, length, get_or, Option, Some, None, Vec, Global, refl, sym, ap, subst, ◌∙◌, tests, arith}
use Rattle.std.specs.Prelude.{unwrap_or}
use Rattle.std.specs.declared.cmp.Ordering.{Ordering}
use Rattle.std.specs.declared.cmp.Ordering.TheVariants.{Less, Equal, Greater}
use Rattle.std.specs.Ordering.{nat_cmp, is_eq, match_ordering}
use Rattle.std.specs.Cmp.{eq_by_cmp_equiv, nat_cmp_total, Equal-is, both_ways}
use Rattle.std.specs.Cmp.Lexicographic.{slice_cmp, nat_list_cmp_total}
use Rattle.std.specs.BTreeMap.{get, get_by, insert_entry, Updates}
use Rattle.std.specs.Map.{lookup}
use Rattle.std.proofs.lemmas.Bool.{false≢true, false_from_ne_true}
use Rattle.std.proofs.lemmas.Map.Lookups.{exact_bytes, exact_unsigned}
use Rattle.rmt_bits.specs.declared.places.Places.{Places}
use Rattle.rmt_bits.specs.declared.groups.Group.{Group}
use Rattle.rmt_bits.specs.Grouping.{place_in, PutAt}
use Rattle.rmt_bits.specs.Places.{are_same, HasPut}

pub same_lists_of : (xs ys : List ℕ) → are_same xs ys ≡ true → xs ≡ ys
same_lists_of xs ys h = exact_bytes xs ys ((Equal-is (slice_cmp nat_cmp xs ys)).0 h)

pub are_same-own : (xs : List ℕ) → are_same xs xs ≡ true
are_same-own xs = (eq_by_cmp_equiv nat_list_cmp_total).refl xs

-- lists that a test tells apart are not the same
apart : (test : List ℕ → Bool) (xs ys : List ℕ) → test xs ≢ test ys → are_same xs ys ≡ false
apart test xs ys differ = false_from_ne_true _ (λ h. differ (ap test (same_lists_of xs ys h)))

module _ {K X : Type 0} (items : K → List ℕ) (vs : List ℕ) (k : K) (v : X) where
  abbrev test : K → Bool
  test x = are_same vs (items x)

  pub lookup-insert : (es : List (K × X)) → lookup (λ (x : K). are_same vs (items x)) (insert_entry (λ (x y : K). slice_cmp nat_cmp (items x) (items y)) es k v) ≡ cond (are_same vs (items k)) (Some v) (lookup (λ (x : K). are_same vs (items x)) es)
  lookup-insert [] = refl
  lookup-insert (e ∷ es) = by (slice_cmp nat_cmp (items k) (items e.0)) refl (lookup-insert es)
    where
      old : Option X
      old = lookup test es

      at_equal : (a b : Bool) → a ≡ b → cond a (Some v) old ≡ cond b (Some v) (cond a (Some e.1) old)
      at_equal true b h = ap (λ t. cond t (Some v) (Some e.1)) h
      at_equal false b h = ap (λ t. cond t (Some v) old) h

      at_greater : (a b : Bool) (o : Option X) → (a ≡ true → b ≡ true → ⊥) → o ≡ cond b (Some v) old → cond a (Some e.1) o ≡ cond b (Some v) (cond a (Some e.1) old)
      at_greater true true o apart h = absurd (apart refl refl)
      at_greater true false o apart h = refl
      at_greater false b o apart h = h

      different : slice_cmp nat_cmp (items k) (items e.0) ≡ Greater → test e.0 ≡ true → test k ≡ true → ⊥
      different greater a b =
          let same : items k ≡ items e.0 = sym (same_lists_of vs (items k) b) ∙ same_lists_of vs (items e.0) a in
          false≢true (sym (ap is_eq greater) ∙ ap (are_same (items k)) (sym same) ∙ are_same-own (items k))

      by : (o : Ordering) → slice_cmp nat_cmp (items k) (items e.0) ≡ o → lookup test (insert_entry (λ (x y : K). slice_cmp nat_cmp (items x) (items y)) es k v) ≡ cond (test k) (Some v) old
          → lookup test (match_ordering o ((k, v) ∷ e ∷ es) ((e.0, v) ∷ es) (e ∷ insert_entry (λ (x y : K). slice_cmp nat_cmp (items x) (items y)) es k v)) ≡ cond (test k) (Some v) (cond (test e.0) (Some e.1) old)
      by Less h rest = refl
      by Equal h rest = at_equal (test e.0) (test k) (ap (are_same vs) (sym (exact_bytes _ _ h)))
      by Greater h rest = at_greater (test e.0) (test k) _ (different h) rest

-- lists of one number are the same where the numbers are
same_ones : (v w : ℕ) → is_eq (nat_cmp v w) ≡ are_same (w ∷ []) (v ∷ [])
same_ones v w = both_ways _ _ there back
  where
    there : is_eq (nat_cmp v w) ≡ true → are_same (w ∷ []) (v ∷ []) ≡ true
    there h = subst (λ x. are_same (x ∷ []) (v ∷ []) ≡ true) (exact_unsigned v w ((Equal-is (nat_cmp v w)).0 h)) (are_same-own (v ∷ []))

    back : are_same (w ∷ []) (v ∷ []) ≡ true → is_eq (nat_cmp v w) ≡ true
    back h = subst (λ x. is_eq (nat_cmp v x) ≡ true) (ap (λ xs. get_or xs 0 0) (sym (same_lists_of (w ∷ []) (v ∷ []) h))) ((eq_by_cmp_equiv nat_cmp_total).refl v)

-- a list of one number is that of its number
list_of_one : (vs : List ℕ) → (length vs == 1) ≡ true → get_or vs 0 0 ∷ [] ≡ vs
list_of_one [] h = absurd (false≢true h)
list_of_one (v ∷ []) h = refl
list_of_one (v ∷ w ∷ vs) h = absurd (grind (arith, tests))

module _ (old new : Places) (vs : List ℕ) (at : ℕ) where
  -- a list of one number was put
  pub put_one : length vs ≡ 1 → Updates nat_cmp old.ones new.ones (get_or vs 0 0) (Some at) → new.others ≡ old.others → HasPut vs at old new
  put_one one updates same ws = by (length ws == 1) refl (grind (arith, tests))
    where
      by : (b : Bool) → (length ws == 1) ≡ b → (length vs == 1) ≡ true → cond b (get nat_cmp new.ones (get_or ws 0 0)) (get_by (λ k. slice_cmp nat_cmp ws k.items) new.others)
          ≡ cond (are_same ws vs) (Some at) (cond b (get nat_cmp old.ones (get_or ws 0 0)) (get_by (λ k. slice_cmp nat_cmp ws k.items) old.others))
      by true is own =
          updates.0 (get_or ws 0 0)
          ∙ ap (λ t. cond t (Some at) (get nat_cmp old.ones (get_or ws 0 0)))
          (same_ones (get_or vs 0 0) (get_or ws 0 0) ∙ ap (λ xs. are_same xs (get_or vs 0 0 ∷ [])) (list_of_one ws is) ∙ ap (are_same ws) (list_of_one vs own))
      by false is own =
          ap (get_by (λ k. slice_cmp nat_cmp ws k.items)) same
          ∙ sym (ap (λ t. cond t (Some at) (get_by (λ k. slice_cmp nat_cmp ws k.items) old.others)) (apart (λ xs. length xs == 1) ws vs (λ e. false≢true (sym is ∙ e ∙ own))))

  -- another list was put
  pub put_other : (key : Vec ℕ Global) → key.items ≡ vs → length vs ≢ 1 → new.others.entries ≡ insert_entry (λ (x y : Vec ℕ Global). slice_cmp nat_cmp x.items y.items) old.others.entries key at → new.ones ≡ old.ones → HasPut vs at old new
  put_other key key_is more entries same ws = by (length ws == 1) refl (false_from_ne_true _ (λ h. more (grind (arith, tests))))
    where
      by : (b : Bool) → (length ws == 1) ≡ b → (length vs == 1) ≡ false → cond b (get nat_cmp new.ones (get_or ws 0 0)) (get_by (λ k. slice_cmp nat_cmp ws k.items) new.others)
          ≡ cond (are_same ws vs) (Some at) (cond b (get nat_cmp old.ones (get_or ws 0 0)) (get_by (λ k. slice_cmp nat_cmp ws k.items) old.others))
      by true is own =
          ap (λ m. get nat_cmp m (get_or ws 0 0)) same
          ∙ sym (ap (λ t. cond t (Some at) (get nat_cmp old.ones (get_or ws 0 0))) (apart (λ xs. length xs == 1) ws vs (λ e. false≢true (sym own ∙ sym e ∙ is))))
      by false is own =
          ap (λ (es : List (Vec ℕ Global × ℕ)). lookup (λ (k : Vec ℕ Global). are_same ws k.items) es) entries
          ∙ lookup-insert (λ (k : Vec ℕ Global). k.items) ws key at old.others.entries
          ∙ ap (λ xs. cond (are_same ws xs) (Some at) (get_by (λ k. slice_cmp nat_cmp ws k.items) old.others)) key_is

-- a group that finds these bits finds them as before
pub place_kept : (g : Group) (vs values : List ℕ) (at x : ℕ) → place_in g values ≡ Some x → place_in g vs ≡ cond (are_same vs values) (Some (unwrap_or (place_in g values) at)) (place_in g vs)
place_kept g vs values at x found = by (are_same vs values) refl
  where
    by : (b : Bool) → are_same vs values ≡ b → place_in g vs ≡ cond b (Some (unwrap_or (place_in g values) at)) (place_in g vs)
    by true e = ap (place_in g) (same_lists_of vs values e) ∙ found ∙ ap (λ o. Some (unwrap_or o at)) (sym found)
    by false e = refl

-- a group got a place for bits that it had not found
pub put_new : (g h : Group) (values : List ℕ) (at : ℕ) → place_in g values ≡ None → h.masks.items ≡ g.masks.items → h.first ≡ g.first → HasPut values at g.places h.places → PutAt values at g h
put_new g h values at none masks first put = record {
  masks = masks;
  first = first;
  places = λ vs. put vs ∙ ap (λ (o : Option ℕ). cond (are_same vs values) (Some (unwrap_or o at)) (place_in g vs)) (sym none);
}
