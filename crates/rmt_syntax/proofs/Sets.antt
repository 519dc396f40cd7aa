-- Lists of terminals as sets.
use Rattle.rmt_syntax.proofs.Words.{cases_Bool, ◌≡◌, ◌∙◌, ◌⊎◌, inl, inr, ℕ, zero, suc, Bool, true, sym, ap, refl, subst, List, [], ◌∷◌, ◌++◌, Some, not, slice_get, list_all, list_any, same_true, same_false, true_same, the_type, Terminal, same, member, Apart, and_parts, or_cases, or_left, or_right, not-true, both_ways, false_from_ne_true, list_any-append}

pub same_refl : (t : Terminal) → same t t ≡ true
same_refl t = true_same the_type t t refl

pub same_is : (a b : Terminal) → same a b ≡ true → a ≡ b
same_is a b h = same_true the_type tt a b h

-- whether b is a
pub same_or : (a b : Terminal) → (b ≡ a) ⊎ (b ≡ a → ⊥)
same_or a b = elim (cases_Bool (same a b)) [ inl e ↦ inl (sym (same_is a b e)) | inr e ↦ inr (λ k. same_false the_type a b e (sym k)) ]

pub all_at : {A : Type 0} (p : A → Bool) (xs : List A) (i : ℕ) (x : A) → list_all p xs ≡ true → slice_get xs i ≡ Some x → p x ≡ true
all_at p [] i x h e = cc
all_at p (y ∷ ys) zero x h e = let same : y ≡ x = cc in subst (λ v. p v ≡ true) same (and_parts (p y) (list_all p ys) h).0
all_at p (y ∷ ys) (suc i) x h e = all_at p ys i x (and_parts (p y) (list_all p ys) h).1 e

pub any_at : {A : Type 0} (p : A → Bool) (xs : List A) (i : ℕ) (x : A) → p x ≡ true → slice_get xs i ≡ Some x → list_any p xs ≡ true
any_at p [] i x h e = cc
any_at p (y ∷ ys) zero x h e = let same : x ≡ y = cc in or_left (p y) _ (subst (λ v. p v ≡ true) same h)
any_at p (y ∷ ys) (suc i) x h e = or_right (p y) _ (any_at p ys i x h e)

-- where some item passes, it stands at a place
pub some_at : {A : Type 0} (p : A → Bool) (xs : List A) → list_any p xs ≡ true → (i : ℕ) × (x : A) × (slice_get xs i ≡ Some x) × (p x ≡ true)
some_at p [] h = cc
some_at p (y ∷ ys) h = elim (or_cases (p y) (list_any p ys) h) [
  | inl e ↦ (0, y, refl, e)
  | inr e ↦ (let k = some_at p ys e in (suc k.0, k.1, k.2, k.3))
]

pub member_here : (t u : Terminal) (ts : List Terminal) → u ≡ t → member t (u ∷ ts) ≡ true
member_here t u ts e = or_left (same u t) (member t ts) (ap (λ v. same v t) e ∙ same_refl t)

pub member_left : (t : Terminal) (xs ys : List Terminal) → member t xs ≡ true → member t (xs ++ ys) ≡ true
member_left t xs ys h = list_any-append (λ c. same c t) xs ys ∙ or_left (member t xs) (member t ys) h

pub member_right : (t : Terminal) (xs ys : List Terminal) → member t ys ≡ true → member t (xs ++ ys) ≡ true
member_right t xs ys h = list_any-append (λ c. same c t) xs ys ∙ or_right (member t xs) (member t ys) h

pub member_either : (t : Terminal) (xs ys : List Terminal) → member t (xs ++ ys) ≡ true → (member t xs ≡ true) ⊎ (member t ys ≡ true)
member_either t xs ys h = or_cases (member t xs) (member t ys) (sym (list_any-append (λ c. same c t) xs ys) ∙ h)

pub all_member : (p : Terminal → Bool) (xs : List Terminal) (t : Terminal) → list_all p xs ≡ true → member t xs ≡ true → p t ≡ true
all_member p [] t h m = cc
all_member p (x ∷ xs) t h m =
    let both = and_parts (p x) (list_all p xs) h in
    elim (or_cases (same x t) (member t xs) m) [ inl e ↦ subst (λ v. p v ≡ true) (same_is x t e) both.0 | inr k ↦ all_member p xs t both.1 k ]

abbrev pub subset : List Terminal → List Terminal → Bool
subset xs ys = list_all (λ t. member t ys) xs

abbrev pub disjoint : List Terminal → List Terminal → Bool
disjoint xs ys = list_all (λ t. not (member t ys)) xs

pub subset_is : (xs ys : List Terminal) → subset xs ys ≡ true → (t : Terminal) → member t xs ≡ true → member t ys ≡ true
subset_is xs ys h t m = all_member (λ v. member v ys) xs t h m

pub disjoint_is : (xs ys : List Terminal) → disjoint xs ys ≡ true → Apart xs ys
disjoint_is xs ys h t m = not-true _ (all_member (λ v. not (member v ys)) xs t h m)

pub apart_both : (xs ys zs : List Terminal) → Apart xs ys → Apart xs zs → Apart xs (ys ++ zs)
apart_both xs ys zs f g t m = false_from_ne_true (member t (ys ++ zs)) (λ h. elim (member_either t ys zs h) [ inl k ↦ both_ways _ (f t m) k | inr k ↦ both_ways _ (g t m) k ])

pub apart_part : (xs ys zs : List Terminal) → subset xs ys ≡ true → Apart ys zs → Apart xs zs
apart_part xs ys zs h f t m = f t (subset_is xs ys h t m)
