-- Entries by rising number.
use Rattle.std.proofs.Common.{◌≡◌, ◌≢◌, ℕ, ◌<◌, List, [], ◌∷◌, ◌++◌, map, Bool, true, false, cond, inl, inr, refl, sym, ap, ◌∙◌, arith, tests}
use Rattle.std.specs.Prelude.{fold, nat_lt}
use Rattle.std.specs.Cmp.{nat_cmp_is}
use Rattle.std.specs.Ordering.{match_ordering, nat_cmp}
use Rattle.std.specs.declared.cmp.Ordering.{Ordering}
use Rattle.std.specs.declared.cmp.Ordering.TheVariants.{Less, Greater}
use Rattle.std.specs.BTreeMap.{insert_entry}
use Rattle.std.proofs.lemmas.Bool.{cases_lt}
use Rattle.std.proofs.lemmas.List.Elements.{All-head, All-tail, All-cons, All-nil}
use Rattle.std.proofs.lemmas.List.Sums.{fold_push}
use Rattle.rmt_ast.specs.declared.entry.Entry.{Entry}
use Rattle.rmt_config.specs.NamesForm.{by_number, with_entry}
use Rattle.rmt_book.specs.Numbered.{IsNew, keyed}

below : (a b : ℕ) → a < b → nat_lt b a ≡ false
below a b lt = grind (arith, tests)

above : (a b : ℕ) → a < b → nat_lt a b ≡ true
above a b lt = grind (arith, tests)

-- an entry of a new number goes to its place
pub put-entry : (e : Entry) (es : List Entry) → IsNew e.number es → insert_entry nat_cmp (map keyed es) e.number e ≡ map keyed (with_entry e es)
put-entry e [] new = refl
put-entry e (o ∷ os) new =
    let apart : e.number ≢ o.number = All-head (λ (x : Entry). e.number ≢ x.number) o os new in
    let rest = put-entry e os (All-tail (λ (x : Entry). e.number ≢ x.number) o os new) in
    elim (cases_lt e.number o.number) as (λ _. insert_entry nat_cmp (map keyed (o ∷ os)) e.number e ≡ map keyed (with_entry e (o ∷ os))) [
      | inl lt ↦
          ap (λ (r : Ordering). match_ordering r ((e.number, e) ∷ keyed o ∷ map keyed os) ((o.number, e) ∷ map keyed os) (keyed o ∷ insert_entry nat_cmp (map keyed os) e.number e)) (sym (nat_cmp_is e.number o.number Less lt))
          ∙ ap (λ (b : Bool). map keyed (cond b (o ∷ with_entry e os) (e ∷ o ∷ os))) (sym (below e.number o.number lt))
      | inr le ↦
          let gt : o.number < e.number = omega (arith, le, apart) in
          ap (λ (r : Ordering). match_ordering r ((e.number, e) ∷ keyed o ∷ map keyed os) ((o.number, e) ∷ map keyed os) (keyed o ∷ insert_entry nat_cmp (map keyed os) e.number e)) (sym (nat_cmp_is e.number o.number Greater gt))
          ∙ ap (λ xs. keyed o ∷ xs) rest
          ∙ ap (λ (b : Bool). map keyed (cond b (o ∷ with_entry e os) (e ∷ o ∷ os))) (sym (above o.number e.number gt))
    ]

-- what is new among entries is new among them in order
new-with : (n : ℕ) (e : Entry) (es : List Entry) → n ≢ e.number → IsNew n es → IsNew n (with_entry e es)
new-with n e [] apart new = All-cons (λ (x : Entry). n ≢ x.number) e [] apart new
new-with n e (o ∷ os) apart new =
    by (nat_lt o.number e.number) (new-with n e os apart (All-tail (λ (x : Entry). n ≢ x.number) o os new))
  where
    by : (b : Bool) → IsNew n (with_entry e os) → IsNew n (cond b (o ∷ with_entry e os) (e ∷ o ∷ os))
    by true rest = All-cons (λ (x : Entry). n ≢ x.number) o (with_entry e os) (All-head (λ (x : Entry). n ≢ x.number) o os new) rest
    by false rest = All-cons (λ (x : Entry). n ≢ x.number) e (o ∷ os) apart new

new-from : (n : ℕ) (so_far es : List Entry) → IsNew n so_far → IsNew n es → IsNew n (fold (λ sorted e. with_entry e sorted) so_far es)
new-from n so_far [] a b = a
new-from n so_far (e ∷ es) a b =
    new-from n (with_entry e so_far) es (new-with n e so_far (All-head (λ (x : Entry). n ≢ x.number) e es b) a) (All-tail (λ (x : Entry). n ≢ x.number) e es b)

pub new-by_number : (n : ℕ) (es : List Entry) → IsNew n es → IsNew n (by_number es)
new-by_number n es new = new-from n [] es (All-nil (λ (x : Entry). n ≢ x.number)) new

pub by_number-push : (es : List Entry) (e : Entry) → by_number (es ++ e ∷ []) ≡ with_entry e (by_number es)
by_number-push es e = fold_push (λ sorted x. with_entry x sorted) [] es e

-- an entry more
pub order-more : (es : List Entry) (e : Entry) (old new : List (ℕ × Entry)) → old ≡ map keyed (by_number es) → IsNew e.number es → new ≡ insert_entry nat_cmp old e.number e
    → new ≡ map keyed (by_number (es ++ e ∷ []))
order-more es e old new is fresh put =
    put ∙ ap (λ xs. insert_entry nat_cmp xs e.number e) is ∙ put-entry e (by_number es) (new-by_number e.number es fresh) ∙ ap (map keyed) (sym (by_number-push es e))

-- the entries behind their numbers
pub values-keyed : (es : List Entry) → map (λ (x : ℕ × Entry). x.1) (map keyed es) ≡ es
values-keyed [] = refl
values-keyed (e ∷ es) = ap (λ xs. e ∷ xs) (values-keyed es)

pub map-same : {A : Type 0} (xs : List A) → map (λ x. x) xs ≡ xs
map-same [] = refl
map-same (x ∷ xs) = ap (λ ys. x ∷ ys) (map-same xs)
