-- What holds of all items of a list, of its parts, and of an item that is found.
use Rattle.std.proofs.Common.{◌≡◌, ℕ, zero, suc, ◌+◌, ◌<◌, Bool, true, false, cond, List, [], ◌∷◌, ◌++◌, Option, Some, ap, sym, subst, arith, ◌≤◌, get_or}
use Rattle.std.specs.Prelude.{All, filter, find, map, reverse, slice_get, unwrap_or}
use Rattle.std.specs.List.{flat_map, list_all, range_with_len}
use Rattle.std.proofs.lemmas.List.{reverse-append}
use Rattle.std.proofs.lemmas.List.Elements.{All-nil, All-cons, All-head, All-tail, All-append, All-weaker}
use Rattle.std.proofs.lemmas.List.Sums.{AllPass-from_list_all}
use Rattle.std.proofs.lemmas.Option.{none-some, slice_get-get_or}

-- of an appended list, of its front and of its end
pub All-left : {X : Type 0} (P : X → Type 0) (xs ys : List X) → All P (xs ++ ys) → All P xs
All-left P [] ys h = All-nil P
All-left P (x ∷ xs) ys h = All-cons P x xs (All-head P x (xs ++ ys) h) (All-left P xs ys (All-tail P x (xs ++ ys) h))

pub All-right : {X : Type 0} (P : X → Type 0) (xs ys : List X) → All P (xs ++ ys) → All P ys
All-right P [] ys h = h
All-right P (x ∷ xs) ys h = All-right P xs ys (All-tail P x (xs ++ ys) h)

-- of joined lists, of each of them
pub All-flat_map : {X Y : Type 0} (P : Y → Type 0) (f : X → List Y) (xs : List X) → All (λ x. All P (f x)) xs → All P (flat_map f xs)
All-flat_map P f [] h = All-nil P
All-flat_map P f (x ∷ xs) h =
    All-append P (f x) (flat_map f xs) (All-head (λ x. All P (f x)) x xs h) (All-flat_map P f xs (All-tail (λ x. All P (f x)) x xs h))

pub All-parts : {X Y : Type 0} (P : Y → Type 0) (f : X → List Y) (xs : List X) → All P (flat_map f xs) → All (λ x. All P (f x)) xs
All-parts P f [] h = All-nil (λ x. All P (f x))
All-parts P f (x ∷ xs) h =
    All-cons (λ x. All P (f x)) x xs (All-left P (f x) (flat_map f xs) h) (All-parts P f xs (All-right P (f x) (flat_map f xs) h))

-- of items that all pass a test which shows it
pub All-from_test : {X : Type 0} (P : X → Type 0) (test : X → Bool) → ((x : X) → test x ≡ true → P x) → (xs : List X) → list_all test xs ≡ true → All P xs
All-from_test P test shows xs h = All-weaker (λ x. test x ≡ true) P shows xs (AllPass-from_list_all test xs h)

-- of numbers in a row
pub All-between : (P : ℕ → Type 0) (a n : ℕ) → ((w : ℕ) → a ≤ w → w < a + n → P w) → All P (range_with_len a n)
All-between P a zero h = All-nil P
All-between P a (suc n) h =
    All-cons P a (range_with_len (a + 1) n) (h a (omega arith) (omega arith)) (All-between P (a + 1) n (λ w from lt. h w (omega arith) (omega arith)))

pub All-range : (P : ℕ → Type 0) (a n : ℕ) → ((w : ℕ) → w < a + n → P w) → All P (range_with_len a n)
All-range P a n h = All-between P a n (λ w _ lt. h w lt)

-- of the item at a place
pub All-slice_get : {X : Type 0} (P : X → Type 0) (xs : List X) (i : ℕ) (x : X) → All P xs → slice_get xs i ≡ Some x → P x
All-slice_get P [] i x h e = absurd (none-some x e)
All-slice_get P (y ∷ ys) zero x h e = subst P (ap (λ o. unwrap_or o y) e) (All-head P y ys h)
All-slice_get P (y ∷ ys) (suc i) x h e = All-slice_get P ys i x (All-tail P y ys h) e

-- of the first item that passes a test
found : {X : Type 0} (P : X → Type 0) (passes : Bool) (y : X) (rest : Option X) (x : X) → P y → (rest ≡ Some x → P x)
    → cond passes (Some y) rest ≡ Some x → P x
found P true y rest x here later e = subst P (ap (λ o. unwrap_or o y) e) here
found P false y rest x here later e = later e

pub All-find : {X : Type 0} (P : X → Type 0) (test : X → Bool) (xs : List X) (x : X) → All P xs → find test xs ≡ Some x → P x
All-find P test [] x h e = absurd (none-some x e)
All-find P test (y ∷ ys) x h e = found P (test y) y (find test ys) x (All-head P y ys h) (All-find P test ys x (All-tail P y ys h)) e

-- of a list from which another is made, and of what a filter keeps
pub All-unmap : {X Y : Type 0} (P : Y → Type 0) (f : X → Y) (xs : List X) → All P (map f xs) → All (λ x. P (f x)) xs
All-unmap P f [] h = All-nil (λ x. P (f x))
All-unmap P f (x ∷ xs) h = All-cons (λ y. P (f y)) x xs (All-head P (f x) (map f xs) h) (All-unmap P f xs (All-tail P (f x) (map f xs) h))

rest_of : {X : Type 0} (P : X → Type 0) (b : Bool) (x : X) (xs : List X) → All P (cond b (x ∷ xs) xs) → All P xs
rest_of P true x xs h = All-tail P x xs h
rest_of P false x xs h = h

pub All-unfilter : {X : Type 0} (P : X → Type 0) (test : X → Bool) (xs : List X) → All P (filter test xs) → All (λ x. test x ≡ true → P x) xs
All-unfilter P test [] h = All-nil (λ x. test x ≡ true → P x)
All-unfilter {X} P test (x ∷ xs) h =
    All-cons (λ x. test x ≡ true → P x) x xs
    (λ passes. All-head P x (filter test xs) (let F : Bool → Type 0 = λ b. All P (cond b (x ∷ filter test xs) (filter test xs)) in subst F passes h))
    (All-unfilter P test xs (rest_of P (test x) x (filter test xs) h))

-- of a list from its end
pub All-reverse : {X : Type 0} (P : X → Type 0) (xs : List X) → All P xs → All P (reverse xs)
All-reverse P [] h = All-nil P
All-reverse P (x ∷ xs) h =
    subst (All P) (sym (reverse-append (x ∷ []) xs))
    (All-append P (reverse xs) (x ∷ []) (All-reverse P xs (All-tail P x xs h)) (All-cons P x [] (All-head P x xs h) (All-nil P)))

-- what holds of the item at each place holds of all
pub All-from_items : {X : Type 0} (P : X → Type 0) (xs : List X) → ((n : ℕ) (x : X) → slice_get xs n ≡ Some x → P x) → All P xs
All-from_items P xs h k d lt = h k (get_or xs k d) (slice_get-get_or xs k d lt)
