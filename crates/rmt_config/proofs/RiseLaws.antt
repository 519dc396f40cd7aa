-- Lists of items whose numbers rise.
use Rattle.std.proofs.Common.{◌≡◌, ℕ, zero, suc, ◌+◌, ◌-◌, ◌*◌, ◌/◌, ◌%◌, ◌<◌, ◌≤◌, List, [], ◌∷◌, length, get_or, take, drop, map, Bool, true, false, ◌&&◌, ◌||◌, eqb, leb, add-one, subst, sym, refl, ap, ◌∙◌, arith, inl, inr}
use Rattle.std.specs.Prelude.{All}
use Rattle.std.specs.List.Sorted.{IsStrictlyIncreasing}
use Rattle.std.proofs.lemmas.Bool.{cases_lt, cases_eq, cases_order, and_from, and_parts, leb-true, le-leb, ne_eqb, eq-eqb}
use Rattle.std.proofs.lemmas.List.Elements.{All-head, All-tail}
use Rattle.std.proofs.Math.Seq.{drop-cons}
use Rattle.std.proofs.lemmas.List.{get_or_default, get_or-take, get_or-drop, length-take, length-drop}
use Rattle.std.proofs.lemmas.Nat.{div-add-mod', div-mul-add, mod_below}
use Rattle.rmt_config.specs.Order.{rises_from}
use Rattle.rmt_config.specs.StageForm.{is_listed}

-- each item of a rising list is above the ones before it
pub Rising : {X : Type 0} → (X → ℕ) → List X → Type 0
Rising {X} f xs = (i j : ℕ) (d : X) → i < j → j < length xs → f (get_or xs i d) < f (get_or xs j d)

pub all_above : {X : Type 0} (f : X → ℕ) (least : ℕ) (xs : List X) → rises_from least (map f xs) ≡ true → (j : ℕ) (d : X) → j < length xs → least ≤ f (get_or xs j d)
all_above f least [] h j d lt = absurd (omega (arith, lt))
all_above f least (x ∷ xs) h zero d lt = leb-true least (f x) (and_parts (leb least (f x)) (rises_from (f x + 1) (map f xs)) h).0
all_above f least (x ∷ xs) h (suc j) d lt =
    let parts = and_parts (leb least (f x)) (rises_from (f x + 1) (map f xs)) h in
    let first = leb-true least (f x) parts.0 in
    let rest = all_above f (f x + 1) xs parts.1 j d (omega (arith, lt)) in
    omega (arith, first, rest)

pub rise-below : {X : Type 0} (f : X → ℕ) (least : ℕ) (xs : List X) → rises_from least (map f xs) ≡ true
    → (i j : ℕ) (d : X) → i < j → j < length xs → f (get_or xs i d) < f (get_or xs j d)
rise-below f least [] h i j d lt l = absurd (omega (arith, l))
rise-below f least (x ∷ xs) h i zero d lt l = absurd (omega (arith, lt))
rise-below f least (x ∷ xs) h zero (suc j) d lt l =
    let parts = and_parts (leb least (f x)) (rises_from (f x + 1) (map f xs)) h in
    let rest = all_above f (f x + 1) xs parts.1 j d (omega (arith, l)) in
    omega (arith, rest)
rise-below f least (x ∷ xs) h (suc i) (suc j) d lt l =
    rise-below f (f x + 1) xs (and_parts (leb least (f x)) (rises_from (f x + 1) (map f xs)) h).1 i j d (omega (arith, lt)) (omega (arith, l))

-- numbers of which each is above the one before it rise
pub increasing_rises : (least : ℕ) (ys : List ℕ) → (0 < length ys → least ≤ get_or ys 0 0) → IsStrictlyIncreasing ys → rises_from least ys ≡ true
increasing_rises least [] low up = refl
increasing_rises least (n ∷ ns) low up =
    let tail : IsStrictlyIncreasing ns = λ k lt. rw (add-one k) (rw (add-one (suc k)) at (up (suc k) (omega (arith, lt)))) in
    and_from (leb least n) (rises_from (n + 1) ns) (le-leb least n (low (omega arith))) (increasing_rises (n + 1) ns (λ lt. omega (arith, up 0 (omega (arith, lt)))) tail)

-- ---- the steps of a loop

pub one_off : {X : Type 0} (xs : List X) (i : ℕ) (d : X) → i < length xs → drop i xs ≡ get_or xs i d ∷ drop (i + 1) xs
one_off xs i d lt = drop-cons xs i d lt ∙ ap (λ k. get_or xs i d ∷ drop k xs) (sym (add-one i))

-- ---- the steps of a search

pub rise-upto : {X : Type 0} (f : X → ℕ) (xs : List X) → rises_from 0 (map f xs) ≡ true
    → (i j : ℕ) (d : X) → i ≤ j → j < length xs → f (get_or xs i d) ≤ f (get_or xs j d)
rise-upto f xs h i j d le lt =
    elim (cases_eq i j) as (λ _. f (get_or xs i d) ≤ f (get_or xs j d)) [
      | inl same ↦ let e = ap (λ k. f (get_or xs k d)) same in omega (arith, e)
      | inr other ↦ let less = rise-below f 0 xs h i j d (omega (arith, other, le)) lt in omega (arith, less)
    ]

pub middle-below : {X : Type 0} (f : X → ℕ) (xs : List X) (m place : ℕ) (x : X) → rises_from 0 (map f xs) ≡ true → m < length xs → x ≡ get_or xs m x
    → f x < place → (k : ℕ) (d : X) → k < m + 1 → f (get_or xs k d) < place
middle-below f xs m place x h lm is less k d lt =
    let one = rise-upto f xs h k m d (omega (arith, lt)) lm in
    let e = ap f is ∙ ap f (get_or_default xs m x d lm) in
    omega (arith, one, e, less)

pub middle-above : {X : Type 0} (f : X → ℕ) (xs : List X) (m place : ℕ) (x : X) → rises_from 0 (map f xs) ≡ true → m < length xs → x ≡ get_or xs m x
    → place ≤ f x → (k : ℕ) (d : X) → m ≤ k → k < length xs → place ≤ f (get_or xs k d)
middle-above f xs m place x h lm is less k d le lt =
    let one = rise-upto f xs h m k d le lt in
    let e = ap f is ∙ ap f (get_or_default xs m x d lm) in
    omega (arith, one, e, less)

-- at an item with the number
pub here-below : {X : Type 0} (f : X → ℕ) (xs : List X) (m place : ℕ) (x : X) → rises_from 0 (map f xs) ≡ true → m < length xs → x ≡ get_or xs m x
    → f x ≡ place → (k : ℕ) (d : X) → k < m → f (get_or xs k d) < place
here-below f xs m place x h lm is same k d lt =
    let one = rise-below f 0 xs h k m d lt lm in
    let e = ap f is ∙ ap f (get_or_default xs m x d lm) in
    omega (arith, one, e, same)

pub here-above : {X : Type 0} (f : X → ℕ) (xs : List X) (m place : ℕ) (x : X) → rises_from 0 (map f xs) ≡ true → m < length xs → x ≡ get_or xs m x
    → f x ≡ place → (k : ℕ) (d : X) → m ≤ k → k < length xs → place ≤ f (get_or xs k d)
here-above f xs m place x h lm is same k d le lt = middle-above f xs m place x h lm is (omega (arith, same)) k d le lt

-- ---- whether a number is listed

pub listed-at : {X : Type 0} (f : X → ℕ) (n : ℕ) (xs : List X) (i : ℕ) (d : X) → i < length xs → f (get_or xs i d) ≡ n → is_listed n (map f xs) ≡ true
listed-at f n [] i d lt e = absurd (omega (arith, lt))
listed-at f n (x ∷ xs) zero d lt e = rw (eq-eqb (f x) n e) refl
listed-at f n (x ∷ xs) (suc i) d lt e =
    elim (eqb (f x) n) as (λ b. (b || is_listed n (map f xs)) ≡ true) [ true ↦ refl | false ↦ listed-at f n xs i d (omega (arith, lt)) e ]

pub listed-none : {X : Type 0} (f : X → ℕ) (n : ℕ) (xs : List X) → All (λ x. f x ≡ n → ⊥) xs → is_listed n (map f xs) ≡ false
listed-none f n [] h = refl
listed-none f n (x ∷ xs) h =
    rw (ne_eqb (f x) n (All-head (λ x. f x ≡ n → ⊥) x xs h)) (listed-none f n xs (All-tail (λ x. f x ≡ n → ⊥) x xs h))

-- a search for a number among rising ones
pub listed-by_search : {X : Type 0} (f : X → ℕ) (n : ℕ) (xs : List X) (at : ℕ) (d : X) → rises_from 0 (map f xs) ≡ true → at < length xs
    → ((k : ℕ) (d : X) → k < at → f (get_or xs k d) < n) → ((k : ℕ) (d : X) → at ≤ k → k < length xs → n ≤ f (get_or xs k d))
    → eqb (f (get_or xs at d)) n ≡ is_listed n (map f xs)
listed-by_search f n xs at d rise lt below above =
    elim (cases_eq (f (get_or xs at d)) n) as (λ _. eqb (f (get_or xs at d)) n ≡ is_listed n (map f xs)) [
      | inl e ↦ eq-eqb (f (get_or xs at d)) n e ∙ sym (listed-at f n xs at d lt e)
      | inr ne ↦ ne_eqb (f (get_or xs at d)) n ne ∙ sym (listed-none f n xs (λ k z lk e. elim (cases_order k at) as (λ _. ⊥) [
        | inl same ↦ ne (ap (λ i. f (get_or xs i d)) (sym same) ∙ ap f (get_or_default xs k d z lk) ∙ e)
        | inr (inl less) ↦ absurd (omega (arith, below k z less, e))
        | inr (inr more) ↦ absurd (omega (arith, rise-below f 0 xs rise at k z more lk, above at z (omega arith) lt, e))
      ]))
    ]

pub listed-past : {X : Type 0} (f : X → ℕ) (n : ℕ) (xs : List X) (at : ℕ) → length xs ≤ at
    → ((k : ℕ) (d : X) → k < at → f (get_or xs k d) < n) → false ≡ is_listed n (map f xs)
listed-past f n xs at past below =
    sym (listed-none f n xs (λ k z lk e. absurd (omega (arith, below k z (omega (arith, past, lk)), e))))

-- ---- the items of a run

pub run-order : {X : Type 0} (f : X → ℕ) (xs : List X) (first end a b : ℕ) → a ≤ b → first ≤ length xs
    → ((k : ℕ) (d : X) → k < first → f (get_or xs k d) < a) → ((k : ℕ) (d : X) → end ≤ k → k < length xs → b ≤ f (get_or xs k d)) → first ≤ end
run-order f [] first end a b ab le below above = omega (arith, le)
run-order f (x ∷ xs) first end a b ab le below above =
    elim (cases_lt end first) as (λ _. first ≤ end) [
      | inl less ↦ absurd (omega (arith, below end x less, above end x (omega arith) (omega (arith, less, le)), ab))
      | inr more ↦ more
    ]

in_run : (n height b : ℕ) → 0 < height → n / height ≡ b → (b * height ≤ n) × (n < (b + 1) * height)
in_run n height b some e =
    let split : n / height * height + n % height ≡ n = div-add-mod' n height in
    let low : n % height < height = mod_below n height some in
    let at : n / height * height ≡ b * height = ap (λ k. k * height) e in
    let next : (b + 1) * height ≡ b * height + height = omega arith in
    (omega (arith, split, at), omega (arith, split, low, at, next))

of_run : (n height b : ℕ) → b * height ≤ n → n < (b + 1) * height → n / height ≡ b
of_run n height b le lt =
    let e : n ≡ b * height + (n - b * height) = omega (arith, le) in
    let next : (b + 1) * height ≡ b * height + height = omega arith in
    ap (λ k. k / height) e ∙ div-mul-add b height (n - b * height) (omega (arith, le, lt, next))

range-item : {X : Type 0} (xs : List X) (first end k : ℕ) (d : X) → k < end - first → get_or (take (end - first) (drop first xs)) k d ≡ get_or xs (first + k) d
range-item xs first end k d lt = get_or-take (end - first) (drop first xs) k d lt ∙ get_or-drop first xs k d

range-length : {X : Type 0} (xs : List X) (first end : ℕ) → end ≤ length xs → length (take (end - first) (drop first xs)) ≡ end - first
range-length xs first end le =
    let e = length-take (end - first) (drop first xs) in
    let f = length-drop first xs in
    omega (arith, e, f, le)

pub run-all : {X : Type 0} (P : X → Type 0) (f : X → ℕ) (xs : List X) (first end height b : ℕ) → 0 < height
    → ((k : ℕ) (d : X) → first ≤ k → k < length xs → b * height ≤ f (get_or xs k d)) → end ≤ length xs
    → ((k : ℕ) (d : X) → k < first → f (get_or xs k d) < b * height)
    → ((k : ℕ) (d : X) → end ≤ k → k < length xs → (b + 1) * height ≤ f (get_or xs k d))
    → All P (take (end - first) (drop first xs)) → All (λ x. f x / height ≡ b → P x) xs
run-all P f xs first end height b some from le before behind all k d lt e =
    let parts = in_run (f (get_or xs k d)) height b some e in
    let low : first ≤ k = elim (cases_lt k first) as (λ _. first ≤ k) [ inl less ↦ absurd (omega (arith, before k d less, parts.0)) | inr more ↦ more ] in
    let high : k < end = elim (cases_lt k end) as (λ _. k < end) [ inl less ↦ less | inr more ↦ absurd (omega (arith, behind k d more lt, parts.1)) ] in
    let at : first + (k - first) ≡ k = omega (arith, low) in
    let small : k - first < end - first = omega (arith, low, high) in
    let there = all (k - first) d (let l = range-length xs first end le in omega (arith, l, small)) in
    subst P (range-item xs first end (k - first) d small ∙ ap (λ i. get_or xs i d) at) there

pub run-back : {X : Type 0} (P : X → Type 0) (f : X → ℕ) (xs : List X) (first end height b : ℕ)
    → ((k : ℕ) (d : X) → first ≤ k → k < length xs → b * height ≤ f (get_or xs k d)) → end ≤ length xs
    → ((k : ℕ) (d : X) → k < end → f (get_or xs k d) < (b + 1) * height)
    → All (λ x. f x / height ≡ b → P x) xs → All P (take (end - first) (drop first xs))
run-back P f xs first end height b from le before all k d lt =
    let small : k < end - first = (let l = range-length xs first end le in omega (arith, l, lt)) in
    let there : first + k < length xs = omega (arith, small, le) in
    let e = of_run (f (get_or xs (first + k) d)) height b (from (first + k) d (omega arith) there) (before (first + k) d (omega (arith, small))) in
    subst P (sym (range-item xs first end k d small)) (all (first + k) d there e)

-- ---- the next of numbers that are to rise from a least one

pub rise_on : (least n : ℕ) (ns rest : List ℕ) (whole : Bool) → ns ≡ n ∷ rest → least ≤ n → rises_from least ns ≡ whole → rises_from (n + 1) rest ≡ whole
rise_on least n ns rest whole cut le h = sym (ap (λ b. b && rises_from (n + 1) rest) (le-leb least n le)) ∙ sym (ap (rises_from least) cut) ∙ h
