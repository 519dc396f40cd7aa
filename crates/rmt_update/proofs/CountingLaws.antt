-- How many items of a list pass a test that the first ones pass and the others don't.
use Rattle.std.proofs.Common.{◌≡◌, ℕ, zero, suc, ◌+◌, ◌<◌, ◌≤◌, Bool, true, false, cond, List, [], ◌∷◌, get_or, length, refl, ap, arith}
use Rattle.std.specs.Prelude.{count_by}
use Rattle.std.proofs.lemmas.List.Sums.{sum_by-cons}

none-pass : {X : Type 0} (p : X → Bool) (xs : List X) → ((k : ℕ) (d : X) → 0 ≤ k → k < length xs → p (get_or xs k d) ≡ false) → 0 ≡ count_by p xs
none-pass p [] none = refl
none-pass p (x ∷ xs) none =
    let head : p x ≡ false = none 0 x (omega arith) (omega arith) in
    let rest = none-pass p xs (λ k d low lt. none (suc k) d (omega arith) (omega (arith, lt))) in
    let step : count_by p (x ∷ xs) ≡ cond (p x) 1 0 + count_by p xs = sum_by-cons (λ y. cond (p y) 1 0) x xs in
    let zero_is : ◌≡◌ {A = ℕ} (cond (p x) 1 0) 0 = ap (λ b. cond b 1 0) head in
    omega (arith, rest, step, zero_is)

pub count-at : {X : Type 0} (p : X → Bool) (xs : List X) (n : ℕ) → n ≤ length xs → ((k : ℕ) (d : X) → k < length xs → k < n → p (get_or xs k d) ≡ true)
    → ((k : ℕ) (d : X) → n ≤ k → k < length xs → p (get_or xs k d) ≡ false) → n ≡ count_by p xs
count-at p [] n few pass fail = omega (arith, few)
count-at p (x ∷ xs) zero few pass fail = none-pass p (x ∷ xs) (λ k d low lt. fail k d low lt)
count-at p (x ∷ xs) (suc n) few pass fail =
    let head : p x ≡ true = pass 0 x (omega arith) (omega arith) in
    let rest = count-at p xs n (omega (arith, few)) (λ k d lt low. pass (suc k) d (omega (arith, lt)) (omega (arith, low))) (λ k d low lt. fail (suc k) d (omega (arith, low)) (omega (arith, lt))) in
    let step : count_by p (x ∷ xs) ≡ cond (p x) 1 0 + count_by p xs = sum_by-cons (λ y. cond (p y) 1 0) x xs in
    let one_is : ◌≡◌ {A = ℕ} (cond (p x) 1 0) 1 = ap (λ b. cond b 1 0) head in
    omega (arith, rest, step, one_is)
