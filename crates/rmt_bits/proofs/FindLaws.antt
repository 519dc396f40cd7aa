-- The first item, or the first number of a run, that passes a test.
use Rattle.std.proofs.Common.{◌≡◌, ◌⊎◌, ℕ, zero, suc, ◌+◌, ◌-◌, ◌<◌, List, [], ◌∷◌, Option, Some, Bool, true, false, cond, sym, subst, refl, ap, ◌∙◌, inl, inr, arith}
use Rattle.std.specs.Prelude.{All, Contains, option_map, unwrap_or}
use Rattle.std.specs.List.{find, range_with_len}
use Rattle.std.proofs.lemmas.Bool.{cases_Bool, false≢true}
use Rattle.std.proofs.lemmas.List.Elements.{All-head, All-tail}
use Rattle.rmt_bits.proofs.MemberLaws.{Contains-split}

pub find-here : (p : ℕ → Bool) (a end : ℕ) → a < end → p a ≡ true → find p (range_with_len a (end - a)) ≡ Some a
find-here p a end lt e = by (end - a) (omega (arith, lt))
  where
    by : (n : ℕ) → 0 < n → find p (range_with_len a n) ≡ Some a
    by zero some = absurd (omega (arith, some))
    by (suc n) some = ap (λ b. cond b (Some a) (find p (range_with_len (a + 1) n))) e

pub find-next : (p : ℕ → Bool) (a end : ℕ) → a < end → p a ≡ false → find p (range_with_len a (end - a)) ≡ find p (range_with_len (a + 1) (end - (a + 1)))
find-next p a end lt e = by (end - a) (end - (a + 1)) (omega (arith, lt))
  where
    by : (n m : ℕ) → n ≡ m + 1 → find p (range_with_len a n) ≡ find p (range_with_len (a + 1) m)
    by zero m h = absurd (omega (arith, h))
    by (suc n) m h =
        ap (λ b. cond b (Some a) (find p (range_with_len (a + 1) n))) e ∙ ap (λ k. find p (range_with_len (a + 1) k)) (omega (arith, h))

-- what the first item that passes a test gives, or 0 where none does, is below a bound of all
pub found-lt : {X : Type 0} (p : X → Bool) (val : X → ℕ) (m : ℕ) (xs : List X) → 0 < m → All (λ x. val x < m) xs → unwrap_or (option_map val (find p xs)) 0 < m
found-lt p val m [] some h = some
found-lt p val m (x ∷ xs) some h =
    elim (cases_Bool (p x)) as (λ _. unwrap_or (option_map val (find p (x ∷ xs))) 0 < m) [
      | inl here ↦ subst (λ (b : Bool). unwrap_or (option_map val (cond b (Some x) (find p xs))) 0 < m) (sym here) (All-head (λ x. val x < m) x xs h)
      | inr other ↦ subst (λ (b : Bool). unwrap_or (option_map val (cond b (Some x) (find p xs))) 0 < m) (sym other)
          (found-lt p val m xs some (All-tail (λ x. val x < m) x xs h))
    ]

-- tests that agree on all items find the same
pub find-alike : {X : Type 0} (p q : X → Bool) (xs : List X) → All (λ x. p x ≡ q x) xs → find p xs ≡ find q xs
find-alike p q [] h = refl
find-alike {X} p q (x ∷ xs) h =
    ap (λ (b : Bool). cond b (Some x) (find p xs)) (All-head (λ y. p y ≡ q y) x xs h) ∙ ap (λ (o : Option X). cond (q x) (Some x) o) (find-alike p q xs (All-tail (λ y. p y ≡ q y) x xs h))

-- where an item passes, one is found
pub find-some : {X : Type 0} (test : X → Bool) (xs : List X) (x : X) → Contains xs x → test x ≡ true → (z : X) × (find test xs ≡ Some z)
find-some test [] x there pass = absurd (let lt = there.1 in omega (arith, lt))
find-some {X} test (z ∷ zs) x there pass = by (test z) refl (Contains-split z zs x there) (λ later. find-some test zs x later pass)
  where
    by : (b : Bool) → test z ≡ b → (z ≡ x) ⊎ Contains zs x → (Contains zs x → (y : X) × (find test zs ≡ Some y)) → (y : X) × (find test (z ∷ zs) ≡ Some y)
    by true e h rest = (z, ap (λ b. cond b (Some z) (find test zs)) e)
    by false e (inl same) rest = absurd (false≢true (sym e ∙ ap test same ∙ pass))
    by false e (inr later) rest = let r = rest later in (r.0, ap (λ b. cond b (Some z) (find test zs)) e ∙ r.1)
