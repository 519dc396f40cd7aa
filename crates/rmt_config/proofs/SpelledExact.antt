-- An exact table is named as its parts are filled, by its keys.
use Rattle.std.proofs.Common.{◌≡◌, ℕ, ◌+◌, ◌*◌, ◌%◌, ◌^◌, ◌<◌, ◌≤◌, List, [], ◌∷◌, map, Bool, true, false, not, ◌&&◌, ◌||◌, eqb, refl, sym, ap, ◌∙◌, arith}
use Rattle.std.specs.Prelude.{All, sum}
use Rattle.std.specs.List.{list_all}
use Rattle.std.specs.Str.{bytes_eq}
use Rattle.std.proofs.lemmas.Bool.{and_parts, eqb-true, eq-eqb}
use Rattle.std.proofs.lemmas.List.Elements.{All-head, All-tail}
use Rattle.std.proofs.lemmas.List.Sums.{sum_by-cons}
use Rattle.std.proofs.lemmas.Nat.{mod-pow-add}
use Rattle.std.proofs.lemmas.Slice.Eq.{bytes_eq-Decides}
use Rattle.rmt_bits.specs.Bits.{slice, bytes_of, number_of}
use Rattle.rmt_bits.proofs.ByteLaws.{number_of-bytes_of}
use Rattle.rmt_ast.specs.declared.program.Test.{Test}
use Rattle.rmt_ast.specs.Changes.{are_same}
use Rattle.rmt_config.specs.NamesForm.{each_later, tests_of_key}
use Rattle.rmt_config.specs.KeysSeen.{news, was_seen}
use Rattle.std.proofs.Math.Nat.{mod-eq_of_lt, pow-le-pow_right}
use Rattle.rmt_bits.proofs.OptionLaws.{same_Bool}
use Rattle.rmt_bits.proofs.FunctionLaws.{bytes_eq-same}

-- ---- new keys differ from all later ones

pub differ-all : {A : Type 0} (p q : A → Bool) (xs : List A) → list_all (λ x. not (p x || q x)) xs ≡ (list_all (λ x. not (p x)) xs && list_all (λ x. not (q x)) xs)
differ-all p q [] = refl
differ-all p q (x ∷ xs) = ap (λ b. not (p x || q x) && b) (differ-all p q xs) ∙ by (p x) (q x) (list_all (λ x. not (p x)) xs) (list_all (λ x. not (q x)) xs)
  where
    by : (a b c d : Bool) → (not (a || b) && (c && d)) ≡ ((not a && c) && (not b && d))
    by true b c d = refl
    by false false true d = refl
    by false false false d = refl
    by false true true d = refl
    by false true false d = refl

pub turn : (a b c d : Bool) → (a && ((b && c) && d)) ≡ ((a && c) && (b && d))
turn false b c d = refl
turn true true c d = refl
turn true false true d = refl
turn true false false d = refl

differs : ℕ → ℕ → ℕ → Bool
differs size a b = not (bytes_eq (bytes_of size a) (bytes_of size b))

news-later : (size : ℕ) (before ks : List ℕ) → news size before ks ≡ (list_all (λ k. not (was_seen size k before)) ks && each_later (differs size) ks)
unfolding differs
news-later size before [] = refl
news-later size before (k ∷ ks) =
    ap (λ b. not (was_seen size k before) && b)
    (news-later size (k ∷ before) ks
    ∙ ap (λ b. b && each_later (differs size) ks) (differ-all (λ x. bytes_eq (bytes_of size k) (bytes_of size x)) (λ x. was_seen size x before) ks))
    ∙ turn (not (was_seen size k before)) (list_all (differs size k) ks) (list_all (λ x. not (was_seen size x before)) ks) (each_later (differs size) ks)

none-seen : (size : ℕ) (ks : List ℕ) → list_all (λ k. not (was_seen size k [])) ks ≡ true
none-seen size [] = refl
none-seen size (k ∷ ks) = none-seen size ks

-- ---- keys are the same where their tests are

later-same : {A : Type 0} (P : A → Type 0) (R S : A → A → Bool) → ((a b : A) → P a → P b → R a b ≡ S a b) → (xs : List A) → All P xs → each_later R xs ≡ each_later S xs
later-same P R S h [] all = refl
later-same P R S h (x ∷ xs) all =
    let rest = All-tail P x xs all in
    ap (λ b. b && each_later R xs) (each P (R x) (S x) (λ y py. h x y (All-head P x xs all) py) xs rest) ∙ ap (λ b. list_all (S x) xs && b) (later-same P R S h xs rest)
  where
    each : {A : Type 0} (P : A → Type 0) (f g : A → Bool) → ((y : A) → P y → f y ≡ g y) → (ys : List A) → All P ys → list_all f ys ≡ list_all g ys
    each P f g h [] all = refl
    each P f g h (y ∷ ys) all = ap (λ b. b && list_all f ys) (h y (All-head P y ys all)) ∙ ap (λ b. g y && b) (each P f g h ys (All-tail P y ys all))

bytes-tell : (size a b : ℕ) → a < 2 ^ (8 * size) → b < 2 ^ (8 * size) → bytes_eq (bytes_of size a) (bytes_of size b) ≡ eqb a b
bytes-tell size a b la lb =
    same_Bool (bytes_eq (bytes_of size a) (bytes_of size b)) (eqb a b)
    (λ e. eq-eqb a b (sym (number_of-bytes_of size a la) ∙ ap number_of ((bytes_eq-Decides (bytes_of size a) (bytes_of size b)).0 e) ∙ number_of-bytes_of size b lb))
    (λ e. (bytes_eq-Decides (bytes_of size a) (bytes_of size b)).1 (ap (bytes_of size) (eqb-true a b e)))

abbrev value : Test → ℕ
value t = t.value

tests-tell : (ws : List ℕ) (a b m : ℕ) → bytes_eq (map value (tests_of_key ws a m)) (map value (tests_of_key ws b m)) ≡ true → a % 2 ^ sum ws ≡ b % 2 ^ sum ws
tests-tell [] a b m e = low a ∙ sym (low b)
  where
    low : (x : ℕ) → x % 2 ^ sum [] ≡ 0
    low x = omega arith
tests-tell (w ∷ ws) a b m e =
    let parts = and_parts (eqb (slice a (sum ws) w) (slice b (sum ws) w)) (bytes_eq (map value (tests_of_key ws a m)) (map value (tests_of_key ws b m))) e in
    let size : sum (w ∷ ws) ≡ w + sum ws = sum_by-cons (λ x. x) w ws in
    ap (λ n. a % 2 ^ n) size ∙ mod-pow-add a w (sum ws)
    ∙ ap (λ n. n * 2 ^ sum ws + a % 2 ^ sum ws) (eqb-true (slice a (sum ws) w) (slice b (sum ws) w) parts.0)
    ∙ ap (λ n. slice b (sum ws) w * 2 ^ sum ws + n) (tests-tell ws a b m parts.1)
    ∙ sym (ap (λ n. b % 2 ^ n) size ∙ mod-pow-add b w (sum ws))

pub keys-tell : (ws : List ℕ) (a b m : ℕ) → a < 2 ^ sum ws → b < 2 ^ sum ws → are_same (tests_of_key ws a m) (tests_of_key ws b m) ≡ eqb a b
keys-tell ws a b m la lb =
    same_Bool (are_same (tests_of_key ws a m) (tests_of_key ws b m)) (eqb a b)
    (λ e. eq-eqb a b (sym (mod-eq_of_lt la) ∙ tests-tell ws a b m (and_parts _ _ e).0 ∙ mod-eq_of_lt lb))
    (λ e. ap (λ x. are_same (tests_of_key ws x m) (tests_of_key ws b m)) (eqb-true a b e)
    ∙ ap (λ x. x && bytes_eq (map (λ (t : Test). t.mask) (tests_of_key ws b m)) (map (λ (t : Test). t.mask) (tests_of_key ws b m))) (bytes_eq-same (map value (tests_of_key ws b m)))
    ∙ bytes_eq-same (map (λ (t : Test). t.mask) (tests_of_key ws b m)))

-- the keys of a list are new one after another exactly where the tests of each differ from all later ones
pub news-differ : (size : ℕ) (ws : List ℕ) (m : ℕ) (ks : List ℕ) → sum ws ≤ 8 * size → All (λ k. k < 2 ^ sum ws) ks
    → news size [] ks ≡ each_later (λ a b. not (are_same (tests_of_key ws a m) (tests_of_key ws b m))) ks
unfolding differs
news-differ size ws m ks le all =
    news-later size [] ks ∙ ap (λ b. b && each_later (differs size) ks) (none-seen size ks)
    ∙ later-same (λ k. k < 2 ^ sum ws) (differs size) (λ a b. not (are_same (tests_of_key ws a m) (tests_of_key ws b m)))
    (λ a b la lb. ap not (bytes-tell size a b (wider a la) (wider b lb) ∙ sym (keys-tell ws a b m la lb))) ks all
  where
    wider : (a : ℕ) → a < 2 ^ sum ws → a < 2 ^ (8 * size)
    wider a lt = let big : 2 ^ sum ws ≤ 2 ^ (8 * size) = pow-le-pow_right (omega arith) le in omega (arith, lt, big)
