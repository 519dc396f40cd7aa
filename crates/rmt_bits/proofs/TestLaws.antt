-- Tests joined by &&: each of them holds where all of them do; and what holds of either value that a test chooses.
use Rattle.std.proofs.Common.{◌≡◌, ℕ, ◌+◌, ◌==◌, Bool, true, false, cond, ◌&&◌, refl, arith, not, ◌||◌, ◌≤◌, ap, ◌∙◌}
use Rattle.std.specs.Prelude.{nat_lt}
use Rattle.std.proofs.lemmas.Bool.{and_parts, false≢true}
use Rattle.std.proofs.lemmas.Bool.Decides.{nat_tests}

pub split2 : {a1 a2 : Bool} → (a1 && a2) ≡ true → (a1 ≡ true) × (a2 ≡ true)
split2 {a1} {a2} e = and_parts a1 a2 e

pub split3 : {a1 a2 a3 : Bool} → (a1 && a2 && a3) ≡ true → (a1 ≡ true) × (a2 ≡ true) × (a3 ≡ true)
split3 {a1} {a2} {a3} e =
    let p = and_parts (a1 && a2) a3 e in
    let q = split2 p.0 in
    (q.0, q.1, p.1)

pub split4 : {a1 a2 a3 a4 : Bool} → (a1 && a2 && a3 && a4) ≡ true → (a1 ≡ true) × (a2 ≡ true) × (a3 ≡ true) × (a4 ≡ true)
split4 {a1} {a2} {a3} {a4} e =
    let p = and_parts (a1 && a2 && a3) a4 e in
    let q = split3 p.0 in
    (q.0, q.1, q.2, p.1)

pub split5 : {a1 a2 a3 a4 a5 : Bool} → (a1 && a2 && a3 && a4 && a5) ≡ true → (a1 ≡ true) × (a2 ≡ true) × (a3 ≡ true) × (a4 ≡ true) × (a5 ≡ true)
split5 {a1} {a2} {a3} {a4} {a5} e =
    let p = and_parts (a1 && a2 && a3 && a4) a5 e in
    let q = split4 p.0 in
    (q.0, q.1, q.2, q.3, p.1)

pub split6 : {a1 a2 a3 a4 a5 a6 : Bool} → (a1 && a2 && a3 && a4 && a5 && a6) ≡ true → (a1 ≡ true) × (a2 ≡ true) × (a3 ≡ true) × (a4 ≡ true) × (a5 ≡ true) × (a6 ≡ true)
split6 {a1} {a2} {a3} {a4} {a5} {a6} e =
    let p = and_parts (a1 && a2 && a3 && a4 && a5) a6 e in
    let q = split5 p.0 in
    (q.0, q.1, q.2, q.3, q.4, p.1)

pub split7 : {a1 a2 a3 a4 a5 a6 a7 : Bool} → (a1 && a2 && a3 && a4 && a5 && a6 && a7) ≡ true → (a1 ≡ true) × (a2 ≡ true) × (a3 ≡ true) × (a4 ≡ true) × (a5 ≡ true) × (a6 ≡ true) × (a7 ≡ true)
split7 {a1} {a2} {a3} {a4} {a5} {a6} {a7} e =
    let p = and_parts (a1 && a2 && a3 && a4 && a5 && a6) a7 e in
    let q = split6 p.0 in
    (q.0, q.1, q.2, q.3, q.4, q.5, p.1)

pub split8 : {a1 a2 a3 a4 a5 a6 a7 a8 : Bool} → (a1 && a2 && a3 && a4 && a5 && a6 && a7 && a8) ≡ true → (a1 ≡ true) × (a2 ≡ true) × (a3 ≡ true) × (a4 ≡ true) × (a5 ≡ true) × (a6 ≡ true) × (a7 ≡ true) × (a8 ≡ true)
split8 {a1} {a2} {a3} {a4} {a5} {a6} {a7} {a8} e =
    let p = and_parts (a1 && a2 && a3 && a4 && a5 && a6 && a7) a8 e in
    let q = split7 p.0 in
    (q.0, q.1, q.2, q.3, q.4, q.5, q.6, p.1)

pub split9 : {a1 a2 a3 a4 a5 a6 a7 a8 a9 : Bool} → (a1 && a2 && a3 && a4 && a5 && a6 && a7 && a8 && a9) ≡ true → (a1 ≡ true) × (a2 ≡ true) × (a3 ≡ true) × (a4 ≡ true) × (a5 ≡ true) × (a6 ≡ true) × (a7 ≡ true) × (a8 ≡ true) × (a9 ≡ true)
split9 {a1} {a2} {a3} {a4} {a5} {a6} {a7} {a8} {a9} e =
    let p = and_parts (a1 && a2 && a3 && a4 && a5 && a6 && a7 && a8) a9 e in
    let q = split8 p.0 in
    (q.0, q.1, q.2, q.3, q.4, q.5, q.6, q.7, p.1)

pub split10 : {a1 a2 a3 a4 a5 a6 a7 a8 a9 a10 : Bool} → (a1 && a2 && a3 && a4 && a5 && a6 && a7 && a8 && a9 && a10) ≡ true → (a1 ≡ true) × (a2 ≡ true) × (a3 ≡ true) × (a4 ≡ true) × (a5 ≡ true) × (a6 ≡ true) × (a7 ≡ true) × (a8 ≡ true) × (a9 ≡ true) × (a10 ≡ true)
split10 {a1} {a2} {a3} {a4} {a5} {a6} {a7} {a8} {a9} {a10} e =
    let p = and_parts (a1 && a2 && a3 && a4 && a5 && a6 && a7 && a8 && a9) a10 e in
    let q = split9 p.0 in
    (q.0, q.1, q.2, q.3, q.4, q.5, q.6, q.7, q.8, p.1)

pub split11 : {a1 a2 a3 a4 a5 a6 a7 a8 a9 a10 a11 : Bool} → (a1 && a2 && a3 && a4 && a5 && a6 && a7 && a8 && a9 && a10 && a11) ≡ true → (a1 ≡ true) × (a2 ≡ true) × (a3 ≡ true) × (a4 ≡ true) × (a5 ≡ true) × (a6 ≡ true) × (a7 ≡ true) × (a8 ≡ true) × (a9 ≡ true) × (a10 ≡ true) × (a11 ≡ true)
split11 {a1} {a2} {a3} {a4} {a5} {a6} {a7} {a8} {a9} {a10} {a11} e =
    let p = and_parts (a1 && a2 && a3 && a4 && a5 && a6 && a7 && a8 && a9 && a10) a11 e in
    let q = split10 p.0 in
    (q.0, q.1, q.2, q.3, q.4, q.5, q.6, q.7, q.8, q.9, p.1)

pub either : {A : Type 0} (P : A → Type 0) (b : Bool) (x y : A) → P x → P y → P (cond b x y)
either P true x y p q = p
either P false x y p q = q

-- a part below one number more is one below that number or at it
pub below_next : (a k x : ℕ) → cond (nat_lt a (k + 1)) x 0 ≡ cond (nat_lt a k) x 0 + cond (a == k) x 0
below_next a k x = grind (arith, nat_tests)

-- nothing, either way
pub nothing_either : (b : Bool) (q : ℕ) → q ≡ 0 → cond b q 0 ≡ 0
nothing_either true q none = none
nothing_either false q none = refl

pub and_false_right : (a b : Bool) → b ≡ false → (a && b) ≡ false
and_false_right true b h = h
and_false_right false b h = refl

-- what is so if a test is
pub then_so : (x y : Bool) → (not x || y) ≡ true → x ≡ true → y ≡ true
then_so true y h e = h
then_so false y h e = absurd (false≢true e)

-- a test counts one at most
pub at_most_one : (b : Bool) → cond b 1 0 ≤ 1
at_most_one true = omega arith
at_most_one false = omega arith

-- three tests that hold
pub all_three : (a b c : Bool) → a ≡ true → b ≡ true → c ≡ true → (a && b && c) ≡ true
all_three a b c is_a is_b is_c = ap (λ x. x && b && c) is_a ∙ ap (λ x. true && x && c) is_b ∙ ap (λ x. true && true && x) is_c
