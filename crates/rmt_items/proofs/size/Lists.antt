-- How long lists are that are made of others: of bytes for each item, and of numbers that rise.
use Rattle.std.proofs.Common.{◌≡◌, ℕ, ◌+◌, ◌*◌, ◌-◌, ◌<◌, ◌≤◌, true, leb, List, [], ◌∷◌, length, get_or, map, length-append, mul-le-mul_right, arith}
use Rattle.std.specs.Prelude.{All}
use Rattle.std.specs.List.{flat_map}
use Rattle.std.proofs.lemmas.Bool.{and_parts, leb-true}
use Rattle.std.proofs.lemmas.List.{length-map}
use Rattle.std.proofs.lemmas.List.Concat.{length-flat_map}
use Rattle.std.proofs.lemmas.List.Elements.{All-head, All-map, All-tail}
use Rattle.std.proofs.lemmas.List.Sums.{get_or-le-sum_by, sum_by-le}
use Rattle.rmt_config.specs.Order.{rises_from}

-- ---- what is made of each item

-- items of at most so many bytes
pub flat_map_short : {X : Type 0} (f : X → List ℕ) (most n : ℕ) (xs : List X) → length xs ≤ n → All (λ x. length (f x) ≤ most) xs
    → length (flat_map f xs) ≤ n * most
flat_map_short f most n xs few each =
    let total = sum_by-le (λ x. length (f x)) most xs each in
    let whole = length-flat_map f xs in
    let more : length xs * most ≤ n * most = mul-le-mul_right most few in
    omega (arith, total, whole, more)

-- items of at most so many bytes, and 8 more for each item of a second list
pub flat_map_by : {X : Type 0} (f g : X → List ℕ) (most : ℕ) (xs : List X) → All (λ x. length (f x) ≤ most + 8 * length (g x)) xs
    → length (flat_map f xs) ≤ length xs * most + 8 * length (flat_map g xs)
flat_map_by f g most [] each = omega arith
flat_map_by f g most (x ∷ xs) each =
    let here = All-head (λ y. length (f y) ≤ most + 8 * length (g y)) x xs each in
    let rest = flat_map_by f g most xs (All-tail (λ y. length (f y) ≤ most + 8 * length (g y)) x xs each) in
    let own = length-append (f x) (flat_map f xs) in
    let second = length-append (g x) (flat_map g xs) in
    let one_more : length (x ∷ xs) * most ≡ most + length xs * most = omega arith in
    omega (arith, here, rest, own, second, one_more)

-- each part of a list is at most as long as all
pub each_within : {X : Type 0} (f : X → List ℕ) (xs : List X) → All (λ x. length (f x) ≤ length (flat_map f xs)) xs
each_within f xs k d lt = let le = get_or-le-sum_by (λ x. length (f x)) xs k d lt in omega (arith, le, length-flat_map f xs)

-- ---- numbers that rise

-- numbers that rise below some number
pub rising_few : (least top : ℕ) (ns : List ℕ) → rises_from least ns ≡ true → All (λ n. n < top) ns → length ns ≤ top - least
rising_few least top [] rises below = omega arith
rising_few least top (n ∷ ns) rises below =
    let parts = and_parts (leb least n) (rises_from (n + 1) ns) rises in
    let low : least ≤ n = leb-true least n parts.0 in
    let high = All-head (λ m. m < top) n ns below in
    let rest = rising_few (n + 1) top ns parts.1 (All-tail (λ m. m < top) n ns below) in
    omega (arith, low, high, rest)

-- so do rows that rise by a number of theirs
pub rows_few : {A : Type 0} (number : A → ℕ) (top : ℕ) (rows : List A) → rises_from 0 (map number rows) ≡ true → ((k : ℕ) (d : A) → k < length rows → number (get_or rows k d) < top) → length rows ≤ top
rows_few number top rows rises below = omega (arith, rising_few 0 top (map number rows) rises (All-map (λ n. n < top) number rows below), length-map rows number)
