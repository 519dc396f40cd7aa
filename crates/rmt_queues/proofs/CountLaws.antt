-- Sums that are counted in two ways.
use Rattle.std.proofs.Common.{◌≡◌, ℕ, zero, suc, ◌+◌, ◌*◌, ◌<◌, ◌≤◌, List, [], ◌∷◌, Bool, cond, true, false, ◌&&◌, ◌||◌, eqb, length, get_or, refl, ap, sym, ◌∙◌, subst, ⊎_elim, arith}
use Rattle.std.specs.Prelude.{nat_eq, nat_lt, not, count_by, sum_by, All, filter}
use Rattle.std.specs.List.{list_any, range_with_len, IsDistinct}
use Rattle.std.proofs.lemmas.Bool.{cases_eq, eq-eqb, ne_eqb, eqb-true, eqb-false}
use Rattle.std.proofs.lemmas.List.Folds.{list_any_none}
use Rattle.std.proofs.lemmas.Bool.Decides.{nat_tests}
use Rattle.std.proofs.lemmas.List.Elements.{All-head, All-tail, All-weaker, All-from_recursion}
use Rattle.std.proofs.lemmas.List.Sums.{sum_by-cons, sum_by_push, length-filter, count_by-le-length, sum_by-le-sum_by, sum_by-le}
use Rattle.rmt_bits.proofs.ListLaws.{range_more}
use Rattle.rmt_queues.proofs.AlikeLaws.{sum_by_plus, sum_by_none}
use Rattle.rmt_queues.specs.Lists.{copies_of}

-- ---- how many items stand

abbrev below : List (List ℕ) → ℕ → ℕ
below queues most = sum_by (λ queue. count_by (λ x. nat_lt x most) queue) queues

below_more : (queues : List (List ℕ)) (most : ℕ) → below queues (most + 1) ≡ below queues most + copies_of queues most
below_more queues most =
    sum_by_plus (λ queue. count_by (λ x. nat_lt x (most + 1)) queue) (λ queue. count_by (λ x. nat_lt x most) queue) (λ queue. count_by (λ x. eqb x most) queue)
    (λ queue. sum_by_plus (λ x. cond (nat_lt x (most + 1)) 1 0) (λ x. cond (nat_lt x most) 1 0) (λ x. cond (eqb x most) 1 0) (λ x. grind (arith, nat_tests)) queue)
    queues

at_most : (n : ℕ) → cond (nat_lt 0 n) 1 0 ≤ n
at_most n = grind (arith, nat_tests)

counted : (queues : List (List ℕ)) (most : ℕ) → count_by (λ number. nat_lt 0 (copies_of queues number)) (range_with_len 0 most) ≤ below queues most
counted queues zero = omega arith
counted queues (suc most) =
    let next : suc most ≡ most + 1 = omega arith in
    let sum = ap (λ (n : ℕ). count_by (λ number. nat_lt 0 (copies_of queues number)) (range_with_len 0 n)) next
    ∙ ap (count_by (λ number. nat_lt 0 (copies_of queues number))) (range_more 0 most)
    ∙ sum_by_push (λ number. cond (nat_lt 0 (copies_of queues number)) 1 0) (range_with_len 0 most) (0 + most) in
    let same : 0 + most ≡ most = omega arith in
    let last = ap {B = ℕ} (λ (n : ℕ). cond (nat_lt 0 (copies_of queues n)) 1 0) same in
    let rest = counted queues most in
    let least = at_most (copies_of queues most) in
    let more = ap (below queues) next ∙ below_more queues most in
    omega (arith, sum, last, rest, least, more)

-- no more items stand than copies do
pub standing_few : (queues : List (List ℕ)) (most : ℕ) → length (filter (λ number. nat_lt 0 (copies_of queues number)) (range_with_len 0 most)) ≤ sum_by (λ (queue : List ℕ). length queue) queues
standing_few queues most =
    let size = length-filter (λ number. nat_lt 0 (copies_of queues number)) (range_with_len 0 most) in
    let few = counted queues most in
    let all = sum_by-le-sum_by (λ (queue : List ℕ). count_by (λ x. nat_lt x most) queue) (λ (queue : List ℕ). length queue) queues (λ queue. count_by-le-length (λ x. nat_lt x most) queue) in
    omega (arith, size, few, all)

-- and fewer copies than places, where some queue has room
pub room_left : (queues : List (List ℕ)) (depth port : ℕ) → port < length queues → All (λ (queue : List ℕ). length queue ≤ depth) queues → length (get_or queues port []) < depth
    → sum_by (λ (queue : List ℕ). length queue) queues < length queues * depth
room_left [] depth port lt deep room = absurd (omega (arith, lt))
room_left (q ∷ qs) depth zero lt deep room =
    let rest = sum_by-le (λ (queue : List ℕ). length queue) depth qs (All-tail (λ (queue : List ℕ). length queue ≤ depth) q qs deep) in
    let sum = sum_by-cons (λ (queue : List ℕ). length queue) q qs in
    omega (arith, rest, sum, room)
room_left (q ∷ qs) depth (suc port) lt deep room =
    let rest = room_left qs depth port (omega (arith, lt)) (All-tail (λ (queue : List ℕ). length queue ≤ depth) q qs deep) room in
    let here = All-head (λ (queue : List ℕ). length queue ≤ depth) q qs deep in
    let sum = sum_by-cons (λ (queue : List ℕ). length queue) q qs in
    omega (arith, rest, sum, here)

-- ---- how many ports have room

module _ (room : ℕ → Bool) where
  abbrev one : ℕ → ℕ → ℕ
  one x port = cond (eqb x port && room port) 1 0

  abbrev among : List ℕ → ℕ → ℕ
  among ports port = cond (list_any (λ p. eqb p port) ports && room port) 1 0

  one_before : (x a n : ℕ) → x < a → sum_by (one x) (range_with_len a n) ≡ 0
  one_before x a zero lt = refl
  one_before x a (suc n) lt =
      let other : one x a ≡ 0 = ap (λ (b : Bool). cond (b && room a) 1 0) (ne_eqb x a (λ same. omega arith)) in
      let rest = one_before x (a + 1) n (omega arith) in
      omega (arith, sum_by-cons (one x) a (range_with_len (a + 1) n), other, rest)

  one_within : (x a n : ℕ) → a ≤ x → x < a + n → sum_by (one x) (range_with_len a n) ≡ cond (room x) 1 0
  one_within x a zero le lt = absurd (omega arith)
  one_within x a (suc n) le lt =
      let sum = sum_by-cons (one x) a (range_with_len (a + 1) n) in
      ⊎_elim
      (λ (same : x ≡ a).
      let here : one x a ≡ cond (room x) 1 0 =
      ap (λ (b : Bool). cond (b && room a) 1 0) (eq-eqb x a same) ∙ ap (λ (p : ℕ). cond (room p) 1 0) (sym same) in
      let rest = one_before x (a + 1) n (omega arith) in
      omega (arith, sum, here, rest))
      (λ (other : x ≡ a → ⊥).
      let here : one x a ≡ 0 = ap (λ (b : Bool). cond (b && room a) 1 0) (ne_eqb x a other) in
      let later : a + 1 ≤ x = omega (arith, other) in
      let rest = one_within x (a + 1) n later (omega arith) in
      omega (arith, sum, here, rest))
      (cases_eq x a)

  split : (e a r : Bool) → (e ≡ true → a ≡ false) → cond ((e || a) && r) 1 0 ≡ cond (e && r) 1 0 + cond (a && r) 1 0
  split true a true apart = let no = apart refl in ap (λ (b : Bool). 1 + cond (b && true) 1 0) (sym no)
  split true a false apart = let no = apart refl in ap (λ (b : Bool). 0 + cond (b && false) 1 0) (sym no)
  split false a r apart = omega arith

  flipped : (x : ℕ) (xs : List ℕ) → All (λ y. eqb x y ≡ false) xs → list_any (λ p. eqb p x) xs ≡ false
  flipped x xs apart =
      list_any_none (λ p. eqb p x) xs (All-weaker (λ y. eqb x y ≡ false) (λ y. eqb y x ≡ false) (λ y other. ne_eqb y x (λ same. eqb-false x y other (sym same))) xs apart)

  among_cons : (x : ℕ) (xs : List ℕ) → All (λ y. eqb x y ≡ false) xs → (port : ℕ) → among (x ∷ xs) port ≡ one x port + among xs port
  among_cons x xs once port =
      split (eqb x port) (list_any (λ p. eqb p port) xs) (room port)
      (λ same. subst (λ (q : ℕ). list_any (λ p. eqb p q) xs ≡ false) (eqb-true x port same) (flipped x xs once))

  -- each of some ports is counted once, over all ports
  pub ports_counted : (ports : List ℕ) (n : ℕ) → IsDistinct nat_eq ports → All (λ port. port < n) ports → sum_by (among ports) (range_with_len 0 n) ≡ count_by room ports
  unfolding IsDistinct
  ports_counted [] n once within = sum_by_none (among []) (range_with_len 0 n) (λ k d lt. refl)
  ports_counted (x ∷ xs) n once within =
      let sum = sum_by_plus (among (x ∷ xs)) (one x) (among xs) (among_cons x xs (All-from_recursion (λ y. eqb x y ≡ false) xs once.0)) (range_with_len 0 n) in
      let here = one_within x 0 n (omega arith) (omega (arith, All-head (λ port. port < n) x xs within)) in
      let rest = ports_counted xs n once.1 (All-tail (λ port. port < n) x xs within) in
      omega (arith, sum, here, rest, sum_by-cons (λ p. cond (room p) 1 0) x xs)

-- ---- how many items of a list pass a test

count_head : (b r : Bool) (m n : ℕ) → r ≡ nat_lt 0 m → n ≡ cond b 1 0 + m → (b || r) ≡ nat_lt 0 n
count_head true r m n is sum = grind (arith, nat_tests)
count_head false r m n is sum = is ∙ ap (nat_lt 0) (let same : m ≡ n = omega (arith, sum) in same)

pub any_counted : {X : Type 0} (p : X → Bool) (xs : List X) → list_any p xs ≡ nat_lt 0 (count_by p xs)
any_counted p [] = refl
any_counted p (x ∷ xs) = count_head (p x) (list_any p xs) (count_by p xs) (count_by p (x ∷ xs)) (any_counted p xs) (sum_by-cons (λ y. cond (p y) 1 0) x xs)

either : (b : Bool) → cond b 1 0 + cond (not b) 1 0 ≡ 1
either true = refl
either false = refl

pub others_counted : {X : Type 0} (p : X → Bool) (xs : List X) → count_by p xs + count_by (λ x. not (p x)) xs ≡ length xs
others_counted p [] = refl
others_counted p (x ∷ xs) =
    let here = either (p x) in
    let rest = others_counted p xs in
    omega (arith, here, rest, sum_by-cons (λ y. cond (p y) 1 0) x xs, sum_by-cons (λ y. cond (not (p y)) 1 0) x xs)
