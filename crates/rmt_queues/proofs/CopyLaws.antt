-- Queues to which ports' copies are added, one port after the other.
use Rattle.std.proofs.Common.{◌≡◌, ℕ, ◌+◌, ◌<◌, ◌≤◌, List, [], ◌∷◌, ◌++◌, Bool, cond, true, false, ◌&&◌, ◌||◌, eqb, map, length, take, get_or, refl, ap, sym, ◌∙◌, arith}
use Rattle.std.specs.Prelude.{nat_eq, nat_lt, count_by}
use Rattle.std.specs.List.{list_any, IsDistinct}
use Rattle.std.proofs.lemmas.Bool.{eq-eqb, ne_eqb, or_right}
use Rattle.std.proofs.lemmas.Bool.Decides.{nat_tests}
use Rattle.std.proofs.lemmas.List.{get_or-take, get_or_default, length-map, length-take-le, length_push, map_push}
use Rattle.std.proofs.lemmas.List.Folds.{list_any_more, list_any_none}
use Rattle.std.proofs.lemmas.List.Sums.{sum_by_push}
use Rattle.std.proofs.lemmas.Map.Keys.{apart_from_distinct}
use Rattle.rmt_queues.specs.Copies.{with_copy}

or_no : (a b : Bool) → b ≡ false → (a || b) ≡ a
or_no true b is = refl
or_no false b is = is

-- a port does not stand among those before it
pub not_before : (ports : List ℕ) (i : ℕ) → IsDistinct nat_eq ports → i < length ports → list_any (λ p. eqb p (get_or ports i 0)) (take i ports) ≡ false
not_before ports i once lt =
    let size : length (take i ports) ≡ i = length-take-le i ports (omega arith) in
    list_any_none (λ p. eqb p (get_or ports i 0)) (take i ports)
    (λ k d below.
    let before : k < i = omega (arith, size, below) in
    let same : get_or (take i ports) k d ≡ get_or ports k 0 = get_or-take i ports k d before ∙ get_or_default ports k d 0 (omega arith) in
    ap (λ (p : ℕ). eqb p (get_or ports i 0)) same ∙ apart_from_distinct nat_eq ports k i 0 once before lt)

pub among_more : (ports : List ℕ) (i : ℕ) → i < length ports → list_any (λ p. eqb p (get_or ports i 0)) (take (i + 1) ports) ≡ true
among_more ports i lt = list_any_more (λ p. eqb p (get_or ports i 0)) ports i 0 lt ∙ or_right (list_any (λ p. eqb p (get_or ports i 0)) (take i ports)) _ (eq-eqb (get_or ports i 0) (get_or ports i 0) refl)

pub among_other : (ports : List ℕ) (i port : ℕ) → i < length ports → (get_or ports i 0 ≡ port → ⊥) → list_any (λ p. eqb p port) (take (i + 1) ports) ≡ list_any (λ p. eqb p port) (take i ports)
among_other ports i port lt other = list_any_more (λ p. eqb p port) ports i 0 lt ∙ or_no (list_any (λ p. eqb p port) (take i ports)) _ (ne_eqb (get_or ports i 0) port other)

module _ (depth : ℕ) (ports : List ℕ) (number port : ℕ) (queue : List ℕ) where
  -- a port that is not offered to
  pub with_copy_none : list_any (λ p. eqb p port) ports ≡ false → with_copy depth ports number port queue ≡ queue
  with_copy_none none = ap (λ (b : Bool). cond (b && nat_lt (length queue) depth) (queue ++ number ∷ []) queue) none

  -- a port that is
  pub with_copy_here : list_any (λ p. eqb p port) ports ≡ true → with_copy depth ports number port queue ≡ cond (nat_lt (length queue) depth) (queue ++ number ∷ []) queue
  with_copy_here here = ap (λ (b : Bool). cond (b && nat_lt (length queue) depth) (queue ++ number ∷ []) queue) here

-- the same ports
pub with_copy_alike : (depth : ℕ) (some other : List ℕ) (number port : ℕ) (queue : List ℕ) → list_any (λ p. eqb p port) some ≡ list_any (λ p. eqb p port) other
    → with_copy depth some number port queue ≡ with_copy depth other number port queue
with_copy_alike depth some other number port queue same = ap (λ (b : Bool). cond (b && nat_lt (length queue) depth) (queue ++ number ∷ []) queue) same

apply_cond : {X Y : Type 0} (f : X → Y) (b : Bool) (x y : X) → f (cond b x y) ≡ cond b (f x) (f y)
apply_cond f true x y = refl
apply_cond f false x y = refl

-- numbers that are exchanged
pub with_copy_map : (f : ℕ → ℕ) (depth : ℕ) (ports : List ℕ) (number port : ℕ) (queue : List ℕ)
    → map f (with_copy depth ports number port queue) ≡ with_copy depth ports (f number) port (map f queue)
with_copy_map f depth ports number port queue =
    let among = list_any (λ p. eqb p port) ports in
    let b : Bool = among && nat_lt (length queue) depth in
    apply_cond (map f) b (queue ++ number ∷ []) queue
    ∙ ap (λ (xs : List ℕ). cond b xs (map f queue)) (map_push f queue number)
    ∙ ap (λ (n : ℕ). cond (among && nat_lt n depth) (map f queue ++ f number ∷ []) (map f queue)) (sym (length-map queue f))

count_cond : (p : ℕ → Bool) (b : Bool) (queue : List ℕ) (number : ℕ) → count_by p (cond b (queue ++ number ∷ []) queue) ≡ count_by p queue + cond b (cond (p number) 1 0) 0
count_cond p true queue number = sum_by_push (λ x. cond (p x) 1 0) queue number
count_cond p false queue number = omega arith

-- what is counted in the queue
pub with_copy_count : (p : ℕ → Bool) (depth : ℕ) (ports : List ℕ) (number port : ℕ) (queue : List ℕ)
    → count_by p (with_copy depth ports number port queue) ≡ count_by p queue + cond (list_any (λ x. eqb x port) ports && nat_lt (length queue) depth) (cond (p number) 1 0) 0
with_copy_count p depth ports number port queue = count_cond p (list_any (λ x. eqb x port) ports && nat_lt (length queue) depth) queue number

length_cond : (b : Bool) (queue : List ℕ) (number : ℕ) → length (cond b (queue ++ number ∷ []) queue) ≡ length queue + cond b 1 0
length_cond true queue number = simp (length_push) refl
length_cond false queue number = omega arith

still_deep : (a : Bool) (m depth : ℕ) → m ≤ depth → m + cond (a && nat_lt m depth) 1 0 ≤ depth
still_deep true m depth deep = grind (arith, nat_tests)
still_deep false m depth deep = omega arith

-- a queue of at most a depth stays so
pub with_copy_deep : (depth : ℕ) (ports : List ℕ) (number port : ℕ) (queue : List ℕ) → length queue ≤ depth → length (with_copy depth ports number port queue) ≤ depth
with_copy_deep depth ports number port queue deep =
    let size = length_cond (list_any (λ p. eqb p port) ports && nat_lt (length queue) depth) queue number in
    let enough = still_deep (list_any (λ p. eqb p port) ports) (length queue) depth deep in
    omega (arith, size, enough)
