-- Walks over linked cells: how they go on, and what a changed link leaves.
use Rattle.std.proofs.Common.{◌≡◌, ◌≢◌, ℕ, zero, suc, ◌+◌, ◌-◌, ◌<◌, ◌≤◌, List, [], ◌∷◌, ◌++◌, Bool, cond, eqb, length, get_or, set, refl, ap, sym, ◌∙◌, subst, ⊎_elim, arith}
use Rattle.std.proofs.lemmas.Bool.{cases_lt, eq-eqb}
use Rattle.std.proofs.lemmas.List.{get_or-set_other, get_or-set_same}
use Rattle.std.proofs.lemmas.List.Sums.{sum_by-append, sum_by-cons}
use Rattle.rmt_cells.specs.Links.{after, walk, times}
use Rattle.rmt_cells.specs.Pieces.{IsRun}

-- a walk goes on from where its first part ends
pub walk_plus : (links : List ℕ) (cell a b : ℕ) → walk links cell (a + b) ≡ walk links cell a ++ walk links (after links cell a) b
walk_plus links cell zero b = let none : 0 + b ≡ b = omega arith in ap (walk links cell) none
walk_plus links cell (suc a) b =
    let sum : suc a + b ≡ suc (a + b) = omega arith in
    ap (walk links cell) sum ∙ ap (λ (cells : List ℕ). cell ∷ cells) (walk_plus links (get_or links cell 0) a b)

-- one more step
pub after_more : (links : List ℕ) (cell n : ℕ) → after links cell (n + 1) ≡ get_or links (after links cell n) 0
after_more links cell zero = refl
after_more links cell (suc n) =
    let sum : suc n + 1 ≡ suc (n + 1) = omega arith in
    ap (after links cell) sum ∙ after_more links (get_or links cell 0) n

pub times_append : (cell : ℕ) (xs ys : List ℕ) → times cell (xs ++ ys) ≡ times cell xs + times cell ys
times_append cell xs ys = sum_by-append (λ x. cond (eqb x cell) 1 0) xs ys

pub times_cons : (cell x : ℕ) (xs : List ℕ) → times cell (x ∷ xs) ≡ cond (eqb x cell) 1 0 + times cell xs
times_cons cell x xs = sum_by-cons (λ x. cond (eqb x cell) 1 0) x xs

pub times_head : (cell : ℕ) (xs : List ℕ) → 1 ≤ times cell (cell ∷ xs)
times_head cell xs =
    let one : ◌≡◌ {A = ℕ} (cond (eqb cell cell) 1 0) 1 = ap (λ (b : Bool). cond b 1 0) (eq-eqb cell cell refl) in
    omega (arith, times_cons cell cell xs, one)

-- a cell that stands nowhere in a list is not its first, and stands nowhere in the rest
pub times_none : (cell x : ℕ) (xs : List ℕ) → times cell (x ∷ xs) ≡ 0 → (x ≢ cell) × (times cell xs ≡ 0)
times_none cell x xs none = (
  λ same. let here = subst (λ (y : ℕ). 1 ≤ times cell (y ∷ xs)) (sym same) (times_head cell xs) in absurd (omega (arith, here, none)),
  omega (arith, times_cons cell x xs, none),
)

-- how often a cell stands in the parts of a walk
pub times_plus : (cell : ℕ) (links : List ℕ) (first a b : ℕ) → times cell (walk links first (a + b)) ≡ times cell (walk links first a) + times cell (walk links (after links first a) b)
times_plus cell links first a b = ap (times cell) (walk_plus links first a b) ∙ times_append cell (walk links first a) (walk links (after links first a) b)

module _ (links : List ℕ) (first n i : ℕ) (lt : i < n) where
  -- the walk up to a cell, that cell, and the rest
  times_split : (cell : ℕ) → times cell (walk links first n) ≡ times cell (walk links first i) + times cell (walk links (after links first i) (suc (n - suc i)))
  times_split cell =
      let all : n ≡ i + suc (n - suc i) = omega arith in
      ap (λ (k : ℕ). times cell (walk links first k)) all ∙ times_plus cell links first i (suc (n - suc i))

  -- each cell that is reached stands in the walk
  pub reached : 1 ≤ times (after links first i) (walk links first n)
  reached =
      let x = after links first i in
      omega (arith, times_split x, times_head x (walk links (get_or links x 0) (n - suc i)))

  -- in a run it does not stand before
  pub not_before : (count : ℕ) → IsRun count links first n → times (after links first i) (walk links first i) ≡ 0
  not_before count run =
      let x = after links first i in
      omega (arith, times_split x, times_head x (walk links (get_or links x 0) (n - suc i)), run.once x)

  -- and it is one of the cells
  pub inside : (count : ℕ) → IsRun count links first n → after links first i < count
  inside count run =
      ⊎_elim (λ below. below) (λ past. let none = run.within (after links first i) past in absurd (omega (arith, none, reached))) (cases_lt (after links first i) count)

-- a link that is changed leaves the walks without its cell
pub walk_kept : (links : List ℕ) (cell link first n : ℕ) → times cell (walk links first n) ≡ 0 → walk (set links cell link) first n ≡ walk links first n
walk_kept links cell link first zero none = refl
walk_kept links cell link first (suc n) none =
    let parts = times_none cell first (walk links (get_or links first 0) n) none in
    ap (λ (cells : List ℕ). first ∷ cells)
    (ap (λ (next : ℕ). walk (set links cell link) next n) (get_or-set_other links cell first link 0 parts.0)
    ∙ walk_kept links cell link (get_or links first 0) n parts.1)

-- and where they lead
pub after_kept : (links : List ℕ) (cell link first n : ℕ) → times cell (walk links first n) ≡ 0 → after (set links cell link) first n ≡ after links first n
after_kept links cell link first zero none = refl
after_kept links cell link first (suc n) none =
    let parts = times_none cell first (walk links (get_or links first 0) n) none in
    ap (λ (next : ℕ). after (set links cell link) next n) (get_or-set_other links cell first link 0 parts.0)
    ∙ after_kept links cell link (get_or links first 0) n parts.1

-- a shorter walk has each cell at most as often
pub times_shorter : (cell : ℕ) (links : List ℕ) (first a n : ℕ) → a ≤ n → times cell (walk links first a) ≤ times cell (walk links first n)
times_shorter cell links first a n le =
    let all : n ≡ a + (n - a) = omega arith in
    let split = ap (λ (k : ℕ). times cell (walk links first k)) all ∙ times_plus cell links first a (n - a) in
    omega (arith, split)

-- Two runs that are joined: the last cell of the first is linked to the first cell of the second.
module _ (count : ℕ) (links : List ℕ) (first n head free : ℕ) (some : 0 < n) (size : length links ≡ count) (run : IsRun count links first n)
    (other : times (after links first (n - 1)) (walk links head free) ≡ 0) where
  abbrev last : ℕ
  last = after links first (n - 1)

  abbrev joined : List ℕ
  joined = set links last head

  before : times last (walk links first (n - 1)) ≡ 0
  before = not_before links first n (n - 1) (omega arith) count run

  whole : n ≡ (n - 1) + 1
  whole = omega arith

  first_part : walk joined first n ≡ walk links first n
  first_part =
      ap (walk joined first) whole ∙ walk_plus joined first (n - 1) 1
      ∙ ap (λ (cells : List ℕ). cells ++ after joined first (n - 1) ∷ []) (walk_kept links last head first (n - 1) before)
      ∙ ap (λ (cell : ℕ). walk links first (n - 1) ++ cell ∷ []) (after_kept links last head first (n - 1) before)
      ∙ sym (ap (walk links first) whole ∙ walk_plus links first (n - 1) 1)

  then_head : after joined first n ≡ head
  then_head =
      ap (after joined first) whole ∙ after_more joined first (n - 1)
      ∙ ap (λ (cell : ℕ). get_or joined cell 0) (after_kept links last head first (n - 1) before)
      ∙ get_or-set_same links last head 0 (let lt = inside links first n (n - 1) (omega arith) count run in omega (arith, lt, size))

  pub walk_joined : walk joined first (n + free) ≡ walk links first n ++ walk links head free
  walk_joined =
      walk_plus joined first n free
      ∙ ap (λ (cells : List ℕ). cells ++ walk joined (after joined first n) free) first_part
      ∙ ap (λ (cell : ℕ). walk links first n ++ walk joined cell free) then_head
      ∙ ap (λ (cells : List ℕ). walk links first n ++ cells) (walk_kept links last head head free other)
