-- Any two tries compare, so the best is the earliest that none is better than.
use Rattle.std.proofs.Common.{◌≡◌, ℕ, zero, suc, ◌<◌, ◌≤◌, ◌⊎◌, inl, inr, List, [], ◌∷◌, get_or, length, Bool, true, false, cond, ◌&&◌, ◌||◌, Ok, Err, Result, sym, refl, subst, ap, ◌∙◌, tests, arith}
use Rattle.std.specs.Prelude.{nat_lt, ◌==◌}
use Rattle.std.specs.Cmp.{IsStrictWeakOrder}
use Rattle.std.specs.List.{All, IsFirstBest, best_of}
use Rattle.std.proofs.lemmas.List.{get_or_default}
use Rattle.std.proofs.lemmas.Bool.{false≢true}
use Rattle.std.proofs.lemmas.List.Elements.{All-head, All-tail}
use Rattle.std.proofs.lemmas.List.MinMax.{IsFirstBest-from_best_of}
use Rattle.rmt_ast.specs.declared.deps.Edge.{Edge}
use Rattle.rmt_pack.specs.declared.placement.Part.{Part}
use Rattle.rmt_place.specs.Placing.{Stuck}
use Rattle.rmt_place.specs.Starting.{stages_in}
use Rattle.rmt_improve.specs.Tries.{Try, is_better, is_better_than, is_placed_better, last_start}

-- ---- the best of a list

-- what holds of all holds of the best
pub best-holds : {X : Type 0} (P : X → Type 0) (beats : X → X → Bool) (a : X) (xs : List X) → P a → All P xs → P (best_of beats a xs)
best-holds P beats a [] here all = here
best-holds P beats a (x ∷ xs) here all = best-holds P beats (cond (beats x a) x a) xs (either (beats x a)) (All-tail P x xs all)
  where
    either : (b : Bool) → P (cond b x a)
    either true = All-head P x xs all
    either false = here

-- ---- any two tries compare

-- one of two numbers is less, or they are equal and one of two further ones is
abbrev is_before : ℕ → ℕ → ℕ → ℕ → Bool
is_before a i b j = nat_lt a b || ((a == b) && nat_lt i j)

before_one_way : (a i b j : ℕ) → is_before a i b j ≡ true → is_before b j a i ≡ false
before_one_way a i b j is = grind (arith, tests)

before_chain : (a i b j c k : ℕ) → is_before a i b j ≡ false → is_before b j c k ≡ false → is_before a i c k ≡ false
before_chain a i b j c k first second = grind (arith, tests)

not_more : (a i b j : ℕ) → is_before a i b j ≡ false → b ≤ a
not_more a i b j is = grind (arith, tests)

one_way : (edges : List Edge) (a b : Result (List Part) Stuck) → is_better_than edges a b ≡ true → is_better_than edges b a ≡ false
one_way edges (Err stuck) b is = absurd (false≢true is)
one_way edges (Ok a) (Err stuck) is = refl
one_way edges (Ok a) (Ok b) is = before_one_way (stages_in a) (last_start edges a) (stages_in b) (last_start edges b) is

chain : (edges : List Edge) (a b c : Result (List Part) Stuck) → is_better_than edges a b ≡ false → is_better_than edges b c ≡ false → is_better_than edges a c ≡ false
chain edges (Err stuck) b c first second = refl
chain edges (Ok a) (Err stuck) c first second = absurd (false≢true (sym first))
chain edges (Ok a) (Ok b) (Err stuck) first second = absurd (false≢true (sym second))
chain edges (Ok a) (Ok b) (Ok c) first second =
    before_chain (stages_in a) (last_start edges a) (stages_in b) (last_start edges b) (stages_in c) (last_start edges c) first second

pub better_ranks : (edges : List Edge) → IsStrictWeakOrder (is_better edges)
better_ranks edges = record {
  one_way = λ a b is. one_way edges a.placed b.placed is;
  chain = λ a b c first second. chain edges a.placed b.placed c.placed first second;
}

-- ---- the best is the earliest that none is better than

pub best_is_earliest : (edges : List Edge) (first : Try) (later : List Try)
    → (k : ℕ) × IsFirstBest (is_better edges) (first ∷ later) (length (first ∷ later)) k × (get_or (first ∷ later) k first ≡ best_of (is_better edges) first later)
best_is_earliest edges first later = IsFirstBest-from_best_of (better_ranks edges) first later

abbrev IsStuckTry : Try → Type 0
IsStuckTry t = (stuck : Stuck) × (t.placed ≡ Err stuck)

-- it is stuck where all tries are
pub all_stuck : (edges : List Edge) (first : Try) (later : List Try) → All IsStuckTry (first ∷ later) → IsStuckTry (best_of (is_better edges) first later)
all_stuck edges first later all = best-holds IsStuckTry (is_better edges) first later (All-head IsStuckTry first later all) (All-tail IsStuckTry first later all)

-- and only there
pub only_all_stuck : (edges : List Edge) (first : Try) (later : List Try) → IsStuckTry (best_of (is_better edges) first later) → All IsStuckTry (first ∷ later)
only_all_stuck edges first later stuck k d lt =
    let best = best_is_earliest edges first later in
    let is : get_or (first ∷ later) best.0 d ≡ best_of (is_better edges) first later = get_or_default (first ∷ later) best.0 d first best.1.0 ∙ best.2 in
    let none : is_better edges (get_or (first ∷ later) k d) (best_of (is_better edges) first later) ≡ false =
    subst (λ (t : Try). is_better edges (get_or (first ∷ later) k d) t ≡ false) is (best.1.1 k d lt) in
    by (get_or (first ∷ later) k d).placed refl
    (ap (λ (r : Result (List Part) Stuck). is_better_than edges (get_or (first ∷ later) k d).placed r) (sym stuck.1) ∙ none)
  where
    by : (r : Result (List Part) Stuck) → (get_or (first ∷ later) k d).placed ≡ r → is_better_than edges (get_or (first ∷ later) k d).placed (Err stuck.0) ≡ false
        → IsStuckTry (get_or (first ∷ later) k d)
    by (Ok parts) e none = absurd (false≢true (sym none ∙ ap (λ (r : Result (List Part) Stuck). is_better_than edges r (Err stuck.0)) e))
    by (Err own) e none = (own, e)

-- ---- the best and the first

-- the first is not better than the best
pub first_not_better : (edges : List Edge) (first : Try) (later : List Try) → is_better edges first (best_of (is_better edges) first later) ≡ false
first_not_better edges first later =
    let best = best_is_earliest edges first later in
    subst (λ (t : Try). is_better edges first t ≡ false) best.2 (best.1.1 0 first (omega arith))

-- the best is the first, or better
pub first_or_better : (edges : List Edge) (first : Try) (later : List Try)
    → (best_of (is_better edges) first later ≡ first) ⊎ (is_better edges (best_of (is_better edges) first later) first ≡ true)
first_or_better edges first later =
    let best = best_is_earliest edges first later in
    by best.0 best.1.2 best.2
  where
    by : (k : ℕ) → ((j : ℕ) (d : Try) → j < k → is_better edges (get_or (first ∷ later) k d) (get_or (first ∷ later) j d) ≡ true)
        → get_or (first ∷ later) k first ≡ best_of (is_better edges) first later
        → (best_of (is_better edges) first later ≡ first) ⊎ (is_better edges (best_of (is_better edges) first later) first ≡ true)
    by zero beats is = inl (sym is)
    by (suc k) beats is = inr (subst (λ (t : Try). is_better edges t first ≡ true) is (beats 0 first (omega arith)))

-- where the best is stuck, so is the first in the same way
pub stuck_as_first : (edges : List Edge) (first : Try) (later : List Try) (stuck : Stuck) → (best_of (is_better edges) first later).placed ≡ Err stuck → first.placed ≡ Err stuck
stuck_as_first edges first later stuck is = elim (first_or_better edges first later) [
  | inl same ↦ ap (λ (t : Try). t.placed) (sym same) ∙ is
  | inr better ↦ absurd (false≢true (ap (λ (r : Result (List Part) Stuck). is_better_than edges r first.placed) (sym is) ∙ better))
]

-- where the first stands, the best has no more stages
pub no_more_stages : (edges : List Edge) (first : Try) (later : List Try) (a b : List Part) → first.placed ≡ Ok a → (best_of (is_better edges) first later).placed ≡ Ok b
    → stages_in b ≤ stages_in a
no_more_stages edges first later a b is_first is_best =
    let none : is_better_than edges first.placed (best_of (is_better edges) first later).placed ≡ false = first_not_better edges first later in
    let both : is_placed_better edges a b ≡ false =
    ap (λ (r : Result (List Part) Stuck). is_better_than edges (Ok a) r) (sym is_best)
    ∙ (ap (λ (r : Result (List Part) Stuck). is_better_than edges r (best_of (is_better edges) first later).placed) (sym is_first) ∙ none) in
    not_more (stages_in a) (last_start edges a) (stages_in b) (last_start edges b) both
