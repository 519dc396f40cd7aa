-- What stands of a node in a stage, and in the stages before.
use Rattle.std.proofs.lemmas.Bool.Decides.{nat_tests}
use Rattle.std.proofs.Common.{◌≡◌, ℕ, ◌+◌, ◌<◌, cond, eqb, ◌&&◌, List, [], ◌∷◌, length, get_or, drop, refl, sym, ap, ◌∙◌, arith}
use Rattle.std.specs.Prelude.{All, AllPairs, nat_lt, sum_by}
use Rattle.std.specs.List.{range_with_len}
use Rattle.std.proofs.lemmas.List.{at_drop_more, get_or-drop, get_or_default, length-drop}
use Rattle.std.proofs.lemmas.List.Elements.{All-head, All-tail}
use Rattle.std.proofs.lemmas.List.Sums.{sum_by-append, sum_by-cons}
use Rattle.rmt_bits.proofs.ListLaws.{range_more}
use Rattle.rmt_pack.specs.declared.placement.Part.{Part}
use Rattle.rmt_pack.specs.Placements.{quanta_in}
use Rattle.rmt_place.specs.Placing.{AreTwo}
use Rattle.rmt_build.specs.Plans.{parts_before, quanta_before}

-- ---- one stage

-- a part of another node, or in another stage
quanta_apart : (x : Part) (xs : List Part) (n k : ℕ) → (x.node ≡ n → x.stage ≡ k → ⊥) → quanta_in (x ∷ xs) n k ≡ quanta_in xs n k
quanta_apart x xs n k absent =
    grind (arith, nat_tests, sum_by-cons (λ (y : Part). cond (eqb y.node n && eqb y.stage k) y.quanta 0) x xs, absent)

-- a part of the node in the stage
quanta_here : (x : Part) (xs : List Part) (n k : ℕ) → x.node ≡ n → x.stage ≡ k → quanta_in (x ∷ xs) n k ≡ x.quanta + quanta_in xs n k
quanta_here x xs n k same here =
    grind (arith, nat_tests, sum_by-cons (λ (y : Part). cond (eqb y.node n && eqb y.stage k) y.quanta 0) x xs, same, here)

quanta_none : (xs : List Part) (n k : ℕ) → All (λ (y : Part). y.node ≡ n → y.stage ≡ k → ⊥) xs → quanta_in xs n k ≡ 0
quanta_none [] n k none = refl
quanta_none (x ∷ xs) n k none =
    quanta_apart x xs n k (All-head (λ (y : Part). y.node ≡ n → y.stage ≡ k → ⊥) x xs none)
    ∙ quanta_none xs n k (All-tail (λ (y : Part). y.node ≡ n → y.stage ≡ k → ⊥) x xs none)

-- the search goes on behind a part that isn't there
pub quanta_next : (parts : List Part) (i : ℕ) (d : Part) (n k : ℕ) → i < length parts → ((get_or parts i d).node ≡ n → (get_or parts i d).stage ≡ k → ⊥)
    → quanta_in (drop (i + 1) parts) n k ≡ quanta_in (drop i parts) n k
quanta_next parts i d n k lt absent = sym (at_drop_more (λ xs. quanta_in xs n k) parts i d lt ∙ quanta_apart (get_or parts i d) (drop (i + 1) parts) n k absent)

-- and ends at the one that is
pub quanta_found : (parts : List Part) (i : ℕ) (d : Part) (n k : ℕ) → i < length parts → AllPairs AreTwo parts → (get_or parts i d).node ≡ n → (get_or parts i d).stage ≡ k
    → (get_or parts i d).quanta ≡ quanta_in (drop i parts) n k
quanta_found parts i d n k lt apart same here =
    let x = get_or parts i d in
    let rest : quanta_in (drop (i + 1) parts) n k ≡ 0 =
    quanta_none (drop (i + 1) parts) n k (λ j e below node stage.
    (let size = length-drop (i + 1) parts in
    let item : get_or (drop (i + 1) parts) j e ≡ get_or parts (i + 1 + j) e = get_or-drop (i + 1) parts j e in
    let later : i + 1 + j < length parts = omega (arith, size, below) in
    let first : get_or parts i e ≡ x = get_or_default parts i e d lt in
    apart i (i + 1 + j) e (omega arith) later
    (ap (λ (y : Part). y.node) first ∙ (same ∙ (sym node ∙ ap (λ (y : Part). y.node) item)))
    (ap (λ (y : Part). y.stage) first ∙ (here ∙ (sym stage ∙ ap (λ (y : Part). y.stage) item))))) in
    let all : quanta_in (drop i parts) n k ≡ x.quanta + quanta_in (drop (i + 1) parts) n k =
    at_drop_more (λ xs. quanta_in xs n k) parts i d lt ∙ quanta_here x (drop (i + 1) parts) n k same here in
    omega (arith, all, rest)

-- ---- the stages before

pub sum_more : (f : ℕ → ℕ) (k : ℕ) → sum_by f (range_with_len 0 (k + 1)) ≡ sum_by f (range_with_len 0 k) + f k
sum_more f k =
    let all = ap (sum_by f) (range_more 0 k) ∙ sum_by-append f (range_with_len 0 k) ((0 + k) ∷ []) in
    let same : f (0 + k) ≡ f k = ap f (omega arith) in
    omega (arith, sum_by-cons f (0 + k) [], all, same)

pub quanta_more : (parts : List Part) (n k : ℕ) → quanta_before parts n (k + 1) ≡ quanta_before parts n k + quanta_in parts n k
quanta_more parts n k = sum_more (quanta_in parts n) k

pub parts_more : (parts : List Part) (n k : ℕ) → parts_before parts n (k + 1) ≡ parts_before parts n k + cond (nat_lt 0 (quanta_in parts n k)) 1 0
parts_more parts n k = sum_more (λ j. cond (nat_lt 0 (quanta_in parts n j)) 1 0) k
