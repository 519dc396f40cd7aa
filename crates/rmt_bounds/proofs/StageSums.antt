-- Sums over the stages of a placement, and over its parts.
use Rattle.std.proofs.Common.{◌≡◌, ℕ, zero, suc, ◌+◌, ◌-◌, ◌*◌, ◌<◌, ◌≤◌, List, [], ◌∷◌, Bool, true, false, ◌⊎◌, inl, inr, cond, refl, ap, sym, ◌∙◌, subst, arith}
use Rattle.std.specs.Prelude.{All, Contains, nat_lt, ◌==◌, ◌&&◌, sum_by}
use Rattle.std.proofs.lemmas.Bool.{eq-eqb, eqb-true, lt-ltb, cases_lt, cases_eq}
use Rattle.std.proofs.lemmas.List.Elements.{All-nil, All-cons, All-head, All-tail, Contains-append_right}
use Rattle.std.proofs.lemmas.List.Sums.{sum_by-cons}
use Rattle.rmt_pack.specs.declared.placement.Part.{Part}
use Rattle.rmt_pack.specs.Placements.{quanta_in, quanta_of}

-- ---- sums of a number for each stage

-- those of the first m stages
abbrev pub total : (ℕ → ℕ) → ℕ → ℕ
total f zero = 0
total f (suc m) = total f m + f m

pub total-same : (f g : ℕ → ℕ) (m : ℕ) → ((s : ℕ) → f s ≡ g s) → total f m ≡ total g m
total-same f g zero same = refl
total-same f g (suc m) same = omega (arith, total-same f g m same, same m)

pub total-add : (f g : ℕ → ℕ) (m : ℕ) → total (λ s. f s + g s) m ≡ total f m + total g m
total-add f g zero = refl
total-add f g (suc m) = omega (arith, total-add f g m)

pub total-times : (f : ℕ → ℕ) (c m : ℕ) → total f m * c ≡ total (λ s. f s * c) m
total-times f c zero = omega arith
total-times f c (suc m) = omega (arith, total-times f c m)

pub total-le : (f : ℕ → ℕ) (m most : ℕ) → ((s : ℕ) → s < m → f s ≤ most) → total f m ≤ m * most
total-le f zero most each = omega arith
total-le f (suc m) most each = omega (arith, total-le f m most (λ s below. each s (omega arith)), each m (omega arith))

pub one-le-total : (f : ℕ → ℕ) (m s : ℕ) → s < m → f s ≤ total f m
one-le-total f zero s below = absurd (omega arith)
one-le-total f (suc m) s below =
    elim (cases_lt s m) [
      | inl lower ↦ omega (arith, one-le-total f m s lower)
      | inr last ↦
          (let same : s ≡ m = omega arith in omega (arith, ap f same))
    ]

-- where stages hold one together, some stage holds one
pub total-some : (f : ℕ → ℕ) (m : ℕ) → 1 ≤ total f m → 1 ≤ total (λ s. cond (nat_lt 0 (f s)) 1 0) m
total-some f zero some = absurd (omega arith)
total-some f (suc m) some =
    elim (cases_lt 0 (f m)) [
      | inl here ↦
          (let F : Bool → Type 0 = λ b. 1 ≤ total (λ s. cond (nat_lt 0 (f s)) 1 0) m + cond b 1 0 in
          subst F (sym (lt-ltb 0 (f m) here)) (omega arith))
      | inr none ↦ omega (arith, total-some f m (omega arith))
    ]

-- sums over stages and over items are taken in either order
pub total-swap : {X : Type 0} (f : X → ℕ → ℕ) (xs : List X) (m : ℕ) → sum_by (λ x. total (f x) m) xs ≡ total (λ s. sum_by (λ x. f x s) xs) m
total-swap f [] m = none m
  where
    none : (k : ℕ) → 0 ≡ total (λ _. 0) k
    none zero = refl
    none (suc k) = omega (arith, none k)
total-swap f (x ∷ xs) m =
    sum_by-cons (λ y. total (f y) m) x xs
    ∙ (ap (λ (n : ℕ). total (f x) m + n) (total-swap f xs m)
    ∙ (sym (total-add (f x) (λ s. sum_by (λ y. f y s) xs) m)
    ∙ total-same (λ s. f x s + sum_by (λ y. f y s) xs) (λ s. sum_by (λ y. f y s) (x ∷ xs)) m (λ s. sym (sum_by-cons (λ y. f y s) x xs))))

-- ---- the parts of a node

-- those of node n that have quanta stand in the m stages from `low` on
abbrev pub Within : ℕ → ℕ → ℕ → Part → Type 0
Within n low m x = x.node ≡ n → 0 < x.quanta → (low ≤ x.stage) × (x.stage < low + m)

one_part : (b : Bool) (quanta stage low m : ℕ) → (b ≡ true → 0 < quanta → (low ≤ stage) × (stage < low + m))
    → cond b quanta 0 ≤ total (λ s. cond (b && (stage == (low + s))) quanta 0) m
one_part false quanta stage low m in' = omega arith
one_part true zero stage low m in' = omega arith
one_part true (suc q) stage low m in' =
    let at = in' refl (omega arith) in
    let same : stage ≡ low + (stage - low) = omega (arith, at.0) in
    let here : cond (stage == (low + (stage - low))) (suc q) 0 ≡ suc q = ap (λ (t : Bool). cond t (suc q) 0) (eq-eqb stage (low + (stage - low)) same) in
    omega (arith, here, one-le-total (λ s. cond (stage == (low + s)) (suc q) 0) m (stage - low) (omega (arith, at.1, at.0)))

-- all quanta of a node are those in the stages where its parts stand
pub quanta_of-le-total : (parts : List Part) (n low m : ℕ) → All (Within n low m) parts → quanta_of parts n ≤ total (λ s. quanta_in parts n (low + s)) m
quanta_of-le-total [] n low m within = omega arith
quanta_of-le-total (x ∷ xs) n low m within =
    let own = one_part (x.node == n) x.quanta x.stage low m (λ is. All-head (Within n low m) x xs within (eqb-true x.node n is)) in
    let f : ℕ → ℕ = λ s. cond ((x.node == n) && (x.stage == (low + s))) x.quanta 0 in
    let all = total-same (λ s. quanta_in (x ∷ xs) n (low + s)) (λ s. f s + quanta_in xs n (low + s)) m
    (λ s. sum_by-cons (λ (y : Part). cond ((y.node == n) && (y.stage == (low + s))) y.quanta 0) x xs) in
    let apart = total-add f (λ s. quanta_in xs n (low + s)) m in
    let both = sum_by-cons (λ (y : Part). cond (y.node == n) y.quanta 0) x xs in
    omega (arith, own, quanta_of-le-total xs n low m (All-tail (Within n low m) x xs within), all, apart, both)

-- ---- how far a node reaches

-- a part of node n with quanta stands in the b-th stage or a later one
pub record Reaches (parts : List Part) (n b : ℕ) : Type 0 where
  pub part : Part
  pub there : Contains parts part
  pub own : part.node ≡ n
  pub some : 0 < part.quanta
  pub far : b ≤ part.stage + 1

-- the parts of node n that have quanta stand in no stage before `low`
abbrev pub NotBefore : ℕ → ℕ → Part → Type 0
NotBefore n low x = x.node ≡ n → 0 < x.quanta → low ≤ x.stage

-- some part reaches so far, or none does
look : (n b : ℕ) (parts : List Part) → Reaches parts n b ⊎ All (λ (x : Part). x.node ≡ n → 0 < x.quanta → x.stage + 1 < b) parts
look n b [] = inr (All-nil (λ (x : Part). x.node ≡ n → 0 < x.quanta → x.stage + 1 < b))
look n b (x ∷ xs) = elim (look n b xs) [
  | inl r ↦ inl (record {
    part = r.part;
    there = Contains-append_right (x ∷ []) xs r.part r.there;
    own = r.own;
    some = r.some;
    far = r.far;
  })
  | inr none ↦ at none
]
  where
    P : Part → Type 0
    P y = y.node ≡ n → 0 < y.quanta → y.stage + 1 < b

    at : All P xs → Reaches (x ∷ xs) n b ⊎ All P (x ∷ xs)
    at none = elim (cases_eq x.node n) [
      | inl is ↦
          elim (cases_lt 0 x.quanta) [
            | inl some ↦
                elim (cases_lt (x.stage + 1) b) [
                  | inl near ↦ inr (All-cons P x xs (λ _ _. near) none)
                  | inr far ↦ inl (record { part = x; there = (0, omega arith, refl); own = is; some = some; far = far })
                ]
            | inr empty ↦ inr (All-cons P x xs (λ _ some. absurd (omega arith)) none)
          ]
      | inr other ↦ inr (All-cons P x xs (λ is _. absurd (other is)) none)
    ]

pub reaches : (parts : List Part) (n low stages most need : ℕ) → All (NotBefore n low) parts → (stages - 1) * most < need → need ≤ quanta_of parts n
    → ((s : ℕ) → s < stages - 1 → quanta_in parts n (low + s) ≤ most) → Reaches parts n (low + stages)
reaches parts n low stages most need from few all each = elim (look n (low + stages) parts) [
  | inl r ↦ r
  | inr none ↦
      (let within : All (Within n low (stages - 1)) parts = λ k d below is some.
      (let first = from k d below is some in let last = none k d below is some in (first, omega (arith, first, last))) in
      let small = total-le (λ s. quanta_in parts n (low + s)) (stages - 1) most each in
      absurd (omega (arith, quanta_of-le-total parts n low (stages - 1) within, small)))
]

-- who reaches so far reaches less far
pub reaches-less : (parts : List Part) (n b c : ℕ) → c ≤ b → Reaches parts n b → Reaches parts n c
reaches-less parts n b c less r = record { part = r.part; there = r.there; own = r.own; some = r.some; far = omega (arith, r.far) }
