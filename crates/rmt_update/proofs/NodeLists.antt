-- Lists of nodes, and of the tables that they apply, by rising node.
use Rattle.std.proofs.Common.{◌≡◌, ◌≢◌, ℕ, zero, suc, ◌+◌, ◌<◌, ◌≤◌, ◌==◌, Bool, true, false, cond, List, [], ◌∷◌, ◌++◌, Some, map, length, refl, ap, ◌∙◌, inl, inr, arith}
use Rattle.std.specs.Prelude.{All, AllPairs, filter, find, nat_lt, slice_get}
use Rattle.std.specs.List.{enumerate_from, flat_map, list_all, range_with_len}
use Rattle.std.proofs.lemmas.Bool.{and_parts, cases_lt, eq-eqb, eqb-true, ltb-true}
use Rattle.std.proofs.lemmas.List.Elements.{All-cons, All-head, All-nil, All-tail, All-weaker, filter-append}
use Rattle.std.proofs.lemmas.List.Kept.{AllPairs-cons}
use Rattle.std.proofs.lemmas.Option.{none-some, same_Some}
use Rattle.rmt_bits.proofs.AllLaws.{All-slice_get}
use Rattle.rmt_bits.proofs.PairLaws.{AllPairs-head, AllPairs-none, AllPairs-tail}
use Rattle.rmt_ast.specs.NameRules.{rise}

-- rising numbers
pub rise-pairs : {Y : Type 0} (node : Y → ℕ) (ts : List Y) → rise (map node ts) ≡ true → AllPairs (λ s t. node s < node t) ts
rise-pairs node [] h = AllPairs-none (λ s t. node s < node t)
rise-pairs {Y} node (t ∷ ts) h =
    let both = and_parts _ _ h in
    AllPairs-cons (λ s u. node s < node u) t ts (low ts both.0) (rise-pairs node ts both.1)
  where
    low : (us : List Y) → list_all (λ m. nat_lt (node t) m) (map node us) ≡ true → All (λ u. node t < node u) us
    low [] e = All-nil (λ u. node t < node u)
    low (u ∷ us) e = let parts = and_parts _ _ e in All-cons (λ u. node t < node u) u us (ltb-true (node t) (node u) parts.0) (low us parts.1)

-- ---- what stands over nodes

module _ {X Y : Type 0} (node : Y → ℕ) (f : ℕ → List X) where
  none-there : (a : ℕ) (ts : List Y) → All (λ t. a < node t) ts → All (λ t. node t ≢ a) ts
  none-there a ts low = All-weaker (λ t. a < node t) (λ t. node t ≢ a) (λ t lt same. absurd (omega (arith, lt, same))) ts low

  pub over-nodes : (a len : ℕ) (ts : List Y) → AllPairs (λ s t. node s < node t) ts → All (λ t. a ≤ node t) ts → All (λ t. node t < a + len) ts → ((n : ℕ) → a ≤ n → n < a + len → All (λ t. node t ≢ n) ts → f n ≡ [])
      → flat_map f (range_with_len a len) ≡ flat_map (λ t. f (node t)) ts
  over-nodes a zero [] rise low high none = refl
  over-nodes a zero (t ∷ ts) rise low high none =
      let ge = All-head (λ t. a ≤ node t) t ts low in let lt = All-head (λ t. node t < a + 0) t ts high in absurd (omega (arith, ge, lt))
  over-nodes a (suc len) [] rise low high none =
      ap (λ xs. xs ++ flat_map f (range_with_len (a + 1) len)) (none a (omega arith) (omega arith) (All-nil (λ t. node t ≢ a)))
      ∙ over-nodes (a + 1) len [] rise (All-nil (λ t. a + 1 ≤ node t)) (All-nil (λ t. node t < a + 1 + len)) (λ n ge lt out. none n (omega (arith, ge)) (omega (arith, lt)) out)
  over-nodes a (suc len) (t ∷ ts) rise low high none = elim (cases_lt a (node t)) [
    | inl lt ↦
        let lows : All (λ u. a < node u) (t ∷ ts) =
        All-cons (λ u. a < node u) t ts lt (All-weaker (λ u. node t < node u) (λ u. a < node u) (λ u l. omega (arith, l, lt)) ts (AllPairs-head (λ s u. node s < node u) t ts rise)) in
        ap (λ xs. xs ++ flat_map f (range_with_len (a + 1) len)) (none a (omega arith) (omega arith) (none-there a (t ∷ ts) lows))
        ∙ over-nodes (a + 1) len (t ∷ ts) rise (All-weaker (λ u. a < node u) (λ u. a + 1 ≤ node u) (λ u l. omega (arith, l)) (t ∷ ts) lows)
        (All-weaker (λ u. node u < a + suc len) (λ u. node u < a + 1 + len) (λ u l. omega (arith, l)) (t ∷ ts) high) (λ n ge l out. none n (omega (arith, ge)) (omega (arith, l)) out)
    | inr le ↦
        let ge = All-head (λ u. a ≤ node u) t ts low in
        let here : a ≡ node t = omega (arith, ge, le) in
        let lows = AllPairs-head (λ s u. node s < node u) t ts rise in
        ap (λ xs. xs ++ flat_map f (range_with_len (a + 1) len)) (ap f here)
        ∙ ap (λ xs. f (node t) ++ xs)
        (over-nodes (a + 1) len ts (AllPairs-tail (λ s u. node s < node u) t ts rise) (All-weaker (λ u. node t < node u) (λ u. a + 1 ≤ node u) (λ u l. omega (arith, l, here)) ts lows)
        (All-weaker (λ u. node u < a + suc len) (λ u. node u < a + 1 + len) (λ u l. omega (arith, l)) ts (All-tail (λ u. node u < a + suc len) t ts high))
        (λ n g l out. none n (omega (arith, g)) (omega (arith, l)) (All-cons (λ u. node u ≢ n) t ts (λ same. absurd (omega (arith, same, here, g))) out)))
  ]

-- the item of a node is found by it
pub find-node : {Y : Type 0} (node : Y → ℕ) (ts : List Y) (i : ℕ) (t : Y) → AllPairs (λ s u. node s < node u) ts → slice_get ts i ≡ Some t → find (λ s. node s == node t) ts ≡ Some t
find-node node [] i t rise at = absurd (none-some t at)
find-node node (s ∷ ts) zero t rise at =
    let same = same_Some s t at in
    ap (λ b. cond b (Some s) (find (λ u. node u == node t) ts)) (eq-eqb (node s) (node t) (ap node same)) ∙ at
find-node node (s ∷ ts) (suc i) t rise at =
    let lt = All-slice_get (λ u. node s < node u) ts i t (AllPairs-head (λ s u. node s < node u) s ts rise) at in
    ap (λ b. cond b (Some s) (find (λ u. node u == node t) ts)) (other (node s == node t) refl lt) ∙ find-node node ts i t (AllPairs-tail (λ s u. node s < node u) s ts rise) at
  where
    other : (b : Bool) → (node s == node t) ≡ b → node s < node t → b ≡ false
    other false e lt = refl
    other true e lt = let same = eqb-true (node s) (node t) e in absurd (omega (arith, same, lt))

-- and stands somewhere
pub found-at : {Y : Type 0} (test : Y → Bool) (ts : List Y) (t : Y) → find test ts ≡ Some t → (i : ℕ) × (slice_get ts i ≡ Some t)
found-at test [] t e = absurd (none-some t e)
found-at {Y} test (s ∷ ts) t e = by (test s) e (found-at test ts t)
  where
    by : (b : Bool) → cond b (Some s) (find test ts) ≡ Some t → (find test ts ≡ Some t → (i : ℕ) × (slice_get ts i ≡ Some t)) → (i : ℕ) × (slice_get (s ∷ ts) i ≡ Some t)
    by true h rest = (0, h)
    by false h rest = let r = rest h in (suc r.0, r.1)

-- ---- lists with their numbers

pub filter-flat : {X Y : Type 0} (test : Y → Bool) (f : X → List Y) (xs : List X) → filter test (flat_map f xs) ≡ flat_map (λ x. filter test (f x)) xs
filter-flat test f [] = refl
filter-flat test f (x ∷ xs) = filter-append test (f x) (flat_map f xs) ∙ ap (λ ys. filter test (f x) ++ ys) (filter-flat test f xs)

pub flat-numbered : {X Y : Type 0} (f : ℕ × X → List Y) (g : ℕ → List Y) (a : ℕ) (xs : List X) → All (λ x. (n : ℕ) → f (n, x) ≡ g n) xs → flat_map f (enumerate_from a xs) ≡ flat_map g (range_with_len a (length xs))
flat-numbered f g a [] all = refl
flat-numbered f g a (x ∷ xs) all =
    ap (λ ys. ys ++ flat_map f (enumerate_from (a + 1) xs)) (All-head (λ x. (n : ℕ) → f (n, x) ≡ g n) x xs all a)
    ∙ ap (λ ys. g a ++ ys) (flat-numbered f g (a + 1) xs (All-tail (λ x. (n : ℕ) → f (n, x) ≡ g n) x xs all))
