-- Rows in the order of pairs.
use Rattle.std.proofs.Common.{◌≡◌, ℕ, ◌+◌, ◌<◌, ◌≤◌, false, Some, None, refl, sym, ap, ◌∙◌, ◌⊎◌, inl, inr, arith}
use Rattle.std.specs.BTreeMap.{BTreeMap, get}
use Rattle.std.specs.Ordering.{is_gt, is_lt, nat_cmp, ordering_reverse, ordering_then}
use Rattle.std.specs.declared.cmp.Ordering.{Ordering}
use Rattle.std.specs.declared.cmp.Ordering.TheVariants.{Less, Equal, Greater}
use Rattle.std.proofs.lemmas.Bool.{false≢true}
use Rattle.std.proofs.lemmas.Cmp.{nat_cmp_total}
use Rattle.std.proofs.lemmas.Map.Lookups.{exact_pairs, exact_unsigned}
use Rattle.std.proofs.lemmas.Option.{same_Some}
use Rattle.rmt_ast.specs.RankPairs.{pair_cmp}
use Rattle.rmt_book.specs.RowOrder.{AreInOrder}

-- the order of pairs turned round
pub pair-turned : (a b : ℕ × ℕ) → pair_cmp a b ≡ ordering_reverse (pair_cmp b a)
pair-turned a b =
    ap (λ o. ordering_then o (nat_cmp a.1 b.1)) (nat_cmp_total.antisymm a.0 b.0) ∙ ap (ordering_then (ordering_reverse (nat_cmp b.0 a.0))) (nat_cmp_total.antisymm a.1 b.1)
    ∙ both (nat_cmp b.0 a.0) (nat_cmp b.1 a.1)
  where
    both : (o p : Ordering) → ordering_then (ordering_reverse o) (ordering_reverse p) ≡ ordering_reverse (ordering_then o p)
    both Less p = refl
    both Equal p = refl
    both Greater p = refl

pair-exact : (a b : ℕ × ℕ) → pair_cmp a b ≡ Equal → a ≡ b
pair-exact a b e = exact_pairs nat_cmp nat_cmp exact_unsigned exact_unsigned a b e

-- a pair that isn't behind another is the same or before it
pub not-less : (a b : ℕ × ℕ) → is_lt (pair_cmp a b) ≡ false → (a ≡ b) ⊎ (pair_cmp b a ≡ Less)
not-less a b h = by (pair_cmp a b) refl
  where
    by : (o : Ordering) → pair_cmp a b ≡ o → (a ≡ b) ⊎ (pair_cmp b a ≡ Less)
    by Less e = absurd (false≢true (sym h ∙ ap is_lt e))
    by Equal e = inl (pair-exact a b e)
    by Greater e = inr (pair-turned b a ∙ ap ordering_reverse e)

pub not-greater : (a b : ℕ × ℕ) → is_gt (pair_cmp a b) ≡ false → (a ≡ b) ⊎ (pair_cmp a b ≡ Less)
not-greater a b h = by (pair_cmp a b) refl
  where
    by : (o : Ordering) → pair_cmp a b ≡ o → (a ≡ b) ⊎ (pair_cmp a b ≡ Less)
    by Less e = inr e
    by Equal e = inl (pair-exact a b e)
    by Greater e = absurd (false≢true (sym h ∙ ap is_gt e))

same-row : (rows : BTreeMap (ℕ × ℕ) ℕ) (k m : ℕ × ℕ) (i j : ℕ) → get pair_cmp rows k ≡ Some i → get pair_cmp rows m ≡ Some j → k ≡ m → i ≡ j
same-row rows k m i j at at2 same = same_Some i j (sym at ∙ ap (get pair_cmp rows) same ∙ at2)

-- the row of the last of some entries is not before those of the others
pub last-behind : (rows : BTreeMap (ℕ × ℕ) ℕ) → AreInOrder rows → (last k : ℕ × ℕ) (i j : ℕ) → get pair_cmp rows last ≡ Some i → get pair_cmp rows k ≡ Some j
    → is_lt (pair_cmp last k) ≡ false → j < i + 1
last-behind rows order last k i j at at2 h =
    elim (not-less last k h) [
      | inl same ↦ let e = same-row rows last k i j at at2 same in omega (arith, e)
      | inr less ↦ let l = order k last j i at2 at less in omega (arith, l)
    ]

-- the row of the first of some entries is not behind those of the others
pub first-before : (rows : BTreeMap (ℕ × ℕ) ℕ) → AreInOrder rows → (first k : ℕ × ℕ) (i j : ℕ) → get pair_cmp rows first ≡ Some i → get pair_cmp rows k ≡ Some j
    → is_gt (pair_cmp first k) ≡ false → i ≤ j
first-before rows order first k i j at at2 h =
    elim (not-greater first k h) [
      | inl same ↦ let e = same-row rows first k i j at at2 same in omega (arith, e)
      | inr less ↦ let l = order first k i j at at2 less in omega (arith, l)
    ]

-- a key that isn't there is before those that aren't before it
pub new-before : (rows : BTreeMap (ℕ × ℕ) ℕ) (key k : ℕ × ℕ) (i : ℕ) → get pair_cmp rows key ≡ None → get pair_cmp rows k ≡ Some i → is_gt (pair_cmp key k) ≡ false → pair_cmp key k ≡ Less
new-before rows key k i new at h =
    elim (not-greater key k h) [
      | inl same ↦ absurd (none-here (sym new ∙ ap (get pair_cmp rows) same ∙ at))
      | inr less ↦ less
    ]
  where
    none-here : None ≡ Some i → ⊥
    none-here e = cc
