-- Heads of cells of which one visible bit is set or cleared: the other one, and all else, stays.
use Rattle.std.proofs.Common.{◌≡◌, ◌≢◌, ◌⊎◌, ℕ, ◌+◌, ◌-◌, ◌*◌, ◌/◌, ◌%◌, ◌^◌, ◌<◌, ◌==◌, ◌&&◌, Bool, true, false, cond, refl, sym, ap, subst, ◌∙◌, inl, inr, arith}
use Rattle.std.proofs.lemmas.Bool.{and_from, and_parts, and_right, cases_eq, eq-eqb, eqb-false, eqb-true}
use Rattle.std.proofs.lemmas.Bool.Decides.{nat_tests}
use Rattle.rmt_config.specs.Cells.{code_of, is_occupied, visible_bits}
use Rattle.rmt_config.specs.RunCells.{has_bit, sees}
use Rattle.rmt_config.specs.Commits.{with_bit, without_bit}

-- the visible bit of a parity
abbrev pub bit : ℕ → ℕ → Bool
bit m head = head / 2 ^ (1 + m) % 2 == 1

-- a version and the next one have the two parities
parities : (v : ℕ) → ((v % 2 ≡ 0) × ((v + 1) % 2 ≡ 1)) ⊎ ((v % 2 ≡ 1) × ((v + 1) % 2 ≡ 0))
parities v = elim (cases_eq (v % 2) 0) [
  | inl e ↦ inl (omega (arith, e), omega (arith, e))
  | inr ne ↦ inr (omega (arith, ne), omega (arith, ne))
]

-- two heads that are alike but for the visible bit of the other parity
pub record KeptAt (m a b : ℕ) : Type 0 where
  pub occupied : is_occupied a ≡ is_occupied b
  pub seen : bit m a ≡ bit m b
  pub code : code_of a ≡ code_of b

kept_same : (m a : ℕ) → KeptAt m a a
kept_same m a = record { occupied = refl; seen = refl; code = refl }

-- heads with the same bits but for one; 2 ^ (1 + m) is the visible bit's value
kept_from : (m value a b : ℕ) → 2 ^ (1 + m) ≡ value → a % 2 ≡ b % 2 → a / value % 2 ≡ b / value % 2 → a / 8 % 32 ≡ b / 8 % 32 → KeptAt m a b
kept_from m value a b is low own high = record {
  occupied = ap (λ r. r == 1) low;
  seen = ap (λ k. a / k % 2 == 1) is ∙ ap (λ r. r == 1) own ∙ sym (ap (λ k. b / k % 2 == 1) is);
  code = high;
}

-- what holds of either head holds of the one that is chosen
by_test : (P : ℕ → Type 0) (b : Bool) (x y : ℕ) → (b ≡ true → P x) → (b ≡ false → P y) → P (cond b x y)
by_test P true x y on off = on refl
by_test P false x y on off = off refl

set_one : (h : ℕ) → KeptAt 0 h (cond (bit 1 h) h (h + 4))
set_one h = by_test (KeptAt 0 h) (bit 1 h) h (h + 4) (λ e. kept_same 0 h)
    (λ e. (let no = eqb-false (h / 4 % 2) 1 e in kept_from 0 2 h (h + 4) refl (omega arith) (omega arith) (omega (arith, no))))

set_zero : (h : ℕ) → KeptAt 1 h (cond (bit 0 h) h (h + 2))
set_zero h = by_test (KeptAt 1 h) (bit 0 h) h (h + 2) (λ e. kept_same 1 h)
    (λ e. (let no = eqb-false (h / 2 % 2) 1 e in kept_from 1 4 h (h + 2) refl (omega arith) (omega (arith, no)) (omega (arith, no))))

clear_one : (h : ℕ) → KeptAt 0 h (cond (bit 1 h) (h - 4) h)
clear_one h = by_test (KeptAt 0 h) (bit 1 h) (h - 4) h
    (λ e. (let yes = eqb-true (h / 4 % 2) 1 e in kept_from 0 2 h (h - 4) refl (omega (arith, yes)) (omega (arith, yes)) (omega (arith, yes)))) (λ e. kept_same 0 h)

clear_zero : (h : ℕ) → KeptAt 1 h (cond (bit 0 h) (h - 2) h)
clear_zero h = by_test (KeptAt 1 h) (bit 0 h) (h - 2) h
    (λ e. (let yes = eqb-true (h / 2 % 2) 1 e in kept_from 1 4 h (h - 2) refl (omega (arith, yes)) (omega (arith, yes)) (omega (arith, yes)))) (λ e. kept_same 1 h)

-- a packet of a version sees two heads alike
abbrev pub AreSeenAlike : ℕ → ℕ → ℕ → Type 0
AreSeenAlike v a b = KeptAt (v % 2) a b

-- what holds at both parities holds of a version and the next one
at_parities : (P : ℕ → ℕ → Type 0) (v : ℕ) → P 0 1 → P 1 0 → P (v % 2) ((v + 1) % 2)
at_parities P v even odd = elim (parities v) [
  | inl e ↦ subst (λ m. P m ((v + 1) % 2)) (sym e.0) (subst (P 0) (sym e.1) even)
  | inr o ↦ subst (λ m. P m ((v + 1) % 2)) (sym o.0) (subst (P 1) (sym o.1) odd)
]

-- the next version's bit is set, or cleared
pub set-alike : (v h : ℕ) → AreSeenAlike v h (with_bit (v + 1) h)
set-alike v h = at_parities (λ m n. KeptAt m h (cond (bit n h) h (h + 2 ^ (1 + n)))) v (set_one h) (set_zero h)

pub clear-alike : (v h : ℕ) → AreSeenAlike v h (without_bit (v + 1) h)
clear-alike v h = at_parities (λ m n. KeptAt m h (cond (bit n h) (h - 2 ^ (1 + n)) h)) v (clear_one h) (clear_zero h)

-- without a visible bit a head shows none
pub unseen_without : (v h : ℕ) → visible_bits h ≡ 0 → has_bit v h ≡ false
unseen_without v h none =
    at_parities (λ m n. bit m h ≡ false) v (grind (arith, nat_tests, none)) (grind (arith, nat_tests, none))

-- the head of an entry that comes has the next version's bit alone
pub unseen_coming : (v i : ℕ) → has_bit v (1 + 2 * 2 ^ ((v + 1) % 2) + 8 * i) ≡ false
unseen_coming v i =
    at_parities (λ m n. bit m (1 + 2 * 2 ^ n + 8 * i) ≡ false) v (grind (arith, nat_tests)) (grind (arith, nat_tests))

-- ---- what the next version sees

-- a cell that keeps its entry is seen by the next version too
pub seen_next : (v h : ℕ) → sees true v h ≡ true → sees true (v + 1) (with_bit (v + 1) h) ≡ true
seen_next v h seen =
    let occupied = (and_parts (is_occupied h) (has_bit v h) seen).0 in
    and_from (is_occupied (with_bit (v + 1) h)) (has_bit (v + 1) (with_bit (v + 1) h)) (sym (set-alike v h).occupied ∙ occupied)
    (at_parities (λ m n. bit n (cond (bit n h) h (h + 2 ^ (1 + n))) ≡ true) v (grind (arith, nat_tests)) (grind (arith, nat_tests)))

-- one that loses it isn't
pub unseen_next : (v h : ℕ) → sees true (v + 1) (without_bit (v + 1) h) ≡ false
unseen_next v h =
    and_right (is_occupied (without_bit (v + 1) h)) (has_bit (v + 1) (without_bit (v + 1) h))
    (at_parities (λ m n. bit n (cond (bit n h) (h - 2 ^ (1 + n)) h) ≡ false) v (grind (arith, nat_tests)) (grind (arith, nat_tests)))

-- the head of an entry that comes is seen, with its code
pub seen_coming : (v i : ℕ) → i < 32 → (sees true (v + 1) (1 + 2 * 2 ^ ((v + 1) % 2) + 8 * i) ≡ true) × (code_of (1 + 2 * 2 ^ ((v + 1) % 2) + 8 * i) ≡ i)
seen_coming v i lt =
    at_parities (λ m n. (is_occupied (1 + 2 * 2 ^ n + 8 * i) && bit n (1 + 2 * 2 ^ n + 8 * i) ≡ true) × (code_of (1 + 2 * 2 ^ n + 8 * i) ≡ i)) v
    (and_from (is_occupied (1 + 2 * 2 + 8 * i)) (bit 1 (1 + 2 * 2 + 8 * i)) (eq-eqb ((1 + 2 * 2 + 8 * i) % 2) 1 (omega arith)) (eq-eqb ((1 + 2 * 2 + 8 * i) / 4 % 2) 1 (omega arith)), code (1 + 2 * 2) (omega arith))
    (and_from (is_occupied (1 + 2 * 1 + 8 * i)) (bit 0 (1 + 2 * 1 + 8 * i)) (eq-eqb ((1 + 2 * 1 + 8 * i) % 2) 1 (omega arith)) (eq-eqb ((1 + 2 * 1 + 8 * i) / 2 % 2) 1 (omega arith)), code (1 + 2 * 1) (omega arith))
  where
    code : (low : ℕ) → low < 8 → (low + 8 * i) / 8 % 32 ≡ i
    code low few = omega (arith, few, lt)

-- a head that keeps a visible bit without the next version's has the version's
pub bit_kept : (v h : ℕ) → visible_bits (without_bit (v + 1) h) ≢ 0 → has_bit v h ≡ true
bit_kept v h = at_parities (λ m n. visible_bits (cond (bit n h) (h - 2 ^ (1 + n)) h) ≢ 0 → bit m h ≡ true) v (λ some. grind (arith, nat_tests, some)) (λ some. grind (arith, nat_tests, some))

-- a head that has a version's visible bit and gets the next one's has both
pub both_set : (v h : ℕ) → has_bit v h ≡ true → visible_bits (with_bit (v + 1) h) ≡ 3
both_set v h = at_parities (λ m n. bit m h ≡ true → visible_bits (cond (bit n h) h (h + 2 ^ (1 + n))) ≡ 3) v (λ own. grind (arith, nat_tests, own)) (λ own. grind (arith, nat_tests, own))

-- and one that has both gets none
pub none_set : (v h : ℕ) → visible_bits h ≡ 3 → with_bit v h ≡ h
none_set v h both = at_parities (λ m n. cond (bit m h) h (h + 2 ^ (1 + m)) ≡ h) v (grind (arith, nat_tests, both)) (grind (arith, nat_tests, both))
