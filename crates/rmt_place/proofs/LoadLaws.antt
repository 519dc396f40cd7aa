-- What a stage takes with one more node, and the most quanta that fit.
use Rattle.std.proofs.Common.{◌≡◌, ℕ, zero, suc, ◌+◌, ◌-◌, ◌*◌, ◌^◌, ◌<◌, ◌≤◌, List, [], ◌∷◌, ◌++◌, length, get_or, take, drop, set, map, Bool, true, false, cond, ◌&&◌, inl, inr, Option, Some, None, append_assoc, sym, refl, subst, ap, ◌∙◌, arith, add-one, drop-cons}
use Rattle.std.specs.List.{flat_map, list_all, range_with_len, sum_by, find}
use Rattle.std.specs.Prelude.{nat_le, nat_lt, unwrap_or, ⊤}
use Rattle.std.proofs.Math.Nat.{mul-le-mul_right}
use Rattle.std.proofs.lemmas.Bool.{leb-true, le-leb, and_parts, and_from, false≢true, cases_eq, cases_lt, ne_eqb}
use Rattle.std.proofs.lemmas.List.{take_more, append-nil}
use Rattle.std.proofs.lemmas.Grind.{flat_map-append}
use Rattle.std.proofs.lemmas.List.Sums.{sum_by-append}
use Rattle.rmt_bits.specs.Words.{word_size}
use Rattle.rmt_bits.proofs.WordLaws.{word_size-le}
use Rattle.rmt_config.specs.LimitSteps.{Marks, marked_sum}
use Rattle.rmt_config.proofs.LimitLemmas.{one_marked}
use Rattle.rmt_place.specs.declared.demand.Demand.{Demand}
use Rattle.rmt_place.specs.declared.load.Load.{Load}
use Rattle.rmt_place.specs.declared.load.TheConstants.{MOST}
use Rattle.rmt_place.specs.Needs.{Standing, bits_of_words, keeps_limits}
use Rattle.rmt_place.specs.Placing.{beside, fitting, hit_beside}
use Rattle.rmt_config.specs.declared.limits.LimitHit.{LimitHit}
use Rattle.rmt_config.specs.Limits.{told}
use Rattle.rmt_place.specs.Steps.{Holds, IsWithin, IsSmall, numbers_of, are_kept, passed_of}

-- ---- words

-- one word more is marked
pub word_marked : (ns words : List ℕ) (i d : ℕ) (marks : List Bool) → i < length words → get_or words i d < 256 → Marks (ns ++ take i words) marks
    → Marks (ns ++ take (i + 1) words) (set marks (get_or words i d) true)
word_marked ns words i d marks lt small m =
    subst (λ (l : List ℕ). Marks l (set marks (get_or words i d) true))
    (append_assoc ns (take i words) (get_or words i d ∷ []) ∙ sym (ap (λ (l : List ℕ). ns ++ l) (take_more words i d lt)))
    (one_marked (ns ++ take i words) marks (get_or words i d) small m)

-- ---- what a stage takes with one more node

abbrev pub with_one : List Standing → Demand → ℕ → List Standing
with_one xs d q = xs ++ record { demand = d; quanta = q } ∷ []

sum_more : (f : Standing → ℕ) (xs : List Standing) (y : Standing) → sum_by f (xs ++ y ∷ []) ≡ sum_by f xs + f y
sum_more f xs y = sum_by-append f xs (y ∷ []) ∙ (let e : sum_by f xs + (0 + f y) ≡ sum_by f xs + f y = omega arith in e)

words_more : (f : Standing → List ℕ) (xs : List Standing) (y : Standing) → flat_map f (xs ++ y ∷ []) ≡ flat_map f xs ++ f y
words_more f xs y = flat_map-append f xs (y ∷ []) ∙ ap (λ (l : List ℕ). flat_map f xs ++ l) (append-nil (f y))

pub holds_more : (xs : List Standing) (load more : Load) (d : Demand) (q : ℕ) → Holds xs load
    → more.sram ≡ load.sram + q * d.sram → more.tcam ≡ load.tcam + q * d.tcam
    → Marks (flat_map (λ (x : Standing). x.demand.exact_words) xs ++ d.exact_words) more.exact
    → Marks (flat_map (λ (x : Standing). x.demand.ternary_words) xs ++ d.ternary_words) more.ternary
    → more.slots ≡ load.slots + d.slots → more.instructions ≡ load.instructions + d.instructions → more.held ≡ load.held + d.held → more.gates ≡ load.gates + d.gates
    → Holds (with_one xs d q) more
holds_more xs load more d q h sram tcam exact ternary slots instructions held gates =
    let y : Standing = record { demand = d; quanta = q } in
    record {
      sram = omega (arith, sram, h.sram, sum_more (λ x. x.quanta * x.demand.sram) xs y);
      tcam = omega (arith, tcam, h.tcam, sum_more (λ x. x.quanta * x.demand.tcam) xs y);
      exact = subst (λ (l : List ℕ). Marks l more.exact) (sym (words_more (λ x. x.demand.exact_words) xs y)) exact;
      ternary = subst (λ (l : List ℕ). Marks l more.ternary) (sym (words_more (λ x. x.demand.ternary_words) xs y)) ternary;
      slots = omega (arith, slots, h.slots, sum_more (λ x. x.demand.slots) xs y);
      instructions = omega (arith, instructions, h.instructions, sum_more (λ x. x.demand.instructions) xs y);
      held = omega (arith, held, h.held, sum_more (λ x. x.demand.held) xs y);
      gates = omega (arith, gates, h.gates, sum_more (λ x. x.demand.gates) xs y);
    }

-- ---- limits

abbrev sram_of : List Standing → ℕ
sram_of xs = sum_by (λ (x : Standing). x.quanta * x.demand.sram) xs

abbrev tcam_of : List Standing → ℕ
tcam_of xs = sum_by (λ (x : Standing). x.quanta * x.demand.tcam) xs

-- what doesn't grow with quanta
abbrev other_numbers : List Standing → Demand → List ℕ
other_numbers xs d =
    bits_of_words (flat_map (λ (x : Standing). x.demand.exact_words) xs ++ d.exact_words)
    ∷ bits_of_words (flat_map (λ (x : Standing). x.demand.ternary_words) xs ++ d.ternary_words)
    ∷ (sum_by (λ (x : Standing). x.demand.slots) xs + d.slots)
    ∷ (sum_by (λ (x : Standing). x.demand.instructions) xs + d.instructions)
    ∷ (sum_by (λ (x : Standing). x.demand.held) xs + d.held)
    ∷ (sum_by (λ (x : Standing). x.demand.gates) xs + d.gates)
    ∷ []

pub numbers_with : (xs : List Standing) (d : Demand) (q : ℕ)
    → numbers_of (with_one xs d q) ≡ (sram_of xs + q * d.sram) ∷ (tcam_of xs + q * d.tcam) ∷ other_numbers xs d
numbers_with xs d q =
    let y : Standing = record { demand = d; quanta = q } in
    let a = sum_more (λ x. x.quanta * x.demand.sram) xs y in
    let b = sum_more (λ x. x.quanta * x.demand.tcam) xs y in
    let e = ap bits_of_words (words_more (λ x. x.demand.exact_words) xs y) in
    let f = ap bits_of_words (words_more (λ x. x.demand.ternary_words) xs y) in
    let g = sum_more (λ x. x.demand.slots) xs y in
    let h = sum_more (λ x. x.demand.instructions) xs y in
    let i = sum_more (λ x. x.demand.held) xs y in
    let j = sum_more (λ x. x.demand.gates) xs y in
    cc

-- whether the sums that don't grow keep their limits
abbrev others_kept : List Standing → Demand → Bool
others_kept xs d = are_kept (drop 2 MOST) (other_numbers xs d)

keeps_with : (xs : List Standing) (d : Demand) (q : ℕ)
    → keeps_limits (with_one xs d q) ≡ (nat_le (sram_of xs + q * d.sram) 106 && (nat_le (tcam_of xs + q * d.tcam) 16 && others_kept xs d))
keeps_with xs d q = ap (are_kept MOST) (numbers_with xs d q)

-- some quanta fit where the blocks do, and the rest
pub record Fits (xs : List Standing) (d : Demand) (q : ℕ) : Type 0 where
  pub sram : sram_of xs + q * d.sram ≤ 106
  pub tcam : tcam_of xs + q * d.tcam ≤ 16
  pub others : others_kept xs d ≡ true

pub fits_kept : (xs : List Standing) (d : Demand) (q : ℕ) → keeps_limits (with_one xs d q) ≡ true → Fits xs d q
fits_kept xs d q kept =
    let parts = and_parts (nat_le (sram_of xs + q * d.sram) 106) (nat_le (tcam_of xs + q * d.tcam) 16 && others_kept xs d) (sym (keeps_with xs d q) ∙ kept) in
    let rest = and_parts (nat_le (tcam_of xs + q * d.tcam) 16) (others_kept xs d) parts.1 in
    record { sram = leb-true (sram_of xs + q * d.sram) 106 parts.0; tcam = leb-true (tcam_of xs + q * d.tcam) 16 rest.0; others = rest.1 }

pub kept_fits : (xs : List Standing) (d : Demand) (q : ℕ) → Fits xs d q → keeps_limits (with_one xs d q) ≡ true
kept_fits xs d q f =
    keeps_with xs d q
    ∙ and_from (nat_le (sram_of xs + q * d.sram) 106) (nat_le (tcam_of xs + q * d.tcam) 16 && others_kept xs d) (le-leb (sram_of xs + q * d.sram) 106 f.sram)
    (and_from (nat_le (tcam_of xs + q * d.tcam) 16) (others_kept xs d) (le-leb (tcam_of xs + q * d.tcam) 16 f.tcam) f.others)

-- a test that doesn't hold is false
is_false : (b : Bool) → (b ≡ true → ⊥) → b ≡ false
is_false true never = absurd (never refl)
is_false false never = refl

-- fewer fit too
pub fits_less : (xs : List Standing) (d : Demand) (q r : ℕ) → r ≤ q → Fits xs d q → Fits xs d r
fits_less xs d q r le f =
    record {
      sram = omega (arith, mul-le-mul_right d.sram le, f.sram);
      tcam = omega (arith, mul-le-mul_right d.tcam le, f.tcam);
      others = f.others;
    }

-- ---- the most that fit

-- looking down from the most that are left, past those that don't pass
find_down : (p : ℕ → Bool) (m left a b : ℕ) → a + b ≡ left → m ≤ b → (1 ≤ m → p m ≡ true) → ((q : ℕ) → m < q → q ≤ b → p q ≡ false)
    → unwrap_or (find p (map (λ i. left - i) (range_with_len a b))) 0 ≡ m
find_down p m left a zero sum le found past = omega arith
find_down p m left a (suc b) sum le found past =
    let head : left - a ≡ suc b = omega arith in
    elim (cases_eq m (suc b)) [
      | inl here ↦
          let passes : p (left - a) ≡ true = ap p (head ∙ sym here) ∙ found (omega arith) in
          ap (λ t. unwrap_or (cond t (Some (left - a)) (find p (map (λ i. left - i) (range_with_len (a + 1) b)))) 0) passes ∙ (head ∙ sym here)
      | inr other ↦
          let fails : p (left - a) ≡ false = ap p head ∙ past (suc b) (omega arith) (omega arith) in
          ap (λ t. unwrap_or (cond t (Some (left - a)) (find p (map (λ i. left - i) (range_with_len (a + 1) b)))) 0) fails
          ∙ find_down p m left (a + 1) b (omega arith) (omega arith) found (λ q more few. past q more (omega arith))
    ]

-- beside it at least one
pub beside_some : (xs : List Standing) (d : Demand) (q : ℕ) → 1 ≤ q → beside xs d q ≡ with_one xs d q
beside_some xs d q some =
    ap (λ (b : Bool). xs ++ cond b [] (record { demand = d; quanta = q } ∷ [])) (ne_eqb q 0 (λ e. omega arith))

pub fitting_is : (xs : List Standing) (d : Demand) (left m : ℕ) → m ≤ left → (1 ≤ m → Fits xs d m) → ((q : ℕ) → m < q → q ≤ left → Fits xs d q → ⊥) → fitting xs d left ≡ m
fitting_is xs d left m le fit no_more =
    find_down (λ q. keeps_limits (beside xs d q)) m left 0 left (omega arith) le
    (λ some. ap keeps_limits (beside_some xs d m some) ∙ kept_fits xs d m (fit some))
    (λ q more few. ap keeps_limits (beside_some xs d q (omega arith)) ∙ is_false (keeps_limits (with_one xs d q)) (λ kept. no_more q more few (fits_kept xs d q kept)))

-- where one doesn't fit, none does
pub none_fits : (xs : List Standing) (d : Demand) (left : ℕ) → keeps_limits (with_one xs d 1) ≡ false → fitting xs d left ≡ 0
none_fits xs d left fails =
    fitting_is xs d left 0 (omega arith) (λ some. absurd (omega arith))
    (λ q more few f. false≢true (sym fails ∙ kept_fits xs d 1 (fits_less xs d q 1 more f)))

-- as many fit as the blocks that are free allow
pub most_fit : (xs : List Standing) (load : Load) (d : Demand) (left by_sram m : ℕ) → Holds xs load → IsWithin load → keeps_limits (with_one xs d 1) ≡ true
    → by_sram ≤ left → by_sram * d.sram ≤ 106 - load.sram → ((q : ℕ) → by_sram < q → q ≤ left → 106 - load.sram < q * d.sram)
    → m ≤ by_sram → m * d.tcam ≤ 16 - load.tcam → ((q : ℕ) → m < q → q ≤ by_sram → 16 - load.tcam < q * d.tcam)
    → fitting xs d left ≡ m
most_fit xs load d left by_sram m h within one few fit most few_tcam fit_tcam most_tcam =
    fitting_is xs d left m (omega arith)
    (λ some. record {
      sram = omega (arith, mul-le-mul_right d.sram few_tcam, h.sram, within.sram, fit);
      tcam = omega (arith, h.tcam, within.tcam, fit_tcam);
      others = (fits_kept xs d 1 one).others;
    })
    (λ q more some f. elim (cases_lt by_sram q) [
      | inl past ↦ (let no = most q past some in let has = f.sram in absurd (omega (arith, h.sram, within.sram, no, has)))
      | inr within_sram ↦ (let no = most_tcam q more within_sram in let has = f.tcam in absurd (omega (arith, h.tcam, within.tcam, no, has)))
    ])

-- what is found passes, where 0 does
found : (p : ℕ → Bool) (qs : List ℕ) → p 0 ≡ true → p (unwrap_or (find p qs) 0) ≡ true
found p [] none = none
found p (q ∷ qs) none = by_head (p q) refl (found p qs none)
  where
    by_head : (b : Bool) → p q ≡ b → p (unwrap_or (find p qs) 0) ≡ true → p (unwrap_or (cond b (Some q) (find p qs)) 0) ≡ true
    by_head true e rest = e
    by_head false e rest = rest

-- the most that fit keep the limits
pub fitting_kept : (xs : List Standing) (d : Demand) (left : ℕ) → keeps_limits xs ≡ true → keeps_limits (beside xs d (fitting xs d left)) ≡ true
fitting_kept xs d left kept =
    found (λ q. keeps_limits (beside xs d q)) (map (λ i. left - i) (range_with_len 0 left)) (ap keeps_limits (append-nil xs) ∙ kept)

-- ---- steps of loops over the limits

-- a hit of those numbers
abbrev pub a_hit : ℕ → ℕ → ℕ → ℕ → Option LimitHit
a_hit limit stage sum need = Some (record { limit = limit; stage = stage; sum = sum; need = need })

pub kept_step : (mosts sums : List ℕ) (i : ℕ) → i < length mosts → i < length sums → get_or sums i 0 ≤ get_or mosts i 0
    → are_kept (drop (i + 1) mosts) (drop (i + 1) sums) ≡ are_kept (drop i mosts) (drop i sums)
kept_step mosts sums i below inside le =
    let m : drop i mosts ≡ get_or mosts i 0 ∷ drop (i + 1) mosts = rw (add-one) (drop-cons mosts i 0 below) in
    let x : drop i sums ≡ get_or sums i 0 ∷ drop (i + 1) sums = rw (add-one) (drop-cons sums i 0 inside) in
    sym (ap (λ (l₁ : List ℕ). are_kept l₁ (drop i sums)) m
    ∙ (ap (λ (l₂ : List ℕ). are_kept (get_or mosts i 0 ∷ drop (i + 1) mosts) l₂) x
    ∙ ap (λ b. b && are_kept (drop (i + 1) mosts) (drop (i + 1) sums)) (le-leb (get_or sums i 0) (get_or mosts i 0) le)))

pub passed_step : (k l : ℕ) (mosts xs ys : List ℕ) (i : ℕ) → i < length mosts → i < length xs → i < length ys
    → passed_of k l (drop i mosts) (drop i xs) (drop i ys)
    ≡ cond (nat_lt (get_or mosts i 0) (get_or ys i 0)) (a_hit l k (told (get_or xs i 0)) (told (get_or ys i 0 - get_or xs i 0)))
    (passed_of k (l + 1) (drop (i + 1) mosts) (drop (i + 1) xs) (drop (i + 1) ys))
passed_step k l mosts xs ys i in_mosts in_xs in_ys =
    let m : drop i mosts ≡ get_or mosts i 0 ∷ drop (i + 1) mosts = rw (add-one) (drop-cons mosts i 0 in_mosts) in
    let x : drop i xs ≡ get_or xs i 0 ∷ drop (i + 1) xs = rw (add-one) (drop-cons xs i 0 in_xs) in
    let y : drop i ys ≡ get_or ys i 0 ∷ drop (i + 1) ys = rw (add-one) (drop-cons ys i 0 in_ys) in
    ap (λ (l₁ : List ℕ). passed_of k l l₁ (drop i xs) (drop i ys)) m
    ∙ (ap (λ (l₂ : List ℕ). passed_of k l (get_or mosts i 0 ∷ drop (i + 1) mosts) l₂ (drop i ys)) x
    ∙ ap (λ (l₃ : List ℕ). passed_of k l (get_or mosts i 0 ∷ drop (i + 1) mosts) (get_or xs i 0 ∷ drop (i + 1) xs) l₃) y)

-- ---- hits

-- the same where no number is too great to be told
abbrev passed_plain : ℕ → ℕ → List ℕ → List ℕ → List ℕ → Option LimitHit
passed_plain k limit [] have more = None
passed_plain k limit (most ∷ mosts) [] more = None
passed_plain k limit (most ∷ mosts) (x ∷ xs) [] = None
passed_plain k limit (most ∷ mosts) (x ∷ xs) (y ∷ ys) = cond (nat_lt most y) (a_hit limit k x (y - x)) (passed_plain k (limit + 1) mosts xs ys)

-- no number of the one list is much greater than that of the other
abbrev pub AreNear : List ℕ → List ℕ → Type 0
AreNear [] ys = ⊤
AreNear (x ∷ xs) [] = ⊤
AreNear (x ∷ xs) (y ∷ ys) = (y - x < 2 ^ 32) × AreNear xs ys

passed_told : (k l : ℕ) (mosts xs ys : List ℕ) → list_all (λ m. nat_le m 1280) mosts ≡ true → are_kept mosts xs ≡ true → AreNear xs ys
    → passed_of k l mosts xs ys ≡ passed_plain k l mosts xs ys
passed_told k l [] xs ys few kept near = refl
passed_told k l (most ∷ mosts) [] ys few kept near = refl
passed_told k l (most ∷ mosts) (x ∷ xs) [] few kept near = refl
passed_told k l (most ∷ mosts) (x ∷ xs) (y ∷ ys) few kept near =
    let fews = and_parts (nat_le most 1280) (list_all (λ m. nat_le m 1280) mosts) few in
    let kepts = and_parts (nat_le x most) (are_kept mosts xs) kept in
    let few_most : most ≤ 1280 = leb-true most 1280 fews.0 in
    let few_x : x ≤ most = leb-true x most kepts.0 in
    let near_x : y - x < 2 ^ 32 = near.0 in
    let told_x : told x ≡ x = omega arith in
    let told_need : told (y - x) ≡ y - x = omega arith in
    let rest : passed_of k (l + 1) mosts xs ys ≡ passed_plain k (l + 1) mosts xs ys = passed_told k (l + 1) mosts xs ys fews.1 kepts.1 near.1 in
    ap (λ (o : Option LimitHit). cond (nat_lt most y) (a_hit l k (told x) (told (y - x))) o) rest
    ∙ (ap (λ (s : ℕ). cond (nat_lt most y) (a_hit l k s (told (y - x))) (passed_plain k (l + 1) mosts xs ys)) told_x
    ∙ ap (λ (n : ℕ). cond (nat_lt most y) (a_hit l k x n) (passed_plain k (l + 1) mosts xs ys)) told_need)

pub hit_is : (stage : ℕ) (xs : List Standing) (d : Demand) (taken : ℕ) (have more : List ℕ)
    → have ≡ numbers_of (beside xs d taken) → more ≡ numbers_of (beside xs d (taken + 1)) → keeps_limits (beside xs d taken) ≡ true
    → AreNear (numbers_of (beside xs d taken)) (numbers_of (beside xs d (taken + 1)))
    → passed_of stage 6 MOST have more ≡ hit_beside stage xs d taken
hit_is stage xs d taken have more have_is more_is kept near =
    ap (λ (l : List ℕ). passed_of stage 6 MOST l more) have_is
    ∙ (ap (λ (l : List ℕ). passed_of stage 6 MOST (numbers_of (beside xs d taken)) l) more_is
    ∙ passed_told stage 6 MOST (numbers_of (beside xs d taken)) (numbers_of (beside xs d (taken + 1))) refl kept near)

marked_sum-le : (n : ℕ) (marks : List Bool) → marked_sum word_size n marks ≤ 32 * length marks
marked_sum-le n [] = omega arith
marked_sum-le n (true ∷ marks) = omega (arith, word_size-le n, marked_sum-le (n + 1) marks)
marked_sum-le n (false ∷ marks) = omega (arith, marked_sum-le (n + 1) marks)

bits_small : (ns : List ℕ) (marks : List Bool) → Marks ns marks → bits_of_words ns ≤ 8192
bits_small ns marks m = omega (arith, m.sums word_size, marked_sum-le 0 marks, m.size)

-- one quantum more makes no number much greater
near_first : (xs : List Standing) (d : Demand) → IsSmall d
    → bits_of_words (flat_map (λ (x : Standing). x.demand.exact_words) xs ++ d.exact_words) ≤ 8192
    → bits_of_words (flat_map (λ (x : Standing). x.demand.ternary_words) xs ++ d.ternary_words) ≤ 8192
    → AreNear (numbers_of xs) (numbers_of (with_one xs d 1))
near_first xs d small exact ternary =
    subst (λ (ys : List ℕ). AreNear (numbers_of xs) ys) (sym (numbers_with xs d 1)) (
      omega (arith, small.sram),
      (
        omega (arith, small.tcam),
        (
          omega (arith, exact),
          (
            omega (arith, ternary),
            (omega (arith, small.slots), (omega (arith, small.instructions), (omega (arith, small.held), (omega (arith, small.gates), tt)))),
          ),
        ),
      ),
    )

near_more : (xs : List Standing) (d : Demand) (q : ℕ) → IsSmall d → AreNear (numbers_of (with_one xs d q)) (numbers_of (with_one xs d (q + 1)))
near_more xs d q small =
    subst (λ (ys : List ℕ). AreNear ys (numbers_of (with_one xs d (q + 1)))) (sym (numbers_with xs d q))
    (subst (λ (ys : List ℕ). AreNear ((sram_of xs + q * d.sram) ∷ (tcam_of xs + q * d.tcam) ∷ other_numbers xs d) ys) (sym (numbers_with xs d (q + 1)))
    (omega (arith, small.sram), (omega (arith, small.tcam), (omega arith, (omega arith, (omega arith, (omega arith, (omega arith, (omega arith, tt)))))))))

-- beside it none
pub beside_none : (xs : List Standing) (d : Demand) (q : ℕ) → q ≡ 0 → beside xs d q ≡ xs
beside_none xs d q none = ap (beside xs d) none ∙ append-nil xs

pub near_beside : (xs : List Standing) (d : Demand) (q : ℕ) (more : Load) → IsSmall d → Holds (with_one xs d (q + 1)) more
    → AreNear (numbers_of (beside xs d q)) (numbers_of (beside xs d (q + 1)))
near_beside xs d q more small h =
    let y : Standing = record { demand = d; quanta = q + 1 } in
    let next : beside xs d (q + 1) ≡ with_one xs d (q + 1) = beside_some xs d (q + 1) (omega arith) in
    let exact = bits_small (flat_map (λ (x : Standing). x.demand.exact_words) xs ++ d.exact_words) more.exact
    (subst (λ (l : List ℕ). Marks l more.exact) (words_more (λ x. x.demand.exact_words) xs y) h.exact) in
    let ternary = bits_small (flat_map (λ (x : Standing). x.demand.ternary_words) xs ++ d.ternary_words) more.ternary
    (subst (λ (l : List ℕ). Marks l more.ternary) (words_more (λ x. x.demand.ternary_words) xs y) h.ternary) in
    subst (λ (zs : List Standing). AreNear (numbers_of (beside xs d q)) (numbers_of zs)) (sym next)
    (elim (cases_eq q 0) [
      | inl none ↦
          subst (λ (zs : List Standing). AreNear (numbers_of zs) (numbers_of (with_one xs d (q + 1)))) (sym (beside_none xs d q none))
          (let one : q + 1 ≡ 1 = omega arith in subst (λ (m : ℕ). AreNear (numbers_of xs) (numbers_of (with_one xs d m))) (sym one) (near_first xs d small exact ternary))
      | inr some ↦
          subst (λ (zs : List Standing). AreNear (numbers_of zs) (numbers_of (with_one xs d (q + 1)))) (sym (beside_some xs d q (omega arith))) (near_more xs d q small)
    ])
