-- The numbers of a part that keeps the rules of form, and of its cells.
use Rattle.std.proofs.Common.{◌≡◌, ◌≢◌, ℕ, ◌+◌, ◌*◌, ◌/◌, ◌%◌, ◌<◌, ◌≤◌, true, false, cond, sym, ap, ◌∙◌, subst, arith, List, [], ◌++◌, length, ◌-◌}
use Rattle.std.specs.Prelude.{MatchBool, All, AllPairs}
use Rattle.std.proofs.lemmas.Bool.{eq-eqb, ne_eqb}
use Rattle.std.specs.List.{range_with_len}
use Rattle.std.proofs.lemmas.List.FromFn.{length-range_with_len}
use Rattle.rmt_bits.proofs.AllLaws.{All-range}
use Rattle.rmt_config.specs.BlockCounts.{exact_block_counts, ternary_block_counts}
use Rattle.rmt_pack.proofs.BlockLaws.{range-joined, range-apart}
use Rattle.std.proofs.lemmas.Nat.{mul-le, div_below, div-add-mod', same_from_place}
use Rattle.rmt_pack.specs.declared.shape.Shape.{Shape}
use Rattle.rmt_pack.specs.Shape.{is_exact, cells_in, IsExact, IsTernary, IsShape}

pub exact-true : (s : Shape) → s.memory ≡ 1 → is_exact s ≡ true
exact-true s e = eq-eqb s.memory 1 e

pub exact-false : (s : Shape) → s.memory ≢ 1 → is_exact s ≡ false
exact-false s ne = ne_eqb s.memory 1 ne

pub exact-of : (s : Shape) → IsShape s → s.memory ≡ 1 → IsExact s
exact-of s is e = subst (λ b. MatchBool b (IsExact s) (IsTernary s)) (exact-true s e) is.memory

pub ternary-of : (s : Shape) → IsShape s → s.memory ≢ 1 → IsTernary s
ternary-of s is ne = subst (λ b. MatchBool b (IsExact s) (IsTernary s)) (exact-false s ne) is.memory

pub exact-cells : (s : Shape) → s.memory ≡ 1 → cells_in s ≡ 4096 * s.quanta * s.per
exact-cells s e = ap (λ b. cond b (4096 * s.quanta * s.per) (2048 * s.quanta)) (exact-true s e)

pub ternary-cells : (s : Shape) → s.memory ≢ 1 → cells_in s ≡ 2048 * s.quanta
ternary-cells s ne = ap (λ b. cond b (4096 * s.quanta * s.per) (2048 * s.quanta)) (exact-false s ne)

-- ---- parts whose blocks are numbered one after another, keys first

numbered-is : (s : Shape) (a n : ℕ) → 0 < s.key → s.key ≤ 640 → 0 < s.quanta → s.quanta ≤ 106 → MatchBool (is_exact s) (IsExact s) (IsTernary s)
    → s.keys ++ s.records ≡ range_with_len a n → a + n ≤ 106 → IsShape s
numbered-is s a n lk hk ld hd memory joined within = record {
  some_key = lk;
  most_key = hk;
  some_quanta = ld;
  most_quanta = hd;
  memory = memory;
  in_sram = subst (All (λ block. block < 106)) (sym joined) (All-range (λ block. block < 106) a n (λ w lt. omega (arith, lt, within)));
  apart = subst (AllPairs ◌≢◌) (sym joined) (range-apart a n);
}

pub exact-is : (s : Shape) (a n m : ℕ) → s.memory ≡ 1 → 0 < s.key → s.key ≤ 640 → 0 < s.quanta → s.quanta ≤ 106 → 0 < s.width → 0 < s.per
    → s.per * (s.key + 8) ≤ 112 * s.width → s.keys ≡ range_with_len a n → s.records ≡ range_with_len (a + n) m
    → n ≡ (exact_block_counts s.width s.per s.quanta s.held false).keys → m ≡ (exact_block_counts s.width s.per s.quanta s.held false).records → a + (n + m) ≤ 106 → IsShape s
exact-is s a n m kind lk hk ld hd lw lp fits ks rs en em within =
    numbered-is s a (n + m) lk hk ld hd (subst (λ b. MatchBool b (IsExact s) (IsTernary s)) (sym (exact-true s kind)) exact) joined within
  where
    joined : s.keys ++ s.records ≡ range_with_len a (n + m)
    joined = ap (λ (xs : List ℕ). xs ++ s.records) ks ∙ ap (λ (ys : List ℕ). range_with_len a n ++ ys) rs ∙ range-joined a n m

    exact : IsExact s
    exact = record {
      some_width = lw;
      some_per = lp;
      fits = fits;
      keys = ap length ks ∙ length-range_with_len a n ∙ en;
      records = ap length rs ∙ length-range_with_len (a + n) m ∙ em;
    }

pub ternary-is : (s : Shape) (a m : ℕ) → s.memory ≡ 2 → 0 < s.key → s.key ≤ 640 → 0 < s.quanta → s.quanta ≤ 106 → s.width ≡ 0 → s.per ≡ 0
    → 8 ≤ s.held → s.keys ≡ [] → s.records ≡ range_with_len a m → m ≡ (ternary_block_counts s.key s.quanta (s.held - 8) false).records → a + m ≤ 106 → IsShape s
ternary-is s a m kind lk hk ld hd no_width no_per head ks rs em within =
    numbered-is s a m lk hk ld hd (subst (λ b. MatchBool b (IsExact s) (IsTernary s)) (sym (exact-false s (not_one s.memory kind))) ternary) joined within
  where
    not_one : (kind : ℕ) → kind ≡ 2 → kind ≡ 1 → ⊥
    not_one kind e f = omega (arith, e, f)

    joined : s.keys ++ s.records ≡ range_with_len a m
    joined = ap (λ (xs : List ℕ). xs ++ s.records) ks ∙ rs

    ternary : IsTernary s
    ternary = record {
      kind = kind;
      no_width = no_width;
      no_per = no_per;
      head = head;
      keys = ap length ks;
      records = ap length rs ∙ length-range_with_len a m ∙ em;
    }

-- ---- cells

-- the way of a cell
pub way-below : (n p d : ℕ) → 0 < p → 0 < d → n < 4096 * d * p → n / p / (1024 * d) < 4
way-below n p d some_p some_d lt =
    let line : n / p < 4096 * d = div_below n p (4096 * d) some_p lt in
    div_below (n / p) (1024 * d) 4 (omega arith) (omega (arith, line))

-- an entry lies in its row
pub entry-room : (at p e size : ℕ) → at < p → p * e ≤ size → at * e + e ≤ size
entry-room at p e size lt fits =
    let le = mul-le (at + 1) e p e (omega (arith, lt)) (omega arith) in
    let next : (at + 1) * e ≡ at * e + e = omega arith in
    omega (arith, le, next, fits)

-- cells of one unit, row and position are one
pub cell-same : (n m p d : ℕ) → 0 < p → 0 < d → n < 4096 * d * p → m < 4096 * d * p
    → n / p % (1024 * d) / 1024 * 4 + n / p / (1024 * d) ≡ m / p % (1024 * d) / 1024 * 4 + m / p / (1024 * d)
    → n / p % (1024 * d) % 1024 ≡ m / p % (1024 * d) % 1024 → n % p ≡ m % p → n ≡ m
cell-same n m p d some_p some_d ln lm unit row position =
    let both = same_from_place (n / p % (1024 * d) / 1024) (n / p / (1024 * d)) (m / p % (1024 * d) / 1024) (m / p / (1024 * d)) 4
    (way-below n p d some_p some_d ln) (way-below m p d some_p some_d lm) unit in
    let rn : n / p % (1024 * d) / 1024 * 1024 + n / p % (1024 * d) % 1024 ≡ n / p % (1024 * d) = div-add-mod' (n / p % (1024 * d)) 1024 in
    let rm : m / p % (1024 * d) / 1024 * 1024 + m / p % (1024 * d) % 1024 ≡ m / p % (1024 * d) = div-add-mod' (m / p % (1024 * d)) 1024 in
    let rows : n / p % (1024 * d) ≡ m / p % (1024 * d) =
    sym rn ∙ ap (λ x. x * 1024 + n / p % (1024 * d) % 1024) both.0 ∙ ap (λ x. m / p % (1024 * d) / 1024 * 1024 + x) row ∙ rm in
    let lines : n / p ≡ m / p =
    sym (div-add-mod' (n / p) (1024 * d)) ∙ ap (λ x. x * (1024 * d) + n / p % (1024 * d)) both.1 ∙ ap (λ x. m / p / (1024 * d) * (1024 * d) + x) rows ∙ div-add-mod' (m / p) (1024 * d) in
    sym (div-add-mod' n p) ∙ ap (λ x. x * p + n % p) lines ∙ ap (λ x. m / p * p + x) position ∙ div-add-mod' m p
