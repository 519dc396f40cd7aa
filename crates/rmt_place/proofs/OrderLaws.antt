-- The order of nodes: by level, and those of one level by number.
use Rattle.std.proofs.Common.{◌≡◌, ℕ, zero, suc, ◌+◌, ◌<◌, ◌≤◌, List, ◌++◌, length, get_or, filter, true, eqb, sym, subst, ap, ◌∙◌, arith}
use Rattle.std.specs.List.{All, AllPairs, flat_map, range_with_len}
use Rattle.std.proofs.lemmas.Bool.{eqb-true}
use Rattle.std.proofs.lemmas.List.Elements.{All-nil, All-append}
use Rattle.std.proofs.lemmas.List.Kept.{AllPairs-filter}
use Rattle.rmt_deps.proofs.EdgeLaws.{numbers_more}
use Rattle.rmt_pack.proofs.FormatLaws.{filtered}
use Rattle.rmt_place.specs.Placing.{order_of}
use Rattle.rmt_bits.proofs.PairLaws.{AllPairs-append, AllPairs-none, range_rises}
use Rattle.rmt_bits.proofs.AllLaws.{All-between}

-- ---- pairs of a list

-- ---- the order

-- one node comes before another: its level is less, or the same and its number is less
pub record Goes (levels : List ℕ) (x y : ℕ) : Type 0 where
  pub level : get_or levels x 0 ≤ get_or levels y 0
  pub number : get_or levels x 0 ≡ get_or levels y 0 → x < y

abbrev of_level : List ℕ → ℕ → List ℕ
of_level levels level = filter (λ n. eqb (get_or levels n 0) level) (range_with_len 0 (length levels))

level_is : (levels : List ℕ) (level : ℕ) → All (λ n. get_or levels n 0 ≡ level) (of_level levels level)
level_is levels level =
    filtered (λ n. get_or levels n 0 ≡ level) (λ n. eqb (get_or levels n 0) level) (range_with_len 0 (length levels))
    (All-between (λ n. eqb (get_or levels n 0) level ≡ true → get_or levels n 0 ≡ level) 0 (length levels) (λ n low high is. eqb-true (get_or levels n 0) level is))

level_goes : (levels : List ℕ) (level : ℕ) → AllPairs (Goes levels) (of_level levels level)
level_goes levels level i j d lt below =
    let x = get_or (of_level levels level) i d in
    let y = get_or (of_level levels level) j d in
    let rises = AllPairs-filter (λ x y. x < y) (λ n. eqb (get_or levels n 0) level) (range_with_len 0 (length levels)) (range_rises 0 (length levels)) i j d lt below in
    let of_y = level_is levels level j d below in
    record { level = omega (arith, level_is levels level i d (omega arith), of_y); number = λ _. rises }

abbrev first_levels : List ℕ → ℕ → List ℕ
first_levels levels k = flat_map (of_level levels) (range_with_len 0 k)

levels_below : (levels : List ℕ) (k : ℕ) → All (λ n. get_or levels n 0 < k) (first_levels levels k)
levels_below levels zero = All-nil (λ n. get_or levels n 0 < 0)
levels_below levels (suc k) =
    let more : suc k ≡ k + 1 = omega arith in
    let e : first_levels levels (suc k) ≡ first_levels levels k ++ of_level levels (0 + k) = ap (first_levels levels) more ∙ numbers_more (of_level levels) 0 k in
    subst (λ (l : List ℕ). All (λ n. get_or levels n 0 < suc k) l) (sym e)
    (All-append (λ n. get_or levels n 0 < suc k) (first_levels levels k) (of_level levels (0 + k))
    (λ i d lt. (let below = levels_below levels k i d lt in omega (arith, below)))
    (λ i d lt. (let is = level_is levels (0 + k) i d lt in omega (arith, is))))

first_goes : (levels : List ℕ) (k : ℕ) → AllPairs (Goes levels) (first_levels levels k)
first_goes levels zero = AllPairs-none (Goes levels)
first_goes levels (suc k) =
    let more : suc k ≡ k + 1 = omega arith in
    let e : first_levels levels (suc k) ≡ first_levels levels k ++ of_level levels (0 + k) = ap (first_levels levels) more ∙ numbers_more (of_level levels) 0 k in
    subst (λ (l : List ℕ). AllPairs (Goes levels) l) (sym e)
    (AllPairs-append (Goes levels) (first_levels levels k) (of_level levels (0 + k)) (first_goes levels k) (level_goes levels (0 + k))
    (λ i d lt j f inside.
    (let below = levels_below levels k i d lt in
    let is = level_is levels (0 + k) j f inside in
    record { level = omega (arith, below, is); number = λ same. absurd (omega (arith, below, is, same)) })))

pub order_goes : (levels : List ℕ) → AllPairs (Goes levels) (order_of levels)
order_goes levels = first_goes levels (length levels)
