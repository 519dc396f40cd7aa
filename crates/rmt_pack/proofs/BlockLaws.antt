-- Lists of blocks that differ, and entries in the rows of their units.
use Rattle.std.proofs.Common.{◌≡◌, ◌≢◌, ℕ, ◌∷◌, suc, zero, ◌+◌, ◌*◌, ◌^◌, ◌<◌, ◌≤◌, List, ◌++◌, length, get_or, take, drop, sym, ap, ◌∙◌, subst, arith, inl, inr, [], refl, ◌/◌, ◌%◌, map, true}
use Rattle.std.specs.Prelude.{All, AllPairs}
use Rattle.std.specs.List.{range_with_len}
use Rattle.std.proofs.lemmas.Bool.{cases_eq, cases_order}
use Rattle.std.proofs.lemmas.List.{get_or_default, get_or-take, get_or-drop, length-take, length-drop, get_or_append_left, get_or-append-add, length-append}
use Rattle.std.proofs.lemmas.List.FromFn.{length-range_with_len, get_or-range_with_len}
use Rattle.std.proofs.lemmas.Nat.{mul-le, same_from_place, pow_pos, div_below}
use Rattle.rmt_bits.specs.Bits.{slice, deposit}
use Rattle.rmt_bits.proofs.BitLaws.{slice-deposit_same, slice-deposit_above, slice-deposit_below, deposit-add, deposit-lt}
use Rattle.rmt_config.specs.Cells.{Blocks, unit_row, blocks_at}
use Rattle.rmt_pack.specs.Cells.{PutsBits}
use Rattle.rmt_pack.proofs.RunLaws.{unit_row-same}
use Rattle.std.proofs.Math.Nat.{mod-eq_of_lt}
use Rattle.rmt_config.specs.CellForm.{EndsAt}
use Rattle.rmt_bits.proofs.ListLaws.{part-below}

-- ---- items of a list that differ

-- two places of one item are one
pub place-same : (xs : List ℕ) (i j : ℕ) → AllPairs ◌≢◌ xs → i < length xs → j < length xs → get_or xs i 0 ≡ get_or xs j 0 → i ≡ j
place-same xs i j apart li lj e =
    elim (cases_order i j) as (λ _. i ≡ j) [
      | inl same ↦ same
      | inr (inl less) ↦ absurd (apart i j 0 less lj e)
      | inr (inr more) ↦ absurd (apart j i 0 more li (sym e))
    ]

-- an item of one list isn't one of the other
pub apart-both : (xs ys : List ℕ) (i j : ℕ) → AllPairs ◌≢◌ (xs ++ ys) → i < length xs → j < length ys → get_or xs i 0 ≡ get_or ys j 0 → ⊥
apart-both xs ys i j apart li lj e =
    let long : length xs + j < length (xs ++ ys) = omega (arith, length-append xs ys) in
    apart i (length xs + j) 0 (omega arith) long (get_or_append_left xs ys 0 i li ∙ e ∙ sym (get_or-append-add xs ys j 0))

-- ---- some of a list

pub part-length : (many first : ℕ) (xs : List ℕ) → first + many ≤ length xs → length (take many (drop first xs)) ≡ many
part-length many first xs within = omega (arith, length-take many (drop first xs), length-drop first xs)

pub part-item : (many first i d : ℕ) (xs : List ℕ) → i < length (take many (drop first xs)) → get_or (take many (drop first xs)) i d ≡ get_or xs (first + i) d
part-item many first i d xs li = get_or-take many (drop first xs) i d (part-below many first i xs li).0 ∙ get_or-drop first xs i d

pub part-all : (P : ℕ → Type 0) (many first : ℕ) (xs : List ℕ) → All P xs → All P (take many (drop first xs))
part-all P many first xs all i d li = subst P (sym (part-item many first i d xs li)) (all (first + i) d (part-below many first i xs li).1)

pub part-apart : (many first : ℕ) (xs : List ℕ) → AllPairs ◌≢◌ xs → AllPairs ◌≢◌ (take many (drop first xs))
part-apart many first xs apart i j d less lj e =
    let li : i < length (take many (drop first xs)) = omega arith in
    let more : first + i < first + j = omega arith in
    apart (first + i) (first + j) d more (part-below many first j xs lj).1
    (sym (part-item many first i d xs li) ∙ e ∙ part-item many first j d xs lj)

-- ---- what bits that are put leave

-- rows of blocks none of which was written
pub row-apart : (old new : Blocks) (row : ℕ) (blocks : List ℕ) (low len x row' : ℕ) (others : List ℕ) → PutsBits old new row blocks low len x
    → ((i k : ℕ) → i < length others → k < length blocks → row' ≡ row → get_or blocks k 0 ≡ get_or others i 0 → ⊥)
    → unit_row 112 new row' others ≡ unit_row 112 old row' others
row-apart old new row blocks low len x row' others p apart =
    unit_row-same 112 new old row' others (λ i li.
    p.elsewhere (get_or others i 0) row' (λ er has.
    let k = has.0 in
    let there = has.1 in
    apart i k li there er (get_or_default blocks k 0 (get_or others i 0) there ∙ has.2)))

-- the row of another unit of a list, or another row of this one
pub row-other : (old new : Blocks) (bs : List ℕ) (each u row low len x u' row' : ℕ) → AllPairs ◌≢◌ bs → PutsBits old new row (blocks_at bs each u) low len x
    → (u' ≡ u → row' ≡ row → ⊥) → unit_row 112 new row' (blocks_at bs each u') ≡ unit_row 112 old row' (blocks_at bs each u')
row-other old new bs each u row low len x u' row' apart p other =
    row-apart old new row (blocks_at bs each u) low len x row' (blocks_at bs each u') p (λ i k li lk er e.
    let mine = part-below each (u * each) k bs lk in
    let its = part-below each (u' * each) i bs li in
    let same : u * each + k ≡ u' * each + i =
    place-same bs (u * each + k) (u' * each + i) apart mine.1 its.1 (sym (part-item each (u * each) k 0 bs lk) ∙ e ∙ part-item each (u' * each) i 0 bs li) in
    other (sym (same_from_place u k u' i each mine.0 its.0 same).0) er)

-- the row of a unit of a list none of whose blocks was written
pub row-behind : (old new : Blocks) (bs cs : List ℕ) (first many row low len x first' many' row' : ℕ)
    → ((i j : ℕ) → i < length bs → j < length cs → get_or bs i 0 ≡ get_or cs j 0 → ⊥)
    → PutsBits old new row (take many (drop first bs)) low len x
    → unit_row 112 new row' (take many' (drop first' cs)) ≡ unit_row 112 old row' (take many' (drop first' cs))
row-behind old new bs cs first many row low len x first' many' row' apart p =
    row-apart old new row (take many (drop first bs)) low len x row' (take many' (drop first' cs)) p (λ i k li lk er e.
    apart (first + k) (first' + i) (part-below many first k bs lk).1 (part-below many' first' i cs li).1
    (sym (part-item many first k 0 bs lk) ∙ e ∙ part-item many' first' i 0 cs li))

-- ---- entries of e bits

-- an entry that was written
pub entry-put : (old new : Blocks) (row : ℕ) (blocks : List ℕ) (low len x : ℕ) → x < 2 ^ len → PutsBits old new row blocks low len x
    → slice (unit_row 112 new row blocks) low len ≡ x
entry-put old new row blocks low len x small p =
    ap (λ n. slice n low len) p.here ∙ slice-deposit_same (unit_row 112 old row blocks) low len x small

-- another entry, of another unit, row or position
pub entry-stays : (old new : Blocks) (bs : List ℕ) (each u row at e x u' row' at' : ℕ) → AllPairs ◌≢◌ bs → x < 2 ^ e
    → PutsBits old new row (blocks_at bs each u) (at * e) e x → (u' ≡ u → row' ≡ row → at' ≡ at → ⊥)
    → slice (unit_row 112 new row' (blocks_at bs each u')) (at' * e) e ≡ slice (unit_row 112 old row' (blocks_at bs each u')) (at' * e) e
entry-stays old new bs each u row at e x u' row' at' apart small p other =
    elim (cases_eq u' u) as (λ _. now ≡ before) [
      | inr ne ↦ elsewhere (λ eu er. ne eu)
      | inl eu ↦ elim (cases_eq row' row) as (λ _. now ≡ before) [
        | inr ne ↦ elsewhere (λ _ er. ne er)
        | inl er ↦ beside eu er
      ]
    ]
  where
    now : ℕ
    now = slice (unit_row 112 new row' (blocks_at bs each u')) (at' * e) e

    before : ℕ
    before = slice (unit_row 112 old row' (blocks_at bs each u')) (at' * e) e

    elsewhere : (u' ≡ u → row' ≡ row → ⊥) → now ≡ before
    elsewhere not_here = ap (λ n. slice n (at' * e) e) (row-other old new bs each u row (at * e) e x u' row' apart p not_here)

    v : ℕ
    v = unit_row 112 old row (blocks_at bs each u)

    in_row : (at' ≡ at → ⊥) → slice (deposit v (at * e) e x) (at' * e) e ≡ slice v (at' * e) e
    in_row ne =
        elim (cases_order at' at) as (λ _. slice (deposit v (at * e) e x) (at' * e) e ≡ slice v (at' * e) e) [
          | inl same ↦ absurd (ne same)
          | inr (inl less) ↦
              let le = mul-le (at' + 1) e at e (omega (arith, less)) (omega arith) in
              let next : (at' + 1) * e ≡ at' * e + e = omega arith in
              slice-deposit_below v (at * e) e x (at' * e) e small (omega (arith, le, next))
          | inr (inr more) ↦
              let le = mul-le (at + 1) e at' e (omega (arith, more)) (omega arith) in
              let next : (at + 1) * e ≡ at * e + e = omega arith in
              slice-deposit_above v (at * e) e x (at' * e) e small (omega (arith, le, next))
        ]

    beside : u' ≡ u → row' ≡ row → now ≡ before
    beside eu er =
        ap (λ n. slice (unit_row 112 new row' (blocks_at bs each n)) (at' * e) e) eu
        ∙ ap (λ n. slice (unit_row 112 new n (blocks_at bs each u)) (at' * e) e) er
        ∙ ap (λ n. slice n (at' * e) e) p.here
        ∙ in_row (other eu er)
        ∙ ap (λ n. slice (unit_row 112 old n (blocks_at bs each u)) (at' * e) e) (sym er)
        ∙ ap (λ n. slice (unit_row 112 old row' (blocks_at bs each n)) (at' * e) e) (sym eu)

-- units with no bit from an end on keep that where one row of one unit is written that keeps it
pub ends-kept : (size : ℕ) (old new : Blocks) (bs : List ℕ) (each u row end : ℕ) → unit_row size new row (blocks_at bs each u) < 2 ^ end
    → ((u' row' : ℕ) → (u' ≡ u → row' ≡ row → ⊥) → unit_row size new row' (blocks_at bs each u') ≡ unit_row size old row' (blocks_at bs each u'))
    → EndsAt size old bs each end → EndsAt size new bs each end
ends-kept size old new bs each u row end here others ends u' row' =
    elim (cases_eq u' u) as (λ _. unit_row size new row' (blocks_at bs each u') < 2 ^ end) [
      | inr ne ↦ elsewhere (λ eu er. ne eu)
      | inl eu ↦ elim (cases_eq row' row) as (λ _. unit_row size new row' (blocks_at bs each u') < 2 ^ end) [
        | inr ne ↦ elsewhere (λ _ er. ne er)
        | inl er ↦
            subst (λ (k : ℕ). unit_row size new k (blocks_at bs each u') < 2 ^ end) (sym er)
            (subst (λ (k : ℕ). unit_row size new row (blocks_at bs each k) < 2 ^ end) (sym eu) here)
      ]
    ]
  where
    elsewhere : (u' ≡ u → row' ≡ row → ⊥) → unit_row size new row' (blocks_at bs each u') < 2 ^ end
    elsewhere not_here = subst (λ (k : ℕ). k < 2 ^ end) (sym (others u' row' not_here)) (ends u' row')

-- so they do where bits below the end are put
pub ends-stay : (old new : Blocks) (bs : List ℕ) (each u row low len x end : ℕ) → AllPairs ◌≢◌ bs → low + len ≤ end → x < 2 ^ len
    → PutsBits old new row (blocks_at bs each u) low len x → EndsAt 112 old bs each end → EndsAt 112 new bs each end
ends-stay old new bs each u row low len x end apart fits small p ends =
    ends-kept 112 old new bs each u row end
    (subst (λ (k : ℕ). k < 2 ^ end) (sym p.here) (deposit-lt (unit_row 112 old row (blocks_at bs each u)) low len x end fits (ends u row) small))
    (λ u' row'. row-other old new bs each u row low len x u' row' apart p) ends

-- ---- rows that are all 0

pub unit_row-zero : (size : ℕ) (held : Blocks) (row : ℕ) (blocks : List ℕ) → ((b r : ℕ) → held b r ≡ 0) → unit_row size held row blocks ≡ 0
unit_row-zero size held row [] none = refl
unit_row-zero size held row (b ∷ blocks) none =
    let first = none b row in
    let rest : 2 ^ size * unit_row size held row blocks ≡ 2 ^ size * 0 = ap (λ n. 2 ^ size * n) (unit_row-zero size held row blocks none) in
    omega (arith, first, rest)

pub slice-none : (low len : ℕ) → slice 0 low len ≡ 0
slice-none low len =
    let lt : 0 / 2 ^ low < 1 = div_below 0 (2 ^ low) 1 (pow_pos low) (omega (arith, pow_pos low)) in
    let gone : 0 / 2 ^ low ≡ 0 = omega (arith, lt) in
    ap (λ n. n % 2 ^ len) gone ∙ mod-eq_of_lt (pow_pos len)

pub entry-zero : (size : ℕ) (held : Blocks) (row : ℕ) (blocks : List ℕ) (low len : ℕ) → ((b r : ℕ) → held b r ≡ 0) → slice (unit_row size held row blocks) low len ≡ 0
entry-zero size held row blocks low len none = ap (λ n. slice n low len) (unit_row-zero size held row blocks none) ∙ slice-none low len

pub ends-zero : (size : ℕ) (held : Blocks) (bs : List ℕ) (each end : ℕ) → ((b r : ℕ) → held b r ≡ 0) → EndsAt size held bs each end
ends-zero size held bs each end none u row = subst (λ (k : ℕ). k < 2 ^ end) (sym (unit_row-zero size held row (blocks_at bs each u) none)) (pow_pos end)

-- ---- runs

-- a run above another one and then that one are one run
pub puts-both : (old mid new : Blocks) (row : ℕ) (blocks : List ℕ) (low a b y z : ℕ) → y < 2 ^ a → z < 2 ^ b
    → PutsBits old mid row blocks (low + b) a y → PutsBits mid new row blocks low b z → PutsBits old new row blocks low (a + b) (y * 2 ^ b + z)
puts-both old mid new row blocks low a b y z hy hz p q = record {
  here = q.here ∙ ap (λ n. deposit n low b z) p.here ∙ deposit-add (unit_row 112 old row blocks) low a b y z hy hz;
  elsewhere = λ block r out. q.elsewhere block r out ∙ p.elsewhere block r out;
}

-- ---- blocks numbered one after another

pub range-joined : (a n m : ℕ) → range_with_len a n ++ range_with_len (a + n) m ≡ range_with_len a (n + m)
range-joined a zero m =
    let e : a + 0 ≡ a = omega arith in
    let f : 0 + m ≡ m = omega arith in
    ap (λ k. range_with_len k m) e ∙ ap (range_with_len a) (sym f)
range-joined a (suc n) m =
    let e : a + suc n ≡ a + 1 + n = omega arith in
    let f : suc n + m ≡ suc (n + m) = omega arith in
    ap (λ k. a ∷ (range_with_len (a + 1) n ++ range_with_len k m)) e ∙ ap (λ (xs : List ℕ). a ∷ xs) (range-joined (a + 1) n m) ∙ ap (range_with_len a) (sym f)

pub range-apart : (a n : ℕ) → AllPairs ◌≢◌ (range_with_len a n)
range-apart a n i j d less lj e =
    let short : j < n = omega (arith, lj, length-range_with_len a n) in
    let one = get_or-range_with_len a n i d (omega arith) in
    let two = get_or-range_with_len a n j d short in
    omega (arith, one, two, e, less)
