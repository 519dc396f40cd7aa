-- Lemmas on memory formats.
use Rattle.std.proofs.Common.{◌≡◌, ℕ, zero, suc, ◌+◌, ◌-◌, ◌*◌, ◌<◌, ◌≤◌, List, [], ◌∷◌, ◌++◌, Bool, true, false, cond, map, filter, length, get_or, refl, ap, sym, ◌∙◌, subst, arith, unwrap_or}
use Rattle.std.specs.Prelude.{All, nat_lt, ◌==◌, ◌&&◌, ◌||◌}
use Rattle.std.specs.Cmp.{IsStrictWeakOrder}
use Rattle.std.specs.List.{flat_map, range_with_len, best_of}
use Rattle.std.proofs.Math.Nat.{mul-le-mul_left, mul-le-mul}
use Rattle.std.proofs.lemmas.Nat.{div_below, le-div}
use Rattle.std.proofs.lemmas.List.{append_assoc}
use Rattle.std.proofs.lemmas.List.FromFn.{map-range_with_len_more, length-range_with_len, get_or-range_with_len}
use Rattle.std.proofs.lemmas.List.Concat.{flat_map-append}
use Rattle.std.proofs.lemmas.List.Elements.{All-get_or, All-from_get_or, All-cons, All-head, All-tail, All-nil, All-map}
use Rattle.std.proofs.lemmas.List.MinMax.{IsFirstBest-from_best_of}
use Rattle.std.proofs.lemmas.Bool.{leb-true, le-leb}
use Rattle.std.proofs.lemmas.Bool.Decides.{nat_tests}
use Rattle.rmt_bits.proofs.ListLaws.{range_more}
use Rattle.rmt_bits.proofs.AllLaws.{All-parts, All-flat_map, All-unmap, All-unfilter, All-between}
use Rattle.rmt_config.specs.BlockCounts.{divided_up, record_width, records_a_row, record_units}
use Rattle.rmt_pack.specs.declared.format.Format.{Format}
use Rattle.rmt_pack.specs.declared.format.Need.{Need}
use Rattle.rmt_pack.specs.Formats.{first_of, is_in_stage, layouts_of_width, exact_layout, exact_sram, most_cells, exact_formats, exact_format, no_memory, goes_before, whole, IsExactFormat, IsTaken, IsNeed}

-- ---- the list of all layouts

-- the layouts in units narrower than k blocks
abbrev pub narrower : Need → ℕ → List Format
narrower n k = flat_map (layouts_of_width n) (range_with_len 1 (k - 1))

-- those and the first cells of the next width, with one more
layouts_more : (n : Need) (front : List Format) (k p : ℕ) → 0 < p
    → (front ++ map (exact_layout n k) (range_with_len 1 (p - 1))) ++ exact_layout n k p ∷ [] ≡ front ++ map (exact_layout n k) (range_with_len 1 (p + 1 - 1))
layouts_more n front k p pos =
    let before : (p - 1) + 1 ≡ p + 1 - 1 = omega arith in
    let at : 1 + (p - 1) ≡ p = omega arith in
    append_assoc front _ _ ∙ ap (λ (fs : List Format). front ++ fs)
    (sym (map-range_with_len_more (exact_layout n k) 1 (p - 1) p at) ∙ ap (λ (m : ℕ). map (exact_layout n k) (range_with_len 1 m)) before)

-- the layouts before one of a width and so many cells, and with it
abbrev pub seen_before : Need → ℕ → ℕ → List Format
seen_before n k p = narrower n k ++ map (exact_layout n k) (range_with_len 1 (p - 1))

pub seen_more : (n : Need) (k p : ℕ) (f : Format) → 0 < p → f ≡ exact_layout n k p → seen_before n k p ++ f ∷ [] ≡ seen_before n k (p + 1)
seen_more n k p f pos is = ap (λ (g : Format). seen_before n k p ++ g ∷ []) is ∙ layouts_more n (narrower n k) k p pos

-- all layouts of a width stand behind those of the narrower ones
pub narrower_more : (n : Need) (k m : ℕ) → 0 < k → m ≡ most_cells n k
    → narrower n k ++ map (exact_layout n k) (range_with_len 1 m) ≡ narrower n (k + 1)
narrower_more n k m pos is =
    let before : (k - 1) + 1 ≡ k + 1 - 1 = omega arith in
    let at : 1 + (k - 1) ≡ k = omega arith in
    let row : (j : ℕ) → flat_map (layouts_of_width n) (j ∷ []) ≡ layouts_of_width n j = λ j. append_nil (layouts_of_width n j) in
    ap (λ (j : ℕ). narrower n k ++ map (exact_layout n k) (range_with_len 1 j)) is
    ∙ (ap (λ (fs : List Format). narrower n k ++ fs) (sym (row k))
    ∙ (ap (λ (j : ℕ). narrower n k ++ flat_map (layouts_of_width n) (j ∷ [])) (sym at)
    ∙ (sym (flat_map-append (layouts_of_width n) (range_with_len 1 (k - 1)) ((1 + (k - 1)) ∷ []))
    ∙ (ap (flat_map (layouts_of_width n)) (sym (range_more 1 (k - 1)))
    ∙ ap (λ (j : ℕ). flat_map (layouts_of_width n) (range_with_len 1 j)) before))))
  where
    append_nil : (xs : List Format) → xs ++ [] ≡ xs
    append_nil [] = refl
    append_nil (x ∷ xs) = ap (λ (ys : List Format). x ∷ ys) (append_nil xs)

-- ---- quotients rounded up

pub divided_up-le : (a b : ℕ) → 1 ≤ b → divided_up a b ≤ a
divided_up-le a b pos =
    let grows : a * 1 ≤ a * b = mul-le-mul_left a pos in
    let below : divided_up a b < a + 1 = div_below (a + b - 1) b (a + 1) (omega arith) (omega (arith, grows)) in omega arith

-- so many of size b are enough for a
pub divided_up-covers : (a b : ℕ) → 1 ≤ b → a ≤ divided_up a b * b
divided_up-covers a b pos = omega arith

-- fewer aren't
pub divided_up-least : (a b m : ℕ) → 1 ≤ b → a ≤ m * b → divided_up a b ≤ m
divided_up-least a b m pos fits =
    let below : divided_up a b < m + 1 = div_below (a + b - 1) b (m + 1) (omega arith) (omega arith) in omega arith

-- ---- a format for every need

-- data of some bits has a record a row
pub records_a_row-some : (n : ℕ) → 1 ≤ n → 1 ≤ records_a_row n
records_a_row-some n pos = le-div 1 (112 * record_width n) n (omega arith) (omega arith)

-- the record blocks of a quantum are not many
pub record_blocks-le : (cells n : ℕ) → n ≤ 2056 → record_units cells n * record_width n ≤ cells * 19
record_blocks-le cells zero few = omega arith
record_blocks-le cells (suc n) few =
    let units : record_units cells (suc n) ≤ cells = divided_up-le cells (records_a_row (suc n)) (records_a_row-some (suc n) (omega arith)) in
    let width : record_width (suc n) ≤ 19 = omega arith in mul-le-mul units width

-- a unit that holds one cell
abbrev least_width : Need → ℕ
least_width n = divided_up (n.key + 8) 112

counters-le : (b : Bool) → cond b 4 0 ≤ 4
counters-le true = omega arith
counters-le false = omega arith

pub has_format : (n : Need) → IsNeed n → IsExactFormat n (exact_layout n (least_width n) 1)
has_format n need = record {
  has_width = omega arith;
  width = omega arith;
  has_cells = omega arith;
  cells = le-div 1 (112 * least_width n) (n.key + 8) (omega arith) (omega arith);
  layout = refl;
  one_stage = omega (arith, record_blocks-le 4 n.held (omega arith), counters-le n.counted);
}

-- ---- what holds of all formats

filtered_by : {X : Type 0} (P : X → Type 0) (b : Bool) (x : X) (xs : List X) → (b ≡ true → P x) → All P xs → All P (cond b (x ∷ xs) xs)
filtered_by P true x xs here rest = All-cons P x xs (here refl) rest
filtered_by P false x xs here rest = rest

pub filtered : {X : Type 0} (P : X → Type 0) (t : X → Bool) (xs : List X) → All (λ x. t x ≡ true → P x) xs → All P (filter t xs)
filtered P t [] all = All-nil P
filtered P t (x ∷ xs) all =
    filtered_by P (t x) x (filter t xs) (All-head (λ x. t x ≡ true → P x) x xs all) (filtered P t xs (All-tail (λ x. t x ≡ true → P x) x xs all))

pub of_range : (P : ℕ → Type 0) (a m k : ℕ) → a ≤ k → k < a + m → All P (range_with_len a m) → P k
of_range P a m k low high all =
    let at : get_or (range_with_len a m) (k - a) 0 ≡ k = get_or-range_with_len a m (k - a) 0 (omega arith) ∙ (let e : a + (k - a) ≡ k = omega arith in e) in
    let there : k - a < length (range_with_len a m) = omega (arith, length-range_with_len a m) in
    subst P at (All-get_or P (range_with_len a m) (k - a) 0 there all)

-- what holds of each item of the list of formats holds of each format
pub of_formats : (P : Format → Type 0) (n : Need) → All P (exact_formats n) → (f : Format) → IsExactFormat n f → P f
of_formats P n all f is =
    let Q : Format → Type 0 = λ g. is_in_stage g ≡ true → P g in
    let rows = All-parts Q (layouts_of_width n) (range_with_len 1 8) (All-unfilter P is_in_stage _ all) in
    let row = of_range (λ k. All Q (layouts_of_width n k)) 1 8 f.width is.has_width (omega (arith, is.width)) rows in
    let cells = All-unmap Q (exact_layout n f.width) (range_with_len 1 (most_cells n f.width)) row in
    let here : Q (exact_layout n f.width f.per) =
    of_range (λ p. Q (exact_layout n f.width p)) 1 (most_cells n f.width) f.per is.has_cells (omega (arith, is.cells)) cells in
    subst Q (sym is.layout) here (le-leb f.sram 106 is.one_stage)

-- each item is a format
pub formats_are : (n : Need) → All (IsExactFormat n) (exact_formats n)
formats_are n =
    filtered (IsExactFormat n) is_in_stage _
    (All-flat_map (λ f. is_in_stage f ≡ true → IsExactFormat n f) (layouts_of_width n) (range_with_len 1 8)
    (All-between (λ k. All (λ f. is_in_stage f ≡ true → IsExactFormat n f) (layouts_of_width n k)) 1 8 (λ k low high.
    All-map (λ f. is_in_stage f ≡ true → IsExactFormat n f) (exact_layout n k) (range_with_len 1 (most_cells n k))
    (All-between (λ p. is_in_stage (exact_layout n k p) ≡ true → IsExactFormat n (exact_layout n k p)) 1 (most_cells n k) (λ p some few passes. record {
      has_width = low;
      width = omega arith;
      has_cells = some;
      cells = omega arith;
      layout = refl;
      one_stage = leb-true (exact_sram n k p) 106 passes;
    })))))

-- ---- the format that is taken

abbrev before : ℕ → ℕ → ℕ → ℕ → ℕ → ℕ → Bool
before a b c d e f = nat_lt a d || ((a == d) && (nat_lt b e || ((b == e) && nat_lt f c)))

before_one_way : (a b c d e f : ℕ) → before a b c d e f ≡ true → before d e f a b c ≡ false
before_one_way a b c d e f h = grind (arith, nat_tests)

before_chain : (a b c d e f g h i : ℕ) → before a b c d e f ≡ false → before d e f g h i ≡ false → before a b c g h i ≡ false
before_chain a b c d e f g h i first then = grind (arith, nat_tests)

pub goes_before-orders : IsStrictWeakOrder goes_before
goes_before-orders = record {
  one_way = λ f g. before_one_way (whole f) f.width f.per (whole g) g.width g.per;
  chain = λ f g h. before_chain (whole f) f.width f.per (whole g) g.width g.per (whole h) h.width h.per;
}

-- the first of formats that are there
first_taken : (n : Need) (fs : List Format) → fs ≡ exact_formats n → IsNeed n → IsTaken n (unwrap_or (first_of fs) no_memory)
first_taken n [] is need = absurd (of_formats (λ _. ⊥) n (subst (All (λ _. ⊥)) is (All-nil (λ _. ⊥))) (exact_layout n (least_width n) 1) (has_format n need))
first_taken n (f ∷ fs) is need =
    let best = IsFirstBest-from_best_of goes_before-orders f fs in
    let format = best_of goes_before f fs in
    let P : Format → Type 0 = λ g. goes_before g format ≡ false in
    record {
      format = subst (IsExactFormat n) best.2 (All-get_or (IsExactFormat n) (f ∷ fs) best.0 f best.1.0 (subst (All (IsExactFormat n)) (sym is) (formats_are n)));
      first = of_formats P n (subst (All P) is (All-from_get_or P (f ∷ fs) f (λ k there.
          let Q : Format → Type 0 = λ r. goes_before (get_or (f ∷ fs) k f) r ≡ false in subst Q best.2 (best.1.1 k f there))));
    }

-- the memory format of an exact table is the one that is taken
pub exact_format-taken : (n : Need) → IsNeed n → IsTaken n (exact_format n)
exact_format-taken n need = first_taken n (exact_formats n) refl need
