-- Entries in cells, sorted.
use Rattle.std.proofs.Common.{◌≡◌, ◌≢◌, ℕ, zero, suc, ◌+◌, ◌-◌, ◌^◌, ◌<◌, List, [], ◌∷◌, ◌++◌, Some, length, map, get_or, take, refl, sym, ap, ◌∙◌, subst, ◌⊎◌, inl, inr, arith}
use Rattle.std.specs.Prelude.{All, AllPairs, option_map, slice_get, eqb}
use Rattle.std.specs.List.{range_with_len}
use Rattle.std.specs.List.Sorted.{IsPermutation}
use Rattle.std.proofs.lemmas.Bool.{cases_lt}
use Rattle.std.proofs.lemmas.Bool.Decides.{Decides-eqb}
use Rattle.std.proofs.lemmas.List.{get_or-map, length-map, length-take-le, take_more}
use Rattle.std.proofs.lemmas.List.Elements.{All-cons, All-nil}
use Rattle.std.proofs.lemmas.List.FromFn.{get_or-range_with_len, length-range_with_len}
use Rattle.std.proofs.lemmas.List.Sorted.{All-permutation, IsPermutation-map, length_permutation}
use Rattle.std.proofs.lemmas.Map.Keys.{IsDistinct-IsPermutation}
use Rattle.std.proofs.lemmas.Map.Made.{AllPairs-from_IsDistinct, IsDistinct-from_AllPairs}
use Rattle.std.proofs.lemmas.Option.{get_or_from_slice_get, same_Some, slice_get-map, slice_get_within}
use Rattle.rmt_ast.specs.declared.entry.Entry.{Entry}
use Rattle.rmt_filling.specs.Types.{Kind}
use Rattle.rmt_ast.specs.declared.program.Kind.TheVariants.{Prefix, Ternary}
use Rattle.rmt_filling.specs.declared.stands.Stand.{Stand}
use Rattle.rmt_filling.specs.Sorting.{AreSorted, placed_from, rank_in, rows_from}
use Rattle.rmt_filling.specs.EntryCells.{GoesFirst, IsLoadedAt, StandInOrder, StandOnce}
use Rattle.rmt_bits.proofs.OptionLaws.{eqb-sym}

-- ---- one more item

placed_push : (n : ℕ) (xs : List ℕ) (x : ℕ) → placed_from n (xs ++ x ∷ []) ≡ placed_from n xs ++ record { cell = x; entry = n + length xs } ∷ []
placed_push n [] x = let e : n ≡ n + 0 = omega arith in ap (λ m. record { cell = x; entry = m } ∷ []) e
placed_push n (y ∷ ys) x =
    let e : n + 1 + length ys ≡ n + length (y ∷ ys) = omega arith in
    ap (λ zs. record { cell = y; entry = n } ∷ zs) (placed_push (n + 1) ys x ∙ ap (λ m. placed_from (n + 1) ys ++ record { cell = x; entry = m } ∷ []) e)

pub placed_more : (xs : List ℕ) (i : ℕ) (d : ℕ) → i < length xs → placed_from 0 (take (i + 1) xs) ≡ placed_from 0 (take i xs) ++ record { cell = get_or xs i d; entry = i } ∷ []
placed_more xs i d lt =
    let long : 0 + length (take i xs) ≡ i = omega (arith, length-take-le i xs (omega (arith, lt))) in
    ap (placed_from 0) (take_more xs i d lt) ∙ placed_push 0 (take i xs) (get_or xs i d)
    ∙ ap (λ m. placed_from 0 (take i xs) ++ record { cell = get_or xs i d; entry = m } ∷ []) long

rows_push : (n : ℕ) (xs : List Stand) (x : Stand) → rows_from n (xs ++ x ∷ []) ≡ rows_from n xs ++ record { cell = n + length xs; entry = x.entry } ∷ []
rows_push n [] x = let e : n ≡ n + 0 = omega arith in ap (λ m. record { cell = m; entry = x.entry } ∷ []) e
rows_push n (y ∷ ys) x =
    let e : n + 1 + length ys ≡ n + length (y ∷ ys) = omega arith in
    ap (λ zs. record { cell = n; entry = y.entry } ∷ zs) (rows_push (n + 1) ys x ∙ ap (λ m. rows_from (n + 1) ys ++ record { cell = m; entry = x.entry } ∷ []) e)

pub rows_more : (xs : List Stand) (i : ℕ) (d : Stand) → i < length xs → rows_from 0 (take (i + 1) xs) ≡ rows_from 0 (take i xs) ++ record { cell = i; entry = (get_or xs i d).entry } ∷ []
rows_more xs i d lt =
    let long : 0 + length (take i xs) ≡ i = omega (arith, length-take-le i xs (omega (arith, lt))) in
    ap (rows_from 0) (take_more xs i d lt) ∙ rows_push 0 (take i xs) (get_or xs i d)
    ∙ ap (λ m. rows_from 0 (take i xs) ++ record { cell = m; entry = (get_or xs i d).entry } ∷ []) long

-- ---- what is sorted

entries_placed : (n : ℕ) (xs : List ℕ) → map (λ (s : Stand). s.entry) (placed_from n xs) ≡ range_with_len n (length xs)
entries_placed n [] = refl
entries_placed n (x ∷ xs) = ap (λ ns. n ∷ ns) (entries_placed (n + 1) xs)

cells_placed : (n : ℕ) (xs : List ℕ) → map (λ (s : Stand). s.cell) (placed_from n xs) ≡ xs
cells_placed n [] = refl
cells_placed n (x ∷ xs) = ap (λ ns. x ∷ ns) (cells_placed (n + 1) xs)

placed_there : (zs : List ℕ) (n : ℕ) (xs : List ℕ) → ((i : ℕ) → slice_get zs (n + i) ≡ slice_get xs i) → All (IsLoadedAt zs) (placed_from n xs)
placed_there zs n [] same = All-nil (IsLoadedAt zs)
placed_there zs n (x ∷ xs) same =
    let here : n + 0 ≡ n = omega arith in
    All-cons (IsLoadedAt zs) (record { cell = x; entry = n }) (placed_from (n + 1) xs) (ap (slice_get zs) (sym here) ∙ same 0)
    (placed_there zs (n + 1) xs (λ i. let next : n + 1 + i ≡ n + suc i = omega arith in ap (slice_get zs) next ∙ same (suc i)))

distinct_moved : (xs ys : List ℕ) → IsPermutation xs ys → AllPairs ◌≢◌ xs → AllPairs ◌≢◌ ys
distinct_moved xs ys moved distinct = AllPairs-from_IsDistinct Decides-eqb ys (IsDistinct-IsPermutation eqb eqb-sym xs ys moved (IsDistinct-from_AllPairs Decides-eqb xs distinct))

range_distinct : (n : ℕ) → AllPairs ◌≢◌ (range_with_len 0 n)
range_distinct n i j d lt inside e =
    let long = length-range_with_len 0 n in
    let at_j = get_or-range_with_len 0 n j d (omega (arith, inside, long)) in
    omega (arith, lt, e, get_or-range_with_len 0 n i d (omega (arith, lt, inside, long)), at_j)

-- parts of items that differ
mapped_differ : {X : Type 0} (f : X → ℕ) (xs : List X) → AllPairs ◌≢◌ (map f xs) → AllPairs (λ a b. f a ≢ f b) xs
mapped_differ f xs distinct i j d lt inside e =
    let long = length-map xs f in
    distinct i j (f d) lt (omega (arith, inside, long)) (get_or-map f xs i d (f d) (omega (arith, lt, inside)) ∙ e ∙ sym (get_or-map f xs j d (f d) inside))

module _ (numbers : List ℕ) (few : length numbers < 2 ^ 32) (ys : List Stand) (are : AreSorted numbers ys) where
  pub entries_moved : IsPermutation (range_with_len 0 (length numbers)) (map (λ (s : Stand). s.entry) ys)
  entries_moved =
      subst (λ xs. IsPermutation xs (map (λ (s : Stand). s.entry) ys)) (entries_placed 0 numbers) (IsPermutation-map (λ (s : Stand). s.entry) (placed_from 0 numbers) ys are.same)

  pub all_loaded : All (IsLoadedAt numbers) ys
  all_loaded =
      All-permutation (IsLoadedAt numbers) (placed_from 0 numbers) ys are.same
      (placed_there numbers 0 numbers (λ i. let e : 0 + i ≡ i = omega arith in ap (slice_get numbers) e))

  pub long_as : length ys ≡ length numbers
  long_as =
      let same = length-map (placed_from 0 numbers) (λ (s : Stand). s.entry) in
      let whole = ap length (entries_placed 0 numbers) in
      omega (arith, length_permutation (placed_from 0 numbers) ys are.same, same, length-range_with_len 0 (length numbers), whole)

  within : (i : ℕ) (d : Stand) → i < length ys → (get_or ys i d).entry < length numbers
  within i d lt = slice_get_within numbers (get_or ys i d).entry (get_or ys i d).cell (all_loaded i d lt)

  entries_differ : AllPairs (λ (a b : Stand). a.entry ≢ b.entry) ys
  entries_differ = mapped_differ (λ (s : Stand). s.entry) ys (distinct_moved (range_with_len 0 (length numbers)) (map (λ (s : Stand). s.entry) ys) entries_moved (range_distinct (length numbers)))

  -- by number, and those of one number by place
  pub in_turn : AllPairs (λ (a b : Stand). (a.cell < b.cell) ⊎ ((a.cell ≡ b.cell) × (a.entry < b.entry))) ys
  in_turn i j d lt inside =
      let rise = are.sorted i j d (omega (arith, lt)) inside in
      let in_a = within i d (omega (arith, lt, inside)) in
      let in_b = within j d inside in
      let ne = entries_differ i j d lt inside in
      elim (cases_lt (get_or ys i d).cell (get_or ys j d).cell) [
        | inl less ↦ inl less
        | inr more ↦ inr (omega (arith, rise, in_a, in_b, few, more), omega (arith, rise, in_a, in_b, few, more, ne))
      ]

  -- different numbers rise
  pub rise_where_apart : AllPairs ◌≢◌ numbers → AllPairs (λ (a b : Stand). a.cell < b.cell) ys
  rise_where_apart apart i j d lt inside =
      let moved = subst (λ xs. IsPermutation xs (map (λ (s : Stand). s.cell) ys)) (cells_placed 0 numbers) (IsPermutation-map (λ (s : Stand). s.cell) (placed_from 0 numbers) ys are.same) in
      let ne = mapped_differ (λ (s : Stand). s.cell) ys (distinct_moved numbers (map (λ (s : Stand). s.cell) ys) moved apart) i j d lt inside in
      elim (in_turn i j d lt inside) [
        | inl less ↦ less
        | inr both ↦ absurd (ne both.0)
      ]

  pub stand_once : AllPairs ◌≢◌ numbers → StandOnce (length numbers) ys
  stand_once apart = record { each = entries_moved; rise = rise_where_apart apart }

-- ---- one row behind another

entries_of_rows : (n : ℕ) (ss : List Stand) → map (λ (s : Stand). s.entry) (rows_from n ss) ≡ map (λ (s : Stand). s.entry) ss
entries_of_rows n [] = refl
entries_of_rows n (s ∷ ss) = ap (λ ns. s.entry ∷ ns) (entries_of_rows (n + 1) ss)

cells_of_rows : (n : ℕ) (ss : List Stand) → map (λ (s : Stand). s.cell) (rows_from n ss) ≡ range_with_len n (length ss)
cells_of_rows n [] = refl
cells_of_rows n (s ∷ ss) = ap (λ ns. n ∷ ns) (cells_of_rows (n + 1) ss)

entry_of_row : (n : ℕ) (ss : List Stand) (i : ℕ) (d : Stand) → i < length ss → (get_or (rows_from n ss) i d).entry ≡ (get_or ss i d).entry
entry_of_row n [] i d lt = absurd (omega (arith, lt))
entry_of_row n (s ∷ ss) zero d lt = refl
entry_of_row n (s ∷ ss) (suc i) d lt = entry_of_row (n + 1) ss i d (omega (arith, lt))

long_rows : (n : ℕ) (ss : List Stand) → length (rows_from n ss) ≡ length ss
long_rows n [] = refl
long_rows n (s ∷ ss) = ap suc (long_rows (n + 1) ss)

-- a rank tells which entry goes first
ranked : (kind : Kind) (e f : Entry) → (kind ≡ Prefix) ⊎ (kind ≡ Ternary) → e.rank < 2 ^ 32 → f.rank < 2 ^ 32
    → (rank_in kind e < rank_in kind f) ⊎ ((rank_in kind e ≡ rank_in kind f) × (e.number < f.number)) → GoesFirst kind e f
ranked kind e f (inl is) fits_e fits_f h = subst (λ k. (rank_in k e < rank_in k f) ⊎ ((rank_in k e ≡ rank_in k f) × (e.number < f.number)) → GoesFirst k e f) (sym is) longer h
  where
    longer : (2 ^ 32 - 1 - e.rank < 2 ^ 32 - 1 - f.rank) ⊎ ((2 ^ 32 - 1 - e.rank ≡ 2 ^ 32 - 1 - f.rank) × (e.number < f.number)) → (f.rank < e.rank) ⊎ ((e.rank ≡ f.rank) × (e.number < f.number))
    longer (inl lt) = inl (omega (arith, lt))
    longer (inr both) = let same = both.0 in inr (omega (arith, same, fits_e, fits_f), both.1)
ranked kind e f (inr is) fits_e fits_f h = subst (λ k. (rank_in k e < rank_in k f) ⊎ ((rank_in k e ≡ rank_in k f) × (e.number < f.number)) → GoesFirst k e f) (sym is) (λ x. x) h

pub stand_in_order : (kind : Kind) (es : List Entry) (ys : List Stand) → length es < 2 ^ 32 → (kind ≡ Prefix) ⊎ (kind ≡ Ternary) → All (λ (e : Entry). e.rank < 2 ^ 32) es
    → AllPairs (λ (a b : Entry). a.number < b.number) es → AreSorted (map (rank_in kind) es) ys → StandInOrder kind es (rows_from 0 ys)
stand_in_order kind es ys few has fit rising are = record {
  each = subst (λ n. IsPermutation (range_with_len 0 n) (map (λ (s : Stand). s.entry) (rows_from 0 ys))) long
      (subst (λ zs. IsPermutation (range_with_len 0 (length ranks)) zs) (sym (entries_of_rows 0 ys)) (entries_moved ranks small ys are));
  rows = cells_of_rows 0 ys ∙ ap (range_with_len 0) (long_as ranks small ys are ∙ long);
  order = in_rows;
}
  where
    ranks : List ℕ
    ranks = map (rank_in kind) es

    long : length (map (rank_in kind) es) ≡ length es
    long = length-map es (rank_in kind)

    small : length (map (rank_in kind) es) < 2 ^ 32
    small = let same = length-map es (rank_in kind) in omega (arith, same, few)

    cell_is : (s : Stand) (e : Entry) → IsLoadedAt (map (rank_in kind) es) s → slice_get es s.entry ≡ Some e → s.cell ≡ rank_in kind e
    cell_is s e loaded at =
        same_Some s.cell (rank_in kind e) (sym loaded ∙ slice_get-map (rank_in kind) es s.entry ∙ ap (option_map (rank_in kind)) at)

    rises_by : (a b : Stand) (e f : Entry) → slice_get es a.entry ≡ Some e → slice_get es b.entry ≡ Some f → a.entry < b.entry → e.number < f.number
    rises_by a b e f at bt lt =
        let same_e : (get_or es a.entry e).number ≡ e.number = ap (λ (x : Entry). x.number) (get_or_from_slice_get es a.entry e e at) in
        let same_f : (get_or es b.entry e).number ≡ f.number = ap (λ (x : Entry). x.number) (get_or_from_slice_get es b.entry f e bt) in
        omega (arith, rising a.entry b.entry e lt (slice_get_within es b.entry f bt), same_e, same_f)

    fits : (n : ℕ) (e : Entry) → slice_get es n ≡ Some e → e.rank < 2 ^ 32
    fits n e at = subst (λ (x : Entry). x.rank < 2 ^ 32) (get_or_from_slice_get es n e e at) (fit n e (slice_get_within es n e at))

    two : (a b : Stand) (e f : Entry) → IsLoadedAt (map (rank_in kind) es) a → IsLoadedAt (map (rank_in kind) es) b → (a.cell < b.cell) ⊎ ((a.cell ≡ b.cell) × (a.entry < b.entry))
        → slice_get es a.entry ≡ Some e → slice_get es b.entry ≡ Some f → GoesFirst kind e f
    two a b e f in_a in_b turn at bt =
        let cell_a = cell_is a e in_a at in
        let cell_b = cell_is b f in_b bt in
        ranked kind e f has (fits a.entry e at) (fits b.entry f bt)
        (elim turn [
          | inl lt ↦ inl (omega (arith, lt, cell_a, cell_b))
          | inr both ↦ let same = both.0 in inr (omega (arith, same, cell_a, cell_b), rises_by a b e f at bt both.1)
        ])

    in_rows : AllPairs (λ (a b : Stand). (e f : Entry) → slice_get es a.entry ≡ Some e → slice_get es b.entry ≡ Some f → GoesFirst kind e f) (rows_from 0 ys)
    in_rows i j d lt inside e f at bt =
        let in_j : j < length ys = omega (arith, inside, long_rows 0 ys) in
        let in_i : i < length ys = omega (arith, in_j, lt) in
        two (get_or ys i d) (get_or ys j d) e f (all_loaded (map (rank_in kind) es) small ys are i d in_i) (all_loaded (map (rank_in kind) es) small ys are j d in_j)
        (in_turn (map (rank_in kind) es) small ys are i j d lt in_j)
        (ap (slice_get es) (sym (entry_of_row 0 ys i d in_i)) ∙ at) (ap (slice_get es) (sym (entry_of_row 0 ys j d in_j)) ∙ bt)
