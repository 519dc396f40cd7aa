-- The rows of the entries of a table stand in the order of their precedence.
use Rattle.std.proofs.Common.{◌≡◌, ℕ, ◌+◌, ◌-◌, ◌<◌, Bool, true, false, ◌&&◌, cond, List, [], ◌∷◌, ◌++◌, Some, map, length, refl, sym, ap, ◌∙◌, subst, inl, inr, arith}
use Rattle.std.specs.Prelude.{All, Contains, filter, slice_get}
use Rattle.std.specs.List.{flat_map, list_all}
use Rattle.std.specs.List.Sorted.{IsStrictlySortedBy}
use Rattle.std.specs.BTreeMap.{IsOrdered, get, is_at}
use Rattle.std.specs.Map.{keys_of, lookup, values_of}
use Rattle.std.specs.Ordering.{nat_cmp}
use Rattle.std.specs.declared.cmp.Ordering.TheVariants.{Less}
use Rattle.std.proofs.lemmas.Bool.{and_parts, cases_lt}
use Rattle.std.proofs.lemmas.List.Elements.{All-contains, All-head, All-tail, Contains-append_left, Contains-append_right}
use Rattle.std.proofs.lemmas.List.FromFn.{length-map-range_with_len}
use Rattle.std.proofs.lemmas.Map.Keys.{sorted_tail}
use Rattle.std.proofs.lemmas.Map.Views.{All-after_first}
use Rattle.std.proofs.lemmas.Option.{none-some, same_Some, slice_get_within}
use Rattle.rmt_bits.proofs.AllLaws.{All-from_test}
use Rattle.rmt_bits.proofs.ListLaws.{slice_get-end, slice_get-front}
use Rattle.rmt_bits.proofs.MemberLaws.{Contains-filter, Contains-first, Contains-later, Contains-map, Contains-split}
use Rattle.rmt_bits.proofs.SearchLaws.{less}
use Rattle.rmt_ast.specs.RowOrder.{goes_first}
use Rattle.rmt_ast.specs.declared.entry.Entry.{Entry}
use Rattle.rmt_ast.specs.declared.names.TableName.{TableName}
use Rattle.rmt_ast.specs.declared.program.Kind.{Kind}
use Rattle.rmt_ast.specs.declared.program.Kind.TheVariants as kind
use Rattle.rmt_config.specs.NamesForm.{each_later}
use Rattle.rmt_book.specs.declared.kept.Kept.{Kept}
use Rattle.rmt_book.specs.declared.table.PartCells.{PartCells}
use Rattle.rmt_book.specs.PartShape.{cell_count}
use Rattle.rmt_update.specs.RowIndex.{part_rows, rows_of}
use Rattle.rmt_book.specs.Seen.{entries_in, is_seen}
use Rattle.rmt_book.specs.Told.{told_entry}
use Rattle.rmt_update.proofs.RoomNumbers.{slice_get-map_range}
use Rattle.rmt_update.proofs.RowIndexLaws.{same-number}

-- ---- items that stand in an order

module _ {X : Type 0} (rule : X → X → Bool) where
  later-left : (xs ys : List X) → each_later rule (xs ++ ys) ≡ true → each_later rule xs ≡ true
  later-left [] ys h = refl
  later-left (x ∷ xs) ys h =
      let both = and_parts (list_all (rule x) (xs ++ ys)) (each_later rule (xs ++ ys)) h in
      join (list_all (rule x) xs) (each_later rule xs) (front xs both.0) (later-left xs ys both.1)
    where
      join : (a b : Bool) → a ≡ true → b ≡ true → (a && b) ≡ true
      join true b p q = q
      join false b p q = p

      front : (zs : List X) → list_all (rule x) (zs ++ ys) ≡ true → list_all (rule x) zs ≡ true
      front [] e = refl
      front (z ∷ zs) e = let two = and_parts (rule x z) (list_all (rule x) (zs ++ ys)) e in join (rule x z) (list_all (rule x) zs) two.0 (front zs two.1)

  later-right : (xs ys : List X) → each_later rule (xs ++ ys) ≡ true → each_later rule ys ≡ true
  later-right [] ys h = h
  later-right (x ∷ xs) ys h = later-right xs ys (and_parts (list_all (rule x) (xs ++ ys)) (each_later rule (xs ++ ys)) h).1

  later-head : (x : X) (xs : List X) (y : X) → each_later rule (x ∷ xs) ≡ true → Contains xs y → rule x y ≡ true
  later-head x xs y h there =
      All-contains (λ z. rule x z ≡ true) xs y (All-from_test (λ z. rule x z ≡ true) (rule x) (λ z e. e) xs (and_parts (list_all (rule x) xs) (each_later rule xs) h).0) there

  later-across : (xs ys : List X) (x y : X) → each_later rule (xs ++ ys) ≡ true → Contains xs x → Contains ys y → rule x y ≡ true
  later-across [] ys x y h in_xs in_ys = absurd (let lt = in_xs.1 in omega (arith, lt))
  later-across (z ∷ xs) ys x y h in_xs in_ys = elim (Contains-split z xs x in_xs) [
    | inl same ↦ subst (λ w. rule w y ≡ true) same (later-head z (xs ++ ys) y h (Contains-append_right xs ys y in_ys))
    | inr more ↦ later-across xs ys x y (and_parts (list_all (rule z) (xs ++ ys)) (each_later rule (xs ++ ys)) h).1 more in_ys
  ]

-- ---- the cells of a part

-- an entry of cells is found behind the first cell
found-behind : (a : ℕ) (es : List (ℕ × Kept)) (n : ℕ) (k : Kept) → All (λ m. nat_cmp a m ≡ Less) (keys_of es) → lookup (is_at (nat_cmp n)) es ≡ Some k → a < n
found-behind a [] n k low at = absurd (none-some k at)
found-behind a (e ∷ es) n k low at = by (is_at (nat_cmp n) e.0) refl at (found-behind a es n k (All-tail (λ m. nat_cmp a m ≡ Less) e.0 (keys_of es) low))
  where
    here : a < e.0
    here = let l = All-head (λ m. nat_cmp a m ≡ Less) e.0 (keys_of es) low in less a e.0 l

    by : (b : Bool) → is_at (nat_cmp n) e.0 ≡ b → cond b (Some e.1) (lookup (is_at (nat_cmp n)) es) ≡ Some k → (lookup (is_at (nat_cmp n)) es ≡ Some k → a < n) → a < n
    by true is h rest = subst (λ m. a < m) (sym (same-number n e.0 is)) here
    by false is h rest = rest h

-- and is among its values
found-value : (es : List (ℕ × Kept)) (n : ℕ) (k : Kept) → lookup (is_at (nat_cmp n)) es ≡ Some k → Contains (values_of es) k
found-value [] n k at = absurd (none-some k at)
found-value (e ∷ es) n k at = by (is_at (nat_cmp n) e.0) at (found-value es n k)
  where
    by : (b : Bool) → cond b (Some e.1) (lookup (is_at (nat_cmp n)) es) ≡ Some k → (lookup (is_at (nat_cmp n)) es ≡ Some k → Contains (values_of es) k) → Contains (e.1 ∷ values_of es) k
    by true h rest = subst (Contains (e.1 ∷ values_of es)) (same_Some e.1 k h) (Contains-first e.1 (values_of es))
    by false h rest = Contains-later e.1 (values_of es) k (rest h)

module _ (t : TableName) (of : Kind) (odd : Bool) where
  abbrev pub first_kept : Kept → Kept → Bool
  first_kept k l = goes_first of (told_entry t 0 k) (told_entry t 0 l)

  -- what goes first doesn't depend on the part
  same-first : (f g : ℕ) (k l : Kept) → goes_first of (told_entry t f k) (told_entry t g l) ≡ first_kept k l
  same-first f g k l = by of
    where
      by : (j : Kind) → goes_first j (told_entry t f k) (told_entry t g l) ≡ goes_first j (told_entry t 0 k) (told_entry t 0 l)
      by kind.Keyless = refl
      by kind.Exact = refl
      by kind.Prefix = refl
      by kind.Ternary = refl

  abbrev told_of : ℕ → List (ℕ × Kept) → List Entry
  told_of f es = map (told_entry t f) (filter (is_seen odd) (values_of es))

  told-there : (f : ℕ) (es : List (ℕ × Kept)) (n : ℕ) (k : Kept) → lookup (is_at (nat_cmp n)) es ≡ Some k → is_seen odd k ≡ true → Contains (told_of f es) (told_entry t f k)
  told-there f es n k at seen = Contains-map (told_entry t f) (filter (is_seen odd) (values_of es)) k (Contains-filter (is_seen odd) (values_of es) k (found-value es n k at) seen)

  cells-rise : (f : ℕ) (es : List (ℕ × Kept)) → IsStrictlySortedBy nat_cmp (keys_of es) → each_later (goes_first of) (told_of f es) ≡ true → (n m : ℕ) (k l : Kept) → n < m
      → lookup (is_at (nat_cmp n)) es ≡ Some k → lookup (is_at (nat_cmp m)) es ≡ Some l → is_seen odd k ≡ true → is_seen odd l ≡ true → first_kept k l ≡ true
  cells-rise f [] sorted h n m k l lt at_k at_l see_k see_l = absurd (none-some k at_k)
  cells-rise f (e ∷ es) sorted h n m k l lt at_k at_l see_k see_l =
      by (is_at (nat_cmp n) e.0) refl (is_at (nat_cmp m) e.0) refl at_k at_l (cells-rise f es (sorted_tail nat_cmp e.0 (keys_of es) sorted) rest n m k l lt)
    where
      low : All (λ q. nat_cmp e.0 q ≡ Less) (keys_of es)
      low = All-after_first nat_cmp e.0 (keys_of es) sorted

      rest : each_later (goes_first of) (told_of f es) ≡ true
      rest = drop (is_seen odd e.1) h
        where
          drop : (b : Bool) → each_later (goes_first of) (map (told_entry t f) (cond b (e.1 ∷ filter (is_seen odd) (values_of es)) (filter (is_seen odd) (values_of es)))) ≡ true → each_later (goes_first of) (told_of f es) ≡ true
          drop true g = (and_parts (list_all (goes_first of (told_entry t f e.1)) (told_of f es)) (each_later (goes_first of) (told_of f es)) g).1
          drop false g = g

      head : is_seen odd e.1 ≡ true → Contains (told_of f es) (told_entry t f l) → goes_first of (told_entry t f e.1) (told_entry t f l) ≡ true
      head seen there =
          later-head (goes_first of) (told_entry t f e.1) (told_of f es) (told_entry t f l)
          (subst (λ b. each_later (goes_first of) (map (told_entry t f) (cond b (e.1 ∷ filter (is_seen odd) (values_of es)) (filter (is_seen odd) (values_of es)))) ≡ true) seen h) there

      by : (a : Bool) → is_at (nat_cmp n) e.0 ≡ a → (b : Bool) → is_at (nat_cmp m) e.0 ≡ b → cond a (Some e.1) (lookup (is_at (nat_cmp n)) es) ≡ Some k → cond b (Some e.1) (lookup (is_at (nat_cmp m)) es) ≡ Some l
          → (lookup (is_at (nat_cmp n)) es ≡ Some k → lookup (is_at (nat_cmp m)) es ≡ Some l → is_seen odd k ≡ true → is_seen odd l ≡ true → first_kept k l ≡ true) → first_kept k l ≡ true
      by true is true is2 p q more = let one = same-number n e.0 is in let two = same-number m e.0 is2 in absurd (omega (arith, lt, one, two))
      by true is false is2 p q more =
          let same : e.1 ≡ k = same_Some e.1 k p in
          sym (same-first f f k l)
          ∙ subst (λ (x : Kept). goes_first of (told_entry t f x) (told_entry t f l) ≡ true) same (head (ap (is_seen odd) same ∙ see_k) (told-there f es m l q see_l))
      by false is true is2 p q more =
          let one = found-behind e.0 es n k low p in let two = same-number m e.0 is2 in absurd (omega (arith, lt, one, two))
      by false is false is2 p q more = more p q see_k see_l

  -- ---- the parts of a table

  row-cell : (x : PartCells) (i : ℕ) (k : Kept) → slice_get (part_rows x) i ≡ Some (Some k) → get nat_cmp x.cells i ≡ Some k
  row-cell x i k at =
      let within = slice_get_within (part_rows x) i (Some k) at in
      let long = length-map-range_with_len (get nat_cmp x.cells) 0 (cell_count x.shape.grid) in
      let none : 0 + i ≡ i = omega arith in
      same_Some (get nat_cmp x.cells i) (Some k) (sym (ap (λ n. Some (get nat_cmp x.cells n)) none) ∙ sym (slice_get-map_range (get nat_cmp x.cells) 0 (cell_count x.shape.grid) i (omega (arith, within, long))) ∙ at)

  row-told : (xs : List PartCells) (i : ℕ) (k : Kept) → slice_get (rows_of xs) i ≡ Some (Some k) → is_seen odd k ≡ true → (f : ℕ) × Contains (flat_map (entries_in odd t) xs) (told_entry t f k)
  row-told [] i k at seen = absurd (none-some (Some k) at)
  row-told (x ∷ xs) i k at seen = elim (cases_lt i (length (part_rows x))) [
    | inl lt ↦
        let here = row-cell x i k (sym (slice_get-front (part_rows x) (rows_of xs) i lt) ∙ at) in
        (x.first, Contains-append_left (entries_in odd t x) (flat_map (entries_in odd t) xs) (told_entry t x.first k) (told-there x.first x.cells.entries i k here seen))
    | inr le ↦
        let back : i ≡ length (part_rows x) + (i - length (part_rows x)) = omega (arith, le) in
        let rest = row-told xs (i - length (part_rows x)) k (sym (slice_get-end (part_rows x) (rows_of xs) (i - length (part_rows x))) ∙ ap (slice_get (part_rows x ++ rows_of xs)) (sym back) ∙ at) seen in
        (rest.0, Contains-append_right (entries_in odd t x) (flat_map (entries_in odd t) xs) (told_entry t rest.0 k) rest.1)
  ]

  pub rows-rise : (xs : List PartCells) → All (λ (x : PartCells). IsOrdered nat_cmp x.cells) xs → each_later (goes_first of) (flat_map (entries_in odd t) xs) ≡ true → (i j : ℕ) (k l : Kept) → i < j
      → slice_get (rows_of xs) i ≡ Some (Some k) → slice_get (rows_of xs) j ≡ Some (Some l) → is_seen odd k ≡ true → is_seen odd l ≡ true → first_kept k l ≡ true
  rows-rise [] ordered h i j k l lt at_k at_l see_k see_l = absurd (none-some (Some k) at_k)
  rows-rise (x ∷ xs) ordered h i j k l lt at_k at_l see_k see_l =
      let size = length (part_rows x) in
      elim (cases_lt j size) [
        | inl low ↦
            let low_i : i < size = omega (arith, lt, low) in
            cells-rise x.first x.cells.entries (All-head (λ (y : PartCells). IsOrdered nat_cmp y.cells) x xs ordered) (later-left (goes_first of) (entries_in odd t x) (flat_map (entries_in odd t) xs) h) i j k l lt
            (row-cell x i k (sym (slice_get-front (part_rows x) (rows_of xs) i low_i) ∙ at_k)) (row-cell x j l (sym (slice_get-front (part_rows x) (rows_of xs) j low) ∙ at_l)) see_k see_l
        | inr high ↦
            let back_j : j ≡ size + (j - size) = omega (arith, high) in
            let at_back : slice_get (rows_of xs) (j - size) ≡ Some (Some l) = sym (slice_get-end (part_rows x) (rows_of xs) (j - size)) ∙ ap (slice_get (part_rows x ++ rows_of xs)) (sym back_j) ∙ at_l in
            elim (cases_lt i size) [
              | inl low_i ↦
                  let there = row-told xs (j - size) l at_back see_l in
                  let own = told-there x.first x.cells.entries i k (row-cell x i k (sym (slice_get-front (part_rows x) (rows_of xs) i low_i) ∙ at_k)) see_k in
                  sym (same-first x.first there.0 k l) ∙ later-across (goes_first of) (entries_in odd t x) (flat_map (entries_in odd t) xs) (told_entry t x.first k) (told_entry t there.0 l) h own there.1
              | inr high_i ↦
                  let back_i : i ≡ size + (i - size) = omega (arith, high_i) in
                  rows-rise xs (All-tail (λ (y : PartCells). IsOrdered nat_cmp y.cells) x xs ordered) (later-right (goes_first of) (entries_in odd t x) (flat_map (entries_in odd t) xs) h) (i - size) (j - size) k l (omega (arith, lt, high_i))
                  (sym (slice_get-end (part_rows x) (rows_of xs) (i - size)) ∙ ap (slice_get (part_rows x ++ rows_of xs)) (sym back_i) ∙ at_k) at_back see_k see_l
            ]
      ]
