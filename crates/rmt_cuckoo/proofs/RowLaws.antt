-- Rows of cells, and the ways of a table.
use Rattle.std.proofs.Common.{◌≡◌, ℕ, zero, suc, ◌+◌, ◌-◌, ◌*◌, ◌<◌, ◌≤◌, List, [], ◌∷◌, ◌++◌, length, map, get_or, All, Contains, ap, sym, ◌∙◌, subst, arith}
use Rattle.std.specs.List.{flat_map, range_with_len}
use Rattle.std.proofs.lemmas.List.{append_assoc}
use Rattle.std.proofs.lemmas.List.FromFn.{length-range_with_len, get_or-range_with_len}
use Rattle.std.proofs.lemmas.List.Elements.{All-nil, All-cons, All-head, All-tail, All-append, All-weaker, All-from_get_or, Contains-append_left, Contains-append_right}
use Rattle.std.proofs.lemmas.List.Sums.{sum_by-cons}
use Rattle.std.proofs.lemmas.Nat.{row_fits}
use Rattle.std.proofs.Math.Nat.{mod-lt}
use Rattle.rmt_bits.specs.Hash.{hash_row}
use Rattle.rmt_cuckoo.specs.declared.layout.Ways.{Ways}
use Rattle.rmt_cuckoo.specs.declared.way.Way.{Way}
use Rattle.rmt_cuckoo.specs.declared.choices.Choices.{Choices}
use Rattle.rmt_cuckoo.specs.Loading.{cells_in, cells_of, way_of, ways_from, ways_of, row_start, candidates}
use Rattle.rmt_cuckoo.specs.Choices.{IsWay, rows_in, choices_at, AreChoices, AreWithin}
use Rattle.rmt_cuckoo.specs.Search.{AreTaken}
use Rattle.rmt_bits.proofs.ListLaws.{range-next}

pub row_more : (all before : List ℕ) (start cell : ℕ) → start ≤ cell → all ≡ before ++ range_with_len start (cell - start)
    → all ++ cell ∷ [] ≡ before ++ range_with_len start (cell + 1 - start)
row_more all before start cell le so_far =
    ap (λ (cs : List ℕ). cs ++ cell ∷ []) so_far ∙ append_assoc before (range_with_len start (cell - start)) (cell ∷ [])
    ∙ ap (λ (cs : List ℕ). before ++ cs) (sym (range-next start cell le))

-- one taken cell more of a row
pub taken_next : (holders : List ℕ) (start cell : ℕ) → start ≤ cell → 0 < get_or holders cell 0
    → All (λ c. 0 < get_or holders c 0) (range_with_len start (cell - start))
    → All (λ c. 0 < get_or holders c 0) (range_with_len start (cell + 1 - start))
taken_next holders start cell le taken so_far =
    let P : ℕ → Type 0 = λ c. 0 < get_or holders c 0 in
    subst (All P) (sym (range-next start cell le))
    (All-append P (range_with_len start (cell - start)) (cell ∷ []) so_far (All-cons P cell [] taken (All-nil P)))

-- numbers of a range are below its end
pub range_below : (a n end : ℕ) → a + n ≤ end → All (λ c. c < end) (range_with_len a n)
range_below a n end le =
    All-from_get_or (λ c. c < end) (range_with_len a n) 0
    (λ i lt. let short : i < n = omega (arith, length-range_with_len a n) in rw (get_or-range_with_len a n i 0 short) (omega arith))

-- ---- the ways of a table

four_fit : (number first cells : ℕ) (part : Ways) → 1 ≤ part.rows → first + cells_in part ≤ cells
    → All (IsWay cells) (map (way_of number first part) (0 ∷ 1 ∷ 2 ∷ 3 ∷ []))
four_fit number first cells part row le =
    let way = way_of number first part in
    All-cons (IsWay cells) (way 0) (way 1 ∷ way 2 ∷ way 3 ∷ []) (row, omega arith)
    (All-cons (IsWay cells) (way 1) (way 2 ∷ way 3 ∷ []) (row, omega arith)
    (All-cons (IsWay cells) (way 2) (way 3 ∷ []) (row, omega arith)
    (All-cons (IsWay cells) (way 3) [] (row, omega arith) (All-nil (IsWay cells)))))

ways_fit_from : (number first cells : ℕ) (parts : List Ways) → All (λ (p : Ways). 1 ≤ p.rows) parts → first + cells_of parts ≤ cells
    → All (IsWay cells) (ways_from number first parts)
ways_fit_from number first cells [] rows le = All-nil (IsWay cells)
ways_fit_from number first cells (part ∷ parts) rows le =
    let all : cells_of (part ∷ parts) ≡ cells_in part + cells_of parts = sum_by-cons cells_in part parts in
    All-append (IsWay cells) (map (way_of number first part) (0 ∷ 1 ∷ 2 ∷ 3 ∷ [])) (ways_from (number + 4) (first + cells_in part) parts)
    (four_fit number first cells part (All-head (λ (p : Ways). 1 ≤ p.rows) part parts rows) (omega arith))
    (ways_fit_from (number + 4) (first + cells_in part) cells parts (All-tail (λ (p : Ways). 1 ≤ p.rows) part parts rows) (omega arith))

-- each way of a table has a row, and its rows lie in the table
pub ways_fit : (layout : List Ways) → All (λ (p : Ways). 1 ≤ p.rows) layout → All (IsWay (cells_of layout)) (ways_of layout)
ways_fit layout rows = ways_fit_from 0 0 (cells_of layout) layout rows (omega arith)

-- ---- the rows of a key

row_ends : (seed cells : ℕ) (key : List ℕ) (w : Way) → IsWay cells w → row_start seed key w + w.per ≤ cells
row_ends seed cells key w fits =
    let below : hash_row seed w.number key w.rows < w.rows = mod-lt _ fits.0 in
    let end = row_fits (hash_row seed w.number key w.rows) w.per w.rows w.per below (omega arith) in
    omega (arith, fits.1, end)

-- an item of one of the joined lists
pub joined : {X : Type 0} (f : X → List ℕ) (xs : List X) (d : X) (i : ℕ) (q : ℕ) → i < length xs → Contains (f (get_or xs i d)) q → Contains (flat_map f xs) q
joined f [] d i q lt h = absurd (omega arith)
joined f (x ∷ xs) d zero q lt h = Contains-append_left (f x) (flat_map f xs) q h
joined f (x ∷ xs) d (suc i) q lt h = Contains-append_right (f x) (flat_map f xs) q (joined f xs d i q (omega arith) h)

-- a cell of a key's row in one of the ways
pub in_rows : (seed : ℕ) (key : List ℕ) (ways : List Way) (d : Way) (i q : ℕ) → i < length ways
    → Contains (range_with_len (row_start seed key (get_or ways i d)) (get_or ways i d).per) q → Contains (rows_in seed ways key) q
in_rows seed key ways d i q lt there = joined (λ (way : Way). range_with_len (row_start seed key way) way.per) ways d i q lt there

-- a key's row in a way of taken cells
pub taken_row : (seed many : ℕ) (key holders : List ℕ) (w : Way) → 1 ≤ w.rows → w.first + w.rows * w.per ≤ many → AreTaken holders many
    → All (λ c. 0 < get_or holders c 0) (range_with_len (row_start seed key w) w.per)
taken_row seed many key holders w rows le taken =
    let end = row_ends seed many key w (rows, le) in
    All-weaker (λ c. c < many) (λ c. 0 < get_or holders c 0) taken (range_with_len (row_start seed key w) w.per)
    (range_below (row_start seed key w) w.per many end)

-- the cells of a key in the table are its candidates
pub choices_are : (layout : List Ways) (seed : ℕ) (keys : List (List ℕ)) (c : Choices) → AreChoices layout seed keys c → (i : ℕ) → i < length keys
    → choices_at c i ≡ candidates layout seed (get_or keys i [])
choices_are layout seed keys c are i lt =
    ap (λ (ks : List (List ℕ)). rows_in c.seed c.ways.items (get_or ks i [])) are.own_keys
    ∙ ap (λ (ws : List Way). rows_in c.seed ws (get_or keys i [])) are.ways
    ∙ ap (λ (s : ℕ). rows_in s (ways_of layout) (get_or keys i [])) are.own_seed

-- and lie in the table
pub choices_within : (layout : List Ways) (seed : ℕ) (keys : List (List ℕ)) (c : Choices) → All (λ (p : Ways). 1 ≤ p.rows) layout
    → AreChoices layout seed keys c → AreWithin (length keys) (cells_of layout) c
choices_within layout seed keys c rows are = record {
  known = let same : length c.keys.now ≡ length keys = ap length are.own_keys in omega (arith, same);
  ways = subst (All (IsWay (cells_of layout))) (sym are.ways) (ways_fit layout rows);
}

-- ways that end within fewer cells
pub end_weaker : (few many : ℕ) → few ≤ many → (ways : List Way) → All (IsWay few) ways → All (IsWay many) ways
end_weaker few many le ways fit = All-weaker (IsWay few) (IsWay many) (λ w is. (is.0, omega (arith, is.1))) ways fit

-- fewer keys
pub fewer_keys : (few many cells : ℕ) (c : Choices) → few ≤ many → AreWithin many cells c → AreWithin few cells c
fewer_keys few many cells c le within = record {
  known = omega (arith, within.known);
  ways = within.ways;
}
