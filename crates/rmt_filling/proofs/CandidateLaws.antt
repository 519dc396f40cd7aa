-- Where exact keys are loaded and where they are looked for.
use Rattle.std.proofs.Common.{◌≡◌, ℕ, zero, suc, ◌+◌, ◌-◌, ◌*◌, ◌<◌, ◌≤◌, Bool, true, false, cond, List, [], ◌∷◌, ◌++◌, map, refl, sym, ap, ◌∙◌, subst, inl, inr, arith}
use Rattle.std.specs.Prelude.{Contains, count_by, filter, nat_lt, sum_by}
use Rattle.std.specs.List.{flat_map, range_with_len}
use Rattle.std.proofs.lemmas.Bool.{both_ways, cases_lt, ltb-true, lt-ltb}
use Rattle.std.proofs.lemmas.Grind.{flat_map-append}
use Rattle.std.proofs.lemmas.List.Elements.{All-cons, All-nil, Contains-append_cases, All-contains}
use Rattle.std.proofs.lemmas.List.Sums.{sum_by_push}
use Rattle.std.proofs.lemmas.Nat.{mod_below, mul-le}
use Rattle.rmt_bits.proofs.ListLaws.{range_more}
use Rattle.rmt_bits.specs.Bits.{bytes_of}
use Rattle.rmt_bits.specs.Hash.{hash_row}
use Rattle.rmt_config.specs.declared.config.Memory.TheVariants.{Exact}
use Rattle.rmt_config.specs.Cells.{candidates as looked_in, index_of, key_row}
use Rattle.rmt_config.specs.BlockCounts.{divided_up}
use Rattle.rmt_cuckoo.specs.declared.layout.Ways.{Ways}
use Rattle.rmt_cuckoo.specs.declared.way.Way.{Way}
use Rattle.rmt_cuckoo.specs.Loading.{candidates, cells_in, row_start, way_of, ways_from}
use Rattle.rmt_pack.proofs.FindLaws.{Contains-range, range_bounds}
use Rattle.rmt_bits.proofs.MemberLaws.{Contains-unmap, Contains-flat_map, from_flat_map, Contains-between}
use Rattle.rmt_config.proofs.CellLaws.{cell_lt}

none_of : (n : ℕ) → nat_lt 0 n ≡ false → n ≡ 0
none_of zero e = refl
none_of (suc n) e = absurd (both_ways (nat_lt 0 (suc n)) e (lt-ltb 0 (suc n) (omega arith)))

spread : (h way rows per first : ℕ) → first + way * (rows * per) + h * per ≡ first + (way * rows + h) * per
spread h way rows per first = omega arith

-- ---- parts of a table, by the quanta that it has in each stage

module _ (q : ℕ → ℕ) (per : ℕ) where
  -- the quanta and the parts before a stage
  abbrev quanta_upto : ℕ → ℕ
  quanta_upto k = sum_by q (range_with_len 0 k)

  abbrev parts_upto : ℕ → ℕ
  parts_upto k = count_by (λ j. nat_lt 0 (q j)) (range_with_len 0 k)

  abbrev part_at : ℕ → Ways
  part_at k = record { rows = 1024 * q k; per = per }

  abbrev first_cell : ℕ → ℕ
  first_cell k = 4096 * quanta_upto k * per

  abbrev layout_from : ℕ → ℕ → List Ways
  layout_from k d = map part_at (filter (λ j. nat_lt 0 (q j)) (range_with_len k d))

  quanta_next : (k : ℕ) → quanta_upto (k + 1) ≡ quanta_upto k + q k
  quanta_next k =
      let e : 0 + k ≡ k = omega arith in
      ap (sum_by q) (range_more 0 k) ∙ ap (λ j. sum_by q (range_with_len 0 k ++ j ∷ [])) e ∙ sum_by_push q (range_with_len 0 k) k

  parts_next : (k : ℕ) → parts_upto (k + 1) ≡ parts_upto k + cond (nat_lt 0 (q k)) 1 0
  parts_next k =
      let e : 0 + k ≡ k = omega arith in
      let one : ℕ → ℕ = λ j. cond (nat_lt 0 (q j)) 1 0 in
      ap (sum_by one) (range_more 0 k) ∙ ap (λ j. sum_by one (range_with_len 0 k ++ j ∷ [])) e ∙ sum_by_push one (range_with_len 0 k) k

  quanta_rise : (d k : ℕ) → quanta_upto k ≤ quanta_upto (k + d)
  quanta_rise zero k = let e : k + 0 ≡ k = omega arith in rw e (omega arith)
  quanta_rise (suc d) k =
      let e : k + suc d ≡ k + d + 1 = omega arith in
      rw e (omega (arith, quanta_rise d k, quanta_next (k + d)))

  module _ (seed : ℕ) (key : List ℕ) where
    abbrev cells_of_way : Way → List ℕ
    cells_of_way way = range_with_len (row_start seed key way) way.per

    -- a candidate cell is one of a way of some part
    record InPart (last x : ℕ) : Type 0 where
      k : ℕ
      before : k < last
      some : 0 < q k
      way : ℕ
      is_way : way < 4
      there : Contains (cells_of_way (way_of (4 * parts_upto k) (first_cell k) (part_at k) way)) x

    four : (j : ℕ) → Contains (0 ∷ 1 ∷ 2 ∷ 3 ∷ []) j → j < 4
    four j there =
        All-contains (λ i. i < 4) (0 ∷ 1 ∷ 2 ∷ 3 ∷ []) j
        (All-cons (λ i. i < 4) 0 (1 ∷ 2 ∷ 3 ∷ []) (omega arith) (All-cons (λ i. i < 4) 1 (2 ∷ 3 ∷ []) (omega arith)
        (All-cons (λ i. i < 4) 2 (3 ∷ []) (omega arith) (All-cons (λ i. i < 4) 3 [] (omega arith) (All-nil (λ i. i < 4)))))) there

    in_ways : (last k x : ℕ) → k < last → 0 < q k → Contains (flat_map cells_of_way (map (way_of (4 * parts_upto k) (first_cell k) (part_at k)) (0 ∷ 1 ∷ 2 ∷ 3 ∷ []))) x → InPart last x
    in_ways last k x before some there =
        let w = from_flat_map cells_of_way (map (way_of (4 * parts_upto k) (first_cell k) (part_at k)) (0 ∷ 1 ∷ 2 ∷ 3 ∷ [])) x there in
        let j = Contains-unmap (way_of (4 * parts_upto k) (first_cell k) (part_at k)) (0 ∷ 1 ∷ 2 ∷ 3 ∷ []) w.0 w.1 in
        record { k = k; before = before; some = some; way = j.0; is_way = four j.0 j.1; there = subst (λ (y : Way). Contains (cells_of_way y) x) (sym j.2) w.2 }

    cells_next : (k : ℕ) → first_cell k + cells_in (part_at k) ≡ first_cell (k + 1)
    cells_next k = let next = quanta_next k in rw next (split (quanta_upto k) (q k))
      where
        split : (a b : ℕ) → 4096 * a * per + 4 * (1024 * b * per) ≡ 4096 * (a + b) * per
        split a b = omega arith

    find_part : (d k last x : ℕ) → k + d ≡ last → Contains (flat_map cells_of_way (ways_from (4 * parts_upto k) (first_cell k) (layout_from k d))) x → InPart last x
    find_part zero k last x sum there = absurd (let lt = there.1 in omega (arith, lt))
    find_part (suc d) k last x sum there = by (nat_lt 0 (q k)) refl there (find_part d (k + 1) last x (omega (arith, sum)))
      where
        by : (b : Bool) → nat_lt 0 (q k) ≡ b
            → Contains (flat_map cells_of_way (ways_from (4 * parts_upto k) (first_cell k) (map part_at (cond b (k ∷ filter (λ j. nat_lt 0 (q j)) (range_with_len (k + 1) d)) (filter (λ j. nat_lt 0 (q j)) (range_with_len (k + 1) d)))))) x
            → (Contains (flat_map cells_of_way (ways_from (4 * parts_upto (k + 1)) (first_cell (k + 1)) (layout_from (k + 1) d))) x → InPart last x) → InPart last x
        by true e h rest =
            let own = map (way_of (4 * parts_upto k) (first_cell k) (part_at k)) (0 ∷ 1 ∷ 2 ∷ 3 ∷ []) in
            let more = ways_from (4 * parts_upto k + 4) (first_cell k + cells_in (part_at k)) (layout_from (k + 1) d) in
            let counted : ◌≡◌ {A = ℕ} (cond (nat_lt 0 (q k)) 1 0) 1 = ap (λ b. cond b 1 0) e in
            let number : 4 * parts_upto k + 4 ≡ 4 * parts_upto (k + 1) = omega (arith, parts_next k, counted) in
            elim (Contains-append_cases (flat_map cells_of_way own) (flat_map cells_of_way more) x (subst (λ zs. Contains zs x) (flat_map-append cells_of_way own more) h)) [
              | inl here ↦ in_ways last k x (omega (arith, sum)) (ltb-true 0 (q k) e) here
              | inr later ↦ rest (subst (λ f. Contains (flat_map cells_of_way (ways_from (4 * parts_upto (k + 1)) f (layout_from (k + 1) d))) x) (cells_next k)
                  (subst (λ m. Contains (flat_map cells_of_way (ways_from m (first_cell k + cells_in (part_at k)) (layout_from (k + 1) d))) x) number later))
            ]
        by false e h rest =
            let counted : ◌≡◌ {A = ℕ} (cond (nat_lt 0 (q k)) 1 0) 0 = ap (λ b. cond b 1 0) e in
            let same : parts_upto k ≡ parts_upto (k + 1) = omega (arith, parts_next k, counted) in
            let none : q k ≡ 0 = none_of (q k) e in
            let quanta : quanta_upto k ≡ quanta_upto (k + 1) = omega (arith, quanta_next k, none) in
            rest (subst (λ a. Contains (flat_map cells_of_way (ways_from (4 * parts_upto (k + 1)) (4096 * a * per) (layout_from (k + 1) d))) x) quanta
            (subst (λ m. Contains (flat_map cells_of_way (ways_from (4 * m) (first_cell k) (layout_from (k + 1) d))) x) same h))

    -- a cell of a part lies between its first cell and that of the next
    bounds : (last x : ℕ) (r : InPart last x) → (first_cell r.k ≤ x) × (x < first_cell (r.k + 1))
    bounds last x r =
        let way = way_of (4 * parts_upto r.k) (first_cell r.k) (part_at r.k) r.way in
        let row : hash_row seed way.number key way.rows < way.rows = mod_below _ (1024 * q r.k) (omega (arith, r.some)) in
        let range = range_bounds (row_start seed key way) per x r.there in
        let apart = spread (hash_row seed way.number key way.rows) r.way (1024 * q r.k) per (first_cell r.k) in
        let from : first_cell r.k ≤ x = omega (arith, range.0, apart) in
        let inside = cell_lt r.way (hash_row seed way.number key way.rows) (1024 * q r.k) per (x - first_cell r.k) r.is_way row (omega (arith, range.1, apart, from)) in
        (from, omega (arith, from, inside, cells_next r.k, all_rows (q r.k)))
      where
        all_rows : (n : ℕ) → 4 * (1024 * n) * per ≡ 4 * (1024 * n * per)
        all_rows n = omega arith

    cells_rise : (a b : ℕ) → a ≤ b → first_cell a ≤ first_cell b
    cells_rise a b le =
        let d = b - a in
        let e : a + d ≡ b = omega (arith, le) in
        let some : quanta_upto a ≤ quanta_upto b = subst (λ m. quanta_upto a ≤ quanta_upto m) e (quanta_rise d a) in
        mul-le (4096 * quanta_upto a) per (4096 * quanta_upto b) per (omega (arith, some)) (omega arith)

    -- so a cell tells its part
    same_part : (last k x : ℕ) → first_cell k ≤ x → x < first_cell (k + 1) → (r : InPart last x) → r.k ≡ k
    same_part last k x low high r =
        let own = bounds last x r in
        elim (cases_lt r.k k) [
          | inl lt ↦ absurd (let up = cells_rise (r.k + 1) k (omega (arith, lt)) in omega (arith, own.1, up, low))
          | inr ge ↦ elim (cases_lt k r.k) [
            | inl gt ↦ absurd (let up = cells_rise (k + 1) r.k (omega (arith, gt)) in omega (arith, own.0, up, high))
            | inr le ↦ omega (arith, ge, le)
          ]
        ]

-- A key that is loaded into a cell of a part is looked for there: among the candidates of the part's memory, by the cell's number in the part.
pub looked_for : (q : ℕ → ℕ) (per seed width bits key k x : ℕ) (ks rs cs : List ℕ)
    → Contains (candidates (map (λ j. record { rows = 1024 * q j; per = per }) (filter (λ j. nat_lt 0 (q j)) (range_with_len 0 32))) seed (bytes_of (divided_up bits 8) key)) x
    → 4096 * sum_by q (range_with_len 0 k) * per ≤ x → x < 4096 * sum_by q (range_with_len 0 k) * per + 4096 * q k * per
    → Contains (looked_in seed bits (Exact width per (q k) (4 * count_by (λ j. nat_lt 0 (q j)) (range_with_len 0 k)) ks rs cs) key) (x - 4096 * sum_by q (range_with_len 0 k) * per)
looked_for q per seed width bits key k x ks rs cs loaded low high =
    let bytes = bytes_of (divided_up bits 8) key in
    let none : 0 ≡ first_cell q per 0 = omega arith in
    let r = find_part q per seed bytes 32 0 32 x (omega arith)
    (subst (λ f. Contains (flat_map (cells_of_way q per seed bytes) (ways_from 0 f (layout_from q per 0 32))) x) none loaded) in
    let end : first_cell q per k + 4096 * q k * per ≡ first_cell q per (k + 1) = rw (quanta_next q per k) (omega arith) in
    let same = same_part q per seed bytes 32 k x low (omega (arith, high, end)) r in
    there (r.way) r.is_way (subst (λ j. Contains (cells_of_way q per seed bytes (way_of (4 * parts_upto q per j) (first_cell q per j) (part_at q per j) r.way)) x) same r.there)
  where
    there : (way : ℕ) → way < 4
        → Contains (range_with_len (row_start seed (bytes_of (divided_up bits 8) key) (way_of (4 * parts_upto q per k) (first_cell q per k) (part_at q per k) way)) per) x
        → Contains (looked_in seed bits (Exact width per (q k) (4 * count_by (λ j. nat_lt 0 (q j)) (range_with_len 0 k)) ks rs cs) key) (x - 4096 * sum_by q (range_with_len 0 k) * per)
    there way is_way h =
        let first = 4096 * sum_by q (range_with_len 0 k) * per in
        let row = key_row seed (4 * count_by (λ j. nat_lt 0 (q j)) (range_with_len 0 k)) (q k) bits key in
        let range = range_bounds (first + way * (1024 * q k * per) + row way * per) per x h in
        let apart = spread (row way) way (1024 * q k) per first in
        Contains-flat_map (λ w. range_with_len (index_of (1024 * q k) per (record { way = w; row = row w; position = 0 })) per) (range_with_len 0 4) way (x - first)
        (Contains-range 4 way is_way)
        (Contains-between ((way * (1024 * q k) + row way) * per + 0) per (x - first) (omega (arith, range.0, apart, low)) (omega (arith, range.1, apart, low)))

-- A cell into which a key is loaded is one of the parts' cells.
pub below_all : (q : ℕ → ℕ) (per seed : ℕ) (key : List ℕ) (x : ℕ)
    → Contains (candidates (map (λ j. record { rows = 1024 * q j; per = per }) (filter (λ j. nat_lt 0 (q j)) (range_with_len 0 32))) seed key) x
    → x < 4096 * sum_by q (range_with_len 0 32) * per
below_all q per seed key x loaded =
    let none : 0 ≡ first_cell q per 0 = omega arith in
    let r = find_part q per seed key 32 0 32 x (omega arith) (subst (λ f. Contains (flat_map (cells_of_way q per seed key) (ways_from 0 f (layout_from q per 0 32))) x) none loaded) in
    omega (arith, (bounds q per seed key 32 x r).1, cells_rise q per seed key (r.k + 1) 32 (omega (arith, r.before)))
