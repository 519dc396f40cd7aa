-- The rooms of the rows of a table, and what is kept of them.
use Rattle.std.proofs.Common.{◌≡◌, ◌⊎◌, ℕ, zero, suc, ◌+◌, ◌-◌, ◌<◌, ◌≤◌, ◌==◌, ◌&&◌, ◌||◌, Bool, true, false, List, [], ◌∷◌, ◌++◌, Some, length, length-append, map, refl, sym, ap, ◌∙◌, inl, inr, arith}
use Rattle.std.specs.Prelude.{All, AllPairs, nat_lt, slice_get}
use Rattle.std.specs.List.{AllZip, flat_map, range_with_len}
use Rattle.std.specs.BTreeMap.{get}
use Rattle.std.specs.Ordering.{nat_cmp}
use Rattle.std.proofs.lemmas.Bool.{cases_lt, eq-eqb, eqb-true, le-ltb, lt-ltb}
use Rattle.std.proofs.lemmas.List.Elements.{All-head, All-tail}
use Rattle.std.proofs.lemmas.List.FromFn.{length-map-range_with_len}
use Rattle.std.proofs.lemmas.Option.{none-some, same_Some, slice_get_within}
use Rattle.rmt_bits.proofs.ListLaws.{slice_get-end, slice_get-front}
use Rattle.rmt_config.specs.LaneForm.{bits_of_lanes}
use Rattle.rmt_config.specs.Rooms.{PartAt, Room, is_before}
use Rattle.rmt_book.specs.declared.table.PartCells.{PartCells}
use Rattle.rmt_update.specs.Loads.{HasShape}
use Rattle.rmt_book.specs.PartShape.{cell_count}
use Rattle.rmt_update.specs.RowIndex.{part_rows, rows_of}
use Rattle.rmt_update.proofs.PartOrder.{pair-at}
use Rattle.rmt_update.proofs.RoomNumbers.{IsNumber, IsRows, offset, rooms_in, size_of, slice_get-map_range, total}
use Rattle.rmt_book.proofs.ShapeLaws.{cells-are}

-- the rooms of all rows
abbrev pub part_rooms : PartAt → List Room
part_rooms p = map (λ n. record { part = p; cell = n }) (range_with_len 0 (size_of p))

abbrev pub row_rooms : List PartAt → List Room
row_rooms ps = flat_map part_rooms ps

-- they are those of each key
pub rooms-rows : (seed key : ℕ) (ps : List PartAt) → All IsRows ps → flat_map (rooms_in seed key) ps ≡ row_rooms ps
rooms-rows seed key [] all = refl
rooms-rows seed key (p ∷ ps) all =
    ap (λ cs. map (λ n. record { part = p; cell = n }) cs ++ flat_map (rooms_in seed key) ps) (All-head IsRows p ps all seed (bits_of_lanes p.slot.keys) key)
    ∙ ap (λ rs. part_rooms p ++ rs) (rooms-rows seed key ps (All-tail IsRows p ps all))

-- ---- the numbers of rows

long-rooms : (p : PartAt) → length (part_rooms p) ≡ size_of p
long-rooms p = length-map-range_with_len (λ n. record { part = p; cell = n }) 0 (size_of p)

pub rooms-long : (ps : List PartAt) → length (row_rooms ps) ≡ total ps
rooms-long [] = refl
rooms-long (p ∷ ps) = let here = long-rooms p in let rest = rooms-long ps in let both = length-append (part_rooms p) (row_rooms ps) in omega (arith, here, rest, both)

pub rows-long : (ps : List PartAt) (xs : List PartCells) → AllZip HasShape ps xs → length (rows_of xs) ≡ total ps
rows-long [] [] zip = refl
rows-long [] (x ∷ xs) zip = absurd zip
rows-long (p ∷ ps) [] zip = absurd zip
rows-long (p ∷ ps) (x ∷ xs) zip =
    let here = length-map-range_with_len (get nat_cmp x.cells) 0 (cell_count x.shape.grid) in
    let count = cells-are p.slot x.shape zip.0 in
    let rest = rows-long ps xs zip.1 in
    let both = length-append (part_rows x) (rows_of xs) in
    omega (arith, here, count, rest, both)

-- a number below their count is that of a row
pub record Numbered (ps : List PartAt) (i : ℕ) : Type 0 where
  pub at : ℕ
  pub n : ℕ
  pub p : PartAt
  pub is : IsNumber ps i at n p

pub numbered-row : (ps : List PartAt) (i : ℕ) → i < total ps → Numbered ps i
numbered-row [] i lt = absurd (omega (arith, lt))
numbered-row (p ∷ ps) i lt = elim (cases_lt i (size_of p)) [
  | inl less ↦ record { at = 0; n = i; p = p; is = record { there = refl; within = less; number = omega arith } }
  | inr le ↦
      let r = numbered-row ps (i - size_of p) (omega (arith, lt, le)) in
      let e = r.is.number in
      record { at = suc r.at; n = r.n; p = r.p; is = record { there = r.is.there; within = r.is.within; number = omega (arith, e, le) } }
]

-- the room of a row
pub room-there : (ps : List PartAt) (i at n : ℕ) (p : PartAt) → IsNumber ps i at n p → slice_get (row_rooms ps) i ≡ Some (record { part = p; cell = n })
room-there ps i at n p is = ap (slice_get (row_rooms ps)) is.number ∙ by ps at is.there
  where
    by : (qs : List PartAt) (j : ℕ) → slice_get qs j ≡ Some p → slice_get (row_rooms qs) (offset qs j + n) ≡ Some (record { part = p; cell = n })
    by [] j there = absurd (none-some p there)
    by (q ∷ qs) zero there =
        let same = same_Some q p there in
        let size = ap size_of same in
        let within = is.within in
        let none : 0 + n ≡ n = omega arith in
        let long = long-rooms q in
        ap (slice_get (part_rooms q ++ row_rooms qs)) none ∙ slice_get-front (part_rooms q) (row_rooms qs) n (omega (arith, within, size, long))
        ∙ slice_get-map_range (λ m. record { part = q; cell = m }) 0 (size_of q) n (omega (arith, within, size))
        ∙ ap (λ m. Some (record { part = q; cell = m })) none ∙ ap (λ (r : PartAt). Some (record { part = r; cell = n })) same
    by (q ∷ qs) (suc j) there =
        let long = long-rooms q in
        let back : size_of q + offset qs j + n ≡ length (part_rooms q) + (offset qs j + n) = omega (arith, long) in
        ap (slice_get (part_rooms q ++ row_rooms qs)) back ∙ slice_get-end (part_rooms q) (row_rooms qs) (offset qs j + n) ∙ by qs j there

-- and what is kept of it
pub row-there : (ps : List PartAt) (xs : List PartCells) (i at n : ℕ) (p : PartAt) (x : PartCells) → AllZip HasShape ps xs → IsNumber ps i at n p → slice_get xs at ≡ Some x → slice_get (rows_of xs) i ≡ Some (get nat_cmp x.cells n)
row-there ps xs i at n p x zip is there = ap (slice_get (rows_of xs)) is.number ∙ by ps xs at zip is.there there
  where
    by : (qs : List PartAt) (ys : List PartCells) (j : ℕ) → AllZip HasShape qs ys → slice_get qs j ≡ Some p → slice_get ys j ≡ Some x → slice_get (rows_of ys) (offset qs j + n) ≡ Some (get nat_cmp x.cells n)
    by [] ys j zip at_q at_y = absurd (none-some p at_q)
    by (q ∷ qs) [] j zip at_q at_y = absurd zip
    by (q ∷ qs) (y ∷ ys) zero zip at_q at_y =
        let same = same_Some q p at_q in
        let size = ap size_of same in
        let within = is.within in
        let count = cells-are q.slot y.shape zip.0 in
        let long = length-map-range_with_len (get nat_cmp y.cells) 0 (cell_count y.shape.grid) in
        let none : 0 + n ≡ n = omega arith in
        ap (slice_get (part_rows y ++ rows_of ys)) none ∙ slice_get-front (part_rows y) (rows_of ys) n (omega (arith, within, size, count, long))
        ∙ slice_get-map_range (get nat_cmp y.cells) 0 (cell_count y.shape.grid) n (omega (arith, within, size, count))
        ∙ ap (λ m. Some (get nat_cmp y.cells m)) none ∙ ap (λ (z : PartCells). Some (get nat_cmp z.cells n)) (same_Some y x at_y)
    by (q ∷ qs) (y ∷ ys) (suc j) zip at_q at_y =
        let count = cells-are q.slot y.shape zip.0 in
        let long = length-map-range_with_len (get nat_cmp y.cells) 0 (cell_count y.shape.grid) in
        let back : size_of q + offset qs j + n ≡ length (part_rows y) + (offset qs j + n) = omega (arith, long, count) in
        ap (slice_get (part_rows y ++ rows_of ys)) back ∙ slice_get-end (part_rows y) (rows_of ys) (offset qs j + n) ∙ by qs ys j zip.1 at_q at_y

-- ---- rows before others

-- the parts before one end before it
offset-end : (ps : List PartAt) (i j : ℕ) (p : PartAt) → i < j → slice_get ps i ≡ Some p → offset ps i + size_of p ≤ offset ps j
offset-end [] i j p lt at = absurd (none-some p at)
offset-end (q ∷ ps) i zero p lt at = absurd (omega (arith, lt))
offset-end (q ∷ ps) zero (suc j) p lt at = let size = ap size_of (same_Some q p at) in omega (arith, size)
offset-end (q ∷ ps) (suc i) (suc j) p lt at = let rest = offset-end ps i j p (omega (arith, lt)) at in omega (arith, rest)

-- a row is before another by their numbers
pub before-rows : (ps : List PartAt) → AllPairs (λ (a b : PartAt). a.stage < b.stage) ps → (i j : ℕ) (a b : Room) → slice_get (row_rooms ps) i ≡ Some a → slice_get (row_rooms ps) j ≡ Some b → is_before a b ≡ nat_lt i j
before-rows ps apart i j a b at_a at_b =
    let long = rooms-long ps in
    let lt_i = slice_get_within (row_rooms ps) i a at_a in
    let lt_j = slice_get_within (row_rooms ps) j b at_b in
    let x = numbered-row ps i (omega (arith, lt_i, long)) in
    let y = numbered-row ps j (omega (arith, lt_j, long)) in
    let room_a = same_Some (record { part = x.p; cell = x.n }) a (sym (room-there ps i x.at x.n x.p x.is) ∙ at_a) in
    let room_b = same_Some (record { part = y.p; cell = y.n }) b (sym (room-there ps j y.at y.n y.p y.is) ∙ at_b) in
    ap (λ (r : Room). is_before r b) (sym room_a) ∙ ap (is_before (record { part = x.p; cell = x.n })) (sym room_b) ∙ by x y
  where
    by : (x : Numbered ps i) (y : Numbered ps j) → is_before (record { part = x.p; cell = x.n }) (record { part = y.p; cell = y.n }) ≡ nat_lt i j
    by x y =
        let e_i = x.is.number in
        let e_j = y.is.number in
        let low_i = x.is.within in
        let low_j = y.is.within in
        elim (cases_lt x.at y.at) [
          | inl lt ↦
              let stage = pair-at (λ (a b : PartAt). a.stage < b.stage) ps x.at y.at x.p y.p apart lt x.is.there y.is.there in
              let end = offset-end ps x.at y.at x.p lt x.is.there in
              ap (λ t. t || ((x.p.stage == y.p.stage) && nat_lt x.n y.n)) (lt-ltb x.p.stage y.p.stage stage) ∙ sym (lt-ltb i j (omega (arith, e_i, e_j, low_i, end)))
          | inr ge ↦ elim (cases_lt y.at x.at) [
            | inl lt ↦
                let stage = pair-at (λ (a b : PartAt). a.stage < b.stage) ps y.at x.at y.p x.p apart lt y.is.there x.is.there in
                let end = offset-end ps y.at x.at y.p lt y.is.there in
                ap (λ t. t || ((x.p.stage == y.p.stage) && nat_lt x.n y.n)) (le-ltb x.p.stage y.p.stage (omega (arith, stage)))
                ∙ ap (λ t. t && nat_lt x.n y.n) (other (x.p.stage == y.p.stage) refl stage) ∙ sym (le-ltb i j (omega (arith, e_i, e_j, low_j, end)))
            | inr le ↦
                let here : x.at ≡ y.at = omega (arith, ge, le) in
                let same = same_Some x.p y.p (sym x.is.there ∙ ap (slice_get ps) here ∙ y.is.there) in
                let stage = ap (λ (p : PartAt). p.stage) same in
                let start = ap (offset ps) here in
                ap (λ t. t || ((x.p.stage == y.p.stage) && nat_lt x.n y.n)) (le-ltb x.p.stage y.p.stage (omega (arith, stage)))
                ∙ ap (λ t. t && nat_lt x.n y.n) (eq-eqb x.p.stage y.p.stage stage) ∙ cells (cases_lt x.n y.n) e_i e_j start
          ]
        ]
      where
        other : (t : Bool) → (x.p.stage == y.p.stage) ≡ t → y.p.stage < x.p.stage → t ≡ false
        other false e lt = refl
        other true e lt = let same = eqb-true x.p.stage y.p.stage e in absurd (omega (arith, same, lt))

        cells : (x.n < y.n) ⊎ (y.n ≤ x.n) → i ≡ offset ps x.at + x.n → j ≡ offset ps y.at + y.n → offset ps x.at ≡ offset ps y.at → nat_lt x.n y.n ≡ nat_lt i j
        cells (inl lt) e_i e_j start = lt-ltb x.n y.n lt ∙ sym (lt-ltb i j (omega (arith, lt, e_i, e_j, start)))
        cells (inr le) e_i e_j start = le-ltb x.n y.n le ∙ sym (le-ltb i j (omega (arith, le, e_i, e_j, start)))
