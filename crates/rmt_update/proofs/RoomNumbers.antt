-- The rooms of a table, numbered over its parts in their order: the cells in which keys are loaded, and the rows of entries in order.
use Rattle.std.proofs.Common.{◌≡◌, ℕ, zero, suc, ◌+◌, ◌-◌, ◌*◌, ◌<◌, ◌≤◌, true, cond, List, [], ◌∷◌, ◌++◌, length, map, Some, refl, sym, ap, ◌∙◌, subst, inl, inr, arith}
use Rattle.std.specs.Prelude.{All, Contains, slice_get}
use Rattle.std.specs.List.{AllZip, flat_map, range_with_len}
use Rattle.std.proofs.lemmas.Bool.{cases_lt, eqb-true, le-ltb, lt-ltb}
use Rattle.std.proofs.lemmas.Grind.{flat_map-append}
use Rattle.std.proofs.lemmas.List.{length-map, map-append}
use Rattle.std.proofs.lemmas.List.Elements.{All-head, All-tail, Contains-append_cases, Contains-append_left, Contains-append_right}
use Rattle.std.proofs.lemmas.List.FromFn.{length-range_with_len}
use Rattle.std.proofs.lemmas.Nat.{mod_below}
use Rattle.std.proofs.lemmas.Option.{none-some, same_Some}
use Rattle.std.proofs.lemmas.List.Folds.{flat_map-map}
use Rattle.rmt_bits.specs.Bits.{bytes_of}
use Rattle.rmt_bits.specs.Hash.{hash_row}
use Rattle.rmt_ast.specs.declared.program.Kind.TheVariants as kind
use Rattle.rmt_bits.proofs.AllLaws.{All-slice_get}
use Rattle.rmt_bits.proofs.FunctionLaws.{funext}
use Rattle.rmt_bits.proofs.ListLaws.{slice_get-end, slice_get-front}
use Rattle.rmt_bits.proofs.MemberLaws.{Contains-map, Contains-unmap, from_flat_map}
use Rattle.rmt_config.specs.declared.config.Memory.{Memory}
use Rattle.rmt_config.specs.declared.config.Memory.TheVariants.{Without, Exact, Ternary}
use Rattle.rmt_config.specs.Cells.{candidates, cells_in, index_of, key_row}
use Rattle.rmt_config.specs.LaneForm.{bits_of_lanes}
use Rattle.rmt_config.specs.NamesForm.{is_of_kind}
use Rattle.rmt_config.specs.Rooms.{PartAt, Room}
use Rattle.rmt_config.specs.BlockCounts.{divided_up}
use Rattle.rmt_config.specs.TableForm.{ways_follow}
use Rattle.rmt_pack.proofs.FindLaws.{range_bounds}
use Rattle.rmt_cuckoo.specs.declared.layout.Ways.{Ways}
use Rattle.rmt_cuckoo.specs.declared.way.Way.{Way}
use Rattle.rmt_cuckoo.specs.Loading.{candidates as loaded_in, cells_in as cells_of_part, row_start, way_of, ways_from}
use Rattle.rmt_book.specs.declared.grid.Grid.{Grid}
use Rattle.rmt_book.specs.declared.grid.Grid.TheVariants as grid
use Rattle.rmt_book.specs.declared.table.PartCells.{PartCells}
use Rattle.rmt_update.specs.Loads.{HasShape, layout_in, ways_for}
use Rattle.rmt_book.specs.PartShape.{IsGrid, cell_count}
use Rattle.rmt_book.specs.Spots.{spot_from}
use Rattle.rmt_update.proofs.PartNumbers.{SlotsFrom}
use Rattle.rmt_book.proofs.ShapeLaws.{cells-are, row-end}

-- how many cells a part has
abbrev pub size_of : PartAt → ℕ
size_of p = cells_in p.slot.memory

-- how many cells the parts before a place have
abbrev pub offset : List PartAt → ℕ → ℕ
offset [] i = 0
offset (p ∷ ps) zero = 0
offset (p ∷ ps) (suc i) = size_of p + offset ps i

-- how many cells all parts have
abbrev pub total : List PartAt → ℕ
total [] = 0
total (p ∷ ps) = size_of p + total ps

-- a number is that of a cell of the part at a place
pub record IsNumber (ps : List PartAt) (x i n : ℕ) (p : PartAt) : Type 0 where
  pub there : slice_get ps i ≡ Some p
  pub within : n < size_of p
  pub number : x ≡ offset ps i + n

-- ---- the spot of a number

spot-is : (at : ℕ) (ps : List PartAt) (xs : List PartCells) (i n : ℕ) (p : PartAt) → AllZip HasShape ps xs → slice_get ps i ≡ Some p → n < size_of p
    → spot_from at xs (offset ps i + n) ≡ record { part = at + i; cell = n }
spot-is at [] xs i n p zip there lt = absurd (none-some p there)
spot-is at (q ∷ ps) [] i n p zip there lt = absurd zip
spot-is at (q ∷ ps) (x ∷ xs) zero n p zip there lt =
    let same : q ≡ p = same_Some q p there in
    let count = cells-are q.slot x.shape zip.0 in
    let sizes = ap size_of same in
    let below : n < cell_count x.shape.grid = omega (arith, lt, count, sizes) in
    let none : 0 + n ≡ n = omega arith in
    let place : at ≡ at + 0 = omega arith in
    ap (spot_from at (x ∷ xs)) none
    ∙ ap (λ b. cond b (record { part = at; cell = n }) (spot_from (at + 1) xs (n - cell_count x.shape.grid))) (lt-ltb n (cell_count x.shape.grid) below)
    ∙ ap (λ k. record { part = k; cell = n }) place
spot-is at (q ∷ ps) (x ∷ xs) (suc i) n p zip there lt =
    let count = cells-are q.slot x.shape zip.0 in
    let m = size_of q + offset ps i + n in
    let above : cell_count x.shape.grid ≤ m = omega (arith, count) in
    let left : m - cell_count x.shape.grid ≡ offset ps i + n = omega (arith, count) in
    let place : at + 1 + i ≡ at + suc i = omega arith in
    ap (λ b. cond b (record { part = at; cell = m }) (spot_from (at + 1) xs (m - cell_count x.shape.grid))) (le-ltb m (cell_count x.shape.grid) above)
    ∙ ap (spot_from (at + 1) xs) left ∙ spot-is (at + 1) ps xs i n p zip.1 there lt ∙ ap (λ k. record { part = k; cell = n }) place

pub spot-of : (ps : List PartAt) (xs : List PartCells) (x i n : ℕ) (p : PartAt) → AllZip HasShape ps xs → IsNumber ps x i n p → spot_from 0 xs x ≡ record { part = i; cell = n }
spot-of ps xs x i n p zip is =
    let place : 0 + i ≡ i = omega arith in
    ap (spot_from 0 xs) is.number ∙ spot-is 0 ps xs i n p zip is.there is.within ∙ ap (λ k. record { part = k; cell = n }) place

-- ---- the rows of prefix and ternary tables

abbrev pub IsRows : PartAt → Type 0
IsRows p = (seed bits key : ℕ) → candidates seed bits p.slot.memory key ≡ range_with_len 0 (size_of p)

abbrev pub rooms_in : ℕ → ℕ → PartAt → List Room
rooms_in seed key p = map (λ n. record { part = p; cell = n }) (candidates seed (bits_of_lanes p.slot.keys) p.slot.memory key)

pub record RowAt (seed key : ℕ) (ps : List PartAt) (x : ℕ) : Type 0 where
  pub i : ℕ
  pub n : ℕ
  pub p : PartAt
  pub is : IsNumber ps x i n p
  pub room : slice_get (flat_map (rooms_in seed key) ps) x ≡ Some (record { part = p; cell = n })

pub slice_get-map_range : {X : Type 0} (f : ℕ → X) (a len n : ℕ) → n < len → slice_get (map f (range_with_len a len)) n ≡ Some (f (a + n))
slice_get-map_range f a zero n lt = absurd (omega (arith, lt))
slice_get-map_range f a (suc len) zero lt = let e : a ≡ a + 0 = omega arith in ap (λ k. Some (f k)) e
slice_get-map_range f a (suc len) (suc n) lt = let e : a + 1 + n ≡ a + suc n = omega arith in slice_get-map_range f (a + 1) len n (omega (arith, lt)) ∙ ap (λ k. Some (f k)) e

pub row-at : (seed key : ℕ) (ps : List PartAt) (x : ℕ) → All IsRows ps → x < total ps → RowAt seed key ps x
row-at seed key [] x rows lt = absurd (omega (arith, lt))
row-at seed key (p ∷ ps) x rows lt = elim (cases_lt x (size_of p)) [
  | inl less ↦ record {
    i = 0;
    n = x;
    p = p;
    is = record { there = refl; within = less; number = omega arith };
    room =
        let none : 0 + x ≡ x = omega arith in
        slice_get-front (rooms_in seed key p) (flat_map (rooms_in seed key) ps) x (let l = long in omega (arith, less, l)) ∙ ap (λ cs. slice_get (map room_of cs) x) range
        ∙ slice_get-map_range room_of 0 (size_of p) x less ∙ ap (λ k. Some (room_of k)) none;
  }
  | inr le ↦
      let rest = row-at seed key ps (x - size_of p) (All-tail IsRows p ps rows) (omega (arith, lt, le)) in
      let number = rest.is.number in
      record {
        i = suc rest.i;
        n = rest.n;
        p = rest.p;
        is = record { there = rest.is.there; within = rest.is.within; number = omega (arith, number, le) };
        room =
            let l = long in
            let back : x ≡ length (rooms_in seed key p) + (x - size_of p) = omega (arith, le, l) in
            ap (slice_get (rooms_in seed key p ++ flat_map (rooms_in seed key) ps)) back
            ∙ slice_get-end (rooms_in seed key p) (flat_map (rooms_in seed key) ps) (x - size_of p) ∙ rest.room;
      }
]
  where
    room_of : ℕ → Room
    room_of n = record { part = p; cell = n }

    range : candidates seed (bits_of_lanes p.slot.keys) p.slot.memory key ≡ range_with_len 0 (size_of p)
    range = All-head IsRows p ps rows seed (bits_of_lanes p.slot.keys) key

    long : length (rooms_in seed key p) ≡ size_of p
    long = length-map (candidates seed (bits_of_lanes p.slot.keys) p.slot.memory key) (λ n. record { part = p; cell = n }) ∙ ap length range ∙ length-range_with_len 0 (size_of p)

-- ---- the candidate cells of exact tables

shifted : (f a len : ℕ) → map (λ n. f + n) (range_with_len a len) ≡ range_with_len (f + a) len
shifted f a zero = refl
shifted f a (suc len) = let e : f + (a + 1) ≡ f + a + 1 = omega arith in ap (λ ns. (f + a) ∷ ns) (shifted f (a + 1) len ∙ ap (λ b. range_with_len b len) e)

map-flat : {X Y Z : Type 0} (h : Y → Z) (g : X → List Y) (xs : List X) → map h (flat_map g xs) ≡ flat_map (λ x. map h (g x)) xs
map-flat h g [] = refl
map-flat h g (x ∷ xs) = map-append h (g x) (flat_map g xs) ∙ ap (λ ys. map h (g x) ++ ys) (map-flat h g xs)

spread : (f j rows per h : ℕ) → f + j * (rows * per) + h * per ≡ f + ((j * rows + h) * per + 0)
spread f j rows per h = omega arith

-- an exact part has rows
abbrev pub HasRows : Memory → Type 0
HasRows Without = Unit {0}
HasRows (Exact k per d w ks rs cs) = 1 ≤ d
HasRows (Ternary d ks rs cs) = Unit {0}

module _ (seed bits key : ℕ) where
  abbrev bytes : List ℕ
  bytes = bytes_of (divided_up bits 8) key

  abbrev cells_of_way : Way → List ℕ
  cells_of_way w = range_with_len (row_start seed bytes w) w.per

  abbrev own_cells : PartAt → List ℕ
  own_cells p = candidates seed bits p.slot.memory key

  -- the candidate cells by their numbers over all parts, of which the first begins at this number
  abbrev numbered : ℕ → List PartAt → List ℕ
  numbered f [] = []
  numbered f (p ∷ ps) = map (λ n. f + n) (own_cells p) ++ numbered (f + size_of p) ps

  one-part : (w f rows per : ℕ)
      → flat_map cells_of_way (map (way_of w f (record { rows = rows; per = per })) (0 ∷ 1 ∷ 2 ∷ 3 ∷ []))
      ≡ map (λ n. f + n) (flat_map (λ way. range_with_len (index_of rows per (record { way = way; row = hash_row seed (w + way) bytes rows; position = 0 })) per) (range_with_len 0 4))
  one-part w f rows per =
      let ways = 0 ∷ 1 ∷ 2 ∷ 3 ∷ [] in
      let hash : ℕ → ℕ = λ j. hash_row seed (w + j) bytes rows in
      let row : ℕ → List ℕ = λ j. range_with_len ((j * rows + hash j) * per + 0) per in
      flat_map-map cells_of_way (way_of w f (record { rows = rows; per = per })) ways
      ∙ ap (λ (g : ℕ → List ℕ). flat_map g ways)
      (funext (λ j. cells_of_way (way_of w f (record { rows = rows; per = per }) j)) (λ j. map (λ n. f + n) (row j))
      (λ j. ap (λ s. range_with_len s per) (spread f j rows per (hash j)) ∙ sym (shifted f ((j * rows + hash j) * per + 0) per)))
      ∙ sym (map-flat (λ n. f + n) row ways)

  part-cells : (m : Memory) (g : Grid) (n f : ℕ) (rest : List Ways) → IsGrid m g → ways_follow n m ≡ true → is_of_kind kind.Exact m ≡ true
      → flat_map cells_of_way (ways_from (4 * n) f (ways_for g ++ rest)) ≡ map (λ k. f + k) (candidates seed bits m key) ++ flat_map cells_of_way (ways_from (4 * (n + 1)) (f + cells_in m) rest)
  part-cells Without g n f rest is follow exact = absurd is
  part-cells (Ternary d ks rs cs) g n f rest is follow exact = absurd cc
  part-cells (Exact k per d first ks rs cs) (grid.Rows rows) n f rest is follow exact = absurd is
  part-cells (Exact k per d first ks rs cs) (grid.Ways v) n f rest is follow exact =
      let part : Ways = record { rows = 1024 * d; per = per } in
      let same : 4 * n ≡ first = sym (eqb-true first (4 * n) follow) in
      let more : 4 * n + 4 ≡ 4 * (n + 1) = omega arith in
      let size : f + cells_of_part part ≡ f + 4096 * d * per = omega arith in
      let row : ℕ → ℕ → List ℕ = λ w way. range_with_len (index_of (1024 * d) per (record { way = way; row = hash_row seed (w + way) bytes (1024 * d); position = 0 })) per in
      let behind : ℕ → ℕ → List ℕ = λ w c. flat_map cells_of_way (ways_from w c rest) in
      let all : ℕ → ℕ → List ℕ = λ r p. flat_map cells_of_way (ways_from (4 * n) f (record { rows = r; per = p } ∷ rest)) in
      ap (λ r. all r v.per) is.1 ∙ ap (all (1024 * d)) is.2
      ∙ flat_map-append cells_of_way (map (way_of (4 * n) f part) (0 ∷ 1 ∷ 2 ∷ 3 ∷ [])) (ways_from (4 * n + 4) (f + cells_of_part part) rest)
      ∙ ap (λ cs. cs ++ behind (4 * n + 4) (f + cells_of_part part)) (one-part (4 * n) f (1024 * d) per)
      ∙ ap (λ w. map (λ k. f + k) (flat_map (row w) (range_with_len 0 4)) ++ behind (4 * n + 4) (f + cells_of_part part)) same
      ∙ ap (λ w. map (λ k. f + k) (flat_map (row first) (range_with_len 0 4)) ++ behind w (f + cells_of_part part)) more
      ∙ ap (λ c. map (λ k. f + k) (flat_map (row first) (range_with_len 0 4)) ++ behind (4 * (n + 1)) c) size

  numbers-from : (ps : List PartAt) (xs : List PartCells) (n f : ℕ) → AllZip HasShape ps xs → SlotsFrom n (map (λ (p : PartAt). p.slot) ps)
      → All (λ (p : PartAt). is_of_kind kind.Exact p.slot.memory ≡ true) ps → flat_map cells_of_way (ways_from (4 * n) f (layout_in xs)) ≡ numbered f ps
  numbers-from [] [] n f zip follow exact = refl
  numbers-from [] (x ∷ xs) n f zip follow exact = absurd zip
  numbers-from (p ∷ ps) [] n f zip follow exact = absurd zip
  numbers-from (p ∷ ps) (x ∷ xs) n f zip follow exact =
      part-cells p.slot.memory x.shape.grid n f (layout_in xs) zip.0.grid follow.0 (All-head (λ (q : PartAt). is_of_kind kind.Exact q.slot.memory ≡ true) p ps exact)
      ∙ ap (λ cs. map (λ k. f + k) (own_cells p) ++ cs)
      (numbers-from ps xs (n + 1) (f + size_of p) zip.1 follow.1 (All-tail (λ (q : PartAt). is_of_kind kind.Exact q.slot.memory ≡ true) p ps exact))

  pub cell-within : (m : Memory) (n : ℕ) → HasRows m → Contains (candidates seed bits m key) n → n < cells_in m
  cell-within Without n rows there = absurd (let lt = there.1 in omega (arith, lt))
  cell-within (Ternary d ks rs cs) n rows there = let b = (range_bounds 0 (2048 * d) n there).1 in omega (arith, b)
  cell-within (Exact k per d first ks rs cs) n rows there =
      let row : ℕ → ℕ = λ way. key_row seed first d bits key way in
      let w = from_flat_map (λ way. range_with_len (index_of (1024 * d) per (record { way = way; row = row way; position = 0 })) per) (range_with_len 0 4) n there in
      let way = (range_bounds 0 4 w.0 w.1).1 in
      let low : row w.0 < 1024 * d = mod_below _ (1024 * d) (omega (arith, rows)) in
      let end = row-end w.0 (row w.0) (1024 * d) per (omega (arith, way)) low in
      let b = (range_bounds ((w.0 * (1024 * d) + row w.0) * per + 0) per n w.2).1 in
      let size : 4 * (1024 * d * per) ≡ 4096 * d * per = omega arith in
      omega (arith, b, end, size)

  -- a number among the candidates is that of a candidate cell of a part
  record Numbered (f : ℕ) (ps : List PartAt) (x : ℕ) : Type 0 where
    i : ℕ
    n : ℕ
    p : PartAt
    part : slice_get ps i ≡ Some p
    cell : Contains (own_cells p) n
    number : x ≡ f + (offset ps i + n)

  from-numbered : (f : ℕ) (ps : List PartAt) (x : ℕ) → Contains (numbered f ps) x → Numbered f ps x
  from-numbered f [] x there = absurd (let lt = there.1 in omega (arith, lt))
  from-numbered f (p ∷ ps) x there = elim (Contains-append_cases (map (λ n. f + n) (own_cells p)) (numbered (f + size_of p) ps) x there) [
    | inl here ↦
        let w = Contains-unmap (λ n. f + n) (own_cells p) x here in
        let e = w.2 in
        record { i = 0; n = w.0; p = p; part = refl; cell = w.1; number = omega (arith, e) }
    | inr later ↦
        let r = from-numbered (f + size_of p) ps x later in
        let e = r.number in
        record { i = suc r.i; n = r.n; p = r.p; part = r.part; cell = r.cell; number = omega (arith, e) }
  ]

  to-numbered : (f : ℕ) (ps : List PartAt) (i n : ℕ) (p : PartAt) → slice_get ps i ≡ Some p → Contains (own_cells p) n → Contains (numbered f ps) (f + (offset ps i + n))
  to-numbered f [] i n p there cell = absurd (none-some p there)
  to-numbered f (q ∷ ps) zero n p there cell =
      let none : f + n ≡ f + (0 + n) = omega arith in
      Contains-append_left (map (λ k. f + k) (own_cells q)) (numbered (f + size_of q) ps) (f + (0 + n))
      (subst (Contains (map (λ k. f + k) (own_cells q))) none
      (Contains-map (λ k. f + k) (own_cells q) n (subst (λ (r : PartAt). Contains (own_cells r) n) (sym (same_Some q p there)) cell)))
  to-numbered f (q ∷ ps) (suc i) n p there cell =
      let e : f + size_of q + (offset ps i + n) ≡ f + (size_of q + offset ps i + n) = omega arith in
      Contains-append_right (map (λ k. f + k) (own_cells q)) (numbered (f + size_of q) ps) (f + (size_of q + offset ps i + n))
      (subst (Contains (numbered (f + size_of q) ps)) e (to-numbered (f + size_of q) ps i n p there cell))

  -- ---- for a table, whose first part has the first ways

  module _ (ps : List PartAt) (xs : List PartCells) (zip : AllZip HasShape ps xs) (follow : SlotsFrom 0 (map (λ (p : PartAt). p.slot) ps)) (exact : All (λ (p : PartAt). is_of_kind kind.Exact p.slot.memory ≡ true) ps) (rows : All (λ (p : PartAt). HasRows p.slot.memory) ps) where
    all-numbered : loaded_in (layout_in xs) seed bytes ≡ numbered 0 ps
    all-numbered = numbers-from ps xs 0 0 zip follow exact

    -- a candidate cell in which a key may be loaded is one of a part
    pub record Candidate (x : ℕ) : Type 0 where
      pub i : ℕ
      pub n : ℕ
      pub p : PartAt
      pub is : IsNumber ps x i n p
      pub cell : Contains (candidates seed bits p.slot.memory key) n

    pub candidate-of : (x : ℕ) → Contains (loaded_in (layout_in xs) seed bytes) x → Candidate x
    candidate-of x there =
        let r = from-numbered 0 ps x (subst (λ cs. Contains cs x) all-numbered there) in
        let e = r.number in
        record {
          i = r.i;
          n = r.n;
          p = r.p;
          is = record {
            there = r.part;
            within = cell-within r.p.slot.memory r.n (All-slice_get (λ (p : PartAt). HasRows p.slot.memory) ps r.i r.p rows r.part) r.cell;
            number = omega (arith, e);
          };
          cell = r.cell;
        }

    -- and the other way
    pub of-candidate : (i n : ℕ) (p : PartAt) → slice_get ps i ≡ Some p → Contains (candidates seed bits p.slot.memory key) n
        → IsNumber ps (offset ps i + n) i n p × Contains (loaded_in (layout_in xs) seed bytes) (offset ps i + n)
    of-candidate i n p there cell =
        let e : 0 + (offset ps i + n) ≡ offset ps i + n = omega arith in (
          record { there = there; within = cell-within p.slot.memory n (All-slice_get (λ (q : PartAt). HasRows q.slot.memory) ps i p rows there) cell; number = refl },
          subst (λ cs. Contains cs (offset ps i + n)) (sym all-numbered) (subst (Contains (numbered 0 ps)) e (to-numbered 0 ps i n p there cell)),
        )
