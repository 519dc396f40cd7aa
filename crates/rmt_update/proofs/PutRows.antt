-- The rows of a table as they are gone over.
use Rattle.std.proofs.Common.{◌≡◌, ℕ, ◌+◌, ◌-◌, ◌<◌, ◌≤◌, Bool, cond, List, [], ◌∷◌, ◌++◌, append_assoc, Option, Some, None, length, length-append, map, take, drop, sym, ap, ◌∙◌, subst, inl, inr, arith}
use Rattle.std.specs.Prelude.{All, find}
use Rattle.std.specs.List.{list_any, range_with_len}
use Rattle.std.specs.BTreeMap.{get, is_at}
use Rattle.std.specs.BTreeSet.{BTreeSet}
use Rattle.std.specs.Map.{lookup}
use Rattle.std.specs.Ordering.{nat_cmp}
use Rattle.std.proofs.lemmas.Bool.{cases_lt, le-ltb, lt-ltb}
use Rattle.std.proofs.lemmas.Grind.{flat_map-append}
use Rattle.std.proofs.lemmas.List.{map-append, take-append-drop}
use Rattle.std.proofs.lemmas.List.FromFn.{length-map-range_with_len, map-range_with_len_more}
use Rattle.std.proofs.lemmas.Option.{none-some, same_Some}
use Rattle.rmt_bits.proofs.ListLaws.{range-append}
use Rattle.rmt_bits.specs.Bits.{bytes_of}
use Rattle.rmt_ast.specs.RankPairs.{pair_cmp}
use Rattle.rmt_config.specs.LaneForm.{bits_of_lanes}
use Rattle.rmt_config.specs.Rooms.{PartAt}
use Rattle.rmt_config.specs.BlockCounts.{divided_up}
use Rattle.rmt_ast.specs.declared.program.Kind.{Kind}
use Rattle.rmt_book.specs.declared.kept.Kept.{Kept}
use Rattle.rmt_book.specs.declared.row_order.RowOrder.{RowOrder}
use Rattle.rmt_book.specs.declared.spots.Spot.{Spot}
use Rattle.rmt_book.specs.declared.table.PartCells.{PartCells}
use Rattle.rmt_update.specs.Open.{first_of, first_open, in_part, is_open}
use Rattle.rmt_book.specs.PartShape.{cell_count}
use Rattle.rmt_update.specs.RowIndex.{AreRows, HaveOwnRows, IsNone, part_rows, rows_of}
use Rattle.rmt_book.specs.Spots.{spot_from}
use Rattle.rmt_update.proofs.RowIndexLaws.{own-front}

-- a set of nothing
pub none-set : (s : BTreeSet ℕ) → s.keys ≡ [] → IsNone s
none-set s empty n = ap (list_any (is_at (nat_cmp n))) empty

-- no rows
pub rows-none : (kind : Kind) (odd : Bool) (goes : ℕ → Bool) (o : RowOrder) → o.rows.entries ≡ [] → o.free.keys ≡ [] → AreRows kind odd goes [] o
rows-none kind odd goes o rows free = record {
  rows = λ key row at. absurd (none-some row (sym (ap (lookup (is_at (pair_cmp key))) rows) ∙ at));
  all = λ row k at stays. absurd (none-some (Some k) at);
  free = λ row. none-set o.free free row;
}

-- the rows of a part, with the next one apart
part-split : {X : Type 0} (f : ℕ → X) (n cell : ℕ) → cell < n → map f (range_with_len 0 n) ≡ (map f (range_with_len 0 cell) ++ f cell ∷ []) ++ map f (range_with_len (cell + 1) (n - (cell + 1)))
part-split f n cell lt =
    let size : n ≡ cell + 1 + (n - (cell + 1)) = omega (arith, lt) in
    let start : 0 + (cell + 1) ≡ cell + 1 = omega arith in
    ap (λ m. map f (range_with_len 0 m)) size
    ∙ ap (map f) (range-append 0 (cell + 1) (n - (cell + 1))) ∙ map-append f (range_with_len 0 (cell + 1)) (range_with_len (0 + (cell + 1)) (n - (cell + 1)))
    ∙ ap (λ a. map f (range_with_len 0 (cell + 1)) ++ map f (range_with_len a (n - (cell + 1)))) start
    ∙ ap (λ xs. xs ++ map f (range_with_len (cell + 1) (n - (cell + 1)))) (map-range_with_len_more f 0 cell cell (let e : 0 + cell ≡ cell = omega arith in e))

-- the next row of a part
pub put-next : (kind : Kind) (odd : Bool) (goes : ℕ → Bool) (f : ℕ → Option Kept) (n cell first : ℕ) (xs : List (Option Kept)) (o : Option Kept) (old new : RowOrder) → cell < n → length xs ≡ first
    → HaveOwnRows (xs ++ map f (range_with_len 0 n)) → o ≡ f cell → AreRows kind odd goes (xs ++ map f (range_with_len 0 cell)) old
    → ((zs : List (Option Kept)) → length zs ≡ first + cell → HaveOwnRows (zs ++ o ∷ []) → AreRows kind odd goes zs old → AreRows kind odd goes (zs ++ o ∷ []) new)
    → AreRows kind odd goes (xs ++ map f (range_with_len 0 (cell + 1))) new
put-next kind odd goes f n cell first xs o old new lt count own is are put =
    let ys = map f (range_with_len 0 cell) in
    let rest = map f (range_with_len (cell + 1) (n - (cell + 1))) in
    let long = length-append xs ys in
    let size = length-map-range_with_len f 0 cell in
    let next : (xs ++ ys) ++ o ∷ [] ≡ xs ++ map f (range_with_len 0 (cell + 1)) =
    append_assoc xs ys (o ∷ []) ∙ ap (λ z. xs ++ (ys ++ z ∷ [])) is ∙ ap (λ zs. xs ++ zs) (sym (map-range_with_len_more f 0 cell cell (let e : 0 + cell ≡ cell = omega arith in e))) in
    let all : xs ++ map f (range_with_len 0 n) ≡ ((xs ++ ys) ++ o ∷ []) ++ rest =
    ap (λ zs. xs ++ zs) (part-split f n cell lt) ∙ sym (append_assoc xs (ys ++ f cell ∷ []) rest) ∙ ap (λ zs. zs ++ rest) (sym (append_assoc xs ys (f cell ∷ [])))
    ∙ ap (λ z. ((xs ++ ys) ++ z ∷ []) ++ rest) (sym is) in
    subst (λ zs. AreRows kind odd goes zs new) next
    (put (xs ++ ys) (omega (arith, long, size, count)) (own-front ((xs ++ ys) ++ o ∷ []) rest (subst HaveOwnRows all own)) are)

-- those of the parts so far have numbers of their own
pub own-take : (xs : List PartCells) (n : ℕ) → HaveOwnRows (rows_of xs) → HaveOwnRows (rows_of (take n xs))
own-take xs n own = own-front (rows_of (take n xs)) (rows_of (drop n xs)) (subst HaveOwnRows (ap rows_of (sym (take-append-drop n xs)) ∙ flat_map-append part_rows (take n xs) (drop n xs)) own)

-- ---- the candidate cells of a key

pub keys-are : (ps : List PartAt) (bits : ℕ) (key : List ℕ) (number : ℕ) → key ≡ bytes_of (divided_up bits 8) number → All (λ (p : PartAt). bits_of_lanes p.slot.keys ≡ bits) ps
    → All (λ (p : PartAt). key ≡ bytes_of (divided_up (bits_of_lanes p.slot.keys) 8) number) ps
keys-are ps bits key number is all i d lt = is ∙ ap (λ n. bytes_of (divided_up n 8) number) (sym (all i d lt))

-- ---- spots within parts

pub open-within : (odd : Bool) (at : ℕ) (ps : List PartCells) (gs : List (BTreeSet ℕ)) (css : List (List ℕ)) (s : Spot) → first_open odd at ps gs css ≡ Some s → (at ≤ s.part) × (s.part < at + length ps)
open-within odd at [] gs css s e = absurd (none-some s e)
open-within odd at (p ∷ ps) [] css s e = absurd (none-some s e)
open-within odd at (p ∷ ps) (g ∷ gs) [] s e = absurd (none-some s e)
open-within odd at (p ∷ ps) (g ∷ gs) (cs ∷ css) s e = by (find (is_open odd p g) cs) e (open-within odd (at + 1) ps gs css s)
  where
    by : (o : Option ℕ) → first_of (in_part at o) (first_open odd (at + 1) ps gs css) ≡ Some s → (first_open odd (at + 1) ps gs css ≡ Some s → (at + 1 ≤ s.part) × (s.part < at + 1 + length ps)) → (at ≤ s.part) × (s.part < at + length (p ∷ ps))
    by None h rest = let r = rest h in let a = r.0 in let b = r.1 in (omega (arith, a), omega (arith, b))
    by (Some n) h rest = let same = ap (λ (t : Spot). t.part) (same_Some (record { part = at; cell = n }) s h) in (omega (arith, same), omega (arith, same))

spot-low : (at : ℕ) (xs : List PartCells) (i : ℕ) → i < length (rows_of xs) → (spot_from at xs i).part < at + length xs
spot-low at [] i lt = absurd (omega (arith, lt))
spot-low at (x ∷ xs) i lt = elim (cases_lt i (cell_count x.shape.grid)) [
  | inl less ↦
      let same : (spot_from at (x ∷ xs) i).part ≡ at =
      ap (λ b. (cond b (record { part = at; cell = i }) (spot_from (at + 1) xs (i - cell_count x.shape.grid))).part) (lt-ltb i (cell_count x.shape.grid) less) in
      omega (arith, same)
  | inr le ↦
      let same : (spot_from at (x ∷ xs) i).part ≡ (spot_from (at + 1) xs (i - cell_count x.shape.grid)).part =
      ap (λ b. (cond b (record { part = at; cell = i }) (spot_from (at + 1) xs (i - cell_count x.shape.grid))).part) (le-ltb i (cell_count x.shape.grid) le) in
      let size = length-map-range_with_len (get nat_cmp x.cells) 0 (cell_count x.shape.grid) in
      let long = length-append (part_rows x) (rows_of xs) in
      let rest = spot-low (at + 1) xs (i - cell_count x.shape.grid) (omega (arith, lt, le, size, long)) in
      omega (arith, same, rest)
]

pub spot-within : (xs : List PartCells) (i : ℕ) → i < length (rows_of xs) → (spot_from 0 xs i).part < length xs
spot-within xs i lt = let l = spot-low 0 xs i lt in omega (arith, l)
