-- The entries that stand in the parts of a table, part by part, are all that stand in the table.
use Rattle.std.proofs.lemmas.Bool.Decides.{nat_tests}
use Rattle.std.proofs.Common.{◌≡◌, ℕ, zero, suc, ◌+◌, ◌<◌, ◌≤◌, ◌∙◌, cond, Bool, true, false, ◌&&◌, List, [], ◌∷◌, ◌++◌, map, get_or, refl, sym, ap, inl, inr, arith}
use Rattle.std.specs.Prelude.{All, AllPairs, filter, nat_lt}
use Rattle.std.specs.List.{flat_map, range_with_len}
use Rattle.std.proofs.lemmas.Bool.{cases_lt, le-leb, le-ltb, lt-leb, lt-ltb}
use Rattle.std.proofs.lemmas.List.{append-nil, map-append}
use Rattle.std.proofs.lemmas.List.Concat.{flat_map-append}
use Rattle.std.proofs.lemmas.List.Elements.{All-cons, All-weaker}
use Rattle.rmt_bits.proofs.ListLaws.{range_more}
use Rattle.rmt_bits.proofs.PairLaws.{AllPairs-head, AllPairs-tail}
use Rattle.rmt_pack.specs.declared.placement.Part.{Part}
use Rattle.rmt_pack.specs.Placements.{quanta_in}
use Rattle.rmt_ast.specs.declared.program.Kind.TheVariants.{Keyless, Exact, Prefix, Ternary}
use Rattle.rmt_build.specs.Types.{Kind}
use Rattle.rmt_filling.specs.declared.stands.Stand.{Stand}
use Rattle.rmt_filling.specs.EntryCells.{cells_for, stands_there}
use Rattle.rmt_build.specs.Plans.{quanta_before}
use Rattle.rmt_build.proofs.PartLaws.{quanta_more}
use Rattle.rmt_build.proofs.StandLaws.{cells_add, first_cell, part_cells}
use Rattle.rmt_bits.proofs.AlikeLaws.{filter_alike, filter_none, filter_all}

-- ---- lists

-- ---- those before a cell

abbrev lies_before : ℕ → Stand → Bool
lies_before a s = nat_lt s.cell a

-- those before a cell, and then those in so many cells from there
in_front : (a cells : ℕ) (xs : List Stand) → AllPairs (λ (x y : Stand). x.cell < y.cell) xs
    → filter (lies_before a) xs ++ filter (stands_there a cells) xs ≡ filter (lies_before (a + cells)) xs
in_front a cells [] rise = refl
in_front a cells (x ∷ xs) rise = elim (cases_lt x.cell a) [
  | inl lt ↦
      let out : stands_there a cells x ≡ false = ap (λ b. b && nat_lt x.cell (a + cells)) (lt-leb a x.cell lt) in
      ap (λ b. cond b (x ∷ filter (lies_before a) xs) (filter (lies_before a) xs) ++ filter (stands_there a cells) (x ∷ xs)) (lt-ltb x.cell a lt)
      ∙ ap (λ b. (x ∷ filter (lies_before a) xs) ++ cond b (x ∷ filter (stands_there a cells) xs) (filter (stands_there a cells) xs)) out
      ∙ ap (λ ys. x ∷ ys) (in_front a cells xs (AllPairs-tail (λ (u v : Stand). u.cell < v.cell) x xs rise))
      ∙ sym (ap (λ b. cond b (x ∷ filter (lies_before (a + cells)) xs) (filter (lies_before (a + cells)) xs)) (lt-ltb x.cell (a + cells) (omega (arith, lt))))
  | inr le ↦
      let behind : All (λ (y : Stand). a ≤ y.cell) (x ∷ xs) =
      All-cons (λ (y : Stand). a ≤ y.cell) x xs le
      (All-weaker (λ (y : Stand). x.cell < y.cell) (λ (y : Stand). a ≤ y.cell) (λ y lt. omega (arith, lt, le)) xs (AllPairs-head (λ (u v : Stand). u.cell < v.cell) x xs rise)) in
      let none = filter_none (lies_before a) (x ∷ xs)
      (All-weaker (λ (y : Stand). a ≤ y.cell) (λ (y : Stand). lies_before a y ≡ false) (λ y from. le-ltb y.cell a from) (x ∷ xs) behind) in
      ap (λ ys. ys ++ filter (stands_there a cells) (x ∷ xs)) none
      ∙ filter_alike (stands_there a cells) (lies_before (a + cells)) (x ∷ xs)
      (All-weaker (λ (y : Stand). a ≤ y.cell) (λ (y : Stand). stands_there a cells y ≡ lies_before (a + cells) y)
      (λ y from. ap (λ b. b && nat_lt y.cell (a + cells)) (le-leb a y.cell from)) (x ∷ xs) behind)
]

pub no_quanta : (kind : Kind) (per : ℕ) → cells_for kind per 0 ≡ 0
no_quanta Keyless per = refl
no_quanta Exact per = omega arith
no_quanta Prefix per = omega arith
no_quanta Ternary per = omega arith

-- none stands in no cells
pub no_cell : (a cells : ℕ) (xs : List Stand) → cells ≡ 0 → filter (stands_there a cells) xs ≡ []
no_cell a cells xs none = filter_none (stands_there a cells) xs (λ i d lt. out (get_or xs i d))
  where
    out : (s : Stand) → stands_there a cells s ≡ false
    out s = grind (arith, nat_tests, none)

-- ---- part by part

module _ (kind : Kind) (per : ℕ) (parts : List Part) (n : ℕ) (own : List Stand) (rise : AllPairs (λ (a b : Stand). a.cell < b.cell) own) where
  -- those of the part in stage k, and those of the parts before
  abbrev pub stands_in : ℕ → List Stand
  stands_in k = filter (stands_there (first_cell kind per parts n k) (part_cells kind per parts n k)) own

  abbrev stands_before : ℕ → List Stand
  stands_before k = filter (lies_before (first_cell kind per parts n k)) own

  upto : {A : Type 0} (g : Stand → A) (m : ℕ) → flat_map (λ k. map g (stands_in k)) (range_with_len 0 m) ≡ map g (stands_before m)
  upto g zero =
      let none : first_cell kind per parts n 0 ≡ 0 = no_quanta kind per in
      sym (ap (map g) (filter_none (lies_before (first_cell kind per parts n 0)) own (λ i d lt. le-ltb (get_or own i d).cell (first_cell kind per parts n 0) (omega (arith, none)))))
  upto {A} g (suc m) =
      let e : suc m ≡ m + 1 = omega arith in
      let z : 0 + m ≡ m = omega arith in
      let next : first_cell kind per parts n (m + 1) ≡ first_cell kind per parts n m + part_cells kind per parts n m =
      ap (cells_for kind per) (quanta_more parts n m) ∙ cells_add kind per (quanta_before parts n m) (quanta_in parts n m) in
      let of : ℕ → List A = λ k. map g (stands_in k) in
      ap (λ j. flat_map of (range_with_len 0 j)) e
      ∙ ap (flat_map of) (range_more 0 m)
      ∙ flat_map-append of (range_with_len 0 m) ((0 + m) ∷ [])
      ∙ ap (λ j. flat_map of (range_with_len 0 m) ++ flat_map of (j ∷ [])) z
      ∙ ap (λ xs. flat_map of (range_with_len 0 m) ++ xs) (append-nil (of m))
      ∙ ap (λ xs. xs ++ of m) (upto g m)
      ∙ sym (map-append g (stands_before m) (stands_in m))
      ∙ ap (map g) (in_front (first_cell kind per parts n m) (part_cells kind per parts n m) own rise)
      ∙ ap (λ f. map g (filter (lies_before f) own)) (sym next)
      ∙ ap (λ j. map g (stands_before j)) (sym e)

  -- up to a stage before which all stand: all of them, by rising cell
  pub all_parts : {A : Type 0} (g : Stand → A) (stages : ℕ) → All (λ (s : Stand). s.cell < first_cell kind per parts n stages) own
      → flat_map (λ k. map g (stands_in k)) (range_with_len 0 stages) ≡ map g own
  all_parts g stages below =
      upto g stages
      ∙ ap (map g) (filter_all (lies_before (first_cell kind per parts n stages)) own
      (All-weaker (λ (s : Stand). s.cell < first_cell kind per parts n stages) (λ (s : Stand). lies_before (first_cell kind per parts n stages) s ≡ true)
      (λ s lt. lt-ltb s.cell (first_cell kind per parts n stages) lt) own below))
