-- What a configuration that is built by a plan keeps beside carrying the program: formats by the rule, and rows by rank.
use Rattle.std.proofs.lemmas.Bool.Decides.{nat_tests}
use Rattle.std.proofs.Common.{◌≡◌, ℕ, zero, suc, ◌+◌, ◌*◌, ◌<◌, ◌≤◌, Bool, true, false, cond, List, [], ◌∷◌, Some, length, map, get_or, refl, sym, ap, ◌∙◌, subst, inl, inr, arith}
use Rattle.std.specs.Prelude.{Contains, count_by, slice_get, sum_by}
use Rattle.std.specs.List.{range_with_len}
use Rattle.std.proofs.lemmas.Bool.{cases_eq}
use Rattle.std.proofs.lemmas.List.Elements.{Contains-get_or, All-contains}
use Rattle.std.proofs.lemmas.List.{get_or-map, length-map}
use Rattle.std.proofs.lemmas.List.FromFn.{get_or-range_with_len, length-range_with_len}
use Rattle.std.proofs.lemmas.List.Sorted.{All-permutation, length_permutation, sum_by-IsPermutation}
use Rattle.std.proofs.lemmas.List.Sums.{sum_by-cons}
use Rattle.std.proofs.lemmas.Option.{get_or_from_slice_get, same_Some}
use Rattle.rmt_bits.proofs.AllLaws.{All-range}
use Rattle.rmt_bits.proofs.ListLaws.{slice_get-alike, slice_get-item, sum_by-map}
use Rattle.rmt_build.specs.Types.{Program, Kind, Config, Stage}
use Rattle.rmt_ast.specs.declared.program.Kind.TheVariants.{Keyless, Exact, Prefix, Ternary}
use Rattle.rmt_ast.specs.declared.entry.Entry.{Entry}
use Rattle.rmt_ast.specs.EntryLists.{AreEntries}
use Rattle.rmt_ast.specs.RowOrder.{goes_first}
use Rattle.rmt_refine.specs.declared.map.CellOf.{CellOf}
use Rattle.rmt_refine.specs.Cells.{IsTold}
use Rattle.rmt_refine.specs.Units.{UnitsCarried}
use Rattle.rmt_filling.specs.declared.memory.PartNeed.{PartNeed}
use Rattle.rmt_filling.specs.declared.memory.Taken.{Taken}
use Rattle.rmt_filling.specs.declared.stands.Stand.{Stand}
use Rattle.rmt_filling.specs.declared.plan.Plan.{Plan}
use Rattle.rmt_build.specs.BuiltStage.{IsBuiltStage}
use Rattle.rmt_filling.specs.Memories.{memory_for}
use Rattle.rmt_build.specs.Plans.{AreStands, quanta_before}
use Rattle.rmt_filling.specs.Formats.{format_at}
use Rattle.rmt_build.specs.Promises.{HasFormat, HasRows, StandInRows}
use Rattle.rmt_filling.specs.EntryCells.{GoesFirst, StandInOrder, cells_for}
use Rattle.rmt_build.specs.Told.{cells_told}
use Rattle.rmt_build.proofs.CellsLaws.{told_stands}
use Rattle.rmt_build.proofs.TableLaws.{AreInRows, goes_back, goes_itself}
use Rattle.rmt_bits.proofs.MemberLaws.{Contains-map}

-- ---- formats

pub memory_format_is : (kind : Kind) (need : PartNeed) (taken : Taken) → HasFormat need.format (memory_for kind need taken)
memory_format_is Keyless need taken = tt
memory_format_is Exact need taken = (refl, refl)
memory_format_is Prefix need taken = tt
memory_format_is Ternary need taken = tt

-- ---- rows

-- what goes first by the order of rows is what the rule finds
pub goes_true : (kind : Kind) (e f : Entry) → GoesFirst kind e f → goes_first kind e f ≡ true
goes_true Keyless e f goes = absurd goes
goes_true Exact e f goes = absurd goes
goes_true Prefix e f goes = grind (arith, nat_tests, goes)
goes_true Ternary e f goes = grind (arith, nat_tests, goes)

-- ---- the number of a row

-- where the first i items of a list pass a test, and no other one, i items do
count_front : {X : Type 0} (test : X → Bool) (xs : List X) (i : ℕ) (d : X) → i ≤ length xs → ((j : ℕ) → j < i → test (get_or xs j d) ≡ true) → ((j : ℕ) → i ≤ j → j < length xs → test (get_or xs j d) ≡ false)
    → count_by test xs ≡ i
count_front test [] zero d le front back = refl
count_front test [] (suc i) d le front back = absurd (omega (arith, le))
count_front test (x ∷ xs) zero d le front back =
    let rest = count_front test xs zero d (omega arith) (λ j lt. absurd (omega (arith, lt))) (λ j low lt. back (suc j) (omega arith) (omega (arith, lt))) in
    let here : ◌≡◌ {A = ℕ} (cond (test x) 1 0) 0 = ap (λ b. cond b 1 0) (back 0 (omega arith) (omega arith)) in
    omega (arith, rest, here, sum_by-cons (λ y. cond (test y) 1 0) x xs)
count_front test (x ∷ xs) (suc i) d le front back =
    let rest = count_front test xs i d (omega (arith, le)) (λ j lt. front (suc j) (omega (arith, lt))) (λ j low lt. back (suc j) (omega (arith, low)) (omega (arith, lt))) in
    let here : ◌≡◌ {A = ℕ} (cond (test x) 1 0) 1 = ap (λ b. cond b 1 0) (front 0 (omega arith)) in
    omega (arith, rest, here, sum_by-cons (λ y. cond (test y) 1 0) x xs)

-- a sum over a list is one over its places
sum_places : {X : Type 0} (f : X → ℕ) (xs : List X) (d : X) → sum_by f xs ≡ sum_by (λ j. f (get_or xs j d)) (range_with_len 0 (length xs))
sum_places {X = X} f xs d = by xs
  where
    shifted : (g : ℕ → ℕ) (a n : ℕ) → sum_by g (range_with_len (a + 1) n) ≡ sum_by (λ j. g (j + 1)) (range_with_len a n)
    shifted g a zero = refl
    shifted g a (suc n) =
        sum_by-cons g (a + 1) (range_with_len (a + 1 + 1) n) ∙ ap (λ k. g (a + 1) + k) (shifted g (a + 1) n) ∙ sym (sum_by-cons (λ j. g (j + 1)) a (range_with_len (a + 1) n))

    later : (y : X) (ys : List X) (n a : ℕ) → sum_by (λ j. f (get_or (y ∷ ys) (j + 1) d)) (range_with_len a n) ≡ sum_by (λ j. f (get_or ys j d)) (range_with_len a n)
    later y ys zero a = refl
    later y ys (suc n) a =
        let e : a + 1 ≡ suc a = omega arith in
        sum_by-cons (λ j. f (get_or (y ∷ ys) (j + 1) d)) a (range_with_len (a + 1) n)
        ∙ ap (λ k. f (get_or (y ∷ ys) k d) + sum_by (λ j. f (get_or (y ∷ ys) (j + 1) d)) (range_with_len (a + 1) n)) e
        ∙ ap (λ k. f (get_or ys a d) + k) (later y ys n (a + 1)) ∙ sym (sum_by-cons (λ j. f (get_or ys j d)) a (range_with_len (a + 1) n))

    by : (ys : List X) → sum_by f ys ≡ sum_by (λ j. f (get_or ys j d)) (range_with_len 0 (length ys))
    by [] = refl
    by (y ∷ ys) =
        let none : 0 + 1 ≡ 1 = omega arith in
        sum_by-cons f y ys
        ∙ ap (λ k. f y + k)
        (by ys ∙ sym (later y ys (length ys) 0) ∙ sym (shifted (λ j. f (get_or (y ∷ ys) j d)) 0 (length ys)))
        ∙ sym (sum_by-cons (λ j. f (get_or (y ∷ ys) j d)) 0 (range_with_len (0 + 1) (length ys)))

module _ (kind : Kind) (es : List Entry) (own : List Stand) (order : StandInOrder kind es own) (s : Stand) (e : Entry) (there : Contains own s) (entry_is : slice_get es s.entry ≡ Some e) where
  abbrev first_at : Stand → Bool
  first_at r = goes_first kind (get_or es r.entry e) e

  long : length own ≡ length es
  long =
      sym (length-map own (λ (r : Stand). r.entry)) ∙ length_permutation (range_with_len 0 (length es)) (map (λ (r : Stand). r.entry) own) order.each ∙ length-range_with_len 0 (length es)

  -- the number of the row is the stand's place
  place_is : s.cell ≡ there.0
  place_is =
      let at : get_or own there.0 s ≡ s = there.2 in
      let less = there.1 in
      sym (ap (λ (r : Stand). r.cell) at) ∙ sym (get_or-map (λ (r : Stand). r.cell) own there.0 s 0 less) ∙ ap (λ xs. get_or xs there.0 0) order.rows
      ∙ get_or-range_with_len 0 (length es) there.0 0 (omega (arith, less, long)) ∙ omega arith

  known : (j : ℕ) → j < length own → slice_get es (get_or own j s).entry ≡ Some (get_or es (get_or own j s).entry e)
  known j lt =
      let below : (get_or own j s).entry < length es = entry_below (get_or own j s) (Contains-get_or own j s lt) in
      let r = slice_get-item es (get_or own j s).entry below in
      r.1 ∙ ap Some (sym (get_or_from_slice_get es (get_or own j s).entry r.0 e r.1))
    where
      entry_below : (r : Stand) → Contains own r → r.entry < length es
      entry_below r in_own =
          All-contains (λ x. x < length es) (map (λ (y : Stand). y.entry) own) r.entry
          (All-permutation (λ x. x < length es) (range_with_len 0 (length es)) (map (λ (y : Stand). y.entry) own) order.each (All-range (λ x. x < length es) 0 (length es) (λ w lt. omega (arith, lt))))
          (Contains-map (λ (y : Stand). y.entry) own r in_own)

  own_entry : slice_get es (get_or own there.0 s).entry ≡ Some e
  own_entry = ap (λ (r : Stand). slice_get es r.entry) there.2 ∙ entry_is

  row_counts : count_by first_at own ≡ there.0
  row_counts =
      count_front first_at own there.0 s (let lt = there.1 in omega (arith, lt))
      (λ j lt.
      goes_true kind (get_or es (get_or own j s).entry e) e (order.order j there.0 s lt there.1 (get_or es (get_or own j s).entry e) e (known j (let less = there.1 in omega (arith, lt, less))) own_entry))
      (λ j low lt. elim (cases_eq there.0 j) [
        | inl same ↦
            let here : get_or es (get_or own j s).entry e ≡ e = same_Some (get_or es (get_or own j s).entry e) e (sym (known j lt) ∙ ap (λ i. slice_get es (get_or own i s).entry) (sym same) ∙ own_entry) in
            ap (λ (x : Entry). goes_first kind x e) here ∙ goes_itself kind e
        | inr other ↦
            goes_back kind e (get_or es (get_or own j s).entry e)
            (order.order there.0 j s (omega (arith, low, other)) lt e (get_or es (get_or own j s).entry e) own_entry (known j lt))
      ])

  pub row_is : s.cell ≡ count_by (λ (f : Entry). goes_first kind f e) es
  row_is =
      place_is ∙ sym row_counts
      ∙ sym (sum_by-map (λ (i : ℕ). cond (goes_first kind (get_or es i e) e) 1 0) (λ (r : Stand). r.entry) own)
      ∙ sum_by-IsPermutation (λ (i : ℕ). cond (goes_first kind (get_or es i e) e) 1 0) (range_with_len 0 (length es)) (map (λ (r : Stand). r.entry) own) order.each
      ∙ sym (sum_places (λ (f : Entry). cond (goes_first kind f e) 1 0) es e)

-- ---- rows of the map

row_cells : (kind : Kind) (per q : ℕ) → HasRows kind → cells_for kind per q ≡ 2048 * q
row_cells Keyless per q has = absurd has
row_cells Exact per q has = absurd has
row_cells Prefix per q has = refl
row_cells Ternary per q has = refl

module _ (p : Program) (lists : List (List Entry)) (plan : Plan) (c : Config) (cells : List CellOf) (entries : AreEntries p lists)
    (units : UnitsCarried p plan.places plan.placement.parts plan.starts c) (stands : AreStands p lists plan.placement.parts plan.stands)
    (built : (k : ℕ) (stage : Stage) → slice_get c.stages k ≡ Some stage → IsBuiltStage p lists plan k stage)
    (cells_are : cells ≡ cells_told (length p.nodes) c.stages) where
  -- each entry of a table with rows stands in the row that has the number of those that go first
  pub stand_in_rows : AreInRows p lists plan c cells entries units stands built cells_are → StandInRows p lists plan.placement.parts cells
  stand_in_rows in_rows n t es table_is has es_are e x in_e in_x number =
      let own = slice_get-alike lists plan.stands n es stands.all_there es_are in
      let told : IsTold cells e (record { stage = x.stage; place = 0; cell = x.cell }) =
      subst (λ m. Contains cells (record { entry = m; stage = x.stage; cell = x.cell })) number in_x in
      let s = told_stands p lists plan c cells entries units stands built cells_are n t es own.0 table_is es_are own.1 e (record { stage = x.stage; place = 0; cell = x.cell }) in_e told in
      let row = row_is t.kind es own.0 (in_rows n t es own.0 table_is has es_are own.1) s.stand e s.there s.entry_is in
      ap (λ q. q + x.cell) (sym (row_cells t.kind (format_at p n).per (quanta_before plan.placement.parts n x.stage) has)) ∙ sym s.cell_is ∙ row
