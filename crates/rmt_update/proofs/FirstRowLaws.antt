-- The first free row that keeps the order is the first room that an entry that comes may take.
use Rattle.std.proofs.Common.{◌≡◌, ℕ, zero, suc, ◌<◌, Bool, true, false, not, ◌&&◌, ◌||◌, cond, eqb, List, [], ◌∷◌, Option, Some, None, refl, sym, ap, ◌∙◌, arith}
use Rattle.std.specs.Prelude.{All, Contains, find, nat_lt, option_and_then, slice_get}
use Rattle.std.specs.List.{list_all}
use Rattle.std.specs.BTreeMap.{BTreeMap, get}
use Rattle.std.specs.BTreeSet.{BTreeSet, contains}
use Rattle.std.specs.Ordering.{nat_cmp}
use Rattle.std.specs.declared.cmp.Ordering.TheVariants.{Less}
use Rattle.std.proofs.lemmas.Bool.{and_from, and_parts, eq-eqb, eqb-true, false≢true}
use Rattle.std.proofs.lemmas.Bool.Decides.{nat_tests}
use Rattle.std.proofs.lemmas.List.Elements.{All-contains, All-head, All-tail}
use Rattle.std.proofs.lemmas.Option.{none-some, same_Some}
use Rattle.rmt_bits.proofs.AllLaws.{All-from_test}
use Rattle.rmt_ast.specs.RankPairs.{pair_cmp}
use Rattle.rmt_ast.specs.RowOrder.{goes_first}
use Rattle.rmt_ast.specs.declared.entry.Entry.{Entry}
use Rattle.rmt_ast.specs.declared.program.Kind.{Kind}
use Rattle.rmt_config.specs.Commits.{Placed, is_free, keeps_order}
use Rattle.rmt_config.specs.Rooms.{Room, is_before}
use Rattle.rmt_config.specs.RunCells.{RunCells}
use Rattle.rmt_book.specs.RowOrder.{Fits, IsFirstFit}

-- ---- the first item that passes

find-at : (test : Room → Bool) (xs : List Room) (i : ℕ) (x : Room) → slice_get xs i ≡ Some x → test x ≡ true → ((j : ℕ) (y : Room) → j < i → slice_get xs j ≡ Some y → test y ≡ false) → find test xs ≡ Some x
find-at test [] i x at own first = absurd (none-some x at)
find-at test (z ∷ xs) zero x at own first =
    let same : z ≡ x = same_Some z x at in
    ap (λ b. cond b (Some z) (find test xs)) (ap test same ∙ own) ∙ at
find-at test (z ∷ xs) (suc i) x at own first =
    ap (λ b. cond b (Some z) (find test xs)) (first 0 z (omega arith) refl) ∙ find-at test xs i x at own (λ j y lt here. first (suc j) y (omega (arith, lt)) here)

find-no : (test : Room → Bool) (xs : List Room) → ((j : ℕ) (y : Room) → slice_get xs j ≡ Some y → test y ≡ false) → find test xs ≡ None
find-no test [] all = refl
find-no test (z ∷ xs) all = ap (λ b. cond b (Some z) (find test xs)) (all 0 z refl) ∙ find-no test xs (λ j y here. all (suc j) y here)

-- ---- an order by pairs

module _ (cells : RunCells) (placed : List Placed) (kind : Kind) (e : Entry) (key : Entry → ℕ × ℕ) (rooms : List Room) (rows : BTreeMap (ℕ × ℕ) ℕ) (free : BTreeSet ℕ)
    (Low : Entry → Type 0) (goes : (a b : Entry) → Low a → Low b → goes_first kind a b ≡ true → pair_cmp (key a) (key b) ≡ Less)
    (goes-by : (a b : Entry) → Low a → Low b → pair_cmp (key a) (key b) ≡ Less → goes_first kind a b ≡ true)
    (low : All (λ (p : Placed). p.entry.table ≡ e.table → Low p.entry) placed) (low-own : Low e)
    (before : (i j : ℕ) (a b : Room) → slice_get rooms i ≡ Some a → slice_get rooms j ≡ Some b → is_before a b ≡ nat_lt i j)
    (are-free : (i : ℕ) (a : Room) → slice_get rooms i ≡ Some a → is_free cells placed a ≡ contains nat_cmp free i)
    (within : (i : ℕ) → contains nat_cmp free i ≡ true → (a : Room) × (slice_get rooms i ≡ Some a))
    (listed : All (λ (p : Placed). p.entry.table ≡ e.table → (i : ℕ) × (slice_get rooms i ≡ Some p.room) × (get pair_cmp rows (key p.entry) ≡ Some i)) placed)
    (own : (k : ℕ × ℕ) (i : ℕ) → get pair_cmp rows k ≡ Some i → (p : Placed) × Contains placed p × (p.entry.table ≡ e.table) × (k ≡ key p.entry) × (slice_get rooms i ≡ Some p.room)) where
  -- what one entry asks of a room
  abbrev asks : Room → Placed → Bool
  asks room p = not (eqb p.entry.table e.table) || ((not (goes_first kind p.entry e) || is_before p.room room) && (not (goes_first kind e p.entry) || is_before room p.room))

  less : (i j : ℕ) → nat_lt i j ≡ true → i < j
  less i j h = grind (arith, nat_tests)

  is-less : (i j : ℕ) → i < j → nat_lt i j ≡ true
  is-less i j h = grind (arith, nat_tests)

  -- an order that is kept
  fits : (i : ℕ) (room : Room) → slice_get rooms i ≡ Some room → keeps_order kind placed e room ≡ true → Fits rows (key e) i
  fits i room at keeps = λ k j there.
      let p = own k j there in
      let asked = All-contains (λ (q : Placed). asks room q ≡ true) placed p.0 (All-from_test (λ (q : Placed). asks room q ≡ true) (asks room) (λ q h. h) placed keeps) p.1 in
      let two = one (eqb p.0.entry.table e.table) _ (eq-eqb p.0.entry.table e.table p.2) asked in
      let parts = and_parts _ _ two in
      let small = All-contains (λ (q : Placed). q.entry.table ≡ e.table → Low q.entry) placed p.0 low p.1 p.2 in (
        λ l. less j i (sym (before j i p.0.room room p.4 at) ∙ then (goes_first kind p.0.entry e) _ (goes-by p.0.entry e small low-own (ap (λ m. pair_cmp m (key e)) (sym p.3) ∙ l)) parts.0),
        λ l. less i j (sym (before i j room p.0.room at p.4) ∙ then (goes_first kind e p.0.entry) _ (goes-by e p.0.entry low-own small (ap (pair_cmp (key e)) (sym p.3) ∙ l)) parts.1),
      )
    where
      one : (a b : Bool) → a ≡ true → (not a || b) ≡ true → b ≡ true
      one true b t h = h
      one false b t h = absurd (false≢true t)

      then : (a b : Bool) → a ≡ true → (not a || b) ≡ true → b ≡ true
      then true b t h = h
      then false b t h = absurd (false≢true t)

  -- and the other way round
  keeps : (i : ℕ) (room : Room) → slice_get rooms i ≡ Some room → Fits rows (key e) i → keeps_order kind placed e room ≡ true
  keeps i room at fit = all placed listed low
    where
      unless : (a b : Bool) → (a ≡ true → b ≡ true) → (not a || b) ≡ true
      unless true b h = h refl
      unless false b h = refl

      all : (ps : List Placed) → All (λ (p : Placed). p.entry.table ≡ e.table → (j : ℕ) × (slice_get rooms j ≡ Some p.room) × (get pair_cmp rows (key p.entry) ≡ Some j)) ps → All (λ (p : Placed). p.entry.table ≡ e.table → Low p.entry) ps → list_all (asks room) ps ≡ true
      all [] every lows = refl
      all (p ∷ ps) every lows =
          and_from (asks room p) (list_all (asks room) ps)
          (unless (eqb p.entry.table e.table) _ (λ t.
          let place = All-head (λ (q : Placed). q.entry.table ≡ e.table → (j : ℕ) × (slice_get rooms j ≡ Some q.room) × (get pair_cmp rows (key q.entry) ≡ Some j)) p ps every (eqb-true p.entry.table e.table t) in
          let fitted = fit (key p.entry) place.0 place.2 in
          let small = All-head (λ (q : Placed). q.entry.table ≡ e.table → Low q.entry) p ps lows (eqb-true p.entry.table e.table t) in
          and_from _ _
          (unless (goes_first kind p.entry e) _ (λ g. before place.0 i p.room room place.1 at ∙ is-less place.0 i (fitted.0 (goes p.entry e small low-own g))))
          (unless (goes_first kind e p.entry) _ (λ g. before i place.0 room p.room at place.1 ∙ is-less i place.0 (fitted.1 (goes e p.entry low-own small g))))))
          (all ps (All-tail (λ (q : Placed). q.entry.table ≡ e.table → (j : ℕ) × (slice_get rooms j ≡ Some q.room) × (get pair_cmp rows (key q.entry) ≡ Some j)) p ps every) (All-tail (λ (q : Placed). q.entry.table ≡ e.table → Low q.entry) p ps lows))

  abbrev test : Room → Bool
  test room = is_free cells placed room && keeps_order kind placed e room

  fails : (i : ℕ) (room : Room) → slice_get rooms i ≡ Some room → (contains nat_cmp free i ≡ true → Fits rows (key e) i → ⊥) → test room ≡ false
  fails i room at not-here = by (test room) refl
    where
      by : (b : Bool) → test room ≡ b → b ≡ false
      by false h = refl
      by true h = let parts = and_parts _ _ h in absurd (not-here (sym (are-free i room at) ∙ parts.0) (fits i room at parts.1))

  -- the first free row that keeps the order
  pub first-row : (r : Option ℕ) → IsFirstFit rows free (key e) r → find (λ room. is_free cells placed room && keeps_order kind placed e room) rooms ≡ option_and_then (slice_get rooms) r
  first-row None none = find-no test rooms (λ j y at. fails j y at (none j))
  first-row (Some i) h =
      let there = within i h.0 in
      find-at test rooms i there.0 there.1 (and_from _ _ (are-free i there.0 there.1 ∙ h.0) (keeps i there.0 there.1 h.1)) (λ j y lt at. fails j y at (h.2 j lt)) ∙ sym there.1
