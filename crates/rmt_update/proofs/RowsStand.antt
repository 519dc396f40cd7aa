-- The rows of the entries of a prefix or ternary table, as entries come to it.
use Rattle.std.proofs.Common.{◌≡◌, ◌≢◌, ◌⊎◌, ℕ, ◌<◌, Bool, true, false, cond, List, [], ◌∷◌, ◌++◌, Option, Some, None, refl, sym, ap, ◌∙◌, inl, inr, arith}
use Rattle.std.specs.Prelude.{All, Contains, slice_get}
use Rattle.std.specs.BTreeMap.{get, is_at}
use Rattle.std.specs.BTreeSet.{contains}
use Rattle.std.specs.Ordering.{is_eq, nat_cmp}
use Rattle.std.specs.declared.cmp.Ordering.{Ordering}
use Rattle.std.specs.declared.cmp.Ordering.TheVariants.{Less, Equal, Greater}
use Rattle.std.proofs.lemmas.Bool.{false≢true}
use Rattle.std.proofs.lemmas.List.Elements.{All-contains, All-push, All-weaker, Contains-append_left, Contains-push}
use Rattle.std.proofs.lemmas.Option.{none-some, same_Some}
use Rattle.rmt_ast.specs.RankPairs.{pair_cmp}
use Rattle.rmt_ast.specs.declared.entry.Entry.{Entry}
use Rattle.rmt_ast.specs.declared.program.Kind.{Kind}
use Rattle.rmt_ast.specs.declared.program.Kind.TheVariants as kind
use Rattle.rmt_config.specs.Commits.{Placed, is_free}
use Rattle.rmt_config.specs.Rooms.{Room, is_same}
use Rattle.rmt_config.specs.RunCells.{RunCells}
use Rattle.rmt_book.specs.declared.row_order.RowOrder.{RowOrder}
use Rattle.rmt_book.specs.RowOrder.{AreInOrder, Fits, entry_key}
use Rattle.rmt_update.specs.Taking.{IsRowGiven}
use Rattle.rmt_update.proofs.RoomGiven.{free-push, given-push}
use Rattle.rmt_update.proofs.RowIndexLaws.{own-key, own-number, same-key, same-number}

-- ranks that turn round within 32 bits
abbrev pub IsLow : Kind → Entry → Type 0
IsLow kind.Keyless e = Unit {0}
IsLow kind.Exact e = Unit {0}
IsLow kind.Prefix e = e.rank < 4294967296
IsLow kind.Ternary e = Unit {0}

-- what is put in order by tells the number
pub entry-number : (k : Kind) (a b : Entry) → entry_key k a ≡ entry_key k b → a.number ≡ b.number
entry-number kind.Keyless a b e = ap (λ (p : ℕ × ℕ). p.1) e
entry-number kind.Exact a b e = ap (λ (p : ℕ × ℕ). p.1) e
entry-number kind.Prefix a b e = ap (λ (p : ℕ × ℕ). p.1) e
entry-number kind.Ternary a b e = ap (λ (p : ℕ × ℕ). p.1) e

-- the rows of the entries of a table that have rooms by now, and the free ones
pub record RowsStand (cells : RunCells) (of : Kind) (node : ℕ) (rooms : List Room) (ps : List Placed) (o : RowOrder) : Type 0 where
  pub low : All (λ (p : Placed). p.entry.table ≡ node → IsLow of p.entry) ps
  pub free : (i : ℕ) (a : Room) → slice_get rooms i ≡ Some a → is_free cells ps a ≡ contains nat_cmp o.free i
  pub within : (i : ℕ) → contains nat_cmp o.free i ≡ true → (a : Room) × (slice_get rooms i ≡ Some a)
  pub listed : All (λ (p : Placed). p.entry.table ≡ node → (i : ℕ) × (slice_get rooms i ≡ Some p.room) × (get pair_cmp o.rows (entry_key of p.entry) ≡ Some i)) ps
  pub own : (k : ℕ × ℕ) (i : ℕ) → get pair_cmp o.rows k ≡ Some i → (p : Placed) × Contains ps p × (p.entry.table ≡ node) × (k ≡ entry_key of p.entry) × (slice_get rooms i ≡ Some p.room)
  pub order : AreInOrder o.rows

pub never-less : (a : ℕ × ℕ) → pair_cmp a a ≡ Less → ⊥
never-less a e = by (pair_cmp a a) refl (own-key a)
  where
    by : (o : Ordering) → pair_cmp a a ≡ o → is_eq o ≡ true → ⊥
    by Less f h = false≢true h
    by Equal f h = cc
    by Greater f h = false≢true h

module _ (cells : RunCells) (of : Kind) (node : ℕ) (rooms : List Room) (ps : List Placed) (o : RowOrder) (h : RowsStand cells of node rooms ps o) (e : Entry) (table : e.table ≡ node)
    (fresh : All (λ (p : Placed). p.entry.table ≡ node → p.entry.number ≢ e.number) ps) where
  -- an entry of a new number has no row
  pub no-row : get pair_cmp o.rows (entry_key of e) ≡ None
  no-row = by (get pair_cmp o.rows (entry_key of e)) refl
    where
      by : (q : Option ℕ) → get pair_cmp o.rows (entry_key of e) ≡ q → q ≡ None
      by None is = refl
      by (Some i) is =
          let p = h.own (entry_key of e) i is in
          absurd (All-contains (λ (p : Placed). p.entry.table ≡ node → p.entry.number ≢ e.number) ps p.0 fresh p.1 p.2 (sym (entry-number of e p.0.entry p.3)))

  -- and then it comes to the first that it may take
  module _ (low : IsLow of e) (i : ℕ) (room : Room) (at : slice_get rooms i ≡ Some room) (fits : Fits o.rows (entry_key of e) i) (new : RowOrder) (given : IsRowGiven (entry_key of e) o new (Some i))
      (apart : (j : ℕ) (a : Room) → slice_get rooms j ≡ Some a → i ≢ j → is_same room a ≡ false) where
    abbrev q : Placed
    q = record { entry = e; room = room }

    abbrev key : ℕ × ℕ
    key = entry_key of e

    new-rows : (k : ℕ × ℕ) (j : ℕ) → get pair_cmp new.rows k ≡ Some j → ((k ≡ key) × (i ≡ j)) ⊎ (get pair_cmp o.rows k ≡ Some j)
    new-rows k j there = by (is_at (pair_cmp key) k) refl (sym (given.0 k) ∙ there)
      where
        by : (b : Bool) → is_at (pair_cmp key) k ≡ b → cond b (Some i) (get pair_cmp o.rows k) ≡ Some j → ((k ≡ key) × (i ≡ j)) ⊎ (get pair_cmp o.rows k ≡ Some j)
        by true is f = inl (sym (same-key key k is), same_Some i j f)
        by false is f = inr f

    old-row : (k : ℕ × ℕ) (j : ℕ) → get pair_cmp o.rows k ≡ Some j → get pair_cmp new.rows k ≡ Some j
    old-row k j there = given.0 k ∙ by (is_at (pair_cmp key) k) refl
      where
        by : (b : Bool) → is_at (pair_cmp key) k ≡ b → cond b (Some i) (get pair_cmp o.rows k) ≡ Some j
        by true is = absurd (none-some j (sym no-row ∙ ap (get pair_cmp o.rows) (same-key key k is) ∙ there))
        by false is = there

    own-new : get pair_cmp new.rows key ≡ Some i
    own-new = given.0 key ∙ ap (λ b. cond b (Some i) (get pair_cmp o.rows key)) (own-key key)

    in-order : AreInOrder new.rows
    in-order k m a b at_k at_m less = by (new-rows k a at_k) (new-rows m b at_m)
      where
        by : ((k ≡ key) × (i ≡ a)) ⊎ (get pair_cmp o.rows k ≡ Some a) → ((m ≡ key) × (i ≡ b)) ⊎ (get pair_cmp o.rows m ≡ Some b) → a < b
        by (inl x) (inl y) = absurd (never-less key (ap (λ z. pair_cmp z key) (sym x.0) ∙ ap (pair_cmp k) (sym y.0) ∙ less))
        by (inl x) (inr y) = let l = (fits m b y).1 (ap (λ z. pair_cmp z m) (sym x.0) ∙ less) in let same = x.1 in omega (arith, l, same)
        by (inr x) (inl y) = let l = (fits k a x).0 (ap (pair_cmp k) (sym y.0) ∙ less) in let same = y.1 in omega (arith, l, same)
        by (inr x) (inr y) = h.order k m a b x y less

    free-new : (j : ℕ) (a : Room) → slice_get rooms j ≡ Some a → is_free cells (ps ++ q ∷ []) a ≡ contains nat_cmp new.free j
    free-new j a at_a = by (is_at (nat_cmp i) j) refl ∙ sym (given.1 j)
      where
        by : (b : Bool) → is_at (nat_cmp i) j ≡ b → is_free cells (ps ++ q ∷ []) a ≡ cond b false (contains nat_cmp o.free j)
        by true is =
            let same : room ≡ a = same_Some room a (sym at ∙ ap (slice_get rooms) (same-number i j is) ∙ at_a) in
            ap (is_free cells (ps ++ q ∷ [])) (sym same) ∙ given-push cells ps q
        by false is =
            free-push cells ps q a (apart j a at_a (λ same. false≢true (sym is ∙ ap (is_at (nat_cmp i)) (sym same) ∙ own-number i))) ∙ h.free j a at_a

    within-new : (j : ℕ) → contains nat_cmp new.free j ≡ true → (a : Room) × (slice_get rooms j ≡ Some a)
    within-new j there = by (is_at (nat_cmp i) j) (sym (given.1 j) ∙ there)
      where
        by : (b : Bool) → cond b false (contains nat_cmp o.free j) ≡ true → (a : Room) × (slice_get rooms j ≡ Some a)
        by true f = absurd (false≢true f)
        by false f = h.within j f

    own-rows : (k : ℕ × ℕ) (j : ℕ) → ((k ≡ key) × (i ≡ j)) ⊎ (get pair_cmp o.rows k ≡ Some j)
        → (p : Placed) × Contains (ps ++ q ∷ []) p × (p.entry.table ≡ node) × (k ≡ entry_key of p.entry) × (slice_get rooms j ≡ Some p.room)
    own-rows k j (inl x) = (q, Contains-push ps q, table, x.0, ap (slice_get rooms) (sym x.1) ∙ at)
    own-rows k j (inr x) = let p = h.own k j x in (p.0, Contains-append_left ps (q ∷ []) p.0 p.1, p.2, p.3, p.4)

    -- the rows behind it
    pub row-more : RowsStand cells of node rooms (ps ++ q ∷ []) new
    row-more = record {
      low = All-push (λ (p : Placed). p.entry.table ≡ node → IsLow of p.entry) ps q h.low (λ t. low);
      free = free-new;
      within = within-new;
      listed =
          All-push (λ (p : Placed). p.entry.table ≡ node → (j : ℕ) × (slice_get rooms j ≡ Some p.room) × (get pair_cmp new.rows (entry_key of p.entry) ≡ Some j)) ps q
          (All-weaker (λ (p : Placed). p.entry.table ≡ node → (j : ℕ) × (slice_get rooms j ≡ Some p.room) × (get pair_cmp o.rows (entry_key of p.entry) ≡ Some j))
          (λ (p : Placed). p.entry.table ≡ node → (j : ℕ) × (slice_get rooms j ≡ Some p.room) × (get pair_cmp new.rows (entry_key of p.entry) ≡ Some j))
          (λ p has t. let r = has t in (r.0, r.1, old-row (entry_key of p.entry) r.0 r.2)) ps h.listed)
          (λ t. (i, at, own-new));
      own = λ k j there. own-rows k j (new-rows k j there);
      order = in-order;
    }
