-- The cells of a book's tables, one after another, are those in which something is kept.
use Rattle.std.proofs.Common.{◌≡◌, ℕ, zero, suc, ◌+◌, Bool, true, false, cond, List, [], ◌∷◌, ◌++◌, append_assoc, Option, Some, None, map, take, refl, sym, ap, ◌∙◌, subst, inl, inr, arith}
use Rattle.std.specs.Prelude.{All, Contains, IsSome, option_and_then, slice_get}
use Rattle.std.specs.Borrow.{Bor}
use Rattle.std.specs.BTreeMap.{IsOrdered, get, is_at}
use Rattle.std.specs.Map.{lookup}
use Rattle.std.specs.Map.Iter.{deref_pair}
use Rattle.std.specs.Ordering.{eq_by_cmp, nat_cmp}
use Rattle.std.proofs.lemmas.Bool.{false≢true}
use Rattle.std.proofs.lemmas.List.{append-nil, map-append}
use Rattle.std.proofs.lemmas.List.Elements.{All-nil, All-push, All-weaker, Contains-append_cases, Contains-append_left, Contains-append_right, Contains-push}
use Rattle.std.proofs.lemmas.Map.{update_all_push}
use Rattle.std.proofs.lemmas.Option.{none-some, same_Some}
use Rattle.rmt_bits.proofs.AllLaws.{All-slice_get}
use Rattle.rmt_bits.proofs.MemberLaws.{Contains-first, Contains-later, Contains-map, Contains-split, Contains-unmap}
use Rattle.rmt_update.specs.declared.book.book_index.BookIndex.{BookIndex}
use Rattle.rmt_book.specs.declared.kept.Kept.{Kept}
use Rattle.rmt_book.specs.declared.spot.BookSpot.{BookSpot}
use Rattle.rmt_book.specs.declared.table.PartCells.{PartCells}
use Rattle.rmt_book.specs.declared.table.TableCells.{TableCells}
use Rattle.rmt_update.specs.BookIndex.{AreApart, FindsCells, IsRecentAt}
use Rattle.rmt_book.specs.BookSpots.{kept_at, kept_in}
use Rattle.rmt_update.specs.Come.{AreOrdered}
use Rattle.rmt_update.specs.IndexCells.{HasCells, all_cells, found_in, numbered, part_cells, table_cells}
use Rattle.rmt_update.specs.Recent.{is_recent}
use Rattle.rmt_update.proofs.PairsTold.{cell-there}
use Rattle.rmt_update.proofs.RowIndexLaws.{own-number, same-number}

-- ---- what comes of items by their places

pub numbered-next : {X Y : Type 0} (f : ℕ → X → List Y) (a : ℕ) (xs : List X) (i : ℕ) (x : X) → slice_get xs i ≡ Some x → numbered f a (take (i + 1) xs) ≡ numbered f a (take i xs) ++ f (a + i) x
numbered-next f a xs i x at = (let next : i + 1 ≡ suc i = omega arith in ap (λ n. numbered f a (take n xs)) next) ∙ by a xs i at
  where
    by : (a : ℕ) (xs : List _) (i : ℕ) → slice_get xs i ≡ Some x → numbered f a (take (suc i) xs) ≡ numbered f a (take i xs) ++ f (a + i) x
    by a [] i at = absurd (none-some x at)
    by a (y ∷ ys) zero at =
        let none : a ≡ a + 0 = omega arith in
        append-nil (f a y) ∙ ap (f a) (same_Some y x at) ∙ ap (λ n. f n x) none
    by a (y ∷ ys) (suc i) at =
        let one : a + 1 + i ≡ a + suc i = omega arith in
        ap (λ zs. f a y ++ zs) (by (a + 1) ys i at) ∙ sym (append_assoc (f a y) (numbered f (a + 1) (take i ys)) (f (a + 1 + i) x)) ∙ ap (λ n. (f a y ++ numbered f (a + 1) (take i ys)) ++ f n x) one

numbered-has : {X Y : Type 0} (f : ℕ → X → List Y) (a : ℕ) (xs : List X) (i : ℕ) (x : X) (y : Y) → slice_get xs i ≡ Some x → Contains (f (a + i) x) y → Contains (numbered f a xs) y
numbered-has f a [] i x y at there = absurd (none-some x at)
numbered-has f a (z ∷ zs) zero x y at there =
    let none : a + 0 ≡ a = omega arith in
    Contains-append_left (f a z) (numbered f (a + 1) zs) y (subst (λ w. Contains (f a w) y) (sym (same_Some z x at)) (subst (λ n. Contains (f n x) y) none there))
numbered-has f a (z ∷ zs) (suc i) x y at there =
    let one : a + suc i ≡ a + 1 + i = omega arith in
    Contains-append_right (f a z) (numbered f (a + 1) zs) y (numbered-has f (a + 1) zs i x y at (subst (λ n. Contains (f n x) y) one there))

numbered-from : {X Y : Type 0} (f : ℕ → X → List Y) (a : ℕ) (xs : List X) (y : Y) → Contains (numbered f a xs) y → (i : ℕ) × (x : X) × (slice_get xs i ≡ Some x) × Contains (f (a + i) x) y
numbered-from f a [] y there = absurd (let lt = there.1 in omega (arith, lt))
numbered-from f a (z ∷ zs) y there = elim (Contains-append_cases (f a z) (numbered f (a + 1) zs) y there) [
  | inl here ↦ let none : a ≡ a + 0 = omega arith in (0, z, refl, subst (λ n. Contains (f n z) y) none here)
  | inr later ↦
      let h = numbered-from f (a + 1) zs y later in
      let one : a + 1 + h.0 ≡ a + suc h.0 = omega arith in
      (suc h.0, h.1, h.2, subst (λ n. Contains (f n h.1) y) one h.3)
]

-- ---- the cells of tables

lookup-there : (es : List (ℕ × Kept)) (n : ℕ) (k : Kept) → lookup (is_at (nat_cmp n)) es ≡ Some k → Contains es (n, k)
lookup-there [] n k e = absurd (none-some k e)
lookup-there (d ∷ es) n k e = by (is_at (nat_cmp n) d.0) refl e (lookup-there es n k)
  where
    by : (b : Bool) → is_at (nat_cmp n) d.0 ≡ b → cond b (Some d.1) (lookup (is_at (nat_cmp n)) es) ≡ Some k → (lookup (is_at (nat_cmp n)) es ≡ Some k → Contains es (n, k)) → Contains (d ∷ es) (n, k)
    by true at h rest =
        subst (λ m. Contains (d ∷ es) (m, k)) (sym (same-number n d.0 at)) (subst (λ j. Contains (d ∷ es) (d.0, j)) (same_Some d.1 k h) (Contains-first d es))
    by false at h rest = Contains-later d es (n, k) (rest h)

module _ (ts : List TableCells) (ordered : All AreOrdered ts) where
  -- each of them keeps what it says
  pub cell-kept : (s : BookSpot) (k : Kept) → Contains (all_cells ts) (s, k) → kept_at ts s ≡ Some k
  cell-kept s k there =
      let t = numbered-from (λ table (t : TableCells). table_cells table t.parts.items) 0 ts (s, k) there in
      let x = numbered-from (part_cells (0 + t.0)) 0 t.1.parts.items (s, k) t.3 in
      let e = Contains-unmap (λ (e : ℕ × Kept). (record { table = 0 + t.0; at = record { part = 0 + x.0; cell = e.0 } }, e.1)) x.1.cells.entries (s, k) x.3 in
      let sorted = All-slice_get (λ (y : PartCells). IsOrdered nat_cmp y.cells) t.1.parts.items x.0 x.1 (All-slice_get AreOrdered ts t.0 t.1 ordered t.2) x.2 in
      let got : get nat_cmp x.1.cells e.0.0 ≡ Some e.0.1 = cell-there x.1 e.0.0 e.0.1 sorted e.1 in
      let table : t.0 ≡ 0 + t.0 = omega arith in
      let part : x.0 ≡ 0 + x.0 = omega arith in
      let spot : record { table = t.0; at = record { part = x.0; cell = e.0.0 } } ≡ s =
      ap (λ n. record { table = n; at = record { part = x.0; cell = e.0.0 } }) table ∙ ap (λ n. record { table = 0 + t.0; at = record { part = n; cell = e.0.0 } }) part ∙ ap (λ (p : BookSpot × Kept). p.0) e.2 in
      ap (kept_at ts) (sym spot)
      ∙ ap (option_and_then (λ (v : TableCells). kept_in v (record { part = x.0; cell = e.0.0 }))) t.2 ∙ ap (option_and_then (λ (v : PartCells). get nat_cmp v.cells e.0.0)) x.2 ∙ got ∙ ap (λ (p : BookSpot × Kept). Some p.1) e.2

  -- what is kept is kept of one of them
  pub kept-cell : (s : BookSpot) (k : Kept) → kept_at ts s ≡ Some k → Contains (all_cells ts) (s, k)
  kept-cell s k is = by (slice_get ts s.table) refl is
    where
      in-part : (t : TableCells) (x : PartCells) → slice_get ts s.table ≡ Some t → slice_get t.parts.items s.at.part ≡ Some x → get nat_cmp x.cells s.at.cell ≡ Some k → Contains (all_cells ts) (s, k)
      in-part t x at_t at_x got =
          let entry = Contains-map (λ (e : ℕ × Kept). (record { table = s.table; at = record { part = s.at.part; cell = e.0 } }, e.1)) x.cells.entries (s.at.cell, k) (lookup-there x.cells.entries s.at.cell k got) in
          let table : s.table ≡ 0 + s.table = omega arith in
          let part : s.at.part ≡ 0 + s.at.part = omega arith in
          numbered-has (λ table (t : TableCells). table_cells table t.parts.items) 0 ts s.table t (s, k) at_t
          (subst (λ n. Contains (table_cells n t.parts.items) (s, k)) table
          (numbered-has (part_cells s.table) 0 t.parts.items s.at.part x (s, k) at_x (subst (λ n. Contains (part_cells s.table n x) (s, k)) part entry)))

      in-table : (t : TableCells) → slice_get ts s.table ≡ Some t → (o : Option PartCells) → slice_get t.parts.items s.at.part ≡ o → option_and_then (λ (p : PartCells). get nat_cmp p.cells s.at.cell) o ≡ Some k → Contains (all_cells ts) (s, k)
      in-table t at_t None at e = absurd (none-some k e)
      in-table t at_t (Some x) at e = in-part t x at_t at e

      by : (o : Option TableCells) → slice_get ts s.table ≡ o → option_and_then (λ (t : TableCells). kept_in t s.at) o ≡ Some k → Contains (all_cells ts) (s, k)
      by None at e = absurd (none-some k e)
      by (Some t) at e = in-table t at (slice_get t.parts.items s.at.part) refl e

  -- an index with all of them finds them
  pub all-found : (ix : BookIndex) (find : ℕ → Option BookSpot) → AreApart ts → ((n : ℕ) → get nat_cmp ix.spots n ≡ find n) → HasCells (all_cells ts) find ix.recent.items → FindsCells ts ix
  all-found ix find apart same h = record {
    spots = λ n s there. let d = h.spots n s (sym (same n) ∙ there) in (d.0, cell-kept s d.0 d.1, d.2);
    all = λ s k is. same k.number ∙ one s k is (find k.number) refl (h.all s k (kept-cell s k is));
    each =
        All-weaker (λ s. (k : Kept) × Contains (all_cells ts) (s, k) × (is_recent k ≡ true)) (IsRecentAt ts) (λ s d. (d.0, cell-kept s d.0 d.1, d.2)) ix.recent.items h.each;
    recent = λ s k is off. h.recent s k (kept-cell s k is) off;
  }
    where
      one : (s : BookSpot) (k : Kept) → kept_at ts s ≡ Some k → (o : Option BookSpot) → find k.number ≡ o → IsSome o → find k.number ≡ Some s
      one s k is None at some = absurd (false≢true some)
      one s k is (Some z) at some =
          let d = h.spots k.number z at in
          at ∙ ap Some (apart z s d.0 k (cell-kept z d.0 d.1) is d.2)

-- ---- one cell more

abbrev Has : List (BookSpot × Kept) → BookSpot → Kept → Type 0
Has cells s k = Contains cells (s, k)

pub cells-none : (spots : List (ℕ × BookSpot)) (listed : List BookSpot) → spots ≡ [] → listed ≡ [] → HasCells [] (found_in spots) listed
cells-none spots listed empty none = record {
  spots = λ n s there. absurd (none-some s (sym (ap (λ (xs : List (ℕ × BookSpot)). found_in xs n) empty) ∙ there));
  all = λ s k there. absurd (let lt = there.1 in omega (arith, lt));
  each = subst (All (λ s. (k : Kept) × Contains {X = BookSpot × Kept} [] (s, k) × (is_recent k ≡ true))) (sym none) (All-nil (λ (s : BookSpot). (k : Kept) × Contains {X = BookSpot × Kept} [] (s, k) × (is_recent k ≡ true)));
  recent = λ s k there. absurd (let lt = there.1 in omega (arith, lt));
}

module _ (cells : List (BookSpot × Kept)) (s : BookSpot) (k : Kept) (old new : List (ℕ × BookSpot)) (listed : List BookSpot) (h : HasCells cells (found_in old) listed) (put : new ≡ old ++ (k.number, s) ∷ []) where
  abbrev more : List (BookSpot × Kept)
  more = cells ++ (s, k) ∷ []

  up : (n : ℕ) → found_in new n ≡ cond (is_at (nat_cmp k.number) n) (Some s) (found_in old n)
  up n = ap (λ (xs : List (ℕ × BookSpot)). found_in xs n) put ∙ sym (update_all_push (eq_by_cmp nat_cmp) (λ _. None) (found_in old) old (k.number, s) n refl)

  spots-more : (n : ℕ) (z : BookSpot) → found_in new n ≡ Some z → (j : Kept) × Has more z j × (j.number ≡ n)
  spots-more n z there = by (is_at (nat_cmp k.number) n) refl (sym (up n) ∙ there)
    where
      by : (b : Bool) → is_at (nat_cmp k.number) n ≡ b → cond b (Some s) (found_in old n) ≡ Some z → (j : Kept) × Has more z j × (j.number ≡ n)
      by true at e = (k, subst (λ y. Has more y k) (same_Some s z e) (Contains-push cells (s, k)), same-number k.number n at)
      by false at e = let d = h.spots n z e in (d.0, Contains-append_left cells ((s, k) ∷ []) (z, d.0) d.1, d.2)

  some-more : (n : ℕ) → IsSome (found_in old n) → IsSome (found_in new n)
  some-more n some = subst IsSome (sym (up n)) (by (is_at (nat_cmp k.number) n))
    where
      by : (b : Bool) → IsSome (cond b (Some s) (found_in old n))
      by true = refl
      by false = some

  all-more : (z : BookSpot) (j : Kept) → Has more z j → IsSome (found_in new j.number)
  all-more z j there = elim (Contains-append_cases cells ((s, k) ∷ []) (z, j) there) [
    | inl before ↦ some-more j.number (h.all z j before)
    | inr last ↦
        let same : k ≡ j = ap (λ (p : BookSpot × Kept). p.1) (last-one last) in
        subst (λ (i : Kept). IsSome (found_in new i.number)) same (subst IsSome (sym (up k.number ∙ ap (λ b. cond b (Some s) (found_in old k.number)) (own-number k.number))) refl)
  ]
    where
      last-one : Contains {X = BookSpot × Kept} ((s, k) ∷ []) (z, j) → ◌≡◌ {A = BookSpot × Kept} (s, k) (z, j)
      last-one h = elim (Contains-split {X = BookSpot × Kept} (s, k) [] (z, j) h) [
        | inl e ↦ e
        | inr none ↦ absurd (let lt = none.1 in omega (arith, lt))
      ]

  -- one with both visible bits
  pub cells-more : is_recent k ≡ false → HasCells more (found_in new) listed
  cells-more both = record {
    spots = spots-more;
    all = all-more;
    each = All-weaker (λ z. (j : Kept) × Contains cells (z, j) × (is_recent j ≡ true)) (λ z. (j : Kept) × Contains (cells ++ (s, k) ∷ []) (z, j) × (is_recent j ≡ true)) (λ z d. (d.0, Contains-append_left cells ((s, k) ∷ []) (z, d.0) d.1, d.2)) listed h.each;
    recent = λ z j there off. elim (Contains-append_cases cells ((s, k) ∷ []) (z, j) there) [
      | inl before ↦ h.recent z j before off
      | inr last ↦ elim (Contains-split {X = BookSpot × Kept} (s, k) [] (z, j) last) [
        | inl e ↦ absurd (false≢true (sym both ∙ ap (λ (p : BookSpot × Kept). is_recent p.1) e ∙ off))
        | inr none ↦ absurd (let lt = none.1 in omega (arith, lt))
      ]
    ];
  }

  -- and one without
  pub cells-recent : (grown : List BookSpot) → is_recent k ≡ true → grown ≡ listed ++ s ∷ [] → HasCells more (found_in new) grown
  cells-recent grown lacks is = record {
    spots = spots-more;
    all = all-more;
    each = subst (All (λ z. (j : Kept) × Has more z j × (is_recent j ≡ true))) (sym is)
        (All-push (λ z. (j : Kept) × Has more z j × (is_recent j ≡ true)) listed s
        (All-weaker (λ z. (j : Kept) × Contains cells (z, j) × (is_recent j ≡ true)) (λ z. (j : Kept) × Contains (cells ++ (s, k) ∷ []) (z, j) × (is_recent j ≡ true)) (λ z d. (d.0, Contains-append_left cells ((s, k) ∷ []) (z, d.0) d.1, d.2)) listed h.each) (k, Contains-push cells (s, k), lacks));
    recent = λ z j there off. subst (λ zs. Contains zs z) (sym is) (elim (Contains-append_cases cells ((s, k) ∷ []) (z, j) there) [
      | inl before ↦ Contains-append_left listed (s ∷ []) z (h.recent z j before off)
      | inr last ↦ elim (Contains-split {X = BookSpot × Kept} (s, k) [] (z, j) last) [
        | inl e ↦ subst (λ y. Contains (listed ++ s ∷ []) y) (ap (λ (p : BookSpot × Kept). p.0) e) (Contains-push listed s)
        | inr none ↦ absurd (let lt = none.1 in omega (arith, lt))
      ]
    ]);
  }

-- ---- the cells of a part as they are read

abbrev pub cells_read : ℕ → ℕ → List (Bor ℕ × Bor Kept) → List (BookSpot × Kept)
cells_read table part ys = map (λ (e : ℕ × Kept). (record { table = table; at = record { part = part; cell = e.0 } }, e.1)) (map (deref_pair {K = ℕ} {X = Kept}) ys)

pub read-next : (table part : ℕ) (ys : List (Bor ℕ × Bor Kept)) (y : Bor ℕ × Bor Kept) → cells_read table part (ys ++ y ∷ []) ≡ cells_read table part ys ++ (record { table = table; at = record { part = part; cell = y.0.now } }, y.1.now) ∷ []
read-next table part ys y =
    ap (map (λ (e : ℕ × Kept). (record { table = table; at = record { part = part; cell = e.0 } }, e.1))) (map-append (deref_pair {K = ℕ} {X = Kept}) ys (y ∷ []))
    ∙ map-append (λ (e : ℕ × Kept). (record { table = table; at = record { part = part; cell = e.0 } }, e.1)) (map (deref_pair {K = ℕ} {X = Kept}) ys) ((y.0.now, y.1.now) ∷ [])
