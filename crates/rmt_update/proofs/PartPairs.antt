-- The entries of a table that its parts tell, by part and cell.
use Rattle.std.proofs.Common.{◌≡◌, ◌⊎◌, ℕ, zero, suc, ◌<◌, Bool, true, List, [], ◌∷◌, Some, get_or, length, refl, sym, ap, subst, inl, inr, arith}
use Rattle.std.specs.Prelude.{All, AllPairs, Contains, filter, slice_get}
use Rattle.std.specs.BTreeMap.{IsOrdered, get, values}
use Rattle.std.proofs.lemmas.Cmp.{nat_cmp_total}
use Rattle.std.specs.List.{flat_map}
use Rattle.std.specs.List.Sorted.{IsStrictlySortedBy}
use Rattle.std.specs.Map.{keys_of}
use Rattle.std.specs.Ordering.{nat_cmp}
use Rattle.std.proofs.Math.ListN.{get_or-map}
use Rattle.std.proofs.lemmas.List.{append-nil, length-map}
use Rattle.std.proofs.lemmas.List.Elements.{All-contains_itself, All-cons, All-head, All-nil, All-tail, All-weaker, Contains-get_or}
use Rattle.std.proofs.lemmas.List.Kept.{AllPairs-filter}
use Rattle.std.proofs.lemmas.Map.Keys.{below_from_sorted}
use Rattle.std.proofs.lemmas.Map.Lookups.{exact_unsigned}
use Rattle.std.proofs.lemmas.Map.Views.{btree_map_get_iff}
use Rattle.std.proofs.lemmas.Option.{none-some}
use Rattle.rmt_bits.proofs.AllLaws.{All-slice_get}
use Rattle.rmt_bits.proofs.MemberLaws.{Contains-filter, Contains-flat_map, Contains-item, Contains-map, Contains-unfilter, Contains-unmap, flat_from}
use Rattle.rmt_bits.proofs.PairLaws.{AllPairs-append, AllPairs-map, AllPairs-none}
use Rattle.rmt_ast.specs.declared.entry.Entry.{Entry}
use Rattle.rmt_ast.specs.declared.names.TableName.{TableName}
use Rattle.rmt_book.specs.declared.kept.Kept.{Kept}
use Rattle.rmt_book.specs.declared.table.PartCells.{PartCells}
use Rattle.rmt_book.specs.Seen.{entries_in, is_seen}
use Rattle.rmt_book.specs.Told.{told_entry}

-- a kept cell of parts: the place of the part, the number of the cell, and what is kept
pub record IsCellOf (xs : List PartCells) (i n : ℕ) (x : PartCells) (k : Kept) : Type 0 where
  pub part : slice_get xs i ≡ Some x
  pub kept : get nat_cmp x.cells n ≡ Some k

-- one before another
abbrev pub IsBefore : ℕ → ℕ → ℕ → ℕ → Type 0
IsBefore i n j m = (i < j) ⊎ ((i ≡ j) × (n < m))

module _ (odd : Bool) (t : TableName) where
  -- ---- which entries are told

  pub told-in : (xs : List PartCells) → All (λ (x : PartCells). IsOrdered nat_cmp x.cells) xs → (e : Entry) → Contains (flat_map (entries_in odd t) xs) e
      → (i : ℕ) × (n : ℕ) × (x : PartCells) × (k : Kept) × IsCellOf xs i n x k × (e ≡ told_entry t x.first k)
  told-in xs ordered e there =
      let f = flat_from (entries_in odd t) xs e there in
      let g = Contains-unmap (told_entry t f.1.first) (filter (is_seen odd) (values f.1.cells)) e f.3 in
      let v = (Contains-unfilter (is_seen odd) (values f.1.cells) g.0 g.1).0 in
      let entry = Contains-unmap (λ (y : ℕ × Kept). y.1) f.1.cells.entries g.0 v in
      let own : IsOrdered nat_cmp f.1.cells = ordered-at xs ordered f.0 f.1 f.2 in
      let pair : entry.0 ≡ (entry.0.0, g.0) = ap (λ k. (entry.0.0, k)) entry.2 in
      (f.0, entry.0.0, f.1, g.0, record { part = f.2; kept = (btree_map_get_iff nat_cmp_total exact_unsigned f.1.cells own entry.0.0 g.0).1 (subst (Contains f.1.cells.entries) pair entry.1) }, sym g.2)
    where
      ordered-at : (ys : List PartCells) → All (λ (x : PartCells). IsOrdered nat_cmp x.cells) ys → (i : ℕ) (x : PartCells) → slice_get ys i ≡ Some x → IsOrdered nat_cmp x.cells
      ordered-at ys all i x at = All-slice_get (λ (y : PartCells). IsOrdered nat_cmp y.cells) ys i x all at

  pub in-told : (xs : List PartCells) → All (λ (x : PartCells). IsOrdered nat_cmp x.cells) xs → (i n : ℕ) (x : PartCells) (k : Kept) → IsCellOf xs i n x k → is_seen odd k ≡ true
      → Contains (flat_map (entries_in odd t) xs) (told_entry t x.first k)
  in-told xs ordered i n x k cell seen =
      let own = All-slice_get (λ (y : PartCells). IsOrdered nat_cmp y.cells) xs i x ordered cell.part in
      let there = (btree_map_get_iff nat_cmp_total exact_unsigned x.cells own n k).0 cell.kept in
      Contains-flat_map (entries_in odd t) xs x (told_entry t x.first k) (Contains-item xs i x cell.part)
      (Contains-map (told_entry t x.first) (filter (is_seen odd) (values x.cells)) k (Contains-filter (is_seen odd) (values x.cells) k (Contains-map (λ (y : ℕ × Kept). y.1) x.cells.entries (n, k) there) seen))

  -- ---- pairs of entries

  -- what holds of the cells of a map in order
  cells-pairs : (R : ℕ × Kept → ℕ × Kept → Type 0) (es : List (ℕ × Kept)) → IsStrictlySortedBy nat_cmp (keys_of es) → ((a b : ℕ × Kept) → Contains es a → Contains es b → a.0 < b.0 → R a b) → AllPairs R es
  cells-pairs R es sorted gives i j d lt l =
      let long : length (keys_of es) ≡ length es = length-map es (λ (y : ℕ × Kept). y.0) in
      let less = below_from_sorted (keys_of es) i j d.0 sorted lt (omega (arith, l, long)) in
      let at_i : get_or (keys_of es) i d.0 ≡ (get_or es i d).0 = get_or-map (λ (y : ℕ × Kept). y.0) es i d in
      let at_j : get_or (keys_of es) j d.0 ≡ (get_or es j d).0 = get_or-map (λ (y : ℕ × Kept). y.0) es j d in
      gives (get_or es i d) (get_or es j d) (Contains-get_or es i d (omega (arith, lt, l))) (Contains-get_or es j d l) (omega (arith, less, at_i, at_j))

  part-pairs : (R : Entry → Entry → Type 0) (x : PartCells) → IsOrdered nat_cmp x.cells
      → ((n m : ℕ) (k k2 : Kept) → get nat_cmp x.cells n ≡ Some k → get nat_cmp x.cells m ≡ Some k2 → n < m → R (told_entry t x.first k) (told_entry t x.first k2)) → AllPairs R (entries_in odd t x)
  part-pairs R x ordered gives =
      AllPairs-map R (told_entry t x.first) (filter (is_seen odd) (values x.cells))
      (AllPairs-filter (λ (a b : Kept). R (told_entry t x.first a) (told_entry t x.first b)) (is_seen odd) (values x.cells)
      (AllPairs-map (λ (a b : Kept). R (told_entry t x.first a) (told_entry t x.first b)) (λ (y : ℕ × Kept). y.1) x.cells.entries
      (cells-pairs (λ a b. R (told_entry t x.first a.1) (told_entry t x.first b.1)) x.cells.entries ordered
      (λ a b in_a in_b lt. gives a.0 b.0 a.1 b.1 ((btree_map_get_iff nat_cmp_total exact_unsigned x.cells ordered a.0 a.1).1 in_a) ((btree_map_get_iff nat_cmp_total exact_unsigned x.cells ordered b.0 b.1).1 in_b) lt))))

  -- what holds of the entries of a part, and of those of parts behind it
  pub parts-pairs : (R : Entry → Entry → Type 0) (xs : List PartCells) → All (λ (x : PartCells). IsOrdered nat_cmp x.cells) xs
      → ((i n j m : ℕ) (x y : PartCells) (k k2 : Kept) → IsCellOf xs i n x k → IsCellOf xs j m y k2 → IsBefore i n j m → R (told_entry t x.first k) (told_entry t y.first k2)) → AllPairs R (flat_map (entries_in odd t) xs)
  parts-pairs R [] ordered gives = AllPairs-none R
  parts-pairs R (x ∷ xs) ordered gives =
      AllPairs-append R (entries_in odd t x) (flat_map (entries_in odd t) xs)
      (part-pairs R x (All-head (λ (y : PartCells). IsOrdered nat_cmp y.cells) x xs ordered)
      (λ n m k k2 at_n at_m lt. gives 0 n 0 m x x k k2 (record { part = refl; kept = at_n }) (record { part = refl; kept = at_m }) (inr (refl, lt))))
      (parts-pairs R xs (All-tail (λ (y : PartCells). IsOrdered nat_cmp y.cells) x xs ordered)
      (λ i n j m y z k k2 a b before. gives (suc i) n (suc j) m y z k k2 (record { part = a.part; kept = a.kept }) (record { part = b.part; kept = b.kept }) (later i n j m before)))
      (All-weaker (Contains (entries_in odd t x)) (λ e. All (R e) (flat_map (entries_in odd t) xs)) (λ e in_e.
      All-weaker (Contains (flat_map (entries_in odd t) xs)) (R e) (λ f in_f. across e f in_e in_f) (flat_map (entries_in odd t) xs) (All-contains_itself (flat_map (entries_in odd t) xs)))
      (entries_in odd t x) (All-contains_itself (entries_in odd t x)))
    where
      later : (i n j m : ℕ) → IsBefore i n j m → IsBefore (suc i) n (suc j) m
      later i n j m (inl lt) = inl (omega (arith, lt))
      later i n j m (inr both) = inr (ap suc both.0, both.1)

      across : (e f : Entry) → Contains (entries_in odd t x) e → Contains (flat_map (entries_in odd t) xs) f → R e f
      across e f in_e in_f =
          let nil : flat_map (entries_in odd t) (x ∷ []) ≡ entries_in odd t x = append-nil (entries_in odd t x) in
          let a = told-in (x ∷ []) (All-cons (λ (y : PartCells). IsOrdered nat_cmp y.cells) x [] (All-head (λ (y : PartCells). IsOrdered nat_cmp y.cells) x xs ordered) (All-nil (λ (y : PartCells). IsOrdered nat_cmp y.cells))) e
          (subst (λ es. Contains es e) (sym nil) in_e) in
          let b = told-in xs (All-tail (λ (y : PartCells). IsOrdered nat_cmp y.cells) x xs ordered) f in_f in
          first a.0 a.1 a.2 a.3 a.4 a.5 b.0 b.1 b.2 b.3 b.4 b.5
        where
          first : (i n : ℕ) (y : PartCells) (k : Kept) → IsCellOf (x ∷ []) i n y k → e ≡ told_entry t y.first k → (j m : ℕ) (z : PartCells) (k2 : Kept) → IsCellOf xs j m z k2 → f ≡ told_entry t z.first k2 → R e f
          first zero n y k a is j m z k2 b is2 =
              subst (λ u. R u f) (sym is) (subst (R (told_entry t y.first k)) (sym is2)
              (gives 0 n (suc j) m y z k k2 (record { part = a.part; kept = a.kept }) (record { part = b.part; kept = b.kept }) (inl (omega arith))))
          first (suc i) n y k a is j m z k2 b is2 = absurd (none-some y a.part)
