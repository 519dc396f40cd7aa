-- The entries of a table that a version sees, cell by cell, and what holds of each and each later one.
use Rattle.std.proofs.Common.{◌≡◌, ◌⊎◌, ℕ, zero, suc, ◌<◌, Bool, true, false, ◌&&◌, cond, List, [], ◌∷◌, map, Some, refl, sym, ap, ◌∙◌, subst, inl, inr, arith}
use Rattle.std.specs.Prelude.{All, AllPairs, Contains, filter, slice_get}
use Rattle.std.specs.List.{flat_map, list_all}
use Rattle.std.specs.List.Sorted.{IsStrictlySortedBy}
use Rattle.std.specs.BTreeMap.{IsOrdered, get, values}
use Rattle.std.specs.Cmp.{eq_by_cmp_equiv, nat_cmp_total}
use Rattle.std.specs.Map.{keys_of, values_of}
use Rattle.std.specs.Ordering.{eq_by_cmp, nat_cmp}
use Rattle.std.specs.declared.cmp.Ordering.TheVariants.{Less}
use Rattle.std.proofs.lemmas.Bool.{and_parts}
use Rattle.std.proofs.lemmas.List.Elements.{All-cons, All-contains, All-head, All-tail}
use Rattle.std.proofs.lemmas.List.Kept.{AllPairs-cons}
use Rattle.std.proofs.lemmas.Map.Keys.{IsDistinct-from_sorted, sorted_tail}
use Rattle.std.proofs.lemmas.Map.Lookups.{exact_unsigned}
use Rattle.std.proofs.lemmas.Map.Views.{All-after_first, Contains-from_lookup, lookup-from_Contains, tells_apart}
use Rattle.std.proofs.lemmas.Option.{none-some, same_Some}
use Rattle.rmt_bits.proofs.MemberLaws.{Contains-filter, Contains-first, Contains-flat_map, Contains-item, Contains-later, Contains-map, Contains-split, Contains-unfilter, Contains-unmap, flat_from}
use Rattle.rmt_bits.proofs.PairLaws.{AllPairs-across, AllPairs-append, AllPairs-head, AllPairs-left, AllPairs-none, AllPairs-right, AllPairs-tail}
use Rattle.rmt_bits.proofs.SearchLaws.{less}
use Rattle.rmt_ast.specs.declared.entry.Entry.{Entry}
use Rattle.rmt_ast.specs.declared.names.TableName.{TableName}
use Rattle.rmt_config.specs.NamesForm.{each_later}
use Rattle.rmt_book.specs.declared.kept.Kept.{Kept}
use Rattle.rmt_book.specs.declared.table.PartCells.{PartCells}
use Rattle.rmt_book.specs.Seen.{entries_in, is_seen}
use Rattle.rmt_book.specs.Told.{told_entry}
use Rattle.rmt_pack.proofs.FindLaws.{all_at}

-- ---- pairs

pub later-pairs : (rule : Entry → Entry → Bool) (xs : List Entry) → each_later rule xs ≡ true → AllPairs (λ a b. rule a b ≡ true) xs
later-pairs rule [] e = AllPairs-none (λ a b. rule a b ≡ true)
later-pairs rule (x ∷ xs) e =
    let both = and_parts (list_all (rule x) xs) (each_later rule xs) e in
    AllPairs-cons (λ a b. rule a b ≡ true) x xs (all xs both.0) (later-pairs rule xs both.1)
  where
    all : (ys : List Entry) → list_all (rule x) ys ≡ true → All (λ b. rule x b ≡ true) ys
    all [] h = λ k d lt. absurd (omega (arith, lt))
    all (y ∷ ys) h = All-cons (λ b. rule x b ≡ true) y ys (and_parts _ _ h).0 (all ys (and_parts _ _ h).1)

pub pairs-later : (rule : Entry → Entry → Bool) (xs : List Entry) → AllPairs (λ a b. rule a b ≡ true) xs → each_later rule xs ≡ true
pairs-later rule [] h = refl
pairs-later rule (x ∷ xs) h = both (list_all (rule x) xs) (each_later rule xs) (all xs (AllPairs-head (λ a b. rule a b ≡ true) x xs h)) (pairs-later rule xs (AllPairs-tail (λ a b. rule a b ≡ true) x xs h))
  where
    both : (a b : Bool) → a ≡ true → b ≡ true → (a && b) ≡ true
    both true b p q = q
    both false b p q = p

    all : (ys : List Entry) → All (λ b. rule x b ≡ true) ys → list_all (rule x) ys ≡ true
    all [] h = refl
    all (y ∷ ys) h = both (rule x y) (list_all (rule x) ys) (All-head (λ b. rule x b ≡ true) y ys h) (all ys (All-tail (λ b. rule x b ≡ true) y ys h))

module _ {X Y : Type 0} (R : Y → Y → Type 0) (f : X → List Y) where
  -- of what is made of items in order
  pub flat-pairs : (xs : List X) → ((i : ℕ) (x : X) → slice_get xs i ≡ Some x → AllPairs R (f x))
      → ((i j : ℕ) (x z : X) (p q : Y) → i < j → slice_get xs i ≡ Some x → slice_get xs j ≡ Some z → Contains (f x) p → Contains (f z) q → R p q) → AllPairs R (flat_map f xs)
  flat-pairs [] own across = AllPairs-none R
  flat-pairs (x ∷ xs) own across =
      AllPairs-append R (f x) (flat_map f xs) (own 0 x refl) (flat-pairs xs (λ i. own (suc i)) (λ i j a z p q lt. across (suc i) (suc j) a z p q (omega (arith, lt))))
      (all_at (λ p. All (R p) (flat_map f xs)) (f x) (λ p in_x. all_at (R p) (flat_map f xs) (λ q in_xs.
      let h = flat_from f xs q in_xs in
      across 0 (suc h.0) x h.1 p q (omega arith) refl h.2 in_x h.3)))

  pub part-pairs : (xs : List X) (i : ℕ) (x : X) → AllPairs R (flat_map f xs) → slice_get xs i ≡ Some x → AllPairs R (f x)
  part-pairs [] i x h at = absurd (none-some x at)
  part-pairs (z ∷ xs) zero x h at = subst (λ w. AllPairs R (f w)) (same_Some z x at) (AllPairs-left R (f z) (flat_map f xs) h)
  part-pairs (z ∷ xs) (suc i) x h at = part-pairs xs i x (AllPairs-right R (f z) (flat_map f xs) h) at

  pub across-pairs : (xs : List X) (i j : ℕ) (x z : X) (p q : Y) → AllPairs R (flat_map f xs) → i < j → slice_get xs i ≡ Some x → slice_get xs j ≡ Some z → Contains (f x) p → Contains (f z) q → R p q
  across-pairs [] i j x z p q h lt at_x at_z in_x in_z = absurd (none-some x at_x)
  across-pairs (w ∷ xs) i zero x z p q h lt at_x at_z in_x in_z = absurd (omega (arith, lt))
  across-pairs (w ∷ xs) zero (suc j) x z p q h lt at_x at_z in_x in_z =
      All-contains (R p) (flat_map f xs) q
      (All-contains (λ y. All (R y) (flat_map f xs)) (f w) p (AllPairs-across R (f w) (flat_map f xs) h) (subst (λ v. Contains (f v) p) (sym (same_Some w x at_x)) in_x))
      (Contains-flat_map f xs z q (Contains-item xs j z at_z) in_z)
  across-pairs (w ∷ xs) (suc i) (suc j) x z p q h lt at_x at_z in_x in_z = across-pairs xs i j x z p q (AllPairs-right R (f w) (flat_map f xs) h) (omega (arith, lt)) at_x at_z in_x in_z

-- ---- the cells of a part

-- the entry of a cell that is found
pub cell-there : (p : PartCells) (n : ℕ) (k : Kept) → IsOrdered nat_cmp p.cells → Contains p.cells.entries (n, k) → get nat_cmp p.cells n ≡ Some k
cell-there p n k ordered there = lookup-from_Contains {eq = eq_by_cmp nat_cmp} (eq_by_cmp_equiv nat_cmp_total) n k p.cells.entries (IsDistinct-from_sorted nat_cmp (keys_of p.cells.entries) ordered) there

pub there-cell : (p : PartCells) (n : ℕ) (k : Kept) → get nat_cmp p.cells n ≡ Some k → Contains p.cells.entries (n, k)
there-cell p n k e = Contains-from_lookup {eq = eq_by_cmp nat_cmp} (tells_apart exact_unsigned) n k p.cells.entries e

module _ (odd : Bool) (t : TableName) where
  -- an entry of a part that is seen
  pub record IsTold (p : PartCells) (e : Entry) : Type 0 where
    pub n : ℕ
    pub kept : Kept
    pub there : get nat_cmp p.cells n ≡ Some kept
    pub seen : is_seen odd kept ≡ true
    pub is : told_entry t p.first kept ≡ e

  pub told-from : (p : PartCells) (e : Entry) → IsOrdered nat_cmp p.cells → Contains (entries_in odd t p) e → IsTold p e
  told-from p e ordered there =
      let a = Contains-unmap (told_entry t p.first) (filter (is_seen odd) (values p.cells)) e there in
      let d = Contains-unfilter (is_seen odd) (values p.cells) a.0 a.1 in
      let h = Contains-unmap (λ (x : ℕ × Kept). x.1) p.cells.entries a.0 d.0 in
      record {
        n = h.0.0;
        kept = h.0.1;
        there = cell-there p h.0.0 h.0.1 ordered h.1;
        seen = ap (is_seen odd) h.2 ∙ d.1;
        is = ap (told_entry t p.first) h.2 ∙ a.2;
      }

  pub told-there : (p : PartCells) (n : ℕ) (k : Kept) → get nat_cmp p.cells n ≡ Some k → is_seen odd k ≡ true → Contains (entries_in odd t p) (told_entry t p.first k)
  told-there p n k e seen =
      Contains-map (told_entry t p.first) (filter (is_seen odd) (values p.cells)) k
      (Contains-filter (is_seen odd) (values p.cells) k (Contains-map (λ (x : ℕ × Kept). x.1) p.cells.entries (n, k) (there-cell p n k e)) seen)

  module _ (R : Entry → Entry → Type 0) (first : ℕ) where
    -- of cells in order
    cells-pairs : (es : List (ℕ × Kept)) → IsStrictlySortedBy nat_cmp (keys_of es)
        → ((n m : ℕ) (k j : Kept) → Contains es (n, k) → Contains es (m, j) → n < m → is_seen odd k ≡ true → is_seen odd j ≡ true → R (told_entry t first k) (told_entry t first j))
        → AllPairs R (map (told_entry t first) (filter (is_seen odd) (values_of es)))
    cells-pairs [] sorted each = AllPairs-none R
    cells-pairs (e ∷ es) sorted each =
        by (is_seen odd e.1) refl (cells-pairs es (sorted_tail nat_cmp e.0 (keys_of es) sorted) (λ n m k j in_n in_m. each n m k j (Contains-later e es (n, k) in_n) (Contains-later e es (m, j) in_m)))
      where
        rest : List Entry
        rest = map (told_entry t first) (filter (is_seen odd) (values_of es))

        by : (b : Bool) → is_seen odd e.1 ≡ b → AllPairs R rest → AllPairs R (map (told_entry t first) (cond b (e.1 ∷ filter (is_seen odd) (values_of es)) (filter (is_seen odd) (values_of es))))
        by true seen more =
            AllPairs-cons R (told_entry t first e.1) rest
            (all_at (R (told_entry t first e.1)) rest (λ x there.
            let a = Contains-unmap (told_entry t first) (filter (is_seen odd) (values_of es)) x there in
            let d = Contains-unfilter (is_seen odd) (values_of es) a.0 a.1 in
            let h = Contains-unmap (λ (y : ℕ × Kept). y.1) es a.0 d.0 in
            let above = less e.0 h.0.0 (All-contains (λ q. nat_cmp e.0 q ≡ Less) (keys_of es) h.0.0 (All-after_first nat_cmp e.0 (keys_of es) sorted) (Contains-map (λ (y : ℕ × Kept). y.0) es h.0 h.1)) in
            subst (R (told_entry t first e.1)) (ap (told_entry t first) h.2 ∙ a.2)
            (each e.0 h.0.0 e.1 h.0.1 (Contains-first e es) (Contains-later e es h.0 h.1) above seen (ap (is_seen odd) h.2 ∙ d.1)))) more
        by false seen more = more

    pub cells-in-order : (es : List (ℕ × Kept)) → IsStrictlySortedBy nat_cmp (keys_of es) → AllPairs R (map (told_entry t first) (filter (is_seen odd) (values_of es)))
        → (n m : ℕ) (k j : Kept) → Contains es (n, k) → Contains es (m, j) → n < m → is_seen odd k ≡ true → is_seen odd j ≡ true → R (told_entry t first k) (told_entry t first j)
    cells-in-order [] sorted pairs n m k j in_n in_m lt seen seen2 = absurd (let l = in_n.1 in omega (arith, l))
    cells-in-order (e ∷ es) sorted pairs n m k j in_n in_m lt seen seen2 = by (is_seen odd e.1) refl pairs (Contains-split e es (n, k) in_n) (Contains-split e es (m, j) in_m)
        (λ more a d. cells-in-order es (sorted_tail nat_cmp e.0 (keys_of es) sorted) more n m k j a d lt seen seen2)
      where
        Own : Type 0
        Own = R (told_entry t first k) (told_entry t first j)

        rest : List Entry
        rest = map (told_entry t first) (filter (is_seen odd) (values_of es))

        above : (q : ℕ) (i : Kept) → Contains es (q, i) → e.0 < q
        above q i there =
            less e.0 q (All-contains (λ q. nat_cmp e.0 q ≡ Less) (keys_of es) q (All-after_first nat_cmp e.0 (keys_of es) sorted) (Contains-map (λ (y : ℕ × Kept). y.0) es (q, i) there))

        later : AllPairs R rest → (e ≡ (n, k)) ⊎ Contains es (n, k) → (e ≡ (m, j)) ⊎ Contains es (m, j) → (e ≡ (n, k) → Own) → (AllPairs R rest → Contains es (n, k) → Contains es (m, j) → Own) → Own
        later more (inl a) d own next = own a
        later more (inr a) (inl d) own next = absurd (let gt = above n k a in let same = ap (λ (x : ℕ × Kept). x.0) d in omega (arith, gt, same, lt))
        later more (inr a) (inr d) own next = next more a d

        by : (b : Bool) → is_seen odd e.1 ≡ b → AllPairs R (map (told_entry t first) (cond b (e.1 ∷ filter (is_seen odd) (values_of es)) (filter (is_seen odd) (values_of es))))
            → (e ≡ (n, k)) ⊎ Contains es (n, k) → (e ≡ (m, j)) ⊎ Contains es (m, j) → (AllPairs R rest → Contains es (n, k) → Contains es (m, j) → Own) → Own
        by false unseen more a d next = later more a d (λ same. absurd (none (sym unseen ∙ ap (λ (x : ℕ × Kept). is_seen odd x.1) same ∙ seen))) next
          where
            none : false ≡ true → ⊥
            none e = cc
        by true own more a d next = later (AllPairs-tail R (told_entry t first e.1) rest more) a d (λ same.
            subst (λ (x : ℕ × Kept). R (told_entry t first x.1) (told_entry t first j)) same (second d same)) next
          where
            second : (e ≡ (m, j)) ⊎ Contains es (m, j) → e ≡ (n, k) → R (told_entry t first e.1) (told_entry t first j)
            second (inl d) same = absurd (let a = ap (λ (x : ℕ × Kept). x.0) d in let b = ap (λ (x : ℕ × Kept). x.0) same in omega (arith, a, b, lt))
            second (inr d) same =
                All-contains (R (told_entry t first e.1)) rest (told_entry t first j) (AllPairs-head R (told_entry t first e.1) rest more)
                (Contains-map (told_entry t first) (filter (is_seen odd) (values_of es)) j (Contains-filter (is_seen odd) (values_of es) j (Contains-map (λ (y : ℕ × Kept). y.1) es (m, j) d) seen2))

  -- of all cells of a table in order
  pub table-pairs : (R : Entry → Entry → Type 0) (ps : List PartCells) → ((i : ℕ) (p : PartCells) → slice_get ps i ≡ Some p → IsOrdered nat_cmp p.cells)
      → ((i j n m : ℕ) (p q : PartCells) (k o : Kept) → slice_get ps i ≡ Some p → slice_get ps j ≡ Some q → get nat_cmp p.cells n ≡ Some k → get nat_cmp q.cells m ≡ Some o → is_seen odd k ≡ true → is_seen odd o ≡ true
      → (i < j) ⊎ ((i ≡ j) × (n < m)) → R (told_entry t p.first k) (told_entry t q.first o))
      → AllPairs R (flat_map (entries_in odd t) ps)
  table-pairs R ps ordered each =
      flat-pairs R (entries_in odd t) ps
      (λ i p at. cells-pairs R p.first p.cells.entries (ordered i p at)
      (λ n m k j in_n in_m lt seen seen2. each i i n m p p k j at at (cell-there p n k (ordered i p at) in_n) (cell-there p m j (ordered i p at) in_m) seen seen2 (inr (refl, lt))))
      (λ i j p q a d lt at_p at_q in_p in_q.
      let g = told-from p a (ordered i p at_p) in_p in
      let h = told-from q d (ordered j q at_q) in_q in
      subst (λ x. R x d) g.is (subst (R (told_entry t p.first g.kept)) h.is (each i j g.n h.n p q g.kept h.kept at_p at_q g.there h.there g.seen h.seen (inl lt))))

  pub pairs-table : (R : Entry → Entry → Type 0) (ps : List PartCells) → ((i : ℕ) (p : PartCells) → slice_get ps i ≡ Some p → IsOrdered nat_cmp p.cells) → AllPairs R (flat_map (entries_in odd t) ps)
      → (i j n m : ℕ) (p q : PartCells) (k o : Kept) → slice_get ps i ≡ Some p → slice_get ps j ≡ Some q → get nat_cmp p.cells n ≡ Some k → get nat_cmp q.cells m ≡ Some o → is_seen odd k ≡ true → is_seen odd o ≡ true
      → (i < j) ⊎ ((i ≡ j) × (n < m)) → R (told_entry t p.first k) (told_entry t q.first o)
  pairs-table R ps ordered pairs i j n m p q k o at_p at_q in_p in_q seen seen2 (inl lt) =
      across-pairs R (entries_in odd t) ps i j p q (told_entry t p.first k) (told_entry t q.first o) pairs lt at_p at_q (told-there p n k in_p seen) (told-there q m o in_q seen2)
  pairs-table R ps ordered pairs i j n m p q k o at_p at_q in_p in_q seen seen2 (inr both) =
      let same : p ≡ q = same_Some p q (sym at_p ∙ ap (slice_get ps) both.0 ∙ at_q) in
      subst (λ (z : PartCells). R (told_entry t p.first k) (told_entry t z.first o)) same
      (cells-in-order R p.first p.cells.entries (ordered i p at_p) (part-pairs R (entries_in odd t) ps i p pairs at_p) n m k o (there-cell p n k in_p)
      (there-cell p m o (ap (λ (z : PartCells). get nat_cmp z.cells m) same ∙ in_q)) both.1 seen seen2)
