-- Steps of putting changed cells together, each by where it stands.
use Rattle.std.proofs.Common.{◌≡◌, ◌⊎◌, ℕ, zero, suc, ◌+◌, ◌<◌, ◌≤◌, Bool, true, false, cond, List, [], ◌∷◌, ◌++◌, Option, Some, None, option_map, get_or, length, map, take, refl, sym, ap, ◌∙◌, subst, inl, inr, arith}
use Rattle.std.specs.Prelude.{All, AllPairs, Contains, Vec, find, is_some, slice_get, zip}
use Rattle.std.specs.Global.{Global}
use Rattle.std.specs.BTreeMap.{get, is_at, keys}
use Rattle.std.specs.Cmp.{eq_by_cmp_equiv}
use Rattle.std.proofs.lemmas.Cmp.{nat_cmp_total}
use Rattle.std.specs.List.{flat_map}
use Rattle.std.specs.List.Sorted.{IsStrictlySortedBy}
use Rattle.std.specs.Map.{keys_of}
use Rattle.std.specs.Ordering.{eq_by_cmp, nat_cmp}
use Rattle.std.proofs.lemmas.List.Elements.{All-append, All-cons, All-head, All-map, All-nil, All-tail, All-weaker, Contains-get_or}
use Rattle.std.proofs.lemmas.Grind.{flat_map-append}
use Rattle.std.proofs.lemmas.List.{append-nil}
use Rattle.std.proofs.lemmas.Map.Keys.{IsDistinct-from_sorted}
use Rattle.std.proofs.lemmas.Map.Lookups.{exact_unsigned}
use Rattle.std.proofs.lemmas.Map.Views.{btree_map_contains_key_iff, lookup-from_Contains}
use Rattle.std.proofs.lemmas.Option.{none-some, same_Some}
use Rattle.rmt_bits.proofs.ListLaws.{slice_get-seen, take-slice_get}
use Rattle.rmt_config.specs.declared.cell_write.CellWrite.{CellWrite}
use Rattle.rmt_config.specs.Commits.{writes_before}
use Rattle.rmt_config.specs.RunCells.{is_changed}
use Rattle.rmt_update.specs.declared.book.changing.CellChange.{CellChange}
use Rattle.rmt_book.specs.declared.kept.Kept.{Kept}
use Rattle.rmt_book.specs.declared.spot.BookSpot.{BookSpot}
use Rattle.rmt_book.specs.declared.table.PartCells.{PartCells}
use Rattle.rmt_book.specs.declared.table.TableCells.{TableCells}
use Rattle.rmt_update.specs.Changing.{ChangeKey, change_key, key_cmp}
use Rattle.rmt_book.specs.Coming.{kept_write}
use Rattle.rmt_update.specs.Differences.{AllPut, AreDifferences, AreMore, AreSome, Changes, Goal, IsDone, IsGoal, Puts, change_at, change_by, change_in, is_exact, pairs_of, write_at}
use Rattle.rmt_update.proofs.ChangesLaws.{write-put}
use Rattle.rmt_update.proofs.InsertLaws.{own-key, same-key}
use Rattle.rmt_update.proofs.KeyedLaws.{key-exact, key-total, keyed-found, keyed-more, keyed-order}

-- ---- one change

module _ (m m2 : Changes) (q : ChangeKey) (s : BookSpot) (w : Option CellWrite) (goal : Goal) (own : (v : CellWrite) → w ≡ Some v → q ≡ change_key v) (is : goal q ≡ w)
    (some : AreSome m goal) where
  -- where the goal is reached, it stays so
  pub puts-more : Puts m m2 q s w → AreMore m m2 goal × (write_at m2 q ≡ goal q)
  puts-more put = by w refl put
    where
      by : (o : Option CellWrite) → w ≡ o → Puts m m2 q s o → AreMore m m2 goal × (write_at m2 q ≡ goal q)
      by None none e = (
        record {
          some = record {
            keyed = subst (All (λ (x : ChangeKey × CellChange). x.0 ≡ change_key x.1.write)) (sym e) some.keyed;
            each = λ r. elim (some.each r) [
              | inl a ↦ inl (ap (λ es. write_at es r) e ∙ a)
              | inr a ↦ inr (ap (λ es. write_at es r) e ∙ a)
            ];
          };
          stay = λ r a. ap (λ es. write_at es r) e ∙ a;
        },
        ap (λ es. write_at es q) e ∙ (elim (some.each q) [
          | inl a ↦ a ∙ sym (is ∙ none)
          | inr a ↦ a
        ]),
      )
      by (Some v) put_v e =
          let here : write_at m2 q ≡ goal q = write-put m m2 q (record { spot = s; write = v }) e q ∙ ap (λ b. cond b (Some v) (write_at m q)) (own-key key-total key-exact q) ∙ sym (is ∙ put_v) in (
            record {
              some = record {
                keyed = subst (All (λ (x : ChangeKey × CellChange). x.0 ≡ change_key x.1.write)) (sym e) (keyed-more m q (record { spot = s; write = v }) some.keyed (own v put_v));
                each = λ r. at r (is_at (key_cmp r) q) refl (some.each r);
              };
              stay = λ r a. still r (is_at (key_cmp r) q) refl a;
            },
            here,
          )
        where
          reached : (r : ChangeKey) → is_at (key_cmp r) q ≡ true → goal r ≡ Some v
          reached r t = ap goal (same-key key-total key-exact r q t) ∙ is ∙ put_v

          at : (r : ChangeKey) (b : Bool) → is_at (key_cmp r) q ≡ b → (write_at m r ≡ None) ⊎ (write_at m r ≡ goal r) → (write_at m2 r ≡ None) ⊎ (write_at m2 r ≡ goal r)
          at r true t h = inr (write-put m m2 q (record { spot = s; write = v }) e r ∙ ap (λ b. cond b (Some v) (write_at m r)) t ∙ sym (reached r t))
          at r false f (inl a) = inl (write-put m m2 q (record { spot = s; write = v }) e r ∙ ap (λ b. cond b (Some v) (write_at m r)) f ∙ a)
          at r false f (inr a) = inr (write-put m m2 q (record { spot = s; write = v }) e r ∙ ap (λ b. cond b (Some v) (write_at m r)) f ∙ a)

          still : (r : ChangeKey) (b : Bool) → is_at (key_cmp r) q ≡ b → write_at m r ≡ goal r → write_at m2 r ≡ goal r
          still r true t a = write-put m m2 q (record { spot = s; write = v }) e r ∙ ap (λ b. cond b (Some v) (write_at m r)) t ∙ sym (reached r t)
          still r false f a = write-put m m2 q (record { spot = s; write = v }) e r ∙ ap (λ b. cond b (Some v) (write_at m r)) f ∙ a

pub no-more : (m : Changes) (goal : Goal) → AreSome m goal → AreMore m m goal
no-more m goal some = record { some = some; stay = λ q a. a }

pub more-more : (m m2 m3 : Changes) (goal : Goal) → AreMore m m2 goal → AreMore m2 m3 goal → AreMore m m3 goal
more-more m m2 m3 goal a b = record { some = b.some; stay = λ q h. b.stay q (a.stay q h) }

-- the key of a cell of a part
abbrev pub key_at : PartCells → ℕ → ChangeKey
key_at y n = ((y.stage, y.place), n)

-- a change has its own key
pub own-change : (x y : PartCells) (n : ℕ) → ((m : ℕ) (k : Kept) → get nat_cmp y.cells m ≡ Some k → k.cell ≡ m) → (v : CellWrite) → change_in x y n ≡ Some v → key_at y n ≡ change_key v
own-change x y n own v is = by (get nat_cmp x.cells n) (get nat_cmp y.cells n) refl is
  where
    key : (c : ℕ) → c ≡ n → key_at y n ≡ key_at y c
    key c e = ap (key_at y) (sym e)

    some : (a b : CellWrite) → Some a ≡ Some b → a ≡ b
    some a b e = ap (λ (o : Option CellWrite). elim o [
      | None ↦ a
      | Some z ↦ z
    ]) e

    tested : (b : Bool) (k : Kept) → k.cell ≡ n → cond b None (Some (kept_write y.stage y.place k.visible k)) ≡ Some v → key_at y n ≡ change_key v
    tested true k e h = absurd (none-some v h)
    tested false k e h = key k.cell e ∙ ap change_key (some _ v h)

    by : (o p : Option Kept) → get nat_cmp y.cells n ≡ p → change_by (is_exact y.shape.grid) y.stage y.place n o p ≡ Some v → key_at y n ≡ change_key v
    by None None e h = absurd (none-some v h)
    by (Some a) None e h = ap change_key (some _ v h)
    by None (Some k) e h = key k.cell (own n k e) ∙ ap change_key (some _ v h)
    by (Some a) (Some k) e h = tested _ k (own n k e) h

-- ---- all cells of a part

-- the changes of the cells in which either has something are all
pub part-put : (x y : PartCells) (m m2 m3 : Changes)
    → ((goal : Goal) → IsGoal goal (x, y) → AreSome m goal → AreMore m m2 goal × ((n : ℕ) → Contains (keys x.cells) n → write_at m2 ((y.stage, y.place), n) ≡ goal ((y.stage, y.place), n)))
    → ((goal : Goal) → IsGoal goal (x, y) → AreSome m2 goal → AreMore m2 m3 goal × ((n : ℕ) → Contains (keys y.cells) n → write_at m3 ((y.stage, y.place), n) ≡ goal ((y.stage, y.place), n)))
    → AllPut ((x, y) ∷ []) m m3
part-put x y m m2 m3 first second goal goals some =
    let is = All-head (IsGoal goal) (x, y) [] goals in
    let one = first goal is some in
    let two = second goal is one.0.some in
    (more-more m m2 m3 goal one.0 two.0, All-cons (IsDone m3 goal) (x, y) [] (λ n. by n (get nat_cmp x.cells n) (get nat_cmp y.cells n) refl refl is one two) (All-nil (IsDone m3 goal)))
  where
    in-keys : (z : PartCells) (n : ℕ) (k : Kept) → get nat_cmp z.cells n ≡ Some k → Contains (keys z.cells) n
    in-keys z n k e = (btree_map_contains_key_iff nat_cmp_total exact_unsigned z.cells n).0 (ap is_some e)

    by : (n : ℕ) (o p : Option Kept) → get nat_cmp x.cells n ≡ o → get nat_cmp y.cells n ≡ p → IsGoal goal (x, y)
        → AreMore m m2 goal × ((n : ℕ) → Contains (keys x.cells) n → write_at m2 ((y.stage, y.place), n) ≡ goal ((y.stage, y.place), n))
        → AreMore m2 m3 goal × ((n : ℕ) → Contains (keys y.cells) n → write_at m3 ((y.stage, y.place), n) ≡ goal ((y.stage, y.place), n))
        → write_at m3 ((y.stage, y.place), n) ≡ goal ((y.stage, y.place), n)
    by n o (Some k) eo ep is one two = two.1 n (in-keys y n k ep)
    by n (Some k) None eo ep is one two = two.0.stay ((y.stage, y.place), n) (one.1 n (in-keys x n k eo))
    by n None None eo ep is one two =
        let none : goal ((y.stage, y.place), n) ≡ None = is n ∙ ap (λ o. change_by (is_exact y.shape.grid) y.stage y.place n o (get nat_cmp y.cells n)) eo ∙ ap (change_by (is_exact y.shape.grid) y.stage y.place n None) ep in
        elim (two.0.some.each ((y.stage, y.place), n)) [
          | inl a ↦ a ∙ sym none
          | inr a ↦ a
        ]

-- ---- parts one after another

pub put-none : (m : Changes) → AllPut [] m m
put-none m goal goals some = (no-more m goal some, All-nil (IsDone m goal))

pub put-both : (ps qs : List (PartCells × PartCells)) (m m2 m3 : Changes) → AllPut ps m m2 → AllPut qs m2 m3 → AllPut (ps ++ qs) m m3
put-both ps qs m m2 m3 first second goal goals some =
    let one = first goal (front ps goals) some in
    let two = second goal (back ps goals) one.0.some in
    (more-more m m2 m3 goal one.0 two.0, All-append (IsDone m3 goal) ps qs (All-weaker (IsDone m2 goal) (IsDone m3 goal) (λ p done n. two.0.stay ((p.1.stage, p.1.place), n) (done n)) ps one.1) two.1)
  where
    front : (xs : List (PartCells × PartCells)) → All (IsGoal goal) (xs ++ qs) → All (IsGoal goal) xs
    front [] all = All-nil (IsGoal goal)
    front (x ∷ xs) all = All-cons (IsGoal goal) x xs (All-head (IsGoal goal) x (xs ++ qs) all) (front xs (All-tail (IsGoal goal) x (xs ++ qs) all))

    back : (xs : List (PartCells × PartCells)) → All (IsGoal goal) (xs ++ qs) → All (IsGoal goal) qs
    back [] all = all
    back (x ∷ xs) all = back xs (All-tail (IsGoal goal) x (xs ++ qs) all)

-- one pair more
pub zip-at : {X Y : Type 0} (xs : List X) (ys : List Y) (i : ℕ) (x : X) (y : Y) → slice_get xs i ≡ Some x → slice_get ys i ≡ Some y → slice_get (zip xs ys) i ≡ Some (x, y)
zip-at [] ys i x y at_x at_y = absurd (none-some x at_x)
zip-at (a ∷ xs) [] i x y at_x at_y = absurd (none-some y at_y)
zip-at (a ∷ xs) (b ∷ ys) zero x y at_x at_y = ap (λ c. Some (c, b)) (same_Some a x at_x) ∙ ap (λ c. Some (x, c)) (same_Some b y at_y)
zip-at (a ∷ xs) (b ∷ ys) (suc i) x y at_x at_y = zip-at xs ys i x y at_x at_y

pub zip-seen : {X Y : Type 0} (xs : List X) (ys : List Y) (i : ℕ) (x : X) (y : Y) → length ys ≡ length xs → i < length xs → x ≡ get_or xs i x → y ≡ get_or ys i y → slice_get (zip xs ys) i ≡ Some (x, y)
zip-seen xs ys i x y same lt at_x at_y = zip-at xs ys i x y (slice_get-seen xs xs i x refl lt at_x) (slice_get-seen ys ys i y refl (omega (arith, lt, same)) at_y)

pub pair-put : (ps : List (PartCells × PartCells)) (i : ℕ) (p : PartCells × PartCells) (m m2 m3 : Changes) → slice_get ps i ≡ Some p → AllPut (take i ps) m m2 → AllPut (p ∷ []) m2 m3 → AllPut (take (i + 1) ps) m m3
pair-put ps i p m m2 m3 at first second = subst (λ qs. AllPut qs m m3) (sym (take-slice_get ps i p at)) (put-both (take i ps) (p ∷ []) m m2 m3 first second)

-- and one table more
pub table-put : (ts : List (TableCells × Vec PartCells Global)) (i : ℕ) (t : TableCells × Vec PartCells Global) (m m2 m3 : Changes) → slice_get ts i ≡ Some t → AllPut (flat_map pairs_of (take i ts)) m m2
    → AllPut (pairs_of t) m2 m3 → AllPut (flat_map pairs_of (take (i + 1) ts)) m m3
table-put ts i t m m2 m3 at first second =
    let more : flat_map pairs_of (take (i + 1) ts) ≡ flat_map pairs_of (take i ts) ++ pairs_of t =
    ap (flat_map pairs_of) (take-slice_get ts i t at) ∙ flat_map-append pairs_of (take i ts) (t ∷ []) ∙ ap (λ ps. flat_map pairs_of (take i ts) ++ ps) (append-nil (pairs_of t)) in
    subst (λ qs. AllPut qs m m3) (sym more) (put-both (flat_map pairs_of (take i ts)) (pairs_of t) m m2 m3 first second)

pub take-past : {X : Type 0} (xs : List X) (n : ℕ) → length xs ≤ n → take n xs ≡ xs
take-past [] zero le = refl
take-past [] (suc n) le = refl
take-past (x ∷ xs) zero le = absurd (omega (arith, le))
take-past (x ∷ xs) (suc n) le = ap (λ ys. x ∷ ys) (take-past xs n (omega (arith, le)))

pub zip-short : {X Y : Type 0} (xs : List X) (ys : List Y) → length (zip xs ys) ≤ length xs
zip-short [] ys = omega arith
zip-short (x ∷ xs) [] = omega arith
zip-short (x ∷ xs) (y ∷ ys) = let le = zip-short xs ys in omega (arith, le)

-- ---- all changes

pub all-differences : (ps : List (PartCells × PartCells)) (m m2 : Changes) (writes : List CellWrite) → m ≡ [] → IsStrictlySortedBy key_cmp (keys_of m2) → AllPut ps m m2
    → writes ≡ map (λ (x : ChangeKey × CellChange). x.1.write) m2 → (goal : Goal) → All (IsGoal goal) ps → AreDifferences ps writes goal
all-differences ps m m2 writes empty ordered put are goal goals =
    let none : AreSome m goal = record {
      keyed = subst (All (λ (x : ChangeKey × CellChange). x.0 ≡ change_key x.1.write)) (sym empty) (All-nil (λ (x : ChangeKey × CellChange). x.0 ≡ change_key x.1.write));
      each = λ q. inl (ap (λ es. write_at es q) empty);
    } in
    let all = put goal goals none in
    let found : (k place n : ℕ) → find (λ (w : CellWrite). is_changed w k place n) writes ≡ write_at m2 ((k, place), n) =
    λ k place n. ap (find (λ (w : CellWrite). is_changed w k place n)) are ∙ keyed-found k place n m2 all.0.some.keyed in
    record {
      in_order = subst (AllPairs (λ a b. writes_before a b ≡ true)) (sym are) (keyed-order m2 all.0.some.keyed ordered);
      each = subst (All (λ (w : CellWrite). goal (change_key w) ≡ Some w)) (sym are) (own all.0.some);
      all = goal-by ps all.1 goals found;
    }
  where
    goal-by : (qs : List (PartCells × PartCells)) → All (IsDone m2 goal) qs → All (IsGoal goal) qs
        → ((k place n : ℕ) → find (λ (w : CellWrite). is_changed w k place n) writes ≡ write_at m2 ((k, place), n))
        → All (λ (p : PartCells × PartCells). (n : ℕ) → find (λ (w : CellWrite). is_changed w p.1.stage p.1.place n) writes ≡ change_in p.0 p.1 n) qs
    goal-by qs done is found i d lt n = found (get_or qs i d).1.stage (get_or qs i d).1.place n ∙ done i d lt n ∙ is i d lt n

    own : AreSome m2 goal → All (λ (w : CellWrite). goal (change_key w) ≡ Some w) (map (λ (x : ChangeKey × CellChange). x.1.write) m2)
    own some =
        All-map (λ (w : CellWrite). goal (change_key w) ≡ Some w) (λ (x : ChangeKey × CellChange). x.1.write) m2
        (λ i d lt. one (get_or m2 i d) (some.keyed i d lt) (lookup-from_Contains {eq = eq_by_cmp key_cmp} (eq_by_cmp_equiv key-total) (get_or m2 i d).0 (get_or m2 i d).1 m2 (IsDistinct-from_sorted key_cmp (keys_of m2) ordered) (Contains-get_or m2 i d lt)) (some.each (get_or m2 i d).0))
      where
        one : (x : ChangeKey × CellChange) → x.0 ≡ change_key x.1.write → change_at m2 x.0 ≡ Some x.1 → (write_at m2 x.0 ≡ None) ⊎ (write_at m2 x.0 ≡ goal x.0) → goal (change_key x.1.write) ≡ Some x.1.write
        one x key there (inl none) = absurd (none-some x.1.write (sym none ∙ ap (option_map (λ (y : CellChange). y.write)) there))
        one x key there (inr is) = ap goal (sym key) ∙ sym is ∙ ap (option_map (λ (y : CellChange). y.write)) there
