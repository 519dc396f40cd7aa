-- Changes one after another: what one more puts to them, and that in order they are what a stable sort leaves of them.
use Rattle.std.proofs.Common.{◌≡◌, Bool, true, false, cond, ◌&&◌, ◌==◌, Some, option_map, List, [], ◌∷◌, ◌++◌, refl, sym, ap, ◌∙◌}
use Rattle.std.specs.Prelude.{reverse}
use Rattle.std.specs.BTreeMap.{insert_entry, is_at}
use Rattle.std.specs.List.{dedup}
use Rattle.std.specs.List.Sorted.{IsSortedByKey, IsStableByKey, IsStrictlySortedBy}
use Rattle.std.specs.Map.{keys_of}
use Rattle.std.specs.Ordering.{eq_by_cmp, is_eq, nat_cmp, ordering_then}
use Rattle.std.specs.declared.cmp.Ordering.{Ordering}
use Rattle.std.specs.declared.cmp.Ordering.TheVariants.{Less, Equal, Greater}
use Rattle.std.proofs.lemmas.List.Sums.{fold_push}
use Rattle.rmt_config.specs.declared.cell_write.CellWrite.{CellWrite}
use Rattle.rmt_config.proofs.OrderLaws.{same_number}
use Rattle.rmt_book.specs.declared.spot.BookSpot.{BookSpot}
use Rattle.rmt_update.specs.declared.book.changing.CellChange.{CellChange}
use Rattle.rmt_update.specs.Changing.{ChangeKey, key_cmp}
use Rattle.rmt_update.specs.Differences.{Changes, change_at, changes_in, write_at}
use Rattle.rmt_update.proofs.InsertLaws.{lookup-insert}
use Rattle.rmt_update.proofs.KeyedLaws.{key-exact, key-total}
use Rattle.rmt_update.proofs.PutInOrder.{puts-in-order, sorted-puts}

pub changes-none : (xs : List (ChangeKey × CellChange)) → xs ≡ [] → changes_in xs ≡ []
changes-none xs is = ap changes_in is

pub changes-pushed : (xs : List (ChangeKey × CellChange)) (x : ChangeKey × CellChange) → changes_in (xs ++ x ∷ []) ≡ insert_entry key_cmp (changes_in xs) x.0 x.1
changes-pushed xs x = fold_push (λ (m : Changes) (y : ChangeKey × CellChange). insert_entry key_cmp m y.0 y.1) [] xs x

-- one change more, whose write is known
pub change-put : (xs ys : List (ChangeKey × CellChange)) (key : ChangeKey) (s : BookSpot) (w v : CellWrite) → ys ≡ xs ++ (key, record { spot = s; write = w }) ∷ [] → w ≡ v
    → changes_in ys ≡ insert_entry key_cmp (changes_in xs) key (record { spot = s; write = v })
change-put xs ys key s w v more is =
    ap changes_in more ∙ changes-pushed xs (key, record { spot = s; write = w }) ∙ ap (λ (x : CellWrite). insert_entry key_cmp (changes_in xs) key (record { spot = s; write = x })) is

-- a changed cell that is put is found, and all others as before
pub write-put : (m m2 : Changes) (q : ChangeKey) (x : CellChange) → m2 ≡ insert_entry key_cmp m q x → (r : ChangeKey) → write_at m2 r ≡ cond (is_at (key_cmp r) q) (Some x.write) (write_at m r)
write-put m m2 q x is r =
    ap (λ es. write_at es r) is ∙ ap (option_map (λ (y : CellChange). y.write)) (lookup-insert key-total key-exact m q r x) ∙ by (is_at (key_cmp r) q)
  where
    by : (b : Bool) → option_map (λ (y : CellChange). y.write) (cond b (Some x) (change_at m r)) ≡ cond b (Some x.write) (write_at m r)
    by true = refl
    by false = refl

pub changes-ordered : (xs : List (ChangeKey × CellChange)) → IsStrictlySortedBy key_cmp (keys_of (changes_in xs))
changes-ordered xs = puts-in-order key-total xs

-- two keys are one
abbrev pub same_key : ChangeKey → ChangeKey → Bool
same_key a b = ((a.0.0 == b.0.0) && (a.0.1 == b.0.1)) && (a.1 == b.1)

same-by-order : (a b : ChangeKey) → same_key a b ≡ eq_by_cmp key_cmp a b
same-by-order a b =
    sym
    (both (ordering_then (nat_cmp a.0.0 b.0.0) (nat_cmp a.0.1 b.0.1)) (nat_cmp a.1 b.1) ∙ ap (λ t. t && is_eq (nat_cmp a.1 b.1)) (both (nat_cmp a.0.0 b.0.0) (nat_cmp a.0.1 b.0.1))
    ∙ ap (λ t. (t && is_eq (nat_cmp a.0.1 b.0.1)) && is_eq (nat_cmp a.1 b.1)) (same_number a.0.0 b.0.0) ∙ ap (λ t. ((a.0.0 == b.0.0) && t) && is_eq (nat_cmp a.1 b.1)) (same_number a.0.1 b.0.1)
    ∙ ap (λ t. ((a.0.0 == b.0.0) && (a.0.1 == b.0.1)) && t) (same_number a.1 b.1))
  where
    both : (o p : Ordering) → is_eq (ordering_then o p) ≡ (is_eq o && is_eq p)
    both Less p = refl
    both Equal p = refl
    both Greater p = refl

-- from the last one on in order, of each key the first one
pub changes-sorted : (xs ys : List (ChangeKey × CellChange)) → IsSortedByKey (λ (x : ChangeKey × CellChange). x.0) key_cmp ys → IsStableByKey (λ (x : ChangeKey × CellChange). x.0) key_cmp (reverse xs) ys
    → dedup (λ (x y : ChangeKey × CellChange). same_key x.0 y.0) ys ≡ changes_in xs
changes-sorted xs ys sorted stable = sorted-puts key-total key-exact (λ (x y : ChangeKey × CellChange). same_key x.0 y.0) (λ x y. same-by-order x.0 y.0) xs ys sorted stable
