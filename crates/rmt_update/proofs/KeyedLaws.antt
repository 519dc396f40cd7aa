-- Changed cells that stand by their keys are in order, and each is found by its key.
use Rattle.std.proofs.Common.{◌≡◌, ℕ, Bool, true, false, ◌&&◌, ◌||◌, cond, eqb, List, [], ◌∷◌, map, Option, Some, option_map, refl, sym, ap, ◌∙◌}
use Rattle.std.specs.Prelude.{All, AllPairs, find, nat_lt}
use Rattle.std.specs.BTreeMap.{insert_entry, is_at}
use Rattle.std.specs.Cmp.{IsTotalOrder}
use Rattle.std.specs.List.Sorted.{IsStrictlySortedBy}
use Rattle.std.specs.Map.{keys_of, lookup}
use Rattle.std.specs.Ordering.{is_eq, match_ordering, nat_cmp, ordering_then}
use Rattle.std.specs.declared.cmp.Ordering.{Ordering}
use Rattle.std.specs.declared.cmp.Ordering.TheVariants.{Less, Equal, Greater}
use Rattle.std.proofs.lemmas.Cmp.{nat_cmp_total, on_total, then_total}
use Rattle.std.proofs.lemmas.List.Elements.{All-cons, All-head, All-nil, All-tail}
use Rattle.std.proofs.lemmas.List.Kept.{AllPairs-cons}
use Rattle.std.proofs.lemmas.Map.Keys.{sorted_tail}
use Rattle.std.proofs.lemmas.Map.Lookups.{exact_pairs, exact_unsigned}
use Rattle.std.proofs.lemmas.Map.Views.{All-after_first}
use Rattle.rmt_bits.proofs.OptionLaws.{eqb-sym}
use Rattle.rmt_bits.proofs.PairLaws.{AllPairs-none}
use Rattle.rmt_config.specs.declared.cell_write.CellWrite.{CellWrite}
use Rattle.rmt_config.specs.Commits.{writes_before}
use Rattle.rmt_config.specs.RunCells.{is_changed}
use Rattle.rmt_config.proofs.OrderLaws.{same_number}
use Rattle.rmt_update.specs.declared.book.changing.CellChange.{CellChange}
use Rattle.rmt_update.specs.Changing.{ChangeKey, change_key, key_cmp}

-- a changed cell stands by its own key
abbrev pub IsKeyed : ChangeKey × CellChange → Type 0
IsKeyed x = x.0 ≡ change_key x.1.write

-- keys in order are changed cells in order
before-by : (a b : CellWrite) → key_cmp (change_key a) (change_key b) ≡ Less → writes_before a b ≡ true
before-by a b h = by (nat_lt a.stage b.stage) (eqb a.stage b.stage) (nat_lt a.unit b.unit) (eqb a.unit b.unit) (nat_lt a.cell b.cell) (eqb a.cell b.cell) h
  where
    by : (x y z w u v : Bool) → ordering_then (ordering_then (cond x Less (cond y Equal Greater)) (cond z Less (cond w Equal Greater))) (cond u Less (cond v Equal Greater)) ≡ Less
        → (x || (y && (z || (w && u)))) ≡ true
    by true y z w u v h = refl
    by false true true w u v h = refl
    by false true false true true v h = refl
    by false true false true false true h = cc
    by false true false true false false h = cc
    by false true false false u v h = cc
    by false false z w u v h = cc

-- the key of a place is that of the cell that is changed there
same-key : (w : CellWrite) (k place n : ℕ) → is_eq (key_cmp ((k, place), n) (change_key w)) ≡ is_changed w k place n
same-key w k place n =
    both (ordering_then (nat_cmp k w.stage) (nat_cmp place w.unit)) (nat_cmp n w.cell)
    ∙ ap (λ b. b && is_eq (nat_cmp n w.cell)) (both (nat_cmp k w.stage) (nat_cmp place w.unit))
    ∙ ap (λ b. (b && is_eq (nat_cmp place w.unit)) && is_eq (nat_cmp n w.cell)) (same_number k w.stage ∙ eqb-sym k w.stage)
    ∙ ap (λ b. (eqb w.stage k && b) && is_eq (nat_cmp n w.cell)) (same_number place w.unit ∙ eqb-sym place w.unit)
    ∙ ap (λ b. (eqb w.stage k && eqb w.unit place) && b) (same_number n w.cell ∙ eqb-sym n w.cell)
  where
    both : (o p : Ordering) → is_eq (ordering_then o p) ≡ (is_eq o && is_eq p)
    both Less p = refl
    both Equal p = refl
    both Greater p = refl

abbrev write : ChangeKey × CellChange → CellWrite
write x = x.1.write

behind : (x : ChangeKey × CellChange) (es : List (ChangeKey × CellChange)) → IsKeyed x → All IsKeyed es → All (λ q. key_cmp x.0 q ≡ Less) (keys_of es) → All (λ w. writes_before (write x) w ≡ true) (map write es)
behind x [] own all less = All-nil (λ w. writes_before (write x) w ≡ true)
behind x (e ∷ es) own all less =
    All-cons (λ w. writes_before (write x) w ≡ true) (write e) (map write es)
    (before-by (write x) (write e)
    (ap (λ q. key_cmp q (change_key (write e))) (sym own) ∙ ap (key_cmp x.0) (sym (All-head IsKeyed e es all)) ∙ All-head (λ q. key_cmp x.0 q ≡ Less) e.0 (keys_of es) less))
    (behind x es own (All-tail IsKeyed e es all) (All-tail (λ q. key_cmp x.0 q ≡ Less) e.0 (keys_of es) less))

pub keyed-order : (es : List (ChangeKey × CellChange)) → All IsKeyed es → IsStrictlySortedBy key_cmp (keys_of es) → AllPairs (λ a b. writes_before a b ≡ true) (map write es)
keyed-order [] all sorted = AllPairs-none (λ a b. writes_before a b ≡ true)
keyed-order (e ∷ es) all sorted =
    AllPairs-cons (λ a b. writes_before a b ≡ true) (write e) (map write es)
    (behind e es (All-head IsKeyed e es all) (All-tail IsKeyed e es all) (All-after_first key_cmp e.0 (keys_of es) sorted))
    (keyed-order es (All-tail IsKeyed e es all) (sorted_tail key_cmp e.0 (keys_of es) sorted))

pub keyed-found : (k place n : ℕ) (es : List (ChangeKey × CellChange)) → All IsKeyed es
    → find (λ (w : CellWrite). is_changed w k place n) (map write es) ≡ option_map (λ (x : CellChange). x.write) (lookup (is_at (key_cmp ((k, place), n))) es)
keyed-found k place n [] all = refl
keyed-found k place n (e ∷ es) all =
    ap (λ b. cond b (Some (write e)) (find (λ (w : CellWrite). is_changed w k place n) (map write es))) (sym (ap (λ q. is_eq (key_cmp ((k, place), n) q)) (All-head IsKeyed e es all) ∙ same-key (write e) k place n))
    ∙ by (is_eq (key_cmp ((k, place), n) e.0)) (find (λ (w : CellWrite). is_changed w k place n) (map write es)) (lookup (is_at (key_cmp ((k, place), n))) es) (keyed-found k place n es (All-tail IsKeyed e es all))
  where
    by : (b : Bool) (o : Option CellWrite) (q : Option CellChange) → o ≡ option_map (λ (x : CellChange). x.write) q
        → cond b (Some (write e)) o ≡ option_map (λ (x : CellChange). x.write) (cond b (Some e.1) q)
    by true o q rest = refl
    by false o q rest = rest

pub key-exact : (a b : ChangeKey) → key_cmp a b ≡ Equal → a ≡ b
key-exact a b e = exact_pairs (λ (x y : ℕ × ℕ). ordering_then (nat_cmp x.0 y.0) (nat_cmp x.1 y.1)) nat_cmp (exact_pairs nat_cmp nat_cmp exact_unsigned exact_unsigned) exact_unsigned a b e

pub key-total : IsTotalOrder key_cmp
key-total =
    then_total (on_total (λ (k : ChangeKey). k.0) (then_total (on_total (λ (p : ℕ × ℕ). p.0) nat_cmp_total) (on_total (λ (p : ℕ × ℕ). p.1) nat_cmp_total))) (on_total (λ (k : ChangeKey). k.1) nat_cmp_total)

-- one more changed cell
pub keyed-more : (es : List (ChangeKey × CellChange)) (k : ChangeKey) (x : CellChange) → All IsKeyed es → k ≡ change_key x.write → All IsKeyed (insert_entry key_cmp es k x)
keyed-more [] k x all own = All-cons IsKeyed (k, x) [] own (All-nil IsKeyed)
keyed-more (e ∷ es) k x all own =
    by (key_cmp k e.0) refl (keyed-more es k x (All-tail IsKeyed e es all) own)
  where
    by : (o : Ordering) → key_cmp k e.0 ≡ o → All IsKeyed (insert_entry key_cmp es k x) → All IsKeyed (match_ordering o ((k, x) ∷ e ∷ es) ((e.0, x) ∷ es) (e ∷ insert_entry key_cmp es k x))
    by Less h rest = All-cons IsKeyed (k, x) (e ∷ es) own all
    by Equal h rest = All-cons IsKeyed (e.0, x) es (sym (key-exact k e.0 h) ∙ own) (All-tail IsKeyed e es all)
    by Greater h rest = All-cons IsKeyed e (insert_entry key_cmp es k x) (All-head IsKeyed e es all) rest
