-- The prefixes of rows, seen one after another.
use Rattle.std.proofs.Common.{◌≡◌, ℕ, ◌+◌, ◌<◌, List, [], ◌∷◌, length, get_or, drop, Bool, true, false, not, ◌&&◌, ◌||◌, cond, eqb, refl, sym, ap, ◌∙◌, subst}
use Rattle.std.specs.List.{list_all, list_any}
use Rattle.std.specs.Ordering.{is_eq, nat_cmp, ordering_then}
use Rattle.std.specs.declared.cmp.Ordering.{Ordering}
use Rattle.std.specs.declared.cmp.Ordering.TheVariants.{Less, Equal, Greater}
use Rattle.std.specs.BTreeSet.{BTreeSet, Updates, contains}
use Rattle.rmt_bits.specs.Bits.{slice}
use Rattle.rmt_ast.specs.RankPairs.{pair_cmp}
use Rattle.rmt_config.specs.declared.form.names.prefix_rows.Row.{Row}
use Rattle.rmt_config.specs.NamesForm.{each_later}
use Rattle.rmt_config.specs.PrefixRows.{have_same, stand_once}
use Rattle.rmt_config.proofs.SpelledExact.{differ-all, turn}
use Rattle.rmt_config.proofs.OrderLaws.{same_number}
use Rattle.rmt_config.proofs.RiseLaws.{one_off}

-- ---- items that are new one after another

abbrev pub are_new : {A : Type 0} → (A → A → Bool) → List A → List A → Bool
are_new same before [] = true
are_new same before (x ∷ xs) = not (list_any (λ m. same m x) before) && are_new same (x ∷ before) xs

new-later : {A : Type 0} (same : A → A → Bool) (before xs : List A)
    → are_new same before xs ≡ (list_all (λ x. not (list_any (λ m. same m x) before)) xs && each_later (λ a b. not (same a b)) xs)
new-later same before [] = refl
new-later same before (x ∷ xs) =
    let seen = not (list_any (λ m. same m x) before) in
    let later = each_later (λ a b. not (same a b)) xs in
    ap (λ b. seen && b) (new-later same (x ∷ before) xs ∙ ap (λ b. b && later) (differ-all (same x) (λ y. list_any (λ m. same m y) before) xs))
    ∙ turn seen (list_all (λ y. not (same x y)) xs) (list_all (λ y. not (list_any (λ m. same m y) before)) xs) later

none-before : {A : Type 0} (same : A → A → Bool) (xs : List A) → list_all (λ x. not (list_any (λ m. same m x) [])) xs ≡ true
none-before same [] = refl
none-before same (x ∷ xs) = none-before same xs

new-once : (bits : ℕ) (rows : List Row) → stand_once bits rows ≡ are_new (have_same bits) [] rows
new-once bits rows =
    sym (new-later (have_same bits) [] rows ∙ ap (λ b. b && each_later (λ a b. not (have_same bits a b)) rows) (none-before (have_same bits) rows))

-- ---- pairs in a set

abbrev pub same_pair : ℕ × ℕ → ℕ × ℕ → Bool
same_pair a b = eqb a.0 b.0 && eqb a.1 b.1

both : (x y : Ordering) → is_eq (ordering_then x y) ≡ (is_eq x && is_eq y)
both Less y = refl
both Equal y = refl
both Greater y = refl

pair-tie : (a b : ℕ × ℕ) → is_eq (pair_cmp a b) ≡ same_pair a b
pair-tie a b =
    both (nat_cmp a.0 b.0) (nat_cmp a.1 b.1) ∙ ap (λ x. x && is_eq (nat_cmp a.1 b.1)) (same_number a.0 b.0) ∙ ap (λ x. eqb a.0 b.0 && x) (same_number a.1 b.1)

abbrev pub pair_of : ℕ → Row → ℕ × ℕ
pair_of bits r = (slice r.key 0 bits, slice r.mask 0 bits)

-- a set has the prefixes of rows
abbrev pub Knows : ℕ → List Row → BTreeSet (ℕ × ℕ) → Type 0
Knows bits before set = (q : ℕ × ℕ) → contains pair_cmp set q ≡ list_any (λ (r : Row). same_pair (pair_of bits r) q) before

either : (a b : Bool) → cond a true b ≡ (a || b)
either true b = refl
either false b = refl

knows-more : (bits : ℕ) (r : Row) (before : List Row) (old new : BTreeSet (ℕ × ℕ)) → Knows bits before old → Updates pair_cmp old new (pair_of bits r) true → Knows bits (r ∷ before) new
knows-more bits r before old new h up q =
    up.0 q
    ∙ ap (λ (b : Bool). cond b true (contains pair_cmp old q)) (pair-tie (pair_of bits r) q)
    ∙ ap (cond (same_pair (pair_of bits r) q) true) (h q)
    ∙ either (same_pair (pair_of bits r) q) (list_any (λ (m : Row). same_pair (pair_of bits m) q) before)

-- ---- rows so far: those that were seen, and what is left to be found out

pub record RowsSeen (bits : ℕ) (rows rest : List Row) (set : BTreeSet (ℕ × ℕ)) : Type 0 where
  pub seen : List Row
  pub known : Knows bits seen set
  pub answer : stand_once bits rows ≡ are_new (have_same bits) seen rest

module _ (bits : ℕ) (rows : List Row) where
  pub seen-first : (set : BTreeSet (ℕ × ℕ)) → Knows bits [] set → RowsSeen bits rows rows set
  seen-first set h = record { seen = []; known = h; answer = new-once bits rows }

  seen-at : (i : ℕ) (d : Row) (set : BTreeSet (ℕ × ℕ)) → i < length rows → RowsSeen bits rows (drop i rows) set
      → RowsSeen bits rows (get_or rows i d ∷ drop (i + 1) rows) set
  seen-at i d set lt r = subst (λ rest. RowsSeen bits rows rest set) (one_off rows i d lt) r

  -- the row at a place, whose key and mask were cut to these
  module _ (i : ℕ) (d : Row) (set : BTreeSet (ℕ × ℕ)) (key mask : ℕ) (lt : i < length rows) (h : RowsSeen bits rows (drop i rows) set)
      (own_key : key ≡ slice (get_or rows i d).key 0 bits) (own_mask : mask ≡ slice (get_or rows i d).mask 0 bits) where
    own : (key, mask) ≡ pair_of bits (get_or rows i d)
    own = ap (λ k. (k, mask)) own_key ∙ ap (λ m. (slice (get_or rows i d).key 0 bits, m)) own_mask

    seen-here : RowsSeen bits rows (get_or rows i d ∷ drop (i + 1) rows) set
    seen-here = seen-at i d set lt h

    -- what is left to be found out, where it is known whether the row is new
    left : (new : Bool) → new ≡ not (contains pair_cmp set (key, mask))
        → stand_once bits rows ≡ (new && are_new (have_same bits) (get_or rows i d ∷ seen-here.seen) (drop (i + 1) rows))
    left new is =
        seen-here.answer
        ∙ ap (λ b. b && are_new (have_same bits) (get_or rows i d ∷ seen-here.seen) (drop (i + 1) rows))
        (sym (is ∙ ap (λ q. not (contains pair_cmp set q)) own ∙ ap not (seen-here.known (pair_of bits (get_or rows i d)))))

    pub seen-no : false ≡ not (contains pair_cmp set (key, mask)) → false ≡ stand_once bits rows
    seen-no is = sym (left false is)

    pub seen-more : (new : BTreeSet (ℕ × ℕ)) → true ≡ not (contains pair_cmp set (key, mask)) → Updates pair_cmp set new (key, mask) true → RowsSeen bits rows (drop (i + 1) rows) new
    seen-more new is up = record {
      seen = get_or rows i d ∷ seen-here.seen;
      known = knows-more bits (get_or rows i d) seen-here.seen set new seen-here.known (subst (λ q. Updates pair_cmp set new q true) own up);
      answer = left true is;
    }

  pub seen-all : (rest : List Row) (set : BTreeSet (ℕ × ℕ)) → rest ≡ [] → RowsSeen bits rows rest set → true ≡ stand_once bits rows
  seen-all rest set none r = sym (r.answer ∙ ap (are_new (have_same bits) r.seen) none)
