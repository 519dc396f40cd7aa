-- The rows of a table, one after another.
use Rattle.std.proofs.Common.{◌≡◌, ◌⊎◌, ℕ, Bool, true, false, not, cond, List, [], ◌∷◌, ◌++◌, Option, Some, None, length, length-append, option_map, refl, sym, ap, ◌∙◌, inl, inr, arith}
use Rattle.std.specs.Prelude.{slice_get, unwrap_or}
use Rattle.std.specs.BTreeMap.{get, is_at}
use Rattle.std.specs.BTreeSet.{contains}
use Rattle.std.specs.Ordering.{is_eq, nat_cmp}
use Rattle.std.specs.declared.cmp.Ordering.{Ordering}
use Rattle.std.specs.declared.cmp.Ordering.TheVariants.{Less, Equal, Greater}
use Rattle.std.proofs.lemmas.Bool.{cases_lt, false≢true}
use Rattle.std.proofs.lemmas.Map.Lookups.{exact_pairs, exact_unsigned}
use Rattle.std.proofs.lemmas.Option.{same_Some, slice_get_past, slice_get_within}
use Rattle.rmt_bits.proofs.ListLaws.{slice_get-front, slice_get-pushed}
use Rattle.rmt_ast.specs.RankPairs.{pair_cmp}
use Rattle.rmt_ast.specs.declared.program.Kind.{Kind}
use Rattle.rmt_ast.specs.declared.program.Kind.TheVariants as kind
use Rattle.rmt_book.specs.declared.kept.Kept.{Kept}
use Rattle.rmt_book.specs.declared.row_order.RowOrder.{RowOrder}
use Rattle.rmt_update.specs.Open.{is_kept_seen}
use Rattle.rmt_update.specs.RowIndex.{AreRows, HaveOwnRows, Stays, is_unseen, kept_key}
use Rattle.rmt_book.specs.Seen.{is_seen}

-- ---- keys

-- keys at one place are one
pub same-key : (a b : ℕ × ℕ) → is_at (pair_cmp a) b ≡ true → a ≡ b
same-key a b h = by (pair_cmp a b) refl h
  where
    by : (o : Ordering) → pair_cmp a b ≡ o → is_eq o ≡ true → a ≡ b
    by Less e h = absurd (false≢true h)
    by Equal e h = exact_pairs nat_cmp nat_cmp exact_unsigned exact_unsigned a b e
    by Greater e h = absurd (false≢true h)

pub same-number : (a b : ℕ) → is_at (nat_cmp a) b ≡ true → a ≡ b
same-number a b h = by (nat_cmp a b) refl h
  where
    by : (o : Ordering) → nat_cmp a b ≡ o → is_eq o ≡ true → a ≡ b
    by Less e h = absurd (false≢true h)
    by Equal e h = exact_unsigned a b e
    by Greater e h = absurd (false≢true h)

pub own-number : (a : ℕ) → is_at (nat_cmp a) a ≡ true
own-number a = grind arith

pub own-key : (a : ℕ × ℕ) → is_at (pair_cmp a) a ≡ true
own-key a = grind arith

-- a key tells its number
pub key-number : (k : Kind) (a b : Kept) → kept_key k a ≡ kept_key k b → a.number ≡ b.number
key-number kind.Keyless a b e = ap (λ (p : ℕ × ℕ). p.1) e
key-number kind.Exact a b e = ap (λ (p : ℕ × ℕ). p.1) e
key-number kind.Prefix a b e = ap (λ (p : ℕ × ℕ). p.1) e
key-number kind.Ternary a b e = ap (λ (p : ℕ × ℕ). p.1) e

-- ---- one row more

-- a place in a list with one item more
pub push-cases : {X : Type 0} (xs : List X) (y x : X) (i : ℕ) → slice_get (xs ++ y ∷ []) i ≡ Some x → (slice_get xs i ≡ Some x) ⊎ ((i ≡ length xs) × (y ≡ x))
push-cases xs y x i at = elim (cases_lt i (length xs)) [
  | inl lt ↦ inl (sym (slice_get-front xs (y ∷ []) i lt) ∙ at)
  | inr le ↦
      let long = length-append xs (y ∷ []) in
      let within = slice_get_within (xs ++ y ∷ []) i x at in
      let here : i ≡ length xs = omega (arith, le, long, within) in
      inr (here, same_Some y x (sym (slice_get-pushed xs y) ∙ ap (slice_get (xs ++ y ∷ [])) (sym here) ∙ at))
]

pub push-front : {X : Type 0} (xs : List X) (y x : X) (i : ℕ) → slice_get xs i ≡ Some x → slice_get (xs ++ y ∷ []) i ≡ Some x
push-front xs y x i at = slice_get-front xs (y ∷ []) i (slice_get_within xs i x at) ∙ at

pub own-front : (xs ys : List (Option Kept)) → HaveOwnRows (xs ++ ys) → HaveOwnRows xs
own-front xs ys own i j k l at at2 same =
    own i j k l (slice_get-front xs ys i (slice_get_within xs i (Some k) at) ∙ at) (slice_get-front xs ys j (slice_get_within xs j (Some l) at2) ∙ at2) same

module _ (kind : Kind) (odd : Bool) (goes : ℕ → Bool) (xs : List (Option Kept)) (o : Option Kept) (old new : RowOrder) (row : ℕ) (count : length xs ≡ row) (are : AreRows kind odd goes xs old) where
  past : slice_get xs row ≡ None
  past = slice_get_past xs row (omega (arith, count))

  -- the free rows
  free-kept : ((i : ℕ) → contains nat_cmp new.free i ≡ contains nat_cmp old.free i) → is_kept_seen odd o ≡ true → (i : ℕ) → contains nat_cmp new.free i ≡ is_unseen odd (xs ++ o ∷ []) i
  free-kept same seen i = same i ∙ are.free i ∙ elim (cases_lt i (length xs)) [
    | inl lt ↦ ap answer (sym (slice_get-front xs (o ∷ []) i lt))
    | inr le ↦ ap answer (slice_get_past xs i le) ∙ elim (cases_lt row i) [
      | inl gt ↦ let long = length-append xs (o ∷ []) in sym (ap answer (slice_get_past (xs ++ o ∷ []) i (omega (arith, gt, count, long))))
      | inr ge ↦
          let here : i ≡ length xs = omega (arith, le, ge, count) in
          sym (ap answer (ap (slice_get (xs ++ o ∷ [])) here ∙ slice_get-pushed xs o) ∙ ap not seen)
    ]
  ]
    where
      answer : Option (Option Kept) → Bool
      answer q = unwrap_or (option_map (λ (o : Option Kept). not (is_kept_seen odd o)) q) false

  free-more : ((i : ℕ) → contains nat_cmp new.free i ≡ cond (is_at (nat_cmp row) i) true (contains nat_cmp old.free i)) → is_kept_seen odd o ≡ false → (i : ℕ) → contains nat_cmp new.free i ≡ is_unseen odd (xs ++ o ∷ []) i
  free-more changed unseen i = changed i ∙ by (is_at (nat_cmp row) i) refl
    where
      answer : Option (Option Kept) → Bool
      answer q = unwrap_or (option_map (λ (o : Option Kept). not (is_kept_seen odd o)) q) false

      by : (b : Bool) → is_at (nat_cmp row) i ≡ b → cond b true (contains nat_cmp old.free i) ≡ is_unseen odd (xs ++ o ∷ []) i
      by true at =
          let here : i ≡ length xs = sym (same-number row i at) ∙ sym count in
          sym (ap answer (ap (slice_get (xs ++ o ∷ [])) here ∙ slice_get-pushed xs o) ∙ ap not unseen)
      by false other = are.free i ∙ elim (cases_lt i (length xs)) [
        | inl lt ↦ ap answer (sym (slice_get-front xs (o ∷ []) i lt))
        | inr le ↦ elim (cases_lt row i) [
          | inl gt ↦
              let long = length-append xs (o ∷ []) in
              ap answer (slice_get_past xs i le) ∙ sym (ap answer (slice_get_past (xs ++ o ∷ []) i (omega (arith, gt, count, long))))
          | inr ge ↦
              let here : row ≡ i = omega (arith, le, ge, count) in
              absurd (false≢true (sym other ∙ ap (is_at (nat_cmp row)) (sym here) ∙ own-number row))
        ]
      ]

  -- a row of no entry that stays
  pub other-row : ((q : ℕ × ℕ) → get pair_cmp new.rows q ≡ get pair_cmp old.rows q) → ((i : ℕ) → contains nat_cmp new.free i ≡ is_unseen odd (xs ++ o ∷ []) i) → ((k : Kept) → o ≡ Some k → Stays odd goes k → ⊥)
      → AreRows kind odd goes (xs ++ o ∷ []) new
  other-row same free none = record {
    rows = λ key r at. let before = are.rows key r (sym (same key) ∙ at) in (before.0, push-front xs o (Some before.0) r before.1, before.2, before.3);
    all = λ r k at stays. elim (push-cases xs o (Some k) r at) [
      | inl front ↦ same (kept_key kind k) ∙ are.all r k front stays
      | inr last ↦ absurd (none k last.1 stays)
    ];
    free = free;
  }

  -- that of one that stays
  pub own-row : (k : Kept) → o ≡ Some k → Stays odd goes k → HaveOwnRows (xs ++ o ∷ []) → ((q : ℕ × ℕ) → get pair_cmp new.rows q ≡ cond (is_at (pair_cmp (kept_key kind k)) q) (Some row) (get pair_cmp old.rows q))
      → ((i : ℕ) → contains nat_cmp new.free i ≡ is_unseen odd (xs ++ o ∷ []) i) → AreRows kind odd goes (xs ++ o ∷ []) new
  own-row k is stays own changed free = record {
    rows = λ key r at. rows key r (is_at (pair_cmp (kept_key kind k)) key) refl (sym (changed key) ∙ at);
    all = λ r l at keeps. changed (kept_key kind l) ∙ all r l keeps at (push-cases xs o (Some l) r at) (is_at (pair_cmp (kept_key kind k)) (kept_key kind l)) refl;
    free = free;
  }
    where
      last : slice_get (xs ++ o ∷ []) row ≡ Some (Some k)
      last = ap (slice_get (xs ++ o ∷ [])) (sym count) ∙ slice_get-pushed xs o ∙ ap Some is

      rows : (key : ℕ × ℕ) (r : ℕ) (b : Bool) → is_at (pair_cmp (kept_key kind k)) key ≡ b → cond b (Some row) (get pair_cmp old.rows key) ≡ Some r
          → (l : Kept) × (slice_get (xs ++ o ∷ []) r ≡ Some (Some l)) × Stays odd goes l × (key ≡ kept_key kind l)
      rows key r true at e = (k, ap (slice_get (xs ++ o ∷ [])) (sym (same_Some row r e)) ∙ last, stays, sym (same-key (kept_key kind k) key at))
      rows key r false at e = let before = are.rows key r e in (before.0, push-front xs o (Some before.0) r before.1, before.2, before.3)

      all : (r : ℕ) (l : Kept) → Stays odd goes l → slice_get (xs ++ o ∷ []) r ≡ Some (Some l) → (slice_get xs r ≡ Some (Some l)) ⊎ ((r ≡ length xs) × (o ≡ Some l)) → (b : Bool) → is_at (pair_cmp (kept_key kind k)) (kept_key kind l) ≡ b
          → cond b (Some row) (get pair_cmp old.rows (kept_key kind l)) ≡ Some r
      all r l keeps at where_is true e = ap Some (own row r k l last at (key-number kind k l (same-key (kept_key kind k) (kept_key kind l) e)))
      all r l keeps at (inl front) false e = are.all r l front keeps
      all r l keeps at (inr here) false e =
          let same : k ≡ l = same_Some k l (sym is ∙ here.1) in
          absurd (false≢true (sym e ∙ ap (λ (m : Kept). is_at (pair_cmp (kept_key kind k)) (kept_key kind m)) (sym same) ∙ own-key (kept_key kind k)))

  -- by what is kept of the row
  pub stays-row : (k : Kept) → o ≡ Some k → is_seen odd k ≡ true → goes k.number ≡ false → HaveOwnRows (xs ++ o ∷ [])
      → ((q : ℕ × ℕ) → get pair_cmp new.rows q ≡ cond (is_at (pair_cmp (kept_key kind k)) q) (Some row) (get pair_cmp old.rows q))
      → ((i : ℕ) → contains nat_cmp new.free i ≡ contains nat_cmp old.free i) → AreRows kind odd goes (xs ++ o ∷ []) new
  stays-row k is seen stays own changed same = own-row k is (seen, stays) own changed (free-kept same (ap (is_kept_seen odd) is ∙ seen))

  pub free-row : is_kept_seen odd o ≡ false → ((q : ℕ × ℕ) → get pair_cmp new.rows q ≡ get pair_cmp old.rows q)
      → ((i : ℕ) → contains nat_cmp new.free i ≡ cond (is_at (nat_cmp row) i) true (contains nat_cmp old.free i)) → AreRows kind odd goes (xs ++ o ∷ []) new
  free-row unseen same changed =
      other-row same (free-more changed unseen) (λ k e stays. false≢true (sym unseen ∙ ap (is_kept_seen odd) e ∙ stays.0))
