-- The rules on names that speak of names alone, as loops decide them.
use Rattle.std.proofs.Common.{◌≡◌, ℕ, ◌+◌, ◌<◌, ◌≤◌, List, [], ◌∷◌, ◌++◌, length, get_or, take, drop, Bool, true, false, not, ◌&&◌, ◌||◌, leb, ltb, sym, refl, ap, ◌∙◌, arith}
use Rattle.std.specs.List.{flat_map, list_all, list_any}
use Rattle.std.specs.Borrow.{Bor}
use Rattle.std.specs.Prelude.{Result, Ok, Err, IfOk, AllPairs}
use Rattle.std.specs.BTreeMap.{is_at}
use Rattle.std.specs.BTreeSet.{insert_key}
use Rattle.std.specs.Cmp.Lexicographic.{slice_cmp}
use Rattle.std.specs.Ordering.{is_eq, match_ordering, nat_cmp}
use Rattle.std.specs.declared.cmp.Ordering.{Ordering}
use Rattle.std.specs.declared.cmp.Ordering.TheVariants.{Less, Equal, Greater}
use Rattle.std.specs.Str.{bytes_eq}
use Rattle.std.proofs.lemmas.Bool.{false≢true, false_from_ne_true, and_from, and_parts, leb-true, ltb-true, le-leb}
use Rattle.std.proofs.lemmas.Bool.Decides.{nat_tests}
use Rattle.std.proofs.lemmas.List.{map-append, take_all, take-append-drop}
use Rattle.std.proofs.lemmas.List.Folds.{list_all-append, list_any-append}
use Rattle.std.proofs.lemmas.Slice.Eq.{bytes_eq-Decides}
use Rattle.std.proofs.lemmas.Map.Text.{is_eq-slice_cmp}
use Rattle.std.proofs.lemmas.List.Sums.{list_all-from_AllPass}
use Rattle.rmt_ast.specs.NameList.{bytes_of, is_known, seen}
use Rattle.rmt_ast.specs.NameRules.{differ, rise}
use Rattle.rmt_ast.proofs.NameListLaws.{seen_more}
use Rattle.rmt_config.specs.Order.{rises_from}
use Rattle.rmt_config.specs.NamesForm.{each_later}
use Rattle.rmt_bits.proofs.FunctionLaws.{bytes_eq-sym}
use Rattle.rmt_bits.proofs.PairLaws.{AllPairs-head, AllPairs-tail}

-- ---- all items of lists

pub all_flat : {X Y : Type 0} (p : Y → Bool) (f : X → List Y) (xs : List X) → list_all p (flat_map f xs) ≡ list_all (λ x. list_all p (f x)) xs
all_flat p f [] = refl
all_flat p f (x ∷ xs) = list_all-append p (f x) (flat_map f xs) ∙ ap (λ b. list_all p (f x) && b) (all_flat p f xs)

-- ---- rising numbers

-- numbers rise from one on where all are at least that one, and each is below the later ones
ordered : (a b : ℕ) → leb (a + 1) b ≡ ltb a b
ordered a b = grind (arith, nat_tests)

-- a number behind one that rises is at least that one
first_least : (least n : ℕ) (ns : List ℕ) → leb least n ≡ true → list_all (λ m. ltb n m) ns ≡ true → list_all (λ m. leb least m) ns ≡ true
first_least least n [] le h = refl
first_least least n (m ∷ ms) le h =
    let parts = and_parts (ltb n m) (list_all (λ k. ltb n k) ms) h in
    and_from (leb least m) (list_all (λ k. leb least k) ms) (up (leb-true least n le) (ltb-true n m parts.0)) (first_least least n ms le parts.1)
  where
    up : least ≤ n → n < m → leb least m ≡ true
    up a b = le-leb least m (omega (arith, a, b))

above_all : (n : ℕ) (ns : List ℕ) → list_all (λ m. leb (n + 1) m) ns ≡ list_all (λ m. ltb n m) ns
above_all n [] = refl
above_all n (m ∷ ms) = ap (λ b. b && list_all (λ k. leb (n + 1) k) ms) (ordered n m) ∙ ap (λ b. ltb n m && b) (above_all n ms)

-- numbers rise from one on where all are at least that one, and each is below the later ones
rise-from : (least : ℕ) (ns : List ℕ) → rises_from least ns ≡ (list_all (λ m. leb least m) ns && rise ns)
rise-from least [] = refl
rise-from least (n ∷ ns) =
    ap (λ b. leb least n && b) (rise-from (n + 1) ns ∙ ap (λ b. b && rise ns) (above_all n ns))
    ∙ by (leb least n) (list_all (λ m. ltb n m) ns) (list_all (λ m. leb least m) ns) (rise ns) (first_least least n ns)
  where
    by : (a b d e : Bool) → (a ≡ true → b ≡ true → d ≡ true) → (a && (b && e)) ≡ ((a && d) && (b && e))
    by false b d e h = refl
    by true false d e h = from_false d
      where
        from_false : (x : Bool) → false ≡ (x && false)
        from_false true = refl
        from_false false = refl
    by true true d e h = rw (h refl refl) refl

all_least : (ns : List ℕ) → list_all (λ m. leb 0 m) ns ≡ true
all_least [] = refl
all_least (n ∷ ns) = and_from (leb 0 n) (list_all (λ m. leb 0 m) ns) (le-leb 0 n (omega arith)) (all_least ns)

pub rise-all : (ns : List ℕ) → rises_from 0 ns ≡ rise ns
rise-all ns = rise-from 0 ns ∙ ap (λ b. b && rise ns) (all_least ns)

-- ---- names of which none stands twice

-- one more name differs from the others
differ_push : (ns : List (List ℕ)) (n : List ℕ) → differ (ns ++ n ∷ []) ≡ (differ ns && not (is_known ns n))
differ_push [] n = refl
differ_push (m ∷ ms) n =
    ap (λ b. not b && differ (ms ++ n ∷ [])) (list_any-append (bytes_eq m) ms (n ∷ []) ∙ ap (λ e. is_known ms m || (e || false)) (bytes_eq-sym m n))
    ∙ ap (λ b. not (is_known ms m || (bytes_eq n m || false)) && b) (differ_push ms n) ∙ by (is_known ms m) (bytes_eq n m) (differ ms) (is_known ms n)
  where
    by : (a e d b : Bool) → (not (a || (e || false)) && (d && not b)) ≡ ((not a && d) && not (e || b))
    by true e d b = refl
    by false true true b = refl
    by false true false b = refl
    by false false d b = refl

-- the first of names that differ do
differ_front : (ns ms : List (List ℕ)) → differ (ns ++ ms) ≡ true → differ ns ≡ true
differ_front [] ms h = refl
differ_front (n ∷ ns) ms h =
    let parts = and_parts (not (is_known (ns ++ ms) n)) (differ (ns ++ ms)) h in
    and_from (not (is_known ns n)) (differ ns) (by (is_known ns n) (is_known ms n) (sym (ap not (list_any-append (bytes_eq n) ns ms)) ∙ parts.0)) (differ_front ns ms parts.1)
  where
    by : (a b : Bool) → not (a || b) ≡ true → not a ≡ true
    by true b e = e
    by false b e = refl

-- ---- a set of names

abbrev names_order : Bor (List ℕ) → Bor (List ℕ) → Ordering
names_order x y = slice_cmp nat_cmp x.now y.now

-- a set has a name where it is among those of its keys
set_knows : (ks : List (Bor (List ℕ))) (k : Bor (List ℕ)) → list_any (is_at (names_order k)) ks ≡ is_known (seen ks) k.now
set_knows [] k = refl
set_knows (x ∷ xs) k = ap (λ b. b || list_any (is_at (names_order k)) xs) (is_eq-slice_cmp k.now x.now) ∙ ap (λ b. bytes_eq k.now x.now || b) (set_knows xs k)

known_insert : (ks : List (Bor (List ℕ))) (k : Bor (List ℕ)) (q : List ℕ) → is_known (seen (insert_key names_order ks k)) q ≡ (bytes_eq q k.now || is_known (seen ks) q)
known_insert [] k q = refl
known_insert (x ∷ xs) k q = by (names_order k x) refl (known_insert xs k q)
  where
    once : (a b : Bool) → (a || b) ≡ (a || (a || b))
    once true b = refl
    once false b = refl

    swap : (a d b : Bool) → (a || (d || b)) ≡ (d || (a || b))
    swap true true b = refl
    swap true false b = refl
    swap false d b = refl

    by : (o : Ordering) → names_order k x ≡ o → is_known (seen (insert_key names_order xs k)) q ≡ (bytes_eq q k.now || is_known (seen xs) q)
        → is_known (seen (match_ordering o (k ∷ x ∷ xs) (x ∷ xs) (x ∷ insert_key names_order xs k))) q ≡ (bytes_eq q k.now || (bytes_eq q x.now || is_known (seen xs) q))
    by Less e more = refl
    by Equal e more =
        let same : k.now ≡ x.now = (bytes_eq-Decides k.now x.now).0 (sym (is_eq-slice_cmp k.now x.now) ∙ ap is_eq e) in
        rw same (once (bytes_eq q x.now) (is_known (seen xs) q))
    by Greater e more = ap (λ b. bytes_eq q x.now || b) more ∙ swap (bytes_eq q x.now) (bytes_eq q k.now) (is_known (seen xs) q)

-- ---- the steps of the loop over names

module _ (names : List (Bor (List ℕ))) (i : ℕ) (d : Bor (List ℕ)) (lt : i < length names) (ks : List (Bor (List ℕ)))
    (same : (q : List ℕ) → is_known (seen ks) q ≡ is_known (seen (take i names)) q) where
  known : list_any (is_at (names_order (get_or names i d))) ks ≡ is_known (seen (take i names)) (get_or names i d).now
  known = set_knows ks (get_or names i d) ∙ same (get_or names i d).now

  one_more : differ (seen (take (i + 1) names)) ≡ (differ (seen (take i names)) && not (list_any (is_at (names_order (get_or names i d))) ks))
  one_more = ap differ (seen_more names i d lt) ∙ differ_push (seen (take i names)) (get_or names i d).now ∙ ap (λ b. differ (seen (take i names)) && not b) (sym known)

  -- a name of the set stands twice
  pub stands_twice : not (list_any (is_at (names_order (get_or names i d))) ks) ≡ false → false ≡ differ (seen names)
  stands_twice e =
      sym (false_from_ne_true (differ (seen names)) (λ h.
      let split : seen (take (i + 1) names) ++ seen (drop (i + 1) names) ≡ seen names =
      sym (map-append bytes_of (take (i + 1) names) (drop (i + 1) names)) ∙ ap seen (take-append-drop (i + 1) names) in
      let front : differ (seen (take (i + 1) names)) ≡ true = differ_front (seen (take (i + 1) names)) (seen (drop (i + 1) names)) (ap differ split ∙ h) in
      let parts = and_parts (differ (seen (take i names))) (not (list_any (is_at (names_order (get_or names i d))) ks)) (sym one_more ∙ front) in
      false≢true (sym e ∙ parts.1)))

  pub stands_once : not (list_any (is_at (names_order (get_or names i d))) ks) ≡ true → differ (seen (take i names)) ≡ true → differ (seen (take (i + 1) names)) ≡ true
  stands_once e apart = one_more ∙ and_from (differ (seen (take i names))) (not (list_any (is_at (names_order (get_or names i d))) ks)) apart e

  pub known_more : (new : List (Bor (List ℕ))) → new ≡ insert_key names_order ks (get_or names i d) → (q : List ℕ) → is_known (seen new) q ≡ is_known (seen (take (i + 1) names)) q
  known_more new e q =
      let n = get_or names i d in
      ap (λ keys. is_known (seen keys) q) e ∙ known_insert ks n q ∙ ap (λ b. bytes_eq q n.now || b) (same q)
      ∙ turn (bytes_eq q n.now) (is_known (seen (take i names)) q)
      ∙ sym (ap (λ all. is_known all q) (seen_more names i d lt) ∙ list_any-append (bytes_eq q) (seen (take i names)) (n.now ∷ []))
    where
      turn : (a b : Bool) → (a || b) ≡ (b || (a || false))
      turn true true = refl
      turn true false = refl
      turn false true = refl
      turn false false = refl

pub stand_once : (names : List (Bor (List ℕ))) (i : ℕ) → length names ≤ i → differ (seen (take i names)) ≡ true → true ≡ differ (seen names)
stand_once names i le h = sym (ap (λ ns. differ (seen ns)) (sym (take_all i names le)) ∙ h)

-- ---- a table whose other rules hold

pub by_actions : (a b d e f g h i : Bool) → (a && b && e && f && g && h && i) ≡ true → d ≡ (a && b && d && e && f && g && h && i)
by_actions false b d e f g h i fits = absurd (false≢true fits)
by_actions true false d e f g h i fits = absurd (false≢true fits)
by_actions true true true e f g h i fits = sym fits
by_actions true true false e f g h i fits = refl

pub if_ok-along : {E : Type 0} (r : Result Bool E) (x y : Bool) → x ≡ y → IfOk r (λ fit. fit ≡ x) → IfOk r (λ fit. fit ≡ y)
if_ok-along (Ok b) x y e h = h ∙ e
if_ok-along (Err _) x y e h = tt

-- a rule of each item with each later one
pub each_later-from : {A : Type 0} (R : A → A → Bool) (xs : List A) → AllPairs (λ a b. R a b ≡ true) xs → each_later R xs ≡ true
each_later-from R [] h = refl
each_later-from R (x ∷ xs) h =
    and_from (list_all (R x) xs) (each_later R xs) (list_all-from_AllPass (R x) xs (AllPairs-head (λ a b. R a b ≡ true) x xs h))
    (each_later-from R xs (AllPairs-tail (λ a b. R a b ≡ true) x xs h))
