-- The numbers of names, and maps that have them.
use Rattle.std.proofs.Common.{[], ◌≤◌, ◌||◌, map, find, slice_get, nat_lt, subst}
use Rattle.std.specs.List.{list_any, position_or_len}
use Rattle.std.specs.Option.{IfSome}
use Rattle.std.proofs.lemmas.List.Quantifiers.{position-Some}
use Rattle.std.proofs.lemmas.List.Folds.{find_at}
use Rattle.std.proofs.lemmas.Option.{slice_get_past}
use Rattle.std.proofs.lemmas.Bool.Decides.{nat_tests}
use Rattle.std.proofs.Common.{◌≡◌, ℕ, ◌+◌, ◌<◌, List, ◌∷◌, ◌++◌, Bool, true, false, not, cond, None, Some, Option, is_some, length, take, get_or, option_copied, refl, sym, ap, ◌∙◌, add-zero, arith}
use Rattle.indexmap.specs.IndexMap.{IndexMap, get, insert_entry}
use Rattle.indexmap.proofs.CallerLemmas.{insert_entry-new}
use Rattle.std.specs.Borrow.{Bor}
use Rattle.std.proofs.lemmas.Bool.{false≢true}
use Rattle.std.proofs.lemmas.List.{take_more, map_push, length-map, length-take}
use Rattle.std.specs.Map.{lookup}
use Rattle.std.specs.List.{position_from}
use Rattle.std.specs.Option.{option_or}
use Rattle.std.specs.Str.{bytes_eq}
use Rattle.std.proofs.lemmas.Slice.Eq.{bytes_eq-Decides}
use Rattle.std.proofs.lemmas.Iterator.Adapters.{position_from-zero}
use Rattle.rmt_ast.specs.NameList.{number_of, is_known, HasNumbers, bytes_of, seen}

position_from-append : {A : Type 0} (t : A → Bool) (i : ℕ) (xs ys : List A)
    → position_from t i (xs ++ ys) ≡ option_or (position_from t i xs) (position_from t (i + length xs) ys)
position_from-append t i [] ys = ap (λ (n : ℕ). position_from t n ys) (sym (add-zero i))
position_from-append t i (x ∷ xs) ys =
    let rest : position_from t (i + 1) (xs ++ ys) ≡ option_or (position_from t (i + 1) xs) (position_from t (i + length (x ∷ xs)) ys) =
    position_from-append t (i + 1) xs ys ∙ ap (λ (n : ℕ). option_or (position_from t (i + 1) xs) (position_from t n ys)) (omega arith) in
    by (t x) _ _ _ rest
  where
    by : (b : Bool) (p q r : Option ℕ) → p ≡ option_or q r → cond b (Some i) p ≡ option_or (cond b (Some i) q) r
    by true p q r e = refl
    by false p q r e = e

-- one more name: it has the number after the others, if none of them is equal
pub number_of-push : (names : List (List ℕ)) (n q : List ℕ) → number_of (names ++ n ∷ []) q ≡ option_or (number_of names q) (cond (bytes_eq q n) (Some (length names)) None)
number_of-push names n q =
    position_from-zero (bytes_eq q) (names ++ n ∷ []) ∙ position_from-append (bytes_eq q) 0 names (n ∷ [])
    ∙ ap (λ (o : Option ℕ). option_or o (cond (bytes_eq q n) (Some (0 + length names)) None)) (sym (position_from-zero (bytes_eq q) names))
    ∙ ap (λ (k : ℕ). option_or (number_of names q) (cond (bytes_eq q n) (Some k) None)) (omega arith)

lookup-append : {K V : Type 0} (test : K → Bool) (xs ys : List (K × V)) → lookup test (xs ++ ys) ≡ option_or (lookup test xs) (lookup test ys)
lookup-append test [] ys = refl
lookup-append test (x ∷ xs) ys = by (test x.0) (lookup-append test xs ys)
  where
    by : (b : Bool) → lookup test (xs ++ ys) ≡ option_or (lookup test xs) (lookup test ys) → cond b (Some x.1) (lookup test (xs ++ ys)) ≡ option_or (cond b (Some x.1) (lookup test xs)) (lookup test ys)
    by true e = refl
    by false e = e

module _ {K : Type 0} (bytes : K → List ℕ) where
  pub numbers_none : (es : List (K × ℕ)) → es ≡ [] → HasNumbers bytes es []
  numbers_none es e = record { at = λ q. rw e refl }

  -- a name that is new has the number of the names before it
  pub numbers_more : (es : List (K × ℕ)) (names : List (List ℕ)) (k : K) (n : List ℕ) (i : ℕ) → HasNumbers bytes es names → bytes k ≡ n → i ≡ length names
      → HasNumbers bytes (es ++ (k, i) ∷ []) (names ++ n ∷ [])
  numbers_more es names k n i h same last = record {
    at = λ q. lookup-append (λ (x : K). bytes_eq q (bytes x)) es ((k, i) ∷ []) ∙ rw (h.at q, same, last) (sym (number_of-push names n q));
  }

  -- a name that is there keeps its number
  pub numbers_again : (es : List (K × ℕ)) (names : List (List ℕ)) (n : List ℕ) (v : ℕ) → HasNumbers bytes es names
      → lookup (λ (x : K). bytes_eq n (bytes x)) es ≡ Some v → HasNumbers bytes es (names ++ n ∷ [])
  numbers_again es names n v h there = record { at = λ q. h.at q ∙ by q (bytes_eq q n) refl ∙ sym (number_of-push names n q) }
    where
      by : (q : List ℕ) (b : Bool) → bytes_eq q n ≡ b → number_of names q ≡ option_or (number_of names q) (cond (bytes_eq q n) (Some (length names)) None)
      by q true e =
          let found : number_of names q ≡ Some v = ap (number_of names) ((bytes_eq-Decides q n).0 e) ∙ sym (h.at n) ∙ there in rw found refl
      by q false e = rw e (none (number_of names q))
        where
          none : (o : Option ℕ) → o ≡ option_or o None
          none None = refl
          none (Some x) = refl

-- a number is that of a name of the list
pub number_within : (names : List (List ℕ)) (q : List ℕ) (o : Option ℕ) → o ≡ number_of names q → IfSome o (λ n. n < length names)
number_within names q None e = tt
number_within names q (Some n) e = (position-Some (bytes_eq q) names n [] (sym e)).0

pub copied_none : {A : Type 0} (o : Option (Bor A)) (b : Bool) → is_some o ≡ not b → b ≡ true → option_copied o ≡ None
copied_none None b e t = refl
copied_none (Some x) b e t = absurd (false≢true (sym (e ∙ ap not t)))

pub copied_some : {A : Type 0} (o : Option (Bor A)) (b : Bool) → is_some o ≡ not b → b ≡ false → (v : A) × (option_copied o ≡ Some v)
copied_some None b e f = absurd (false≢true (e ∙ ap not f))
copied_some (Some x) b e f = (x.now, refl)

-- the names before a place, and the one there
pub seen_more : (names : List (Bor (List ℕ))) (i : ℕ) (d : Bor (List ℕ)) → i < length names → seen (take (i + 1) names) ≡ seen (take i names) ++ bytes_of (get_or names i d) ∷ []
seen_more names i d lt = ap seen (take_more names i d lt) ∙ map_push bytes_of (take i names) (get_or names i d)

pub seen_length : (names : List (Bor (List ℕ))) (i : ℕ) → i < length names → i ≡ length (seen (take i names))
seen_length names i lt = simp (length-map, length-take) (omega arith)

-- keys of the same bytes
abbrev pub same : {K : Type 0} → (K → List ℕ) → K → K → Bool
same bytes x y = bytes_eq (bytes x) (bytes y)

-- a new name in a map
pub number_new : {K S : Type 0} (bytes : K → List ℕ) (m : IndexMap K ℕ S) (names : List (List ℕ)) (k : K) (i : ℕ) → HasNumbers bytes m.entries names → i ≡ length names
    → get (same bytes) m k ≡ None → HasNumbers bytes (insert_entry (same bytes) m.entries k i) (names ++ bytes k ∷ [])
number_new bytes m names k i h last none = rw (insert_entry-new (same bytes) m k i none) (numbers_more bytes m.entries names k (bytes k) i h refl last)

module _ {S : Type 0} (m : IndexMap (Bor (List ℕ)) ℕ S) (names : List (Bor (List ℕ))) (i : ℕ) (d : Bor (List ℕ)) (lt : i < length names)
    (old : HasNumbers bytes_of m.entries (seen (take i names))) where
  pub place_new : get (same bytes_of) m (get_or names i d) ≡ None → HasNumbers bytes_of (insert_entry (same bytes_of) m.entries (get_or names i d) i) (seen (take (i + 1) names))
  place_new none = rw (seen_more names i d lt) (number_new bytes_of m (seen (take i names)) (get_or names i d) i old (seen_length names i lt) none)

  pub place_old : (v : ℕ) → get (same bytes_of) m (get_or names i d) ≡ Some v → HasNumbers bytes_of m.entries (seen (take (i + 1) names))
  place_old v some = rw (seen_more names i d lt) (numbers_again bytes_of m.entries (seen (take i names)) (bytes_of (get_or names i d)) v old some)

-- What stands at the number of a name.
module _ {A : Type 0} (name : A → List ℕ) (q : List ℕ) where
  same_place : (xs : List A) → position_or_len (bytes_eq q) (map name xs) ≡ position_or_len (λ (x : A). bytes_eq q (name x)) xs
  same_place [] = refl
  same_place (x ∷ xs) = ap (λ (n : ℕ). cond (not (bytes_eq q (name x))) (1 + n) 0) (same_place xs)

  at_place : (xs : List A) → find (λ (x : A). bytes_eq q (name x)) xs ≡ slice_get xs (position_or_len (bytes_eq q) (map name xs))
  at_place xs = find_at (λ (x : A). bytes_eq q (name x)) xs ∙ ap (slice_get xs) (sym (same_place xs))

  -- the first of a name stands at the name's number
  pub find_found : (xs : List A) (n : ℕ) → number_of (map name xs) q ≡ Some n → find (λ (x : A). bytes_eq q (name x)) xs ≡ slice_get xs n
  find_found xs n e = at_place xs ∙ ap (slice_get xs) (by (nat_lt (position_or_len (bytes_eq q) (map name xs)) (length (map name xs))) (position_or_len (bytes_eq q) (map name xs)) e)
    where
      by : (b : Bool) (k : ℕ) → cond b (Some k) None ≡ Some n → k ≡ n
      by true k e = cc
      by false k e = cc

  -- a name of no number is no name of the list
  pub find_missing : (xs : List A) → number_of (map name xs) q ≡ None → find (λ (x : A). bytes_eq q (name x)) xs ≡ None
  find_missing xs e = at_place xs ∙ slice_get_past xs (position_or_len (bytes_eq q) (map name xs)) (subst (λ (n : ℕ). n ≤ position_or_len (bytes_eq q) (map name xs)) (length-map xs name) (past _ _ e))
    where
      past : (k n : ℕ) → cond (nat_lt k n) (Some k) None ≡ None → n ≤ k
      past k n h = grind (arith, nat_tests)

-- a name is known where it has a number
pub known_number : (names : List (List ℕ)) (q : List ℕ) → is_known names q ≡ is_some (number_of names q)
known_number names q = by 0 names ∙ ap is_some (sym (position_from-zero (bytes_eq q) names))
  where
    by : (i : ℕ) (ns : List (List ℕ)) → list_any (bytes_eq q) ns ≡ is_some (position_from (bytes_eq q) i ns)
    by i [] = refl
    by i (n ∷ ns) = one (bytes_eq q n) (by (i + 1) ns)
      where
        one : (b : Bool) → list_any (bytes_eq q) ns ≡ is_some (position_from (bytes_eq q) (i + 1) ns) → (b || list_any (bytes_eq q) ns) ≡ is_some (cond b (Some i) (position_from (bytes_eq q) (i + 1) ns))
        one true e = refl
        one false e = e
