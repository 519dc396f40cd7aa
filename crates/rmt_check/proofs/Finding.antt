-- What stands at the number of a name.
use Rattle.std.proofs.Common.{◌≡◌, ℕ, zero, suc, get_or, ◌+◌, ◌<◌, ◌≤◌, List, [], ◌∷◌, ◌++◌, take, ap₂, Bool, true, false, not, cond, ◌||◌, Some, option_map, unwrap_or, map, find, slice_get, length, refl, sym, ap, subst, ◌∙◌, arith, Option, None, one-add, append_assoc, option_to_list, filter_map, drop, drop-cons, Result, Ok, Err, IsOk, IfOk}
use Rattle.std.specs.List.{cons_option, flat_map, position_or_len}
use Rattle.std.specs.Str.{bytes_eq}
use Rattle.std.proofs.lemmas.List.{length-map, map-id, map_push, map_more, take_all, take_more, drop_all, append-nil}
use Rattle.std.proofs.lemmas.List.Concat.{flat_map-append}
use Rattle.std.proofs.lemmas.Option.{slice_get_within}
use Rattle.rmt_check.specs.Parts.{TableText}
use Rattle.rmt_ast.specs.NameList.{number_of, is_known}
use Rattle.rmt_check.specs.Names.{ident_names, listed}
use Rattle.rmt_check.specs.StoredFields.{list_names}
use Rattle.std.proofs.lemmas.Bool.{false≢true, lt-ltb}
use Rattle.std.proofs.lemmas.Slice.Eq.{bytes_eq-Decides}
use Rattle.rmt_check.specs.Meaning.{index_of}

-- one item more, where what is gathered so far is that of the items before
pub gathered_more : {A B X : Type 0} (h : A → B) (f : X → B) (ys more : List A) (y : A) (xs : List X) (i : ℕ) (x : X) → more ≡ ys ++ y ∷ [] → h y ≡ f x → i < length xs → x ≡ get_or xs i x
    → map h ys ≡ map f (take i xs) → map h more ≡ map f (take (i + 1) xs)
gathered_more {B = B} h f ys more y xs i x put same lt is old =
    ap (map h) put ∙ map_push h ys y ∙ ap₂ (λ (bs : List B) (b : B). bs ++ b ∷ []) old (same ∙ ap f is) ∙ sym (map_push f (take i xs) (get_or xs i x)) ∙ ap (map f) (sym (take_more xs i x lt))

-- one item more of a list that is gathered
pub gathered_item : {A B : Type 0} (h : A → B) (was ys more : List A) (y : A) (bs : List B) (k : ℕ) → more ≡ ys ++ y ∷ [] → k < length bs → h y ≡ get_or bs k (h y) → map h ys ≡ map h was ++ take k bs
    → map h more ≡ map h was ++ take (k + 1) bs
gathered_item {B = B} h was ys more y bs k put lt is old =
    ap (map h) put ∙ map_push h ys y ∙ ap₂ (λ (cs : List B) (c : B). cs ++ c ∷ []) old is ∙ append_assoc (map h was) (take k bs) (get_or bs k (h y) ∷ [])
    ∙ ap (λ (cs : List B). map h was ++ cs) (sym (take_more bs k (h y) lt))

-- one list more, all of which is gathered
pub gathered_list : {A B X : Type 0} (h : A → B) (g : X → List B) (was now : List A) (bs : List B) (j : ℕ) (xs : List X) (i : ℕ) (x : X) → length bs ≤ j → bs ≡ g x → i < length xs → x ≡ get_or xs i x
    → map h was ≡ flat_map g (take i xs) → map h now ≡ map h was ++ take j bs → map h now ≡ flat_map g (take (i + 1) xs)
gathered_list {B = B} {X = X} h g was now bs j xs i x all is lt at old put =
    put ∙ ap₂ (λ (cs ds : List B). cs ++ ds) old (take_all j bs all ∙ is ∙ ap g at)
    ∙ sym (ap (flat_map g) (take_more xs i x lt) ∙ flat_map-append g (take i xs) (get_or xs i x ∷ []) ∙ ap (λ (ds : List B). flat_map g (take i xs) ++ ds) (append-nil (g (get_or xs i x))))

pub cons_list : {Y : Type 0} (o : Option Y) (ys : List Y) → cons_option o ys ≡ option_to_list o ++ ys
cons_list None ys = refl
cons_list (Some y) ys = refl

-- what one item more gives, of those that give something
module _ {X Y : Type 0} (f : X → Option Y) (xs : List X) (i : ℕ) where
  pub filtered_more : (was now all : List Y) (x : X) → i < length xs → x ≡ get_or xs i x → was ++ filter_map f (drop i xs) ≡ all → now ≡ was ++ option_to_list (f x)
      → now ++ filter_map f (drop (i + 1) xs) ≡ all
  filtered_more was now all x lt at so_far put =
      let next : suc i ≡ i + 1 = omega arith in
      let here : filter_map f (drop i xs) ≡ option_to_list (f x) ++ filter_map f (drop (i + 1) xs) =
      ap (filter_map f) (drop-cons xs i x lt) ∙ cons_list (f (get_or xs i x)) (filter_map f (drop (suc i) xs))
      ∙ ap₂ (λ (o : Option Y) (n : ℕ). option_to_list o ++ filter_map f (drop n xs)) (ap f (sym at)) next in
      ap (λ (ys : List Y). ys ++ filter_map f (drop (i + 1) xs)) put ∙ append_assoc was (option_to_list (f x)) (filter_map f (drop (i + 1) xs)) ∙ ap (λ (ys : List Y). was ++ ys) (sym here) ∙ so_far

  pub filtered_all : (was all : List Y) → length xs ≤ i → was ++ filter_map f (drop i xs) ≡ all → was ≡ all
  filtered_all was all le so_far = sym (append-nil was) ∙ ap (λ (ys : List X). was ++ filter_map f ys) (sym (drop_all i xs le)) ∙ so_far

-- one part more that was made of an item
pub made_more : {X U E : Type 0} (f : X → U) (was now : List U) (made : Result U E) (xs : List X) (i : ℕ) (x : X) → IsOk made × IfOk made (λ u. now ≡ was ++ u ∷ []) → IfOk made (λ u. u ≡ f x)
    → i < length xs → x ≡ get_or xs i x → was ≡ map f (take i xs) → now ≡ map f (take (i + 1) xs)
made_more {U = U} f was now (Ok u) xs i x put is lt at old = put.1 ∙ ap₂ (λ (us : List U) (v : U). us ++ v ∷ []) old (is ∙ ap f at) ∙ sym (map_more f xs i x lt)
made_more f was now (Err e) xs i x put is lt at old = grind arith

-- the list that stands at a table's number is that of the table
pub list_at : (ts : List TableText) (n : ℕ) (l : List (List ℕ)) → n < length (list_names ts) → l ≡ get_or (list_names ts) n l
    → ident_names (unwrap_or (option_map listed (slice_get ts n)) []) ≡ l
list_at [] n l lt e = absurd (omega arith)
list_at (t ∷ ts) zero l lt e = sym e
list_at (t ∷ ts) (suc n) l lt e = list_at ts n l (omega arith) e

-- A name that is known stands for the first that is equal.

-- the item that a name stands for, where it is known
pub record StandsFor {A : Type 0} (name : A → List ℕ) (xs : List A) (q : List ℕ) : Type 0 where
  pub item : A
  pub at : slice_get xs (index_of (map name xs) q) ≡ Some item
  pub found : find (λ (x : A). bytes_eq q (name x)) xs ≡ Some item
  pub named : q ≡ name item

module _ {A : Type 0} (name : A → List ℕ) (q : List ℕ) where
  item_at : (xs : List A) → is_known (map name xs) q ≡ true
      → (x : A) × (slice_get xs (position_or_len (bytes_eq q) (map name xs)) ≡ Some x) × (find (λ (y : A). bytes_eq q (name y)) xs ≡ Some x) × (q ≡ name x)
  item_at [] e = absurd (false≢true e)
  item_at (x ∷ xs) e = by (bytes_eq q (name x)) refl e (item_at xs)
    where
      by : (b : Bool) → bytes_eq q (name x) ≡ b → (b || is_known (map name xs) q) ≡ true
          → (is_known (map name xs) q ≡ true → (y : A) × (slice_get xs (position_or_len (bytes_eq q) (map name xs)) ≡ Some y) × (find (λ (y : A). bytes_eq q (name y)) xs ≡ Some y) × (q ≡ name y))
          → (y : A) × (slice_get (x ∷ xs) (cond (not b) (1 + position_or_len (bytes_eq q) (map name xs)) 0) ≡ Some y) × (cond b (Some x) (find (λ (y : A). bytes_eq q (name y)) xs) ≡ Some y) × (q ≡ name y)
      by true same h rest = (x, refl, refl, (bytes_eq-Decides q (name x)).0 same)
      by false same h rest = let r = rest h in (r.0, subst (λ n. slice_get (x ∷ xs) n ≡ Some r.0) (sym (one-add (position_or_len (bytes_eq q) (map name xs)))) r.1, r.2, r.3)

  number_found : (xs : List A) → is_known (map name xs) q ≡ true → number_of (map name xs) q ≡ Some (position_or_len (bytes_eq q) (map name xs))
  number_found xs e =
      let r = item_at xs e in
      let within : position_or_len (bytes_eq q) (map name xs) < length xs = slice_get_within xs (position_or_len (bytes_eq q) (map name xs)) r.0 r.1 in
      let long : length (map name xs) ≡ length xs = length-map xs name in
      rw (lt-ltb (position_or_len (bytes_eq q) (map name xs)) (length (map name xs)) (omega arith)) refl

  index_at : (xs : List A) → is_known (map name xs) q ≡ true → index_of (map name xs) q ≡ position_or_len (bytes_eq q) (map name xs)
  index_at xs e = ap (λ (o : Option ℕ). unwrap_or o 0) (number_found xs e)

  pub stands_for : (xs : List A) → is_known (map name xs) q ≡ true → StandsFor name xs q
  stands_for xs e =
      let r = item_at xs e in
      record { item = r.0; at = subst (λ n. slice_get xs n ≡ Some r.0) (sym (index_at xs e)) r.1; found = r.2; named = r.3 }

  pub stands_within : (xs : List A) → is_known (map name xs) q ≡ true → index_of (map name xs) q < length xs
  stands_within xs e = let r = stands_for xs e in slice_get_within xs (index_of (map name xs) q) r.item r.at

-- among names alone: the number, and the name that stands there
pub number_at : (names : List (List ℕ)) (q : List ℕ) → is_known names q ≡ true → number_of names q ≡ Some (index_of names q)
number_at names q =
    subst (λ (ns : List (List ℕ)). is_known ns q ≡ true → number_of ns q ≡ Some (index_of ns q)) (map-id names)
    (λ known. number_found (λ n. n) q names known ∙ ap Some (sym (index_at (λ n. n) q names known)))

pub known_at : (names : List (List ℕ)) (q : List ℕ) → is_known names q ≡ true → slice_get names (index_of names q) ≡ Some q
known_at names q =
    subst (λ (ns : List (List ℕ)). is_known ns q ≡ true → slice_get names (index_of ns q) ≡ Some q) (map-id names)
    (λ known. let r = stands_for (λ n. n) q names known in r.at ∙ ap Some (sym r.named))
