-- Lists: where there is an item, lists without items, one item more, and parts one behind the other.
use Rattle.std.proofs.Common.{◌≡◌, ◌≢◌, ℕ, zero, suc, ◌+◌, ◌<◌, ◌≤◌, ◌==◌, Bool, true, false, cond, List, [], ◌∷◌, ◌++◌, length, take, drop, Option, None, Some, refl, ap, sym, subst, ◌∙◌, arith, append_assoc, get_or, ◌-◌}
use Rattle.std.specs.Prelude.{All, IsSome, IsSomeAnd, find, nat_eq, slice_get, slice_set, map, filter}
use Rattle.std.specs.Cmp.Lexicographic.{same_text}
use Rattle.std.specs.List.{flat_map, list_all, prefix_len, range_with_len, starts_with, sum_by, take_while, AllZip}
use Rattle.std.proofs.Math.Seq.{take-append_seam}
use Rattle.std.proofs.lemmas.Bool.{and_parts, eqb-true, true≢false}
use Rattle.std.proofs.lemmas.List.{map-id, length-drop, length-take, take-append-drop, take_more}
use Rattle.std.proofs.lemmas.List.FromFn.{map-range_with_len_more}
use Rattle.std.proofs.lemmas.List.Elements.{All-nil, All-cons, All-head, All-tail, filter-append}
use Rattle.std.proofs.lemmas.List.Sums.{sum_by-cons}
use Rattle.std.proofs.lemmas.Option.{none-some, same_Some, get_or_from_slice_get, slice_get_within, slice_get_read}

-- a list has an item at each place below its length
pub slice_get-below : {X : Type 0} (xs : List X) (i : ℕ) → i < length xs → IsSome (slice_get xs i)
slice_get-below [] i lt = absurd (omega arith)
slice_get-below (x ∷ xs) zero lt = refl
slice_get-below (x ∷ xs) (suc i) lt = slice_get-below xs i (omega arith)

pub slice_get-item : {X : Type 0} (xs : List X) (i : ℕ) → i < length xs → (x : X) × (slice_get xs i ≡ Some x)
slice_get-item [] i lt = absurd (omega (arith, lt))
slice_get-item (x ∷ xs) zero lt = (x, refl)
slice_get-item (x ∷ xs) (suc i) lt = slice_get-item xs i (omega (arith, lt))

-- an appended list has the items of its front, and behind them those of its end
pub slice_get-front : {X : Type 0} (xs ys : List X) (i : ℕ) → i < length xs → slice_get (xs ++ ys) i ≡ slice_get xs i
slice_get-front [] ys i lt = absurd (omega (arith, lt))
slice_get-front (x ∷ xs) ys zero lt = refl
slice_get-front (x ∷ xs) ys (suc i) lt = slice_get-front xs ys i (omega (arith, lt))

pub slice_get-end : {X : Type 0} (xs ys : List X) (i : ℕ) → slice_get (xs ++ ys) (length xs + i) ≡ slice_get ys i
slice_get-end [] ys i = let none : 0 + i ≡ i = omega arith in ap (slice_get ys) none
slice_get-end (x ∷ xs) ys i =
    let one_less : length (x ∷ xs) + i ≡ suc (length xs + i) = omega arith in
    ap (slice_get (x ∷ xs ++ ys)) one_less ∙ slice_get-end xs ys i

-- lists of one length have items at the same places
pub slice_get-alike : {X Y : Type 0} (xs : List X) (ys : List Y) (i : ℕ) (x : X) → length ys ≡ length xs → slice_get xs i ≡ Some x
    → (y : Y) × (slice_get ys i ≡ Some y)
slice_get-alike [] ys i x same e = absurd (none-some x e)
slice_get-alike (z ∷ xs) [] i x same e = absurd (omega (arith, same))
slice_get-alike (z ∷ xs) (y ∷ ys) zero x same e = (y, refl)
slice_get-alike (z ∷ xs) (y ∷ ys) (suc i) x same e = slice_get-alike xs ys i x (omega (arith, same)) e

-- both parts of a list without items have none
pub append-nil_left : {X : Type 0} (xs ys : List X) → xs ++ ys ≡ [] → xs ≡ []
append-nil_left [] ys e = refl
append-nil_left (x ∷ xs) ys e = cc

pub append-nil_right : {X : Type 0} (xs ys : List X) → xs ++ ys ≡ [] → ys ≡ []
append-nil_right [] ys e = e
append-nil_right (x ∷ xs) ys e = cc

pub flat_map-nil : {X A : Type 0} (f : X → List A) (xs : List X) → flat_map f xs ≡ [] → All (λ x. f x ≡ []) xs
flat_map-nil f [] e = All-nil (λ x. f x ≡ [])
flat_map-nil f (x ∷ xs) e =
    All-cons (λ x. f x ≡ []) x xs (append-nil_left (f x) (flat_map f xs) e) (flat_map-nil f xs (append-nil_right (f x) (flat_map f xs) e))

-- and parts without items make a list without items
pub flat_map-none : {X A : Type 0} (f : X → List A) (xs : List X) → All (λ x. f x ≡ []) xs → flat_map f xs ≡ []
flat_map-none f [] h = refl
flat_map-none f (x ∷ xs) h =
    ap (λ ys. ys ++ flat_map f xs) (All-head (λ x. f x ≡ []) x xs h) ∙ flat_map-none f xs (All-tail (λ x. f x ≡ []) x xs h)

-- a list whose image has no item has none, and one of which nothing is left is short
pub map-nil : {X A : Type 0} (f : X → A) (xs : List X) → map f xs ≡ [] → xs ≡ []
map-nil f [] e = refl
map-nil f (x ∷ xs) e = cc

pub drop-nil : {X : Type 0} (n : ℕ) (xs : List X) → drop n xs ≡ [] → length xs ≤ n
drop-nil n xs e = let gone : length (drop n xs) ≡ 0 = ap length e in omega (arith, length-drop n xs)

-- a longer range
pub range_more : (a n : ℕ) → range_with_len a (n + 1) ≡ range_with_len a n ++ (a + n) ∷ []
range_more a n = simp map-id at (map-range_with_len_more (λ (x : ℕ). x) a n (a + n) refl)

-- what is found among items is found among more
pub slice_get-more : {X : Type 0} (xs : List X) (y : X) (i : ℕ) (x : X) → slice_get xs i ≡ Some x → slice_get (xs ++ y ∷ []) i ≡ Some x
slice_get-more xs y i x at = slice_get-front xs (y ∷ []) i (slice_get_within xs i x at) ∙ at

pub slice_get-pushed : {X : Type 0} (xs : List X) (y : X) → slice_get (xs ++ y ∷ []) (length xs) ≡ Some y
slice_get-pushed xs y = ap (slice_get (xs ++ y ∷ [])) (let e : length xs ≡ length xs + 0 = omega arith in e) ∙ slice_get-end xs (y ∷ []) 0

pub IsSomeAnd-more : {X : Type 0} (P : X → Type 0) (xs : List X) (y : X) (i : ℕ) → IsSomeAnd (slice_get xs i) P → IsSomeAnd (slice_get (xs ++ y ∷ []) i) P
IsSomeAnd-more P xs y i h = by (slice_get xs i) refl h
  where
    by : (o : Option _) → slice_get xs i ≡ o → IsSomeAnd o P → IsSomeAnd (slice_get (xs ++ y ∷ []) i) P
    by None is h = absurd h
    by (Some x) is h = subst (λ o. IsSomeAnd o P) (sym (slice_get-more xs y i x is)) h

-- an item that is set stands at its place, and each other where it stood
pub slice_get-set_same : {X : Type 0} (xs : List X) (k : ℕ) (x y : X) → slice_get xs k ≡ Some x → slice_get (slice_set xs k y) k ≡ Some y
slice_get-set_same [] k x y at = absurd (none-some x at)
slice_get-set_same (z ∷ zs) zero x y at = refl
slice_get-set_same (z ∷ zs) (suc k) x y at = slice_get-set_same zs k x y at

pub slice_get-set_other : {X : Type 0} (xs : List X) (k m : ℕ) (y : X) → m ≢ k → slice_get (slice_set xs k y) m ≡ slice_get xs m
slice_get-set_other [] k m y apart = refl
slice_get-set_other (z ∷ zs) zero zero y apart = absurd (apart refl)
slice_get-set_other (z ∷ zs) zero (suc m) y apart = refl
slice_get-set_other (z ∷ zs) (suc k) zero y apart = refl
slice_get-set_other (z ∷ zs) (suc k) (suc m) y apart = slice_get-set_other zs k m y (λ e. apart (ap suc e))

-- a test that all items fail finds none
pub find-none : {X : Type 0} (test : X → Bool) (xs : List X) → All (λ x. test x ≡ false) xs → find test xs ≡ None
find-none test [] h = refl
find-none test (x ∷ xs) h =
    ap (λ b. cond b (Some x) (find test xs)) (All-head (λ x. test x ≡ false) x xs h) ∙ find-none test xs (All-tail (λ x. test x ≡ false) x xs h)

-- the sum over a list that is made of another
pub sum_by-map : {X Y : Type 0} (g : Y → ℕ) (f : X → Y) (xs : List X) → sum_by g (map f xs) ≡ sum_by (λ x. g (f x)) xs
sum_by-map g f [] = refl
sum_by-map g f (x ∷ xs) = sum_by-cons g (f x) (map f xs) ∙ ap (λ n. g (f x) + n) (sum_by-map g f xs) ∙ sym (sum_by-cons (λ y. g (f y)) x xs)

-- the items that pass a test, up to the first that does not
pub prefix_len-until : {X : Type 0} (test : X → Bool) (xs : List X) (y : X) (ys : List X) → list_all test xs ≡ true → test y ≡ false → prefix_len test (xs ++ y ∷ ys) ≡ length xs
prefix_len-until test [] y ys all stops = ap (λ b. cond b (1 + prefix_len test ys) 0) stops
prefix_len-until test (x ∷ xs) y ys all stops =
    let both = and_parts (test x) (list_all test xs) all in
    ap (λ b. cond b (1 + prefix_len test (xs ++ y ∷ ys)) 0) both.0 ∙ omega (arith, prefix_len-until test xs y ys both.1 stops)

pub take_while-until : {X : Type 0} (test : X → Bool) (xs : List X) (y : X) (ys : List X) → list_all test xs ≡ true → test y ≡ false → take_while test (xs ++ y ∷ ys) ≡ xs
take_while-until test xs y ys all stops = ap (λ n. take n (xs ++ y ∷ ys)) (prefix_len-until test xs y ys all stops) ∙ take-append_seam xs (y ∷ ys)

-- a sum over the items that pass a test, where the others add nothing, or where those add nothing
pub sum_by-filter_all : {X : Type 0} (f : X → ℕ) (test : X → Bool) (xs : List X) → All (λ x. test x ≡ false → f x ≡ 0) xs → sum_by f (filter test xs) ≡ sum_by f xs
sum_by-filter_all f test [] none = refl
sum_by-filter_all f test (x ∷ xs) none = by (sum_by-filter_all f test xs (All-tail (λ y. test y ≡ false → f y ≡ 0) x xs none)) (test x) refl
  where
    by : sum_by f (filter test xs) ≡ sum_by f xs → (b : Bool) → test x ≡ b → sum_by f (cond b (x ∷ filter test xs) (filter test xs)) ≡ sum_by f (x ∷ xs)
    by rest true e = sum_by-cons f x (filter test xs) ∙ ap (λ n. f x + n) rest ∙ sym (sum_by-cons f x xs)
    by rest false e =
        rest ∙ (let zero_more : sum_by f xs ≡ f x + sum_by f xs = omega (arith, All-head (λ y. test y ≡ false → f y ≡ 0) x xs none e) in zero_more) ∙ sym (sum_by-cons f x xs)

pub sum_by-filter : {X : Type 0} (f : X → ℕ) (test : X → Bool) (xs : List X) → ((x : X) → test x ≡ false → f x ≡ 0) → sum_by f (filter test xs) ≡ sum_by f xs
sum_by-filter f test xs none = sum_by-filter_all f test xs (λ k d lt. none (get_or xs k d))

pub sum_by-filter_none : {X : Type 0} (f : X → ℕ) (test : X → Bool) (xs : List X) → ((x : X) → test x ≡ true → f x ≡ 0) → sum_by f (filter test xs) ≡ 0
sum_by-filter_none f test [] none = refl
sum_by-filter_none f test (x ∷ xs) none = by (sum_by-filter_none f test xs none) (test x) refl
  where
    by : sum_by f (filter test xs) ≡ 0 → (b : Bool) → test x ≡ b → sum_by f (cond b (x ∷ filter test xs) (filter test xs)) ≡ 0
    by rest true e = sum_by-cons f x (filter test xs) ∙ (let none_more : f x + sum_by f (filter test xs) ≡ 0 = omega (arith, none x e, rest) in none_more)
    by rest false e = rest

-- what passes a test, over one number more
pub filter-range_more : (test : ℕ → Bool) (n : ℕ) → filter test (range_with_len 0 (n + 1)) ≡ filter test (range_with_len 0 n) ++ cond (test n) (n ∷ []) []
filter-range_more test n =
    let there : 0 + n ≡ n = omega arith in
    ap (filter test) (range_more 0 n ∙ ap (λ m. range_with_len 0 n ++ m ∷ []) there) ∙ filter-append test (range_with_len 0 n) (n ∷ [])

-- a front with the item behind it
pub take-slice_get : {X : Type 0} (xs : List X) (n : ℕ) (x : X) → slice_get xs n ≡ Some x → take (n + 1) xs ≡ take n xs ++ x ∷ []
take-slice_get xs n x e = take_more xs n x (slice_get_within xs n x e) ∙ ap (λ y. take n xs ++ y ∷ []) (get_or_from_slice_get xs n x x e)

-- a place in a part of a list is one of the list
pub part-below : {X : Type 0} (many first i : ℕ) (xs : List X) → i < length (take many (drop first xs)) → (i < many) × (first + i < length xs)
part-below many first i xs lt =
    let taken = length-take many (drop first xs) in
    let behind = length-drop first xs in
    (omega (arith, lt, taken, behind), omega (arith, lt, taken, behind))

-- items at one place of two lists that go together
pub AllZip-slice_get : {X Y : Type 0} (R : X → Y → Type 0) (xs : List X) (ys : List Y) (i : ℕ) (x : X) (y : Y) → AllZip R xs ys → slice_get xs i ≡ Some x → slice_get ys i ≡ Some y → R x y
AllZip-slice_get R [] ys i x y zip at_x at_y = absurd (none-some x at_x)
AllZip-slice_get R (a ∷ xs) [] i x y zip at_x at_y = absurd zip
AllZip-slice_get R (a ∷ xs) (b ∷ ys) zero x y zip at_x at_y = subst (λ z. R z y) (same_Some a x at_x) (subst (R a) (same_Some b y at_y) zip.0)
AllZip-slice_get R (a ∷ xs) (b ∷ ys) (suc i) x y zip at_x at_y = AllZip-slice_get R xs ys i x y zip.1 at_x at_y

-- what is found passes the test
passes_first : {X : Type 0} (test : X → Bool) (b : Bool) (y : X) (rest : Option X) (x : X) → test y ≡ b → (rest ≡ Some x → test x ≡ true) → cond b (Some y) rest ≡ Some x → test x ≡ true
passes_first test true y rest x is later e = subst (λ z. test z ≡ true) (same_Some y x e) is
passes_first test false y rest x is later e = later e

pub find-passes : {X : Type 0} (test : X → Bool) (xs : List X) (x : X) → find test xs ≡ Some x → test x ≡ true
find-passes test [] x e = absurd (none-some x e)
find-passes test (y ∷ ys) x e = passes_first test (test y) y (find test ys) x refl (find-passes test ys x) e

-- the item at a place of what is seen of a list
pub slice_get-seen : {X : Type 0} (xs seen : List X) (i : ℕ) (x : X) → seen ≡ xs → i < length seen → x ≡ get_or seen i x → slice_get xs i ≡ Some x
slice_get-seen xs seen i x same lt is = slice_get_read xs (length seen) i x (ap length same) lt (is ∙ ap (λ ys. get_or ys i x) same)

-- the items of a list that stand in another one from a place on: the first, and those behind it
pub first_from : {X : Type 0} (xs ys : List X) (x : X) (k : ℕ) → ((i : ℕ) → slice_get (x ∷ xs) i ≡ slice_get ys (k + i)) → slice_get ys k ≡ Some x
first_from xs ys x k h = ap (slice_get ys) (omega arith) ∙ sym (h 0)

pub next_from : {X : Type 0} (xs ys : List X) (x : X) (k : ℕ) → ((i : ℕ) → slice_get (x ∷ xs) i ≡ slice_get ys (k + i)) → (i : ℕ) → slice_get xs i ≡ slice_get ys (k + 1 + i)
next_from xs ys x k h i = h (suc i) ∙ ap (slice_get ys) (omega arith)

-- bytes, or none
pub has_bytes : (text : List ℕ) → (length text == 0) ≡ false → 0 < length text
has_bytes [] h = absurd (true≢false h)
has_bytes (x ∷ xs) h = omega arith

pub has_none : (text : List ℕ) → (length text == 0) ≡ true → text ≡ []
has_none [] h = refl
has_none (x ∷ xs) h = absurd (omega (arith, eqb-true (length (x ∷ xs)) 0 h))

-- texts one behind the other
pub text_behind : (bytes first second mid rest : List ℕ) → bytes ≡ first ++ mid → mid ≡ second ++ rest → bytes ≡ (first ++ second) ++ rest
text_behind bytes first second mid rest e f = e ∙ ap (λ (t : List ℕ). first ++ t) f ∙ sym (append_assoc first second rest)

-- bytes that begin with a text
pub begins : (bytes text : List ℕ) → starts_with nat_eq bytes text ≡ true → bytes ≡ text ++ drop (length text) bytes
begins bytes text e = sym (take-append-drop (length text) bytes) ∙ ap (λ (t : List ℕ). t ++ drop (length text) bytes) (sym (same_text text (take (length text) bytes) (sym e)))

-- a range is its front and what follows
pub range-append : (a m n : ℕ) → range_with_len a (m + n) ≡ range_with_len a m ++ range_with_len (a + m) n
range-append a zero n = let e : a ≡ a + 0 = omega arith in let f : 0 + n ≡ n = omega arith in ap (range_with_len a) f ∙ ap (λ (b : ℕ). range_with_len b n) e
range-append a (suc m) n =
    let e : a + 1 + m ≡ a + suc m = omega arith in
    let f : suc m + n ≡ suc (m + n) = omega arith in rw (f, range-append (a + 1) m n, e) refl

-- a filter keeps no more than there is
pub filter-short : {X : Type 0} (p : X → Bool) (xs : List X) → length (filter p xs) ≤ length xs
filter-short p [] = omega arith
filter-short p (x ∷ xs) = by (p x) (filter-short p xs)
  where
    by : (b : Bool) → length (filter p xs) ≤ length xs → length (cond b (x ∷ filter p xs) (filter p xs)) ≤ suc (length xs)
    by true rest = omega (arith, rest)
    by false rest = omega (arith, rest)

-- one more item on both sides
pub zip_push : {X Y : Type 0} (R : X → Y → Type 0) (xs : List X) (ys : List Y) (x : X) (y : Y) → AllZip R xs ys → R x y → AllZip R (xs ++ x ∷ []) (ys ++ y ∷ [])
zip_push R [] [] x y h r = (r, tt)
zip_push R [] (b ∷ ys) x y h r = absurd h
zip_push R (a ∷ xs) [] x y h r = absurd h
zip_push R (a ∷ xs) (b ∷ ys) x y h r = (h.0, zip_push R xs ys x y h.1 r)

-- one number more of a range up to a number
pub range-next : (start cell : ℕ) → start ≤ cell → range_with_len start (cell + 1 - start) ≡ range_with_len start (cell - start) ++ cell ∷ []
range-next start cell le =
    let at : start + (cell - start) ≡ cell = omega arith in
    let more : cell + 1 - start ≡ (cell - start) + 1 = omega arith in
    ap (range_with_len start) more ∙ range_more start (cell - start) ∙ ap (λ (c : ℕ). range_with_len start (cell - start) ++ c ∷ []) at
