-- How many entries of a parser stand in states that are gone to, and what a join does to that.
use Rattle.std.proofs.Common.{◌≡◌, ◌&&◌, not, cond, eqb, nat_lt, Bool, true, false, ℕ, suc, ◌+◌, ◌<◌, ◌≤◌, List, [], ◌∷◌, ◌++◌, length, map, take, drop, refl, sym, ap, subst, ◌∙◌, inl, inr, arith}
use Rattle.std.specs.Prelude.{◌||◌, All}
use Rattle.std.specs.List.{filter}
use Rattle.std.proofs.lemmas.Bool.{cases_eq, and_from, and_parts, eqb-true, eq-eqb, lt-ltb, ltb-true, ne_eqb, or_cases, or_left, or_right, not-true}
use Rattle.std.proofs.lemmas.List.{length-append, map-append, take-map, drop-map}
use Rattle.std.proofs.lemmas.List.Elements.{All-head, All-tail, filter-append}
use Rattle.rmt_ptcam.specs.Types.{ParserConfig, ParserEntry, Next}
use Rattle.rmt_config.specs.declared.config.Next.TheVariants as next
use Rattle.rmt_ptcam.specs.Joining.{Row, joined, joined_row, lookups_at, rows_in, rows_of, together, widened, widened_entry}
use Rattle.rmt_ptcam.proofs.FormedRows.{entries_of_rows}
use Rattle.std.proofs.lemmas.Simd.{map-map}

-- ---- how many items pass

abbrev pub count : {X : Type 0} → (X → Bool) → List X → ℕ
count p xs = length (filter p xs)

pub count-append : {X : Type 0} (p : X → Bool) (xs ys : List X) → count p (xs ++ ys) ≡ count p xs + count p ys
count-append p xs ys = ap length (filter-append p xs ys) ∙ length-append (filter p xs) (filter p ys)

pub count_less : {X : Type 0} (p q : X → Bool) (xs : List X) → ((x : X) → p x ≡ true → q x ≡ true) → count p xs ≤ count q xs
count_less p q [] weaker = omega arith
count_less p q (x ∷ xs) weaker = by (p x) (q x) (weaker x) (count_less p q xs weaker)
  where
    by : (a b : Bool) → (a ≡ true → b ≡ true) → count p xs ≤ count q xs → length (cond a (x ∷ filter p xs) (filter p xs)) ≤ length (cond b (x ∷ filter q xs) (filter q xs))
    by true true w rest = omega (arith, rest)
    by true false w rest = (let no_way : false ≡ true = w refl in absurd cc)
    by false true w rest = omega (arith, rest)
    by false false w rest = rest

pub count_of_filter : {X : Type 0} (p q : X → Bool) (xs : List X) → count p (filter q xs) ≤ count p xs
count_of_filter p q [] = omega arith
count_of_filter p q (x ∷ xs) = by (p x) (q x) refl (count_of_filter p q xs)
  where
    by : (a b : Bool) → p x ≡ a → count p (filter q xs) ≤ count p xs → count p (cond b (x ∷ filter q xs) (filter q xs)) ≤ length (cond a (x ∷ filter p xs) (filter p xs))
    by true true is rest = (let one : count p (x ∷ filter q xs) ≡ suc (count p (filter q xs)) = ap (λ (c : Bool). length (cond c (x ∷ filter p (filter q xs)) (filter p (filter q xs)))) is in omega (arith, one, rest))
    by true false is rest = omega (arith, rest)
    by false true is rest = (let one : count p (x ∷ filter q xs) ≡ count p (filter q xs) = ap (λ (c : Bool). length (cond c (x ∷ filter p (filter q xs)) (filter p (filter q xs)))) is in omega (arith, one, rest))
    by false false is rest = rest

-- two tests that exclude each other
pub count_two : {X : Type 0} (a q r : X → Bool) (xs : List X) → ((x : X) → q x ≡ true → a x ≡ true) → ((x : X) → r x ≡ true → a x ≡ true) → ((x : X) → q x ≡ true → r x ≡ false) → count q xs + count r xs ≤ count a xs
count_two a q r [] one two apart = omega arith
count_two a q r (x ∷ xs) one two apart = by (a x) (q x) (r x) (one x) (two x) (apart x) (count_two a q r xs one two apart)
  where
    by : (b c d : Bool) → (c ≡ true → b ≡ true) → (d ≡ true → b ≡ true) → (c ≡ true → d ≡ false) → count q xs + count r xs ≤ count a xs
        → length (cond c (x ∷ filter q xs) (filter q xs)) + length (cond d (x ∷ filter r xs) (filter r xs)) ≤ length (cond b (x ∷ filter a xs) (filter a xs))
    by true true true w v u rest = (let no_way : true ≡ false = u refl in absurd cc)
    by true true false w v u rest = omega (arith, rest)
    by true false true w v u rest = omega (arith, rest)
    by true false false w v u rest = omega (arith, rest)
    by false true d w v u rest = (let no_way : false ≡ true = w refl in absurd cc)
    by false false true w v u rest = (let no_way : false ≡ true = v refl in absurd cc)
    by false false false w v u rest = rest

pub count_none : {X : Type 0} (p : X → Bool) (xs : List X) → All (λ x. p x ≡ false) xs → count p xs ≡ 0
count_none p [] each = refl
count_none p (x ∷ xs) each = ap (λ (b : Bool). length (cond b (x ∷ filter p xs) (filter p xs))) (All-head (λ y. p y ≡ false) x xs each) ∙ count_none p xs (All-tail (λ y. p y ≡ false) x xs each)

pub count_all : {X : Type 0} (p : X → Bool) (xs : List X) → All (λ x. p x ≡ true) xs → count p xs ≡ length xs
count_all p [] each = refl
count_all p (x ∷ xs) each = ap (λ (b : Bool). length (cond b (x ∷ filter p xs) (filter p xs))) (All-head (λ y. p y ≡ true) x xs each) ∙ ap suc (count_all p xs (All-tail (λ y. p y ≡ true) x xs each))

pub count_map : {X Y : Type 0} (p : Y → Bool) (f : X → Y) (xs : List X) → count p (map f xs) ≡ count (λ x. p (f x)) xs
count_map p f [] = refl
count_map p f (x ∷ xs) = by (p (f x)) (count_map p f xs)
  where
    by : (b : Bool) → count p (map f xs) ≡ count (λ y. p (f y)) xs → length (cond b (f x ∷ filter p (map f xs)) (filter p (map f xs))) ≡ length (cond b (x ∷ filter (λ y. p (f y)) xs) (filter (λ y. p (f y)) xs))
    by true rest = ap suc rest
    by false rest = rest

abbrev tally : Bool → ℕ
tally b = cond b 1 0

count_one : {X : Type 0} (p : X → Bool) (x : X) → count p (x ∷ []) ≡ tally (p x)
count_one p x = by (p x)
  where
    by : (b : Bool) → length (cond b (x ∷ []) []) ≡ tally b
    by true = refl
    by false = refl

-- ---- where entries stand and go

abbrev pub shape : ParserEntry → ℕ × Next
shape e = (e.state, e.next)

abbrev pub leads : ℕ → Next → Bool
leads m next.Accept = false
leads m next.Reject = false
leads m (next.State k) = eqb k m

abbrev pub edge : ℕ → ℕ × Next → Bool
edge m x = leads m x.1

abbrev pub edges : ℕ → List (ℕ × Next) → ℕ
edges m xs = count (edge m) xs

-- the first state, and each one that some entry goes to
abbrev pub arrived : List (ℕ × Next) → ℕ → Bool
arrived xs s = eqb s 0 || nat_lt 0 (edges s xs)

-- the entries of such states
abbrev pub busy : List (ℕ × Next) → ℕ
busy xs = count (λ (x : ℕ × Next). arrived xs x.0) xs

module _ (front back : List (ℕ × Next)) (n m : ℕ) (lt : n < m) where
  abbrev pub old : List (ℕ × Next)
  old = front ++ (n, next.State m) ∷ back

  abbrev pub mine : ℕ × Next → Bool
  mine x = eqb x.0 m

  abbrev pub second : List (ℕ × Next)
  second = filter mine old

  abbrev pub from_own : ℕ × Next → ℕ × Next
  from_own x = (n, x.1)

  abbrev pub new : List (ℕ × Next)
  new = front ++ (map from_own second ++ back)

  abbrev a : ℕ × Next → Bool
  a x = arrived old x.0

  abbrev own : ℕ
  own = tally (arrived old n)

  count_old : (p : ℕ × Next → Bool) → count p old ≡ count p front + (tally (p (n, next.State m)) + count p back)
  count_old p =
      let one = count-append p front ((n, next.State m) ∷ back) in
      let two = count-append p ((n, next.State m) ∷ []) back in
      let three = count_one p (n, next.State m) in
      omega (arith, one, two, three)

  count_new : (p : ℕ × Next → Bool) → count p new ≡ count p front + (count p (map from_own second) + count p back)
  count_new p = let one = count-append p front (map from_own second ++ back) in let two = count-append p (map from_own second) back in omega (arith, one, two)

  -- nothing is gone to that wasn't
  fewer_edges : (s : ℕ) → edges s new ≤ edges s front + (edges s second + edges s back)
  fewer_edges s = let one = count_new (edge s) in let two : edges s (map from_own second) ≡ edges s second = count_map (edge s) from_own second in omega (arith, one, two)

  arrived_less : (s : ℕ) → arrived new s ≡ true → arrived old s ≡ true
  arrived_less s is = elim (or_cases (eqb s 0) (nat_lt 0 (edges s new)) is) [
    | inl first ↦ or_left (eqb s 0) (nat_lt 0 (edges s old)) first
    | inr some ↦
        let more : 0 < edges s new = ltb-true 0 (edges s new) some in
        let one = fewer_edges s in
        let two = count_old (edge s) in
        let three = count_of_filter (edge s) mine old in
        or_right (eqb s 0) (nat_lt 0 (edges s old)) (lt-ltb 0 (edges s old) (omega (arith, more, one, two, three)))
  ]

  own_count : count a (map from_own second) ≡ cond (arrived old n) (length second) 0
  own_count = count_map a from_own second ∙ by (arrived old n)
    where
      by : (b : Bool) → count (λ (x : ℕ × Next). b) second ≡ cond b (length second) 0
      by true = count_all (λ (x : ℕ × Next). true) second (λ k d l. refl)
      by false = count_none (λ (x : ℕ × Next). false) second (λ k d l. refl)

  busy_new : busy new ≤ count a new
  busy_new = count_less (λ (x : ℕ × Next). arrived new x.0) a new (λ x is. arrived_less x.0 is)

  -- one entry for one
  pub less_one : length second ≡ 1 → busy new ≤ busy old
  less_one one =
      let b = busy_new in
      let c = count_new a in
      let d = count_old a in
      let e = own_count in
      by (arrived old n) b c d e
    where
      by : (t : Bool) → busy new ≤ count a new → count a new ≡ count a front + (count a (map from_own second) + count a back) → busy old ≡ count a front + (tally t + count a back)
          → count a (map from_own second) ≡ cond t (length second) 0 → busy new ≤ busy old
      by true b c d e = omega (arith, b, c, d, e, one)
      by false b c d e = omega (arith, b, c, d, e)

  abbrev q : ℕ × Next → Bool
  q x = a x && not (mine x)

  -- the one entry that went there is gone
  none_left : edges m old ≤ 1 → edges m new ≡ 0
  none_left few =
      let one = fewer_edges m in
      let two = count_old (edge m) in
      let here : tally (eqb m m) ≡ 1 = ap tally (eq-eqb m m refl) in
      let split : filter mine old ≡ filter mine front ++ filter mine back =
      filter-append mine front ((n, next.State m) ∷ back) ∙ ap (λ (b : Bool). filter mine front ++ cond b ((n, next.State m) ∷ filter mine back) (filter mine back)) (ne_eqb n m (λ e. omega (arith, lt, e))) in
      let three : edges m second ≡ edges m (filter mine front) + edges m (filter mine back) = ap (edges m) split ∙ count-append (edge m) (filter mine front) (filter mine back) in
      let four = count_of_filter (edge m) mine front in
      let five = count_of_filter (edge m) mine back in
      omega (arith, few, one, two, here, three, four, five)

  arrived_m : arrived old m ≡ true
  arrived_m =
      let two = count_old (edge m) in
      let here : tally (eqb m m) ≡ 1 = ap tally (eq-eqb m m refl) in
      or_right (eqb m 0) (nat_lt 0 (edges m old)) (lt-ltb 0 (edges m old) (omega (arith, two, here)))

  pub less_only : edges m old ≤ 1 → busy new ≤ busy old
  less_only few =
      let gone = none_left few in
      let b : busy new ≤ count q new = count_less (λ (x : ℕ × Next). arrived new x.0) q new (λ x is. and_from (a x) (not (mine x)) (arrived_less x.0 is) (not_m x.0 gone is)) in
      let c = count_new q in
      let d = count_old a in
      let e = own_count in
      let f : count q (map from_own second) ≤ count a (map from_own second) = count_less q a (map from_own second) (λ x is. (and_parts (a x) (not (mine x)) is).0) in
      let g : count q front + count mine front ≤ count a front = both front in
      let h : count q back + count mine back ≤ count a back = both back in
      let i : length second ≡ count mine front + (tally (eqb n m) + count mine back) = count_old mine in
      let j : tally (eqb n m) ≡ 0 = ap tally (ne_eqb n m (λ e. omega (arith, lt, e))) in
      by (arrived old n) b c d e f g h i j
    where
      not_m : (s : ℕ) → edges m new ≡ 0 → arrived new s ≡ true → not (eqb s m) ≡ true
      not_m s gone is = elim (cases_eq s m) [
        | inl same ↦ elim (or_cases (eqb s 0) (nat_lt 0 (edges s new)) is) [
          | inl first ↦ (let z : s ≡ 0 = eqb-true s 0 first in absurd (omega (arith, lt, z, same)))
          | inr some ↦ (let more : 0 < edges m new = subst (λ k. 0 < edges k new) same (ltb-true 0 (edges s new) some) in absurd (omega (arith, more, gone)))
        ]
        | inr other ↦ ap not (ne_eqb s m other)
      ]

      both : (xs : List (ℕ × Next)) → count q xs + count mine xs ≤ count a xs
      both xs = count_two a q mine xs (λ x is. (and_parts (a x) (not (mine x)) is).0)
          (λ x is. (let same : x.0 ≡ m = eqb-true x.0 m is in subst (λ s. arrived old s ≡ true) (sym same) arrived_m))
          (λ x is. (let other : not (mine x) ≡ true = (and_parts (a x) (not (mine x)) is).1 in not-true (mine x) other))

      by : (t : Bool) → busy new ≤ count q new → count q new ≡ count q front + (count q (map from_own second) + count q back) → busy old ≡ count a front + (tally t + count a back)
          → count a (map from_own second) ≡ cond t (length second) 0 → count q (map from_own second) ≤ count a (map from_own second) → count q front + count mine front ≤ count a front → count q back + count mine back ≤ count a back
          → length second ≡ count mine front + (tally (eqb n m) + count mine back) → tally (eqb n m) ≡ 0 → busy new ≤ busy old
      by true b c d e f g h i j = omega (arith, b, c, d, e, f, g, h, i, j)
      by false b c d e f g h i j = omega (arith, b, c, d, e, f, g, h, i, j)

-- ---- the shapes of a parser's entries

abbrev pub shapes : ParserConfig → List (ℕ × Next)
shapes parser = map shape parser.entries

map_same : {X Y : Type 0} (f g : X → Y) (xs : List X) → ((x : X) → f x ≡ g x) → map f xs ≡ map g xs
map_same f g [] same = refl
map_same f g (x ∷ xs) same = ap (λ y. y ∷ map f xs) (same x) ∙ ap (λ l. g x ∷ l) (map_same f g xs same)

pub filter_map : {X Y : Type 0} (p : Y → Bool) (f : X → Y) (xs : List X) → filter p (map f xs) ≡ map f (filter (λ x. p (f x)) xs)
filter_map p f [] = refl
filter_map p f (x ∷ xs) = by (p (f x)) (filter_map p f xs)
  where
    by : (b : Bool) → filter p (map f xs) ≡ map f (filter (λ y. p (f y)) xs) → cond b (f x ∷ filter p (map f xs)) (filter p (map f xs)) ≡ map f (cond b (x ∷ filter (λ y. p (f y)) xs) (filter (λ y. p (f y)) xs))
    by true rest = ap (λ l. f x ∷ l) rest
    by false rest = rest

module _ (parser : ParserConfig) (at : ℕ) (e : ParserEntry) (m : ℕ) where
  abbrev here : List ℕ
  here = lookups_at parser.states e.state

  abbrev there : List ℕ
  there = lookups_at parser.states m

  abbrev to : List ℕ
  to = together here e.advance there

  abbrev row_shape : Row → ℕ × Next
  row_shape x = (x.entry.state, x.entry.next)

  rows_shapes : map row_shape (rows_of parser) ≡ shapes parser
  rows_shapes = sym (map-map shape (λ (x : Row). x.entry) (rows_of parser)) ∙ ap (map shape) (entries_of_rows parser 0 parser.entries)

  widened_shape : (x : Row) → row_shape (widened here to e.state x) ≡ row_shape x
  widened_shape x = by (eqb x.entry.state e.state)
    where
      by : (b : Bool) → row_shape (cond b (record x { entry = widened_entry here to x.entry }) x) ≡ row_shape x
      by true = refl
      by false = refl

  widened_shapes : (xs : List Row) → map shape (map (λ (x : Row). x.entry) (map (widened here to e.state) xs)) ≡ map row_shape xs
  widened_shapes xs =
      map-map shape (λ (x : Row). x.entry) (map (widened here to e.state) xs) ∙ map-map row_shape (widened here to e.state) xs ∙ map_same (λ x. row_shape (widened here to e.state x)) row_shape xs widened_shape

  joined_shapes : (xs : List Row) → map shape (map (λ (x : Row). x.entry) (map (joined_row here there e) xs)) ≡ map (λ (x : ℕ × Next). (e.state, x.1)) (map row_shape xs)
  joined_shapes xs =
      map-map shape (λ (x : Row). x.entry) (map (joined_row here there e) xs) ∙ map-map row_shape (joined_row here there e) xs
      ∙ sym (map-map (λ (x : ℕ × Next). (e.state, x.1)) row_shape xs)

  -- what stands where after a join
  pub join_shapes : shapes (joined parser at e m) ≡ take at (shapes parser) ++ (map (λ (x : ℕ × Next). (e.state, x.1)) (filter (λ (x : ℕ × Next). eqb x.0 m) (shapes parser)) ++ drop (at + 1) (shapes parser))
  join_shapes =
      let rows : List Row = rows_of parser in
      let es : List Row → List (ℕ × Next) = λ xs. map shape (map (λ (x : Row). x.entry) xs) in
      let apart : (xs ys : List Row) → es (xs ++ ys) ≡ es xs ++ es ys =
      λ xs ys. ap (map shape) (map-append (λ (x : Row). x.entry) xs ys) ∙ map-append shape (map (λ (x : Row). x.entry) xs) (map (λ (x : Row). x.entry) ys) in
      let f : List Row = map (widened here to e.state) (take at rows) in
      let g : List Row = map (joined_row here there e) (rows_in m rows) in
      let h : List Row = map (widened here to e.state) (drop (at + 1) rows) in
      apart f (g ++ h) ∙ ap (λ l. es f ++ l) (apart g h)
      ∙ ap (λ l. l ++ (es g ++ es h)) (widened_shapes (take at rows) ∙ sym (take-map row_shape at rows) ∙ ap (take at) rows_shapes)
      ∙ ap (λ l. take at (shapes parser) ++ (l ++ es h)) (joined_shapes (rows_in m rows) ∙ ap (map (λ (x : ℕ × Next). (e.state, x.1))) (sym (filter_map (λ (x : ℕ × Next). eqb x.0 m) row_shape rows) ∙ ap (filter (λ (x : ℕ × Next). eqb x.0 m)) rows_shapes))
      ∙ ap (λ l. take at (shapes parser) ++ (map (λ (x : ℕ × Next). (e.state, x.1)) (filter (λ (x : ℕ × Next). eqb x.0 m) (shapes parser)) ++ l)) (widened_shapes (drop (at + 1) rows) ∙ sym (drop-map row_shape (at + 1) rows) ∙ ap (drop (at + 1)) rows_shapes)
