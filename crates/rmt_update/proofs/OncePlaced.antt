-- Entries with rooms of their own: which one has a place, and which a number.
use Rattle.std.proofs.Common.{◌≡◌, ◌≢◌, ℕ, ◌==◌, ◌&&◌, Bool, true, false, cond, List, [], ◌∷◌, ◌++◌, Some, map, refl, sym, ap, ◌∙◌, subst, inl, inr, arith}
use Rattle.std.specs.Prelude.{AllPairs, Contains, find, slice_get}
use Rattle.std.specs.List.{flat_map}
use Rattle.std.proofs.lemmas.Bool.{and_parts, cases_lt, eq-eqb, eqb-true, false≢true}
use Rattle.std.proofs.lemmas.List.{map-append}
use Rattle.std.proofs.lemmas.List.Elements.{All-contains}
use Rattle.std.proofs.lemmas.Option.{none-some, same_Some}
use Rattle.rmt_bits.proofs.FindLaws.{find-some}
use Rattle.rmt_bits.proofs.ListLaws.{find-passes}
use Rattle.rmt_bits.proofs.MemberLaws.{Contains-first, Contains-later, Contains-map, Contains-split}
use Rattle.rmt_bits.proofs.PairLaws.{AllPairs-head, AllPairs-tail}
use Rattle.rmt_ast.specs.declared.entry.Entry.{Entry}
use Rattle.rmt_ast.specs.Answers.{entry_numbers}
use Rattle.rmt_config.specs.declared.config.Config.{Config}
use Rattle.rmt_config.specs.Commits.{Placed, all_entries, placed_at}
use Rattle.rmt_config.specs.Rooms.{PartAt, Room, is_at, is_same, parts_of}
use Rattle.rmt_update.proofs.PartOrder.{Rises, never-rises, pair-at, parts-rise}

-- ---- places

-- a room is at its own place
pub at-own : (p : PartAt) (n : ℕ) → is_at p.stage p.place n (record { part = p; cell = n }) ≡ true
at-own p n =
    ap (λ b. (b && (p.place == p.place)) && (n == n)) (eq-eqb p.stage p.stage refl) ∙ ap (λ b. b && (n == n)) (eq-eqb p.place p.place refl) ∙ eq-eqb n n refl

-- what a place says
pub record AtPlace (k in_stage n : ℕ) (r : Room) : Type 0 where
  pub stage : r.part.stage ≡ k
  pub place : r.part.place ≡ in_stage
  pub cell : r.cell ≡ n

pub at-place : (k place n : ℕ) (r : Room) → is_at k place n r ≡ true → AtPlace k place n r
at-place k place n r e =
    let two = and_parts ((r.part.stage == k) && (r.part.place == place)) (r.cell == n) e in
    let one = and_parts (r.part.stage == k) (r.part.place == place) two.0 in
    record { stage = eqb-true r.part.stage k one.0; place = eqb-true r.part.place place one.1; cell = eqb-true r.cell n two.1 }

-- two rooms at one place are the same
pub both-at : (k place n : ℕ) (a b : Room) → is_at k place n a ≡ true → is_at k place n b ≡ true → is_same a b ≡ true
both-at k place n a b at_a at_b =
    let p = at-place k place n a at_a in
    let q = at-place k place n b at_b in
    ap (λ s. ((s == a.part.stage) && (b.part.place == a.part.place)) && (b.cell == a.cell)) (q.stage ∙ sym p.stage)
    ∙ ap (λ s. ((a.part.stage == a.part.stage) && (s == a.part.place)) && (b.cell == a.cell)) (q.place ∙ sym p.place)
    ∙ ap (λ s. ((a.part.stage == a.part.stage) && (a.part.place == a.part.place)) && (s == a.cell)) (q.cell ∙ sym p.cell) ∙ at-own a.part a.cell

-- a part of a node has its place alone
pub part-once : (c : Config) (node i j : ℕ) (p q : PartAt) → slice_get (parts_of c node) i ≡ Some p → slice_get (parts_of c node) j ≡ Some q → p.stage ≡ q.stage → p.place ≡ q.place → i ≡ j
part-once c node i j p q at_p at_q stage place = elim (cases_lt i j) [
  | inl lt ↦ absurd (never-rises p q (pair-at Rises (parts_of c node) i j p q (parts-rise c node) lt at_p at_q) (sym stage) (sym place))
  | inr le ↦ elim (cases_lt j i) [
    | inl gt ↦ absurd (never-rises q p (pair-at Rises (parts_of c node) j i q p (parts-rise c node) gt at_q at_p) stage place)
    | inr ge ↦ omega (arith, le, ge)
  ]
]

-- ---- entries with rooms

abbrev pub AreApart : List Placed → Type 0
AreApart ps = AllPairs (λ (p q : Placed). is_same p.room q.room ≡ false) ps

-- at a place there is one
pub one-placed : (ps : List Placed) (a b : Placed) (k place n : ℕ) → AreApart ps → Contains ps a → Contains ps b → is_at k place n a.room ≡ true → is_at k place n b.room ≡ true → a ≡ b
one-placed [] a b k place n apart in_a in_b at_a at_b = absurd (let lt = in_a.1 in omega (arith, lt))
one-placed (p ∷ ps) a b k place n apart in_a in_b at_a at_b = elim (Contains-split p ps a in_a) [
  | inl ea ↦ elim (Contains-split p ps b in_b) [
    | inl eb ↦ sym ea ∙ eb
    | inr later ↦ absurd (other a b ea later at_a at_b)
  ]
  | inr more ↦ elim (Contains-split p ps b in_b) [
    | inl eb ↦ absurd (other b a eb more at_b at_a)
    | inr later ↦ one-placed ps a b k place n (AllPairs-tail (λ (p q : Placed). is_same p.room q.room ≡ false) p ps apart) more later at_a at_b
  ]
]
  where
    other : (x y : Placed) → p ≡ x → Contains ps y → is_at k place n x.room ≡ true → is_at k place n y.room ≡ true → ⊥
    other x y e there at_x at_y =
        let own : is_at k place n p.room ≡ true = ap (λ (q : Placed). is_at k place n q.room) e ∙ at_x in
        let apart_y = All-contains (λ (q : Placed). is_same p.room q.room ≡ false) ps y (AllPairs-head (λ (p q : Placed). is_same p.room q.room ≡ false) p ps apart) there in
        false≢true (sym apart_y ∙ both-at k place n p.room y.room own at_y)

-- an item that is found is in the list
pub found-in : {X : Type 0} (test : X → Bool) (xs : List X) (x : X) → find test xs ≡ Some x → Contains xs x
found-in test [] x e = absurd (none-some x e)
found-in test (z ∷ xs) x e = by (test z) e (found-in test xs x)
  where
    by : (b : Bool) → cond b (Some z) (find test xs) ≡ Some x → (find test xs ≡ Some x → Contains xs x) → Contains (z ∷ xs) x
    by true h rest = subst (Contains (z ∷ xs)) (same_Some z x h) (Contains-first z xs)
    by false h rest = Contains-later z xs x (rest h)

-- it is found there
pub placed-found : (ps : List Placed) (a : Placed) (k place n : ℕ) → AreApart ps → Contains ps a → is_at k place n a.room ≡ true → placed_at ps k place n ≡ Some a
placed-found ps a k place n apart there at =
    let found = find-some (λ (p : Placed). is_at k place n p.room) ps a there at in
    let own = find-passes (λ (p : Placed). is_at k place n p.room) ps found.0 found.1 in
    found.1 ∙ ap Some (one-placed ps found.0 a k place n apart (found-in (λ (p : Placed). is_at k place n p.room) ps found.0 found.1) there own at)

-- ---- numbers

-- items with keys of their own
pub one-key : {X : Type 0} (f : X → ℕ) (xs : List X) (a b : X) → AllPairs (λ (m n : ℕ). m ≢ n) (map f xs) → Contains xs a → Contains xs b → f a ≡ f b → a ≡ b
one-key f [] a b apart in_a in_b same = absurd (let lt = in_a.1 in omega (arith, lt))
one-key {X} f (x ∷ xs) a b apart in_a in_b same = elim (Contains-split x xs a in_a) [
  | inl ea ↦ elim (Contains-split x xs b in_b) [
    | inl eb ↦ sym ea ∙ eb
    | inr later ↦ absurd (other b later (ap f ea ∙ same))
  ]
  | inr more ↦ elim (Contains-split x xs b in_b) [
    | inl eb ↦ absurd (other a more (ap f eb ∙ sym same))
    | inr later ↦ one-key f xs a b (AllPairs-tail (λ (m n : ℕ). m ≢ n) (f x) (map f xs) apart) more later same
  ]
]
  where
    other : (y : X) → Contains xs y → f x ≡ f y → ⊥
    other y there e = All-contains (λ m. f x ≢ m) (map f xs) (f y) (AllPairs-head (λ (m n : ℕ). m ≢ n) (f x) (map f xs) apart) (Contains-map f xs y there) e

-- the numbers of all entries
pub all-numbers : (lists : List (List Entry)) → map (λ (e : Entry). e.number) (all_entries lists) ≡ flat_map entry_numbers lists
all-numbers [] = refl
all-numbers (es ∷ lists) = map-append (λ (e : Entry). e.number) es (all_entries lists) ∙ ap (λ ns. entry_numbers es ++ ns) (all-numbers lists)
