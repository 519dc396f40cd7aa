-- The earliest place that groups have for a key is that of the first row that has it.
use Rattle.std.proofs.Common.{◌≡◌, ℕ, zero, suc, ◌<◌, ◌≤◌, min, Bool, true, false, cond, List, [], ◌∷◌, length, get_or, Option, Some, None, inl, inr, refl, sym, ap, subst, ◌∙◌, arith}
use Rattle.std.specs.Prelude.{⊤, All, AllPairs, IsSomeAnd, slice_get}
use Rattle.std.proofs.lemmas.Bool.{false≢true, ltb-true, cases_lt}
use Rattle.std.proofs.lemmas.List.Elements.{All-head, All-tail}
use Rattle.std.proofs.lemmas.List.{get_or-map, length-map}
use Rattle.std.proofs.lemmas.Option.{none-some, slice_get_within, get_or_from_slice_get}
use Rattle.rmt_bits.specs.declared.groups.Group.{Group}
use Rattle.rmt_bits.specs.Grouping.{Compared, place_in, earlier, is_before, best_of, firsts, HasPlaces, AreGrouped}

-- a place that was found is no later than this one
abbrev AtMost : Option ℕ → ℕ → Type 0
AtMost None n = ⊥
AtMost (Some a) n = a ≤ n

-- what is found, if something is
abbrev Each : (ℕ → Type 0) → Option ℕ → Type 0
Each P None = ⊤
Each P (Some a) = P a

earlier_left : (a b : Option ℕ) (n : ℕ) → AtMost a n → AtMost (earlier a b) n
earlier_left None b n h = absurd h
earlier_left (Some a) None n h = h
earlier_left (Some a) (Some b) n h = omega arith

earlier_right : (a b : Option ℕ) (n : ℕ) → AtMost b n → AtMost (earlier a b) n
earlier_right None b n h = h
earlier_right (Some a) None n h = absurd h
earlier_right (Some a) (Some b) n h = omega arith

each_min : (P : ℕ → Type 0) (a b : ℕ) → P a → P b → P (min a b)
each_min P a b ha hb =
    elim (cases_lt a b) as (λ _. P (min a b)) [ inl lt ↦ subst P (let e : a ≡ min a b = omega arith in e) ha | inr le ↦ subst P (let e : b ≡ min a b = omega arith in e) hb ]

each_earlier : (P : ℕ → Type 0) (a b : Option ℕ) → Each P a → Each P b → Each P (earlier a b)
each_earlier P None b ha hb = hb
each_earlier P (Some a) None ha hb = ha
each_earlier P (Some a) (Some b) ha hb = each_min P a b ha hb

before_most : (best : Option ℕ) (first n : ℕ) → is_before best first ≡ true → first ≤ n → AtMost best n
before_most None first n h le = absurd (false≢true h)
before_most (Some a) first n h le = let lt : a < first = ltb-true a first h in omega arith

module _ (find : Group → Option ℕ) where
  best_keeps : (gs : List Group) (best : Option ℕ) (n : ℕ) → AtMost best n → AtMost (best_of find gs best) n
  best_keeps [] best n h = h
  best_keeps (g ∷ gs) best n h = by (is_before best g.first) (best_keeps gs (earlier best (find g)) n (earlier_left best (find g) n h))
    where
      by : (b : Bool) → AtMost (best_of find gs (earlier best (find g))) n → AtMost (cond b best (best_of find gs (earlier best (find g)))) n
      by true rest = h
      by false rest = rest

  best_each : (P : ℕ → Type 0) (gs : List Group) (best : Option ℕ) → All (λ (g : Group). (i : ℕ) → find g ≡ Some i → P i) gs → Each P best → Each P (best_of find gs best)
  best_each P [] best all h = h
  best_each P (g ∷ gs) best all h =
      by (is_before best g.first) (best_each P gs (earlier best (find g)) (All-tail (λ (g : Group). (i : ℕ) → find g ≡ Some i → P i) g gs all) (each_earlier P best (find g) h (found (find g) (All-head (λ (g : Group). (i : ℕ) → find g ≡ Some i → P i) g gs all))))
    where
      found : (o : Option ℕ) → ((i : ℕ) → o ≡ Some i → P i) → Each P o
      found None k = tt
      found (Some i) k = k i refl

      by : (b : Bool) → Each P (best_of find gs (earlier best (find g))) → Each P (cond b best (best_of find gs (earlier best (find g))))
      by true rest = h
      by false rest = rest

  -- the best is no later than any place of a group
  best_covers : (gs : List Group) (best : Option ℕ) → AllPairs (λ m n. m ≤ n) (firsts gs) → (k : ℕ) (g : Group) (i : ℕ) → slice_get gs k ≡ Some g → find g ≡ Some i → g.first ≤ i → AtMost (best_of find gs best) i
  best_covers [] best rising k g i at found first = absurd (none-some g at)
  best_covers (h ∷ gs) best rising zero g i at found first =
      let same : h ≡ g = get_or_from_slice_get (h ∷ gs) 0 g h at in
      by (is_before best h.first) refl (subst (λ (x : Group). x.first ≤ i) (sym same) first) (best_keeps gs (earlier best (find h)) i (earlier_right best (find h) i (subst (λ o. AtMost o i) (sym (ap find same ∙ found)) (omega arith))))
    where
      by : (b : Bool) → is_before best h.first ≡ b → h.first ≤ i → AtMost (best_of find gs (earlier best (find h))) i → AtMost (cond b best (best_of find gs (earlier best (find h)))) i
      by true e le rest = before_most best h.first i e le
      by false e le rest = rest
  best_covers (h ∷ gs) best rising (suc k) g i at found first =
      by (is_before best h.first) refl (best_covers gs (earlier best (find h)) (λ a b d lt inside. rising (suc a) (suc b) d (omega arith) (omega arith)) k g i at found first)
    where
      later : h.first ≤ g.first
      later =
          let within : k < length gs = slice_get_within gs k g at in
          let up = rising 0 (suc k) 0 (omega arith) (let size = length-map gs (λ (x : Group). x.first) in omega arith) in
          subst (λ n. h.first ≤ n) (get_or-map (λ (x : Group). x.first) gs k g 0 within ∙ ap (λ (x : Group). x.first) (get_or_from_slice_get gs k g g at)) up

      by : (b : Bool) → is_before best h.first ≡ b → AtMost (best_of find gs (earlier best (find h))) i → AtMost (cond b best (best_of find gs (earlier best (find h)))) i
      by true e rest = let low = later in before_most best h.first i e (omega arith)
      by false e rest = rest

-- what is found in each group is a row that is hit, and each row that is hit is found in the group of its masks
pub record Looks (find : Group → Option ℕ) (wants : Group → List ℕ) (Hit : Compared → Type 0) (es : List Compared) : Type 0 where
  pub only : (g : Group) (i : ℕ) → find g ≡ Some i → place_in g (wants g) ≡ Some i
  pub hit : (g : Group) (e : Compared) → e.masks ≡ g.masks.items → e.values ≡ wants g → Hit e
  pub each : (j : ℕ) (e : Compared) (g : Group) (i : ℕ) → slice_get es j ≡ Some e → Hit e → g.masks.items ≡ e.masks → place_in g e.values ≡ Some i → find g ≡ Some i

-- the first row that is hit; None where none is
abbrev pub IsFirstHit : (Compared → Type 0) → List Compared → Option ℕ → Type 0
IsFirstHit Hit es None = (j : ℕ) (e : Compared) → slice_get es j ≡ Some e → Hit e → ⊥
IsFirstHit Hit es (Some i) = IsSomeAnd (slice_get es i) Hit × ((j : ℕ) (e : Compared) → slice_get es j ≡ Some e → Hit e → i ≤ j)

module _ (find : Group → Option ℕ) (wants : Group → List ℕ) (Hit : Compared → Type 0) (es : List Compared) (groups : List Group) (looks : Looks find wants Hit es) (grouped : AreGrouped es groups) where
  places_hit : All (λ (g : Group). (i : ℕ) → find g ≡ Some i → IsSomeAnd (slice_get es i) Hit) groups
  places_hit k d lt i found =
      let g = get_or groups k d in
      at g (slice_get es i) (grouped.sound k d lt (wants g) i (looks.only g i found)).1
    where
      at : (g : Group) (o : Option Compared) → IsSomeAnd o (λ (e : Compared). (e.masks ≡ g.masks.items) × (e.values ≡ wants g)) → IsSomeAnd o Hit
      at g None h = absurd h
      at g (Some e) h = looks.hit g e h.0 h.1

  -- a row that is hit stands no earlier than the best
  best_first : (j : ℕ) (e : Compared) → slice_get es j ≡ Some e → Hit e → (r : Option ℕ) → best_of find groups None ≡ r → AtMost r j
  best_first j e at hit r is =
      let there = grouped.complete j e at in
      let g = there.1 in
      let finds = there.3 in
      let found = looks.each j e g finds.place at hit finds.same finds.found in
      let inside = slice_get_within groups there.0 g there.2 in
      let is_g : get_or groups there.0 g ≡ g = get_or_from_slice_get groups there.0 g g there.2 in
      let first : g.first ≤ finds.place =
      (subst (HasPlaces es) is_g (grouped.sound there.0 g inside) (wants g) finds.place (looks.only g finds.place found)).0 in
      let covered : AtMost r finds.place = subst (λ o. AtMost o finds.place) is (best_covers find groups None grouped.rising there.0 g finds.place there.2 found first) in
      more r covered finds.early
    where
      more : {m : ℕ} (o : Option ℕ) → AtMost o m → m ≤ j → AtMost o j
      more None h le = absurd h
      more (Some a) h le = omega arith

  pub best-first : (r : Option ℕ) → best_of find groups None ≡ r → IsFirstHit Hit es r
  best-first None is = λ j e at hit. best_first j e at hit None is
  best-first (Some i) is =
      (subst (Each (λ k. IsSomeAnd (slice_get es k) Hit)) is (best_each find (λ k. IsSomeAnd (slice_get es k) Hit) groups None places_hit tt), λ j e at hit. best_first j e at hit (Some i) is)
