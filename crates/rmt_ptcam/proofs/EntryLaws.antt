-- The entry that the plain parser takes at a header, and its tail.
use Rattle.std.proofs.Common.{◌≡◌, ◌&&◌, Bool, true, false, cond, eqb, ℕ, zero, suc, ◌+◌, ◌<◌, ◌≤◌, List, [], ◌∷◌, ◌++◌, get_or, length, map, find, Option, Some, None, refl, sym, ap, subst, ◌∙◌, append_assoc, inl, inr, arith}
use Rattle.std.specs.Prelude.{All, bit_and, option_map, position, slice_get, unwrap_or}
use Rattle.std.specs.List.{range_with_len}
use Rattle.std.specs.Option.{option_or}
use Rattle.std.specs.Int.Bits.{and_zero_r}
use Rattle.std.proofs.lemmas.Bool.{eq-eqb, and_from, and_left, ne_eqb}
use Rattle.std.proofs.lemmas.Bool.Decides.{eqb_tells}
use Rattle.std.proofs.lemmas.List.{length-append, get_or_append_left}
use Rattle.std.proofs.lemmas.List.Elements.{All-nil, All-head, All-tail, All-append, All-weaker}
use Rattle.std.proofs.lemmas.List.Folds.{find-append}
use Rattle.std.proofs.lemmas.Option.{slice_get-get_or, same_Some}
use Rattle.rmt_bits.specs.declared.lane.Lane.{Lane}
use Rattle.rmt_ptcam.specs.Types.{Program, Header, Tail, Case, Target, ParserEntry, TailOf}
use Rattle.rmt_config.specs.Parser.{entry_of, tail_of}
use Rattle.rmt_ptcam.specs.Needs.{entry_count}
use Rattle.rmt_ptcam.specs.Plain.{entry_to, entry_of_case, entries_of, entries_from, tail_at, tails_for, tails_from, plain}
use Rattle.rmt_ptcam.proofs.SearchLaws.{position_here}
use Rattle.rmt_ptcam.proofs.FormLaws.{of_header, length-entries_of, tails_least}
use Rattle.rmt_bits.proofs.ListLaws.{find-none}

-- ---- the first item that passes

pub record IsFirst {X : Type 0} (t : X → Bool) (xs : List X) (k : ℕ) (x : X) : Type 0 where
  pub inside : k < length xs
  pub at : (d : X) → get_or xs k d ≡ x
  pub before : (j : ℕ) (d : X) → j < k → t (get_or xs j d) ≡ false
  pub passes : t x ≡ true

module _ {X : Type 0} (t : X → Bool) where
  first_here : (x : X) (xs : List X) → t x ≡ true → IsFirst t (x ∷ xs) 0 x
  first_here x xs passes = record { inside = omega arith; at = λ d. refl; before = λ j d lt. absurd (omega (arith, lt)); passes = passes }

  first_later : (y : X) (xs : List X) (k : ℕ) (x : X) → t y ≡ false → IsFirst t xs k x → IsFirst t (y ∷ xs) (suc k) x
  first_later y xs k x fails is = record { inside = omega (arith, is.inside); at = λ d. is.at d; before = before; passes = is.passes }
    where
      before : (j : ℕ) (d : X) → j < suc k → t (get_or (y ∷ xs) j d) ≡ false
      before zero d lt = fails
      before (suc j) d lt = is.before j d (omega (arith, lt))

  first_behind : (ys xs : List X) (k m : ℕ) (x : X) → m ≡ length ys + k → All (λ y. t y ≡ false) ys → IsFirst t xs k x → IsFirst t (ys ++ xs) m x
  first_behind [] xs k m x at fails is = let same : k ≡ m = omega (arith, at) in subst (λ n. IsFirst t xs n x) same is
  first_behind (y ∷ ys) xs k m x at fails is =
      let same : suc (length ys + k) ≡ m = omega (arith, at) in
      subst (λ n. IsFirst t ((y ∷ ys) ++ xs) n x) same
      (first_later y (ys ++ xs) (length ys + k) x (All-head (λ z. t z ≡ false) y ys fails) (first_behind ys xs k (length ys + k) x refl (All-tail (λ z. t z ≡ false) y ys fails) is))

  first_in_front : (xs ys : List X) (k : ℕ) (x : X) → IsFirst t xs k x → IsFirst t (xs ++ ys) k x
  first_in_front xs ys k x is = record {
    inside = let long = length-append xs ys in omega (arith, long, is.inside);
    at = λ d. get_or_append_left xs ys d k is.inside ∙ is.at d;
    before = λ j d lt. ap t (get_or_append_left xs ys d j (omega (arith, lt, is.inside))) ∙ is.before j d lt;
    passes = is.passes;
  }

  position_first : (xs : List X) (k : ℕ) (x : X) → IsFirst t xs k x → position t xs ≡ Some k
  position_first xs k x is = position_here t xs k x is.inside (λ j lt. is.before j x lt) (ap t (is.at x) ∙ is.passes)

  first_there : (xs : List X) (k : ℕ) (x : X) → IsFirst t xs k x → slice_get xs k ≡ Some x
  first_there xs k x is = slice_get-get_or xs k x is.inside ∙ ap Some (is.at x)

-- ---- the entries of one header

-- an entry is of a state, and agrees with the lookup bytes on its mask
abbrev pub agrees : ℕ → ℕ → ParserEntry → Bool
agrees state looked e = eqb e.state state && eqb (bit_and looked e.mask) e.value

-- the target of the first case whose entry agrees, else the other one
abbrev pub taken_target : Program → List (List Lane) → ℕ → Header → ℕ → List Case → Target
taken_target p places n h looked cs = unwrap_or (option_map (λ (c : Case). c.target) (find (λ c. agrees n looked (entry_of_case p places n h c)) cs)) h.other

module _ (p : Program) (places : List (List Lane)) (n : ℕ) (h : Header) (looked : ℕ) where
  -- the entry that is taken among those of some cases and the other one
  record IsTaken (cs : List Case) : Type 0 where
    number : ℕ
    value : ℕ
    mask : ℕ
    target : Target
    few : number ≤ length cs
    to : target ≡ taken_target p places n h looked cs
    first : IsFirst (agrees n looked) (map (entry_of_case p places n h) cs ++ entry_to places n h 0 0 h.other ∷ []) number (entry_to places n h value mask target)

  taken : (cs : List Case) → IsTaken cs
  taken [] = record {
    number = 0;
    value = 0;
    mask = 0;
    target = h.other;
    few = omega arith;
    to = refl;
    first = first_here (agrees n looked) (entry_to places n h 0 0 h.other) [] (and_from _ _ (eq-eqb n n refl) (eq-eqb (bit_and looked 0) 0 (and_zero_r looked)));
  }
  taken (c ∷ cs) = by (agrees n looked (entry_of_case p places n h c)) refl (taken cs)
    where
      by : (b : Bool) → agrees n looked (entry_of_case p places n h c) ≡ b → IsTaken cs → IsTaken (c ∷ cs)
      by true is rest = record {
        number = 0;
        value = (entry_of_case p places n h c).value;
        mask = (entry_of_case p places n h c).mask;
        target = c.target;
        few = omega arith;
        to = sym (ap (λ (b : Bool). unwrap_or (option_map (λ (d : Case). d.target) (cond b (Some c) (find (λ d. agrees n looked (entry_of_case p places n h d)) cs))) h.other) is);
        first = first_here (agrees n looked) (entry_of_case p places n h c) (map (entry_of_case p places n h) cs ++ entry_to places n h 0 0 h.other ∷ []) is;
      }
      by false is rest = record {
        number = suc rest.number;
        value = rest.value;
        mask = rest.mask;
        target = rest.target;
        few = omega (arith, rest.few);
        to = rest.to ∙ sym (ap (λ (b : Bool). unwrap_or (option_map (λ (d : Case). d.target) (cond b (Some c) (find (λ d. agrees n looked (entry_of_case p places n h d)) cs))) h.other) is);
        first = first_later (agrees n looked) (entry_of_case p places n h c) (map (entry_of_case p places n h) cs ++ entry_to places n h 0 0 h.other ∷ []) rest.number
            (entry_to places n h rest.value rest.mask rest.target) is rest.first;
      }

-- ---- the tails of one header

module _ (p : Program) (n : ℕ) (h : Header) (t : Tail) where
  range_finds : (a c w : ℕ) → a ≤ w → w < a + c → find (λ (x : TailOf). eqb x.entry w) (map (tail_at p n h t) (range_with_len a c)) ≡ Some (tail_at p n h t w)
  range_finds a zero w from lt = absurd (omega (arith, from, lt))
  range_finds a (suc c) w from lt = elim (eqb_tells a w) [
    | inl (is, same) ↦
        ap (λ (b : Bool). cond b (Some (tail_at p n h t a)) (find (λ (x : TailOf). eqb x.entry w) (map (tail_at p n h t) (range_with_len (a + 1) c)))) is ∙ ap (λ k. Some (tail_at p n h t k)) same
    | inr (is, other) ↦
        ap (λ (b : Bool). cond b (Some (tail_at p n h t a)) (find (λ (x : TailOf). eqb x.entry w) (map (tail_at p n h t) (range_with_len (a + 1) c)))) is
        ∙ range_finds (a + 1) c w (let le : a + 1 ≤ w = next_from a w from other in le) (omega (arith, lt))
  ]
    where
      next_from : (a w : ℕ) → a ≤ w → (a ≡ w → ⊥) → a + 1 ≤ w
      next_from a w from other = elim (eqb_tells a w) [
        | inl (is, same) ↦ absurd (other same)
        | inr (is, differ) ↦ grind arith
      ]

  range_misses : (a c w : ℕ) → a + c ≤ w → find (λ (x : TailOf). eqb x.entry w) (map (tail_at p n h t) (range_with_len a c)) ≡ None
  range_misses a zero w le = refl
  range_misses a (suc c) w le =
      ap (λ (b : Bool). cond b (Some (tail_at p n h t a)) (find (λ (x : TailOf). eqb x.entry w) (map (tail_at p n h t) (range_with_len (a + 1) c)))) (ne_eqb a w (λ e. omega (arith, le, e)))
      ∙ range_misses (a + 1) c w (omega (arith, le))

-- the tail of one of a header's entries, before which there are none of its number
tails_here : (p : Program) (n a w : ℕ) (h : Header) (o : Option Tail) (rest : List TailOf) → a ≤ w → w < a + entry_count h → find (λ (x : TailOf). eqb x.entry w) rest ≡ None
    → find (λ (x : TailOf). eqb x.entry w) (tails_for p n h a o ++ rest) ≡ option_map (λ t. tail_at p n h t w) o
tails_here p n a w h None rest from lt none = none
tails_here p n a w h (Some t) rest from lt none =
    find-append (λ (x : TailOf). eqb x.entry w) (map (tail_at p n h t) (range_with_len a (entry_count h))) rest
    ∙ ap (λ (o : Option TailOf). option_or o (find (λ (x : TailOf). eqb x.entry w) rest)) (range_finds p n h t a (entry_count h) w from lt)

tails_before : (p : Program) (n a w : ℕ) (h : Header) (o : Option Tail) (rest : List TailOf) → a + entry_count h ≤ w
    → find (λ (x : TailOf). eqb x.entry w) (tails_for p n h a o ++ rest) ≡ find (λ (x : TailOf). eqb x.entry w) rest
tails_before p n a w h None rest le = refl
tails_before p n a w h (Some t) rest le =
    find-append (λ (x : TailOf). eqb x.entry w) (map (tail_at p n h t) (range_with_len a (entry_count h))) rest
    ∙ ap (λ (o : Option TailOf). option_or o (find (λ (x : TailOf). eqb x.entry w) rest)) (range_misses p n h t a (entry_count h) w le)

-- ---- the entries and tails of a header among all

-- a header's entries stand behind those of earlier states, and each has the header's tail
record IsBlock (p : Program) (places : List (List Lane)) (a : ℕ) (es : List ParserEntry) (ts : List TailOf) (n : ℕ) (h : Header) : Type 0 where
  front : List ParserEntry
  rest : List ParserEntry
  split : es ≡ front ++ (entries_of p places n h ++ rest)
  earlier : All (λ (e : ParserEntry). e.state < n) front
  tails : (w : ℕ) → a + length front ≤ w → w < a + length front + entry_count h → find (λ (x : TailOf). eqb x.entry w) ts ≡ option_map (λ t. tail_at p n h t w) h.tail

module _ (p : Program) (places : List (List Lane)) where
  block_here : (n a : ℕ) (h : Header) (hs : List Header) → IsBlock p places a (entries_from p places n (h ∷ hs)) (tails_from p n a (h ∷ hs)) n h
  block_here n a h hs = record {
    front = [];
    rest = entries_from p places (n + 1) hs;
    split = refl;
    earlier = All-nil (λ (e : ParserEntry). e.state < n);
    tails = λ w from lt. tails_here p n a w h h.tail (tails_from p (n + 1) (a + entry_count h) hs) (omega (arith, from)) (omega (arith, lt))
        (find-none (λ (x : TailOf). eqb x.entry w) (tails_from p (n + 1) (a + entry_count h) hs)
        (λ k d below. let least = tails_least p (n + 1) (a + entry_count h) hs k d below in ne_eqb _ w (λ e. omega (arith, least, lt, e))));
  }

  block_later : (n a m : ℕ) (g h : Header) (hs : List Header) → n < m → IsBlock p places (a + entry_count g) (entries_from p places (n + 1) hs) (tails_from p (n + 1) (a + entry_count g) hs) m h
      → IsBlock p places a (entries_from p places n (g ∷ hs)) (tails_from p n a (g ∷ hs)) m h
  block_later n a m g h hs lt later =
      let count = length-entries_of p places n g in
      let long = length-append (entries_of p places n g) later.front in
      record {
        front = entries_of p places n g ++ later.front;
        rest = later.rest;
        split = ap (λ (es : List ParserEntry). entries_of p places n g ++ es) later.split ∙ sym (append_assoc (entries_of p places n g) later.front (entries_of p places m h ++ later.rest));
        earlier = All-append (λ (e : ParserEntry). e.state < m) (entries_of p places n g) later.front (of_header p places (λ (e : ParserEntry). e.state < m) n g (λ v k t. lt)) later.earlier;
        tails = λ w from below. tails_before p n a w g g.tail (tails_from p (n + 1) (a + entry_count g) hs) (omega (arith, count, long, from))
            ∙ later.tails w (omega (arith, count, long, from)) (omega (arith, count, long, below));
      }

  block_at : (n a i m : ℕ) (hs : List Header) (h : Header) → m ≡ n + i → slice_get hs i ≡ Some h → IsBlock p places a (entries_from p places n hs) (tails_from p n a hs) m h
  block_at n a i m [] h at is = absurd cc
  block_at n a zero m (g ∷ hs) h at is =
      let same : n ≡ m = omega (arith, at) in
      let this : g ≡ h = same_Some g h is in
      subst (λ (x : Header). IsBlock p places a (entries_from p places n (g ∷ hs)) (tails_from p n a (g ∷ hs)) m x) this
      (subst (λ k. IsBlock p places a (entries_from p places n (g ∷ hs)) (tails_from p n a (g ∷ hs)) k g) same (block_here n a g hs))
  block_at n a (suc i) m (g ∷ hs) h at is =
      block_later n a m g h hs (omega (arith, at)) (block_at (n + 1) (a + entry_count g) i m hs h (omega (arith, at)) is)

  -- the entry that the plain parser takes in the state of a header
  pub record IsMet (n : ℕ) (h : Header) (looked : ℕ) : Type 0 where
    pub number : ℕ
    pub value : ℕ
    pub mask : ℕ
    pub target : Target
    pub taken : entry_of (plain p places) n looked ≡ Some number
    pub there : slice_get (plain p places).entries number ≡ Some (entry_to places n h value mask target)
    pub told : tail_of (plain p places) number ≡ option_map (λ t. tail_at p n h t number) h.tail
    pub to : target ≡ taken_target p places n h looked h.cases

  pub met : (n : ℕ) (h : Header) (looked : ℕ) → slice_get p.headers n ≡ Some h → IsMet n h looked
  met n h looked is =
      let block : IsBlock p places 0 (entries_from p places 0 p.headers) (tails_from p 0 0 p.headers) n h = block_at 0 0 n n p.headers h (omega arith) is in
      let t : IsTaken p places n h looked h.cases = taken p places n h looked h.cases in
      let e : ParserEntry = entry_to places n h t.value t.mask t.target in
      let w : ℕ = length block.front + t.number in
      let inner : IsFirst (agrees n looked) (entries_of p places n h ++ block.rest) t.number e = first_in_front (agrees n looked) (entries_of p places n h) block.rest t.number e t.first in
      let outer : IsFirst (agrees n looked) (block.front ++ (entries_of p places n h ++ block.rest)) w e =
      first_behind (agrees n looked) block.front (entries_of p places n h ++ block.rest) t.number w e refl
      (All-weaker (λ (x : ParserEntry). x.state < n) (λ (x : ParserEntry). agrees n looked x ≡ false) (λ (x : ParserEntry) lt. and_left _ _ (ne_eqb x.state n (λ same. omega (arith, lt, same)))) block.front block.earlier) inner in
      let whole : IsFirst (agrees n looked) (entries_from p places 0 p.headers) w e = subst (λ (es : List ParserEntry). IsFirst (agrees n looked) es w e) (sym block.split) outer in
      record {
        number = w;
        value = t.value;
        mask = t.mask;
        target = t.target;
        taken = position_first (agrees n looked) (entries_from p places 0 p.headers) w e whole;
        there = first_there (agrees n looked) (entries_from p places 0 p.headers) w e whole;
        told = block.tails w (omega arith) (let few = t.few in omega (arith, few));
        to = t.to;
      }
