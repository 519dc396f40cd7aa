-- What is packed keeps what places keep.
use Rattle.std.proofs.Common.{◌≡◌, ◌≢◌, ◌⊎◌, ℕ, zero, suc, ◌+◌, ◌-◌, ◌/◌, ◌%◌, ◌<◌, ◌≤◌, List, [], ◌∷◌, ◌++◌, length, get_or, Bool, true, false, not, ◌&&◌, cond, eqb, leb, Option, Some, None, option_map, find, Result, Ok, Err, map, replicate, refl, inl, inr, sym, ap, subst, ◌∙◌, append_assoc, arith}
use Rattle.std.specs.Prelude.{All, AllPairs, Contains}
use Rattle.std.specs.List.{list_any, range_with_len, flat_map}
use Rattle.std.proofs.lemmas.Bool.{false≢true, eq-eqb, not-true, and_parts, and_from, leb-true, cases_eq, cases_order, false_from_ne_true}
use Rattle.std.proofs.lemmas.Bool.Decides.{nat_tests, eqb_tells}
use Rattle.std.proofs.lemmas.List.{append-nil, map-append, get_or-map, length-map}
use Rattle.std.proofs.lemmas.List.Elements.{All-nil, All-cons, All-head, All-tail, All-append, All-push, All-replicate}
use Rattle.std.proofs.lemmas.List.Folds.{list_any_at}
use Rattle.std.proofs.lemmas.List.Quantifiers.{all_pairs_push}
use Rattle.std.proofs.lemmas.List.Sums.{sum_by_push}
use Rattle.rmt_bits.specs.Words.{word_size}
use Rattle.rmt_bits.specs.declared.lane.Lane.{Lane}
use Rattle.rmt_bits.proofs.AllLaws.{All-unmap}
use Rattle.rmt_bits.proofs.PairLaws.{AllPairs-left, AllPairs-right, AllPairs-across, AllPairs-map, AllPairs-weaker}
use Rattle.rmt_ast.specs.declared.program.Program.{Program}
use Rattle.rmt_ast.specs.declared.program.Field.{Field}
use Rattle.rmt_ast.specs.declared.program.Action.{Action}
use Rattle.rmt_ast.specs.declared.program.Assign.{Assign}
use Rattle.rmt_ast.specs.declared.program.Expr.TheVariants.{One}
use Rattle.rmt_ast.specs.declared.program.Leaf.TheVariants as leaf
use Rattle.rmt_ast.specs.Places.{lanes_of}
use Rattle.rmt_ast.specs.WellFormed.{AreDistinct}
use Rattle.rmt_phv.specs.declared.fault.PhvFull.{PhvFull}
use Rattle.rmt_phv.specs.Packing.{Piece, map_ok, pieces, pieces_at, first_word, words_for, writes, holds, free_bit, serves, lane_for, lane_then, lanes_for, field_then, places_from, packing}
use Rattle.rmt_phv.specs.Places.{LiesInWord, AreApart, WritesApart, KeepsApart, written_by, lengths_of}
use Rattle.rmt_phv.proofs.Packed.{pieces_of}

abbrev IsPiece : ℕ → Type 0
IsPiece len = (1 ≤ len) × (len ≤ 32)

-- the pieces of a width have 1 to 32 bits
pieces_fit : (width : ℕ) → All IsPiece (pieces width)
pieces_fit width = All-append IsPiece (replicate (width / 32) 32) _ (All-replicate IsPiece (width / 32) 32 (omega arith, omega arith)) (last (width % 32) (omega arith))
  where
    last : (rest : ℕ) → rest < 32 → All IsPiece (cond (eqb rest 0) [] (rest ∷ []))
    last rest lt =
        elim (eqb_tells rest 0) [
          | inl (is, zero_bits) ↦ rw is (All-nil IsPiece)
          | inr (is, some_bits) ↦ rw is (All-cons IsPiece rest [] (omega arith, omega arith) (All-nil IsPiece))
        ]

-- a number that is found passes the test and is of the range
found : (p : ℕ → Bool) (a n w : ℕ) → find p (range_with_len a n) ≡ Some w → (a ≤ w) × (w < a + n) × (p w ≡ true)
found p a zero w e = absurd cc
found p a (suc n) w e = by (p a) refl e (found p (a + 1) n w)
  where
    by : (b : Bool) → p a ≡ b → cond b (Some a) (find p (range_with_len (a + 1) n)) ≡ Some w
        → (find p (range_with_len (a + 1) n) ≡ Some w → (a + 1 ≤ w) × (w < (a + 1) + n) × (p w ≡ true)) → (a ≤ w) × (w < a + suc n) × (p w ≡ true)
    by true is here later = let same : a ≡ w = cc in (omega arith, omega arith, ap p (sym same) ∙ is)
    by false is here later = let h = later here in (omega arith, omega arith, h.2)

first_below : (len : ℕ) → first_word len ≤ 224
first_below len = grind (arith, nat_tests)

-- where a piece of field f goes beside the pieces that stand
record IsLaneOf (p : Program) (f : ℕ) (taken : List Piece) (len : ℕ) (lane : Lane) : Type 0 where
  long : lane.len ≡ len
  lowest : lane.low ≡ free_bit taken lane.word
  exists : lane.word < 224
  room : free_bit taken lane.word + len ≤ word_size lane.word
  not_own : holds (λ g. eqb g f) taken lane.word ≡ false
  not_together : list_any (λ (a : Action). writes a f && holds (writes a) taken lane.word) p.actions ≡ false

lane_serves : (p : Program) (f : ℕ) (taken : List Piece) (len : ℕ) (lane : Lane) → lane_for p f taken len ≡ Some lane → IsLaneOf p f taken len lane
lane_serves p f taken len lane e = by (find (serves p f taken len) (words_for len)) refl e
  where
    by : (o : Option ℕ) → find (serves p f taken len) (words_for len) ≡ o
        → option_map (λ word. let l : Lane = record { word = word; low = free_bit taken word; len = len } in l) o ≡ Some lane → IsLaneOf p f taken len lane
    by None is e = absurd cc
    by (Some w) is e =
        let same : (let l : Lane = record { word = w; low = free_bit taken w; len = len } in l) ≡ lane = cc in
        let h = found (serves p f taken len) (first_word len) (224 - first_word len) w is in
        let low = first_below len in
        let parts = and_parts (leb (free_bit taken w + len) (word_size w) && not (holds (λ g. eqb g f) taken w))
        (not (list_any (λ (a : Action). writes a f && holds (writes a) taken w) p.actions)) h.2 in
        let front = and_parts (leb (free_bit taken w + len) (word_size w)) (not (holds (λ g. eqb g f) taken w)) parts.0 in
        subst (IsLaneOf p f taken len) same
        record {
          long = refl;
          lowest = refl;
          exists = omega arith;
          room = leb-true (free_bit taken w + len) (word_size w) front.0;
          not_own = not-true (holds (λ g. eqb g f) taken w) front.1;
          not_together = not-true (list_any (λ (a : Action). writes a f && holds (writes a) taken w) p.actions) parts.1;
        }

lies : (p : Program) (f : ℕ) (taken : List Piece) (len : ℕ) (lane : Lane) → IsPiece len → IsLaneOf p f taken len lane → LiesInWord lane
lies p f taken len lane piece h = record { exists = h.exists; has_bits = omega (arith, h.long, piece.0); within = omega (arith, h.long, h.lowest, h.room) }

-- two pieces that may share a word
record MayShare (p : Program) (x y : Piece) : Type 0 where
  below : x.lane.low + x.lane.len ≤ y.lane.low
  other : x.field ≢ y.field
  not_together : All (λ (a : Action). (writes a x.field && writes a y.field) ≡ false) p.actions

abbrev Agree : Program → Piece → Piece → Type 0
Agree p x y = (x.lane.word ≢ y.lane.word) ⊎ MayShare p x y

-- the pieces that stand
record AreFilled (p : Program) (taken : List Piece) : Type 0 where
  agree : AllPairs (Agree p) taken
  below_free : All (λ (x : Piece). x.lane.low + x.lane.len ≤ free_bit taken x.lane.word) taken

filled_nil : (p : Program) → AreFilled p []
filled_nil p = record { agree = λ i j d lt below. absurd (omega (arith, below)); below_free = All-nil (λ (x : Piece). x.lane.low + x.lane.len ≤ free_bit [] x.lane.word) }

free_bit_more : (taken : List Piece) (f : ℕ) (lane : Lane) (v : ℕ) → free_bit (taken ++ pieces_at f (lane ∷ [])) v ≡ free_bit taken v + cond (eqb lane.word v) lane.len 0
free_bit_more taken f lane v = sum_by_push (λ (x : Piece). cond (eqb x.lane.word v) x.lane.len 0) taken (record { field = f; lane = lane })

-- a piece that stands, and the next one
agrees : (p : Program) (f : ℕ) (taken : List Piece) (len : ℕ) (lane : Lane) → AreFilled p taken → IsLaneOf p f taken len lane
    → (k : ℕ) (d : Piece) → k < length taken → Agree p (get_or taken k d) (let new : Piece = record { field = f; lane = lane } in new)
agrees p f taken len lane filled h k d lt =
    elim (cases_eq (get_or taken k d).lane.word lane.word) [
      | inl same ↦
          inr record {
            below = omega (arith, h.lowest, filled.below_free k d lt, ap (free_bit taken) same);
            other = λ own.
                let pass : (eqb (get_or taken k d).lane.word lane.word && eqb (get_or taken k d).field f) ≡ true =
                and_from (eqb (get_or taken k d).lane.word lane.word) (eqb (get_or taken k d).field f) (eq-eqb (get_or taken k d).lane.word lane.word same) (eq-eqb (get_or taken k d).field f own) in
                false≢true (sym h.not_own ∙ list_any_at (λ (x : Piece). eqb x.lane.word lane.word && eqb x.field f) taken k d lt pass);
            not_together = λ j a below.
                false_from_ne_true (writes (get_or p.actions j a) (get_or taken k d).field && writes (get_or p.actions j a) f) (λ both.
                let act = get_or p.actions j a in
                let parts = and_parts (writes act (get_or taken k d).field) (writes act f) both in
                let held = list_any_at (λ (x : Piece). eqb x.lane.word lane.word && writes act x.field) taken k d lt
                (and_from (eqb (get_or taken k d).lane.word lane.word) (writes act (get_or taken k d).field) (eq-eqb (get_or taken k d).lane.word lane.word same) parts.0) in
                let pass = and_from (writes act f) (holds (writes act) taken lane.word) parts.1 held in
                false≢true (sym h.not_together ∙ list_any_at (λ (b : Action). writes b f && holds (writes b) taken lane.word) p.actions j a below pass));
          }
      | inr apart ↦ inl apart
    ]

filled_more : (p : Program) (f : ℕ) (taken : List Piece) (len : ℕ) (lane : Lane) → AreFilled p taken → IsLaneOf p f taken len lane → AreFilled p (taken ++ pieces_at f (lane ∷ []))
filled_more p f taken len lane filled h =
    let new : Piece = record { field = f; lane = lane } in
    let same : cond (eqb lane.word lane.word) lane.len 0 ≡ lane.len = ap (λ b. cond b lane.len 0) (eq-eqb lane.word lane.word refl) in
    record {
      agree = all_pairs_push (Agree p) taken new filled.agree (agrees p f taken len lane filled h);
      below_free = All-push (λ (x : Piece). x.lane.low + x.lane.len ≤ free_bit (taken ++ pieces_at f (lane ∷ [])) x.lane.word) taken new
          (λ k d lt. omega (arith, filled.below_free k d lt, free_bit_more taken f lane (get_or taken k d).lane.word))
          (omega (arith, h.lowest, free_bit_more taken f lane lane.word, same));
    }

-- the lanes of some pieces of field f, beside those that stand
record AreLanesOf (p : Program) (f : ℕ) (taken : List Piece) (lens : List ℕ) (own : List Lane) : Type 0 where
  cut : map (λ (l : Lane). l.len) own ≡ lens
  within : All LiesInWord own
  filled : AreFilled p (taken ++ pieces_at f own)

-- what holds of the lanes of these pieces, whatever stands
abbrev LanesKeep : Program → ℕ → List ℕ → Type 0
LanesKeep p f lens = (taken : List Piece) (own : List Lane) → AreFilled p taken → lanes_for p f taken lens ≡ Ok own → AreLanesOf p f taken lens own

lanes_keep : (p : Program) (f : ℕ) (lens : List ℕ) (taken : List Piece) (own : List Lane) → All IsPiece lens → AreFilled p taken → lanes_for p f taken lens ≡ Ok own → AreLanesOf p f taken lens own
lanes_keep p f [] taken [] h filled e = record { cut = refl; within = All-nil LiesInWord; filled = subst (AreFilled p) (sym (append-nil taken)) filled }
lanes_keep p f [] taken (l ∷ ls) h filled e = absurd cc
lanes_keep p f (len ∷ lens) taken own h filled e =
    by (λ stand later stand_filled is. lanes_keep p f lens stand later (All-tail IsPiece len lens h) stand_filled is) (lane_for p f taken len) refl e
  where
    rest : LanesKeep p f lens → (lane : Lane) → IsLaneOf p f taken len lane → (r : Result (List Lane) ℕ) → lanes_for p f (taken ++ pieces_at f (lane ∷ [])) lens ≡ r → map_ok (λ ls. lane ∷ ls) r ≡ Ok own
        → AreLanesOf p f taken (len ∷ lens) own
    rest keep lane this (Err piece) is e = absurd cc
    rest keep lane this (Ok later) is e =
        let same : lane ∷ later ≡ own = cc in
        let k = keep (taken ++ pieces_at f (lane ∷ [])) later (filled_more p f taken len lane filled this) is in
        subst (AreLanesOf p f taken (len ∷ lens)) same
        record {
          cut = ap (λ (n : ℕ). n ∷ map (λ (l : Lane). l.len) later) this.long ∙ ap (λ (ns : List ℕ). len ∷ ns) k.cut;
          within = All-cons LiesInWord lane later (lies p f taken len lane (All-head IsPiece len lens h) this) k.within;
          filled = subst (AreFilled p) (append_assoc taken (pieces_at f (lane ∷ [])) (pieces_at f later)) k.filled;
        }

    by : LanesKeep p f lens → (o : Option Lane) → lane_for p f taken len ≡ o → lane_then len o (λ lane. lanes_for p f (taken ++ pieces_at f (lane ∷ [])) lens) ≡ Ok own → AreLanesOf p f taken (len ∷ lens) own
    by keep None is e = absurd cc
    by keep (Some lane) is e = rest keep lane (lane_serves p f taken len lane is) (lanes_for p f (taken ++ pieces_at f (lane ∷ [])) lens) refl e

-- the places of some fields, the first of which has the number n, beside the pieces that stand
record ArePlacesOf (p : Program) (n : ℕ) (taken : List Piece) (xs : List Field) (places : List (List Lane)) : Type 0 where
  cut : lengths_of places ≡ map (λ (x : Field). pieces x.width) xs
  within : All (λ (ls : List Lane). All LiesInWord ls) places
  filled : AreFilled p (taken ++ pieces_of n places)

-- what holds of the places of these fields, whatever stands
abbrev PlacesKeep : Program → ℕ → List Field → Type 0
PlacesKeep p n xs = (taken : List Piece) (places : List (List Lane)) → AreFilled p taken → places_from p n taken xs ≡ Ok places → ArePlacesOf p n taken xs places

places_keep : (p : Program) (xs : List Field) (n : ℕ) (taken : List Piece) (places : List (List Lane)) → AreFilled p taken → places_from p n taken xs ≡ Ok places → ArePlacesOf p n taken xs places
places_keep p [] n taken [] filled e = record { cut = refl; within = All-nil (λ (ls : List Lane). All LiesInWord ls); filled = subst (AreFilled p) (sym (append-nil taken)) filled }
places_keep p [] n taken (own ∷ places) filled e = absurd cc
places_keep p (x ∷ xs) n taken places filled e = by (places_keep p xs (n + 1)) (lanes_for p n taken (pieces x.width)) refl e
  where
    rest : PlacesKeep p (n + 1) xs → (own : List Lane) → AreLanesOf p n taken (pieces x.width) own → (r : Result (List (List Lane)) PhvFull) → places_from p (n + 1) (taken ++ pieces_at n own) xs ≡ r
        → map_ok (λ ps. own ∷ ps) r ≡ Ok places → ArePlacesOf p n taken (x ∷ xs) places
    rest keep own this (Err fault) is e = absurd cc
    rest keep own this (Ok later) is e =
        let same : own ∷ later ≡ places = cc in
        let k = keep (taken ++ pieces_at n own) later this.filled is in
        subst (ArePlacesOf p n taken (x ∷ xs)) same
        record {
          cut = ap (λ (ns : List ℕ). ns ∷ lengths_of later) this.cut ∙ ap (λ (ns : List (List ℕ)). pieces x.width ∷ ns) k.cut;
          within = All-cons (λ (ls : List Lane). All LiesInWord ls) own later this.within k.within;
          filled = subst (AreFilled p) (append_assoc taken (pieces_at n own) (pieces_of (n + 1) later)) k.filled;
        }

    by : PlacesKeep p (n + 1) xs → (r : Result (List Lane) ℕ) → lanes_for p n taken (pieces x.width) ≡ r → field_then n r (λ own. places_from p (n + 1) (taken ++ pieces_at n own) xs) ≡ Ok places → ArePlacesOf p n taken (x ∷ xs) places
    by keep (Err piece) is e = absurd cc
    by keep (Ok own) is e = rest keep own (lanes_keep p n (pieces x.width) taken own (pieces_fit x.width) filled is) (places_from p (n + 1) (taken ++ pieces_at n own) xs) refl e

abbrev at : ℕ → Lane → Piece
at n lane = record { field = n; lane = lane }

-- the lanes of all pieces
lanes_are : (n : ℕ) (places : List (List Lane)) → map (λ (x : Piece). x.lane) (pieces_of n places) ≡ flat_map (λ (ls : List Lane). ls) places
lanes_are n [] = refl
lanes_are n (own ∷ places) =
    map-append (λ (x : Piece). x.lane) (pieces_at n own) (pieces_of (n + 1) places)
    ∙ ap (λ (ls : List Lane). ls ++ map (λ (x : Piece). x.lane) (pieces_of (n + 1) places)) (back own)
    ∙ ap (λ (ls : List Lane). own ++ ls) (lanes_are (n + 1) places)
  where
    back : (ls : List Lane) → map (λ (x : Piece). x.lane) (pieces_at n ls) ≡ ls
    back [] = refl
    back (l ∷ ls) = ap (λ (rest : List Lane). l ∷ rest) (back ls)

no_overlap : (p : Program) (places : List (List Lane)) → AllPairs (Agree p) (pieces_of 0 places) → AllPairs AreApart (flat_map (λ (ls : List Lane). ls) places)
no_overlap p places h =
    subst (AllPairs AreApart) (lanes_are 0 places)
    (AllPairs-map AreApart (λ (x : Piece). x.lane) (pieces_of 0 places) (AllPairs-weaker (Agree p) (λ (x y : Piece). AreApart x.lane y.lane) weak (pieces_of 0 places) h))
  where
    weak : (x y : Piece) → Agree p x y → AreApart x.lane y.lane
    weak x y (inl apart) = inl apart
    weak x y (inr share) = inr (inl share.below)

one_of_field : (p : Program) (n : ℕ) (places : List (List Lane)) → AllPairs (Agree p) (pieces_of n places) → All (λ (ls : List Lane). AreDistinct (map (λ (l : Lane). l.word) ls)) places
one_of_field p n [] h = All-nil (λ (ls : List Lane). AreDistinct (map (λ (l : Lane). l.word) ls))
one_of_field p n (own ∷ places) h =
    All-cons (λ (ls : List Lane). AreDistinct (map (λ (l : Lane). l.word) ls)) own places
    (subst AreDistinct (words own) (AllPairs-map (λ (v w : ℕ). v ≢ w) (λ (x : Piece). x.lane.word) (pieces_at n own) (λ i j d lt below. apart i j d lt below)))
    (one_of_field p (n + 1) places (AllPairs-right (Agree p) (pieces_at n own) (pieces_of (n + 1) places) h))
  where
    words : (ls : List Lane) → map (λ (x : Piece). x.lane.word) (pieces_at n ls) ≡ map (λ (l : Lane). l.word) ls
    words [] = refl
    words (l ∷ ls) = ap (λ (rest : List ℕ). l.word ∷ rest) (words ls)

    own_field : All (λ (x : Piece). x.field ≡ n) (pieces_at n own)
    own_field = of_all own
      where
        of_all : (ls : List Lane) → All (λ (x : Piece). x.field ≡ n) (pieces_at n ls)
        of_all [] = All-nil (λ (x : Piece). x.field ≡ n)
        of_all (l ∷ ls) = All-cons (λ (x : Piece). x.field ≡ n) (at n l) (pieces_at n ls) refl (of_all ls)

    apart : (i j : ℕ) (d : Piece) → i < j → j < length (pieces_at n own) → (get_or (pieces_at n own) i d).lane.word ≢ (get_or (pieces_at n own) j d).lane.word
    apart i j d lt below =
        elim (AllPairs-left (Agree p) (pieces_at n own) (pieces_of (n + 1) places) h i j d lt below) [
          | inl ne ↦ ne
          | inr share ↦ absurd (share.other (own_field i d (omega (arith, lt, below)) ∙ sym (own_field j d below)))
        ]

-- what holds of all pieces holds of those of a field
of_field : (P : Piece → Type 0) (n : ℕ) (places : List (List Lane)) (g k : ℕ) → k ≡ n + g → All P (pieces_of n places) → All (λ b. P (at k b)) (lanes_of places g)
of_field P n [] g k e h = λ i d lt. absurd (omega (arith, lt))
of_field P n (own ∷ places) zero k e h =
    let same : n ≡ k = omega (arith, e) in
    subst (λ (m : ℕ). All (λ b. P (at m b)) own) same (All-unmap P (at n) own (front (pieces_at n own) (pieces_of (n + 1) places) h))
  where
    front : (xs ys : List Piece) → All P (xs ++ ys) → All P xs
    front [] ys h = All-nil P
    front (x ∷ xs) ys h = All-cons P x xs (All-head P x (xs ++ ys) h) (front xs ys (All-tail P x (xs ++ ys) h))
of_field P n (own ∷ places) (suc g) k e h = of_field P (n + 1) places g k (omega (arith, e)) (back (pieces_at n own) (pieces_of (n + 1) places) h)
  where
    back : (xs ys : List Piece) → All P (xs ++ ys) → All P ys
    back [] ys h = h
    back (x ∷ xs) ys h = back xs ys (All-tail P x (xs ++ ys) h)

-- the pieces of two fields agree
fields_agree : (p : Program) (n : ℕ) (places : List (List Lane)) (f g i j : ℕ) → i ≡ n + f → j ≡ n + g → f < g → AllPairs (Agree p) (pieces_of n places)
    → All (λ a. All (λ b. Agree p (at i a) (at j b)) (lanes_of places g)) (lanes_of places f)
fields_agree p n [] f g i j i_is j_is lt h = λ k d below. absurd (omega (arith, below))
fields_agree p n (own ∷ places) f zero i j i_is j_is lt h = absurd (omega (arith, lt))
fields_agree p n (own ∷ places) zero (suc g) i j i_is j_is lt h =
    let same : n ≡ i = omega (arith, i_is) in
    let across = All-unmap (λ (x : Piece). All (λ y. Agree p x y) (pieces_of (n + 1) places)) (at n) own (AllPairs-across (Agree p) (pieces_at n own) (pieces_of (n + 1) places) h) in
    subst (λ (m : ℕ). All (λ a. All (λ b. Agree p (at m a) (at j b)) (lanes_of places g)) own) same
    (λ k d below. of_field (λ y. Agree p (at n (get_or own k d)) y) (n + 1) places g j (omega (arith, j_is)) (across k d below))
fields_agree p n (own ∷ places) (suc f) (suc g) i j i_is j_is lt h =
    fields_agree p (n + 1) places f g i j (omega (arith, i_is)) (omega (arith, j_is)) (omega (arith, lt)) (AllPairs-right (Agree p) (pieces_at n own) (pieces_of (n + 1) places) h)

-- an action assigns the fields that it writes
writes_dest : (a : Action) (f : ℕ) → Contains (written_by a) f → writes a f ≡ true
writes_dest a f (k, below, is) =
    let d : Assign = record { dest = f; expr = One (leaf.Number 0) } in
    let lt : k < length a.assigns = omega (arith, length-map a.assigns (λ (x : Assign). x.dest), below) in
    list_any_at (λ (x : Assign). eqb x.dest f) a.assigns k d lt (eq-eqb (get_or a.assigns k d).dest f (sym (get_or-map (λ (x : Assign). x.dest) a.assigns k d f lt) ∙ is))

written_apart : (p : Program) (places : List (List Lane)) → AllPairs (Agree p) (pieces_of 0 places) → All (WritesApart places) p.actions
written_apart p places h k d below f g in_f in_g other =
    elim (cases_order f g) [
      | inl same ↦ absurd (other same)
      | inr order ↦
          elim order [
            | inl lt ↦ λ i a i_lt j b j_lt. differ f g (writes_dest (get_or p.actions k d) f in_f) (writes_dest (get_or p.actions k d) g in_g) (get_or (lanes_of places f) i a) (get_or (lanes_of places g) j b)
                (fields_agree p 0 places f g f g (omega arith) (omega arith) lt h i a i_lt j b j_lt)
            | inr gt ↦ λ i a i_lt j b j_lt same. differ g f (writes_dest (get_or p.actions k d) g in_g) (writes_dest (get_or p.actions k d) f in_f) (get_or (lanes_of places g) j b) (get_or (lanes_of places f) i a)
                (fields_agree p 0 places g f g f (omega arith) (omega arith) gt h j b j_lt i a i_lt) (sym same)
          ]
    ]
  where
    differ : (f g : ℕ) → writes (get_or p.actions k d) f ≡ true → writes (get_or p.actions k d) g ≡ true → (a b : Lane) → Agree p (at f a) (at g b) → a.word ≢ b.word
    differ f g by_f by_g a b (inl ne) = ne
    differ f g by_f by_g a b (inr share) =
        absurd (false≢true (sym (share.not_together k d below) ∙ and_from (writes (get_or p.actions k d) f) (writes (get_or p.actions k d) g) by_f by_g))

-- what is packed keeps what places keep
pub packed_places : (p : Program) (places : List (List Lane)) → packing p ≡ Ok places → KeepsApart p places
packed_places p places e =
    let h = places_keep p p.fields 0 [] places (filled_nil p) e in
    record {
      cut = h.cut;
      within = h.within;
      no_overlap = no_overlap p places h.filled.agree;
      one_of_field = one_of_field p 0 places h.filled.agree;
      written_apart = written_apart p places h.filled.agree;
    }
