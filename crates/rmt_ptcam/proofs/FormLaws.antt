-- The plain parser keeps the rules of form of entries and tails.
use Rattle.std.proofs.Common.{◌≡◌, ℕ, zero, suc, ◌+◌, ◌*◌, ◌^◌, ◌-◌, ◌<◌, ◌≤◌, true, List, [], ◌∷◌, ◌++◌, get_or, length, map, reverse, Option, Some, None, refl, sym, ap, subst, ◌∙◌, append_assoc, inl, inr, arith}
use Rattle.std.specs.Prelude.{All, IfSome, nat_le, slice_get}
use Rattle.std.specs.List.{range_with_len}
use Rattle.std.specs.List.Sorted.{IsNonDecreasingBy}
use Rattle.std.proofs.lemmas.Bool.{and_from, cases_lt, lt-ltb, le-leb}
use Rattle.std.proofs.lemmas.List.{length-append, length-map, get_or_append_left, get_or-append_right}
use Rattle.std.proofs.lemmas.List.Elements.{All-nil, All-cons, All-head, All-tail, All-append, All-contains, All-map, All-weaker}
use Rattle.std.proofs.lemmas.List.FromFn.{length-range_with_len}
use Rattle.std.proofs.lemmas.List.Sums.{sum_by-cons}
use Rattle.std.proofs.lemmas.Option.{slice_get-get_or}
use Rattle.rmt_bits.specs.Words.{word_size}
use Rattle.rmt_bits.specs.declared.lane.Lane.{Lane}
use Rattle.rmt_bits.proofs.AllLaws.{All-flat_map, All-reverse, All-between}
use Rattle.rmt_bits.proofs.ListLaws.{slice_get-front, slice_get-end}
use Rattle.rmt_ptcam.specs.Types.{Program, Header, Tail, Target, ParserConfig, ParserEntry, TailOf}
use Rattle.rmt_ast.specs.State.{width_of}
use Rattle.rmt_ast.specs.WellFormed.{IsProgram, IsHeader, IsTail, bits_of}
use Rattle.rmt_phv.specs.Packing.{pieces}
use Rattle.rmt_phv.specs.Places.{LiesInWord, high_first}
use Rattle.rmt_config.specs.declared.config.Extract.TheVariants.{Bits, One}
use Rattle.rmt_config.specs.Order.{rises_from}
use Rattle.rmt_config.specs.ParserForm.{extract_is_formed}
use Rattle.rmt_config.specs.TailForm.{is_tail_of}
use Rattle.rmt_config.specs.LaneForm.{lane_is_formed, bits_of_lanes}
use Rattle.rmt_ast.specs.Places.{lanes_of}
use Rattle.rmt_ptcam.specs.Fitting.{IsEntry, IsTailOf, IsParser}
use Rattle.rmt_phv.specs.Places.{KeepsApart}
use Rattle.rmt_ptcam.specs.Needs.{entries_in, entry_count}
use Rattle.rmt_ptcam.specs.Plain.{bits_from, extracts_of, entry_to, entry_of_case, entries_of, entries_from, tail_at, tails_for, tails_from, plain}
use Rattle.rmt_ptcam.proofs.FieldLaws.{owns_fields}
use Rattle.rmt_ptcam.proofs.TailForms.{rises_before, rises_least, rises_sorted, tail_from, tail_runs}
use Rattle.rmt_ptcam.proofs.PlainLaws.{bits_of_lanes-append, lanes_bits, place_within}
use Rattle.rmt_bits.proofs.WordLaws.{word_size-le}
use Rattle.rmt_phv.proofs.LaneLaws.{lanes_cut, lanes_lie}
use Rattle.rmt_phv.proofs.FieldCount.{has_bits}

-- ---- lists that stand by a number

module _ {X : Type 0} (f : X → ℕ) where
  pub sorted-append : (xs ys : List X) (m : ℕ) → All (λ x. f x ≤ m) xs → All (λ y. m ≤ f y) ys → IsNonDecreasingBy f xs → IsNonDecreasingBy f ys → IsNonDecreasingBy f (xs ++ ys)
  sorted-append xs ys m below above sx sy i j d le lt =
      let total = length-append xs ys in
      elim (cases_lt j (length xs)) [
        | inl front ↦
            let i_front : i < length xs = omega (arith, le, front) in
            subst (λ x. f x ≤ f (get_or (xs ++ ys) j d)) (sym (get_or_append_left xs ys d i i_front))
            (subst (λ y. f (get_or xs i d) ≤ f y) (sym (get_or_append_left xs ys d j front)) (sx i j d le front))
        | inr behind ↦
            let j_inside : j - length xs < length ys = omega (arith, behind, total, lt) in
            let right : get_or (xs ++ ys) j d ≡ get_or ys (j - length xs) d = get_or-append_right xs ys (length xs) j d refl behind in
            elim (cases_lt i (length xs)) [
              | inl front ↦
                  let a = below i d front in
                  let b = above (j - length xs) d j_inside in
                  subst (λ x. f x ≤ f (get_or (xs ++ ys) j d)) (sym (get_or_append_left xs ys d i front))
                  (subst (λ y. f (get_or xs i d) ≤ f y) (sym right) (omega (arith, a, b)))
              | inr far ↦
                  subst (λ x. f x ≤ f (get_or (xs ++ ys) j d)) (sym (get_or-append_right xs ys (length xs) i d refl far))
                  (subst (λ y. f (get_or ys (i - length xs) d) ≤ f y) (sym right) (sy (i - length xs) (j - length xs) d (omega (arith, le, far, behind)) j_inside))
            ]
      ]

  pub sorted-same : (xs : List X) (m : ℕ) → All (λ x. f x ≡ m) xs → IsNonDecreasingBy f xs
  sorted-same xs m same i j d le lt = let a = same i d (omega (arith, le, lt)) in let b = same j d lt in omega (arith, a, b)

-- ---- extracts

pub in_order_lie : (p : Program) (places : List (List Lane)) (fs : List ℕ) → KeepsApart p places → All LiesInWord (high_first places fs)
in_order_lie p places fs keeps =
    All-flat_map LiesInWord (λ f. reverse (lanes_of places f)) fs (λ k d lt. All-reverse LiesInWord (lanes_of places (get_or fs k d)) (lanes_lie p places (get_or fs k d) keeps))

pub lane_formed : (l : Lane) → LiesInWord l → lane_is_formed l ≡ true
lane_formed l lies =
    let small = word_size-le l.word in
    rw (lt-ltb l.word 224 lies.exists, le-leb 1 l.len lies.has_bits, le-leb l.len 32 (omega (arith, small, lies.within)), le-leb (l.low + l.len) (word_size l.word) lies.within) refl

bits_formed : (need from : ℕ) (lanes : List Lane) → need ≤ 64 → All LiesInWord lanes → from + bits_of_lanes lanes ≤ 8 * need → All (λ x. extract_is_formed need x ≡ true) (bits_from from lanes)
bits_formed need from [] few lie within = All-nil (λ x. extract_is_formed need x ≡ true)
bits_formed need from (l ∷ ls) few lie within =
    let all = bits_of_lanes-append (l ∷ []) ls in
    let one : bits_of_lanes (l ∷ []) ≡ l.len = omega arith in
    All-cons (λ x. extract_is_formed need x ≡ true) (Bits from l) (bits_from (from + l.len) ls)
    (rw (lt-ltb from 65536 (omega (arith, all, one, within, few)), lane_formed l (All-head LiesInWord l ls lie), le-leb (from + l.len) (8 * need) (omega (arith, all, one, within))) refl)
    (bits_formed need (from + l.len) ls few (All-tail LiesInWord l ls lie) (omega (arith, all, one, within)))

all_ones : (ls : List Lane) → map (λ (l : Lane). l.len) ls ≡ 1 ∷ [] → All (λ (l : Lane). l.len ≡ 1) ls
all_ones [] e = All-nil (λ (l : Lane). l.len ≡ 1)
all_ones (l ∷ []) e = All-cons (λ (m : Lane). m.len ≡ 1) l [] (let one : l.len ≡ 1 = cc in one) (All-nil (λ (m : Lane). m.len ≡ 1))
all_ones (l ∷ m ∷ ls) e = absurd cc

ones_formed : (need : ℕ) (lanes : List Lane) → All LiesInWord lanes → All (λ (l : Lane). l.len ≡ 1) lanes → All (λ x. extract_is_formed need x ≡ true) (map One lanes)
ones_formed need lanes lie one =
    All-map (λ x. extract_is_formed need x ≡ true) One lanes (λ k d lt. rw (lane_formed (get_or lanes k d) (lie k d lt), one k d lt) refl)

-- the extracts of a header find their bits in its bytes
pub header_formed : (p : Program) (places : List (List Lane)) (n : ℕ) (h : Header) → KeepsApart p places → IsHeader p n h → All (λ x. extract_is_formed h.bytes x ≡ true) (extracts_of places h)
header_formed p places n h keeps good =
    All-append (λ x. extract_is_formed h.bytes x ≡ true) (map One (lanes_of places h.valid)) (bits_from 0 (high_first places h.fields))
    (ones_formed h.bytes (lanes_of places h.valid) (lanes_lie p places h.valid keeps) (all_ones (lanes_of places h.valid) (lanes_cut p places h.valid keeps.cut ∙ ap pieces good.valid)))
    (bits_formed h.bytes 0 (high_first places h.fields) good.is_not_long (in_order_lie p places h.fields keeps)
    (let bits = lanes_bits p places h.fields keeps in omega (arith, bits, good.whole_bytes)))

-- ---- entries

module _ (p : Program) (places : List (List Lane)) where
  -- what holds of each entry of a header
  pub of_header : (P : ParserEntry → Type 0) (n : ℕ) (h : Header) → ((value mask : ℕ) (t : Target) → P (entry_to places n h value mask t)) → All P (entries_of p places n h)
  of_header P n h each =
      All-append P (map (entry_of_case p places n h) h.cases) (entry_to places n h 0 0 h.other ∷ [])
      (All-map P (entry_of_case p places n h) h.cases (λ k d lt. each _ _ _))
      (All-cons P (entry_to places n h 0 0 h.other) [] (each 0 0 h.other) (All-nil P))

  pub length-entries_of : (n : ℕ) (h : Header) → length (entries_of p places n h) ≡ entry_count h
  length-entries_of n h = length-append (map (entry_of_case p places n h) h.cases) _ ∙ ap (λ k. k + 1) (length-map h.cases _)

  states_from : (n : ℕ) (hs : List Header) → All (λ (e : ParserEntry). n ≤ e.state) (entries_from p places n hs)
  states_from n [] = All-nil (λ (e : ParserEntry). n ≤ e.state)
  states_from n (h ∷ hs) =
      All-append (λ (e : ParserEntry). n ≤ e.state) (entries_of p places n h) (entries_from p places (n + 1) hs)
      (of_header (λ (e : ParserEntry). n ≤ e.state) n h (λ v m t. omega arith))
      (All-weaker (λ (e : ParserEntry). n + 1 ≤ e.state) (λ (e : ParserEntry). n ≤ e.state) (λ e more. omega (arith, more)) (entries_from p places (n + 1) hs) (states_from (n + 1) hs))

  pub by_state : (n : ℕ) (hs : List Header) → IsNonDecreasingBy (λ (e : ParserEntry). e.state) (entries_from p places n hs)
  by_state n [] = λ i j d le lt. absurd (omega (arith, lt))
  by_state n (h ∷ hs) =
      sorted-append (λ (e : ParserEntry). e.state) (entries_of p places n h) (entries_from p places (n + 1) hs) n
      (of_header (λ (e : ParserEntry). e.state ≤ n) n h (λ v m t. omega arith))
      (All-weaker (λ (e : ParserEntry). n + 1 ≤ e.state) (λ (e : ParserEntry). n ≤ e.state) (λ e more. omega (arith, more)) (entries_from p places (n + 1) hs) (states_from (n + 1) hs))
      (sorted-same (λ (e : ParserEntry). e.state) (entries_of p places n h) n (of_header (λ (e : ParserEntry). e.state ≡ n) n h (λ v m t. refl)))
      (by_state (n + 1) hs)

  pub entries_are : (n : ℕ) (hs : List Header) → All (λ (h : Header). All (λ x. extract_is_formed h.bytes x ≡ true) (extracts_of places h)) hs → All IsEntry (entries_from p places n hs)
  entries_are n [] formed = All-nil IsEntry
  entries_are n (h ∷ hs) formed =
      All-append IsEntry (entries_of p places n h) (entries_from p places (n + 1) hs)
      (of_header IsEntry n h (λ v m t. record { advance = omega arith; extracts = All-head (λ (x : Header). All (λ e. extract_is_formed x.bytes e ≡ true) (extracts_of places x)) h hs formed }))
      (entries_are (n + 1) hs (All-tail (λ (x : Header). All (λ e. extract_is_formed x.bytes e ≡ true) (extracts_of places x)) h hs formed))

-- ---- tails

module _ (p : Program) where
  rises_range : (n : ℕ) (h : Header) (t : Tail) (a c : ℕ) (rest : List TailOf) → rises_from (a + c) (map (λ (x : TailOf). x.entry) rest) ≡ true
      → rises_from a (map (λ (x : TailOf). x.entry) (map (tail_at p n h t) (range_with_len a c) ++ rest)) ≡ true
  rises_range n h t a zero rest is = let none : a + 0 ≡ a = omega arith in subst (λ k. rises_from k (map (λ (x : TailOf). x.entry) rest) ≡ true) none is
  rises_range n h t a (suc c) rest is =
      let one : a + suc c ≡ a + 1 + c = omega arith in
      and_from (nat_le a a) (rises_from (a + 1) (map (λ (x : TailOf). x.entry) (map (tail_at p n h t) (range_with_len (a + 1) c) ++ rest))) (le-leb a a (omega arith))
      (rises_range n h t (a + 1) c rest (subst (λ k. rises_from k (map (λ (x : TailOf). x.entry) rest) ≡ true) one is))

  tails_for_all : (P : TailOf → Type 0) (n : ℕ) (h : Header) (a : ℕ) (o : Option Tail) → ((t : Tail) → o ≡ Some t → All P (map (tail_at p n h t) (range_with_len a (entry_count h)))) → All P (tails_for p n h a o)
  tails_for_all P n h a None each = All-nil P
  tails_for_all P n h a (Some t) each = each t refl

  -- they rise
  pub plain_rises : (n a : ℕ) (hs : List Header) → rises_from a (map (λ (x : TailOf). x.entry) (tails_from p n a hs)) ≡ true
  plain_rises n a [] = refl
  plain_rises n a (h ∷ hs) = by h.tail (plain_rises (n + 1) (a + entry_count h) hs)
    where
      by : (o : Option Tail) → rises_from (a + entry_count h) (map (λ (x : TailOf). x.entry) (tails_from p (n + 1) (a + entry_count h) hs)) ≡ true
          → rises_from a (map (λ (x : TailOf). x.entry) (tails_for p n h a o ++ tails_from p (n + 1) (a + entry_count h) hs)) ≡ true
      by None rest = rises_before a (a + entry_count h) (map (λ (x : TailOf). x.entry) (tails_from p (n + 1) (a + entry_count h) hs)) (omega arith) rest
      by (Some t) rest = rises_range n h t a (entry_count h) (tails_from p (n + 1) (a + entry_count h) hs) rest

  pub tails_least : (n a : ℕ) (hs : List Header) → All (λ (x : TailOf). a ≤ x.entry) (tails_from p n a hs)
  tails_least n a hs = rises_least (λ (x : TailOf). x.entry) a (tails_from p n a hs) (plain_rises n a hs)

  -- they are no more than the entries
  pub plain_few : (n a : ℕ) (hs : List Header) → length (tails_from p n a hs) ≤ entries_in hs
  plain_few n a [] = omega arith
  plain_few n a (h ∷ hs) =
      let rest = plain_few (n + 1) (a + entry_count h) hs in
      let both = length-append (tails_for p n h a h.tail) (tails_from p (n + 1) (a + entry_count h) hs) in
      let all = sum_by-cons entry_count h hs in
      let here = by h.tail in
      omega (arith, rest, both, all, here)
    where
      by : (o : Option Tail) → length (tails_for p n h a o) ≤ entry_count h
      by None = omega arith
      by (Some t) = let one = length-map (range_with_len a (entry_count h)) (tail_at p n h t) in let two = length-range_with_len a (entry_count h) in omega (arith, one, two)

-- a header whose tail is told by a field of its own
pub record HasTail (p : Program) (h : Header) : Type 0 where
  pub tail : IfSome h.tail (IsTail p h.fields)
  pub whole : bits_of p h.fields ≡ 8 * h.bytes
  pub bits : All (λ f. 1 ≤ width_of p f) h.fields

pub tail_of_header : (p : Program) (h : Header) (t : Tail) (o : Option Tail) → o ≡ Some t → IfSome o (IsTail p h.fields) → IsTail p h.fields t
tail_of_header p h t None e told = absurd cc
tail_of_header p h t (Some u) e told = let same : u ≡ t = cc in subst (IsTail p h.fields) same told

-- it needs the header's bytes, and moves behind them
abbrev IsWhole : Header → ParserEntry → Type 0
IsWhole h e = (e.need ≡ h.bytes) × (e.advance ≡ h.bytes)

module _ (p : Program) (places : List (List Lane)) (parser : ParserConfig) where
  abbrev IsFormedTail : TailOf → Type 0
  IsFormedTail t = is_tail_of t (slice_get parser.entries t.entry) ≡ true

  -- the entries of a header stand behind those before it
  whole_at : (n a w : ℕ) (front rest : List ParserEntry) (h : Header) → parser.entries ≡ front ++ (entries_of p places n h ++ rest) → length front ≡ a → a ≤ w → w < a + entry_count h
      → (e : ParserEntry) × (slice_get parser.entries w ≡ Some e) × IsWhole h e
  whole_at n a w front rest h all long from lt =
      let k = w - a in
      let at : length front + k ≡ w = omega (arith, long, from) in
      let count = length-entries_of p places n h in
      let inside : k < length (entries_of p places n h) = omega (arith, count, from, lt) in
      let d = entry_to places n h 0 0 h.other in
      let e = get_or (entries_of p places n h) k d in
      let found : slice_get parser.entries w ≡ Some e =
      ap (λ (es : List ParserEntry). slice_get es w) all ∙ ap (slice_get (front ++ (entries_of p places n h ++ rest))) (sym at)
      ∙ slice_get-end front (entries_of p places n h ++ rest) k ∙ slice_get-front (entries_of p places n h) rest k inside
      ∙ slice_get-get_or (entries_of p places n h) k d inside in
      (e, found, of_header p places (IsWhole h) n h (λ v m t. (refl, refl)) k d inside)

  pub plain_tails : (n a : ℕ) (front : List ParserEntry) (hs : List Header) → parser.entries ≡ front ++ entries_from p places n hs → length front ≡ a → n + length hs ≤ 64 → All (HasTail p) hs
      → All IsFormedTail (tails_from p n a hs)
  plain_tails n a front [] all long few told = All-nil IsFormedTail
  plain_tails n a front (h ∷ hs) all long few told =
      let this : HasTail p h = All-head (HasTail p) h hs told in
      let rest = entries_from p places (n + 1) hs in
      let count = length-entries_of p places n h in
      let parts = length-append front (entries_of p places n h) in
      All-append IsFormedTail (tails_for p n h a h.tail) (tails_from p (n + 1) (a + entry_count h) hs)
      (tails_for_all p IsFormedTail n h a h.tail (λ t is.
      let it : IsTail p h.fields t = tail_of_header p h t h.tail is this.tail in
      All-map IsFormedTail (tail_at p n h t) (range_with_len a (entry_count h))
      (All-between (λ w. IsFormedTail (tail_at p n h t w)) a (entry_count h) (λ w from lt.
      formed_at n h t this it (omega (arith, few)) w (whole_at n a w front rest h all long from lt)))))
      (plain_tails (n + 1) (a + entry_count h) (front ++ entries_of p places n h) hs (all ∙ sym (append_assoc front (entries_of p places n h) rest)) (omega (arith, parts, count, long)) (omega (arith, few)) (All-tail (HasTail p) h hs told))
    where
      formed_at : (n : ℕ) (h : Header) (t : Tail) → HasTail p h → IsTail p h.fields t → n < 64 → (w : ℕ) → (e : ParserEntry) × (slice_get parser.entries w ≡ Some e) × IsWhole h e → IsFormedTail (tail_at p n h t w)
      formed_at n h t this it few w there =
          let e : ParserEntry = there.0 in
          let within = place_within p h.fields t.field it.own in
          let whole : IsWhole h e = there.2 in
          let unit = it.unit in
          let base = it.base in
          subst (λ (o : Option ParserEntry). is_tail_of (tail_at p n h t w) o ≡ true) (sym there.1)
          (tail_from e (tail_at p n h t w) (record {
            header = few;
            some_bits = All-contains (λ f. 1 ≤ width_of p f) h.fields t.field this.bits it.own;
            few_bits = it.narrow;
            within = omega (arith, within, this.whole, whole.0);
            some_unit = it.has_unit;
            small_unit = omega (arith, unit);
            small_base = omega (arith, base);
            greatest =
                and_from (nat_le t.base ((2 ^ width_of p t.field - 1) * t.unit)) (nat_le ((2 ^ width_of p t.field - 1) * t.unit) (t.base + 64))
                (le-leb t.base ((2 ^ width_of p t.field - 1) * t.unit) it.reaches) (le-leb ((2 ^ width_of p t.field - 1) * t.unit) (t.base + 64) it.is_not_long);
            moves = whole.1 ∙ sym whole.0;
          }))

-- what holds of each header and its number holds of all
all_numbered : (P : Header → Type 0) (hs : List Header) → ((n : ℕ) (h : Header) → slice_get hs n ≡ Some h → P h) → All P hs
all_numbered P hs h k d lt = h k (get_or hs k d) (slice_get-get_or hs k d lt)

module _ (p : Program) (places : List (List Lane)) (good : IsProgram p) (keeps : KeepsApart p places) where
  pub plain_tails_formed : All (λ (t : TailOf). is_tail_of t (slice_get (plain p places).entries t.entry) ≡ true) (plain p places).tails
  plain_tails_formed =
      plain_tails p places (plain p places) 0 0 [] p.headers refl refl (omega (arith, good.counts.headers))
      (all_numbered (HasTail p) p.headers (λ n h is.
      let this = good.headers n h is in
      record {
        tail = this.tail;
        whole = this.whole_bytes;
        bits = All-weaker (λ f. f < length p.fields) (λ f. 1 ≤ width_of p f) (has_bits p good.fields) h.fields (owns_fields p n h good.fields is).there;
      }))

  -- the plain parser is one that the chip can run
  pub plain_is_parser : IsParser (plain p places)
  plain_is_parser = record {
    by_state = by_state p places 0 p.headers;
    entries =
        entries_are p places 0 p.headers
        (all_numbered (λ (h : Header). All (λ x. extract_is_formed h.bytes x ≡ true) (extracts_of places h)) p.headers (λ n h is. header_formed p places n h keeps (good.headers n h is)));
    by_entry = rises_sorted (λ (t : TailOf). t.entry) 0 (plain p places).tails (plain_rises p 0 0 p.headers);
    tails =
        All-weaker (λ (t : TailOf). is_tail_of t (slice_get (plain p places).entries t.entry) ≡ true) (IsTailOf (plain p places)) (tail_runs (plain p places)) (plain p places).tails
        plain_tails_formed;
  }
