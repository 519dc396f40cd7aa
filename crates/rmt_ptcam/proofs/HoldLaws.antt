-- The extracts of a header put its fields into their lanes, and leave all else.
use Rattle.std.proofs.Common.{◌≡◌, ◌≢◌, ◌⊎◌, ℕ, zero, suc, ◌+◌, ◌*◌, ◌^◌, ◌<◌, ◌≤◌, List, [], ◌∷◌, ◌++◌, get_or, length, map, reverse, fold, refl, sym, ap, subst, ◌∙◌, inl, inr, arith}
use Rattle.std.specs.Prelude.{All, AllPairs, slice_index, slice_set}
use Rattle.std.specs.List.{flat_map}
use Rattle.std.proofs.lemmas.Bool.{cases_eq}
use Rattle.std.proofs.lemmas.List.{length-set, get_or-set_same, get_or-set_other, reverse-append}
use Rattle.std.proofs.lemmas.List.Sums.{fold-append}
use Rattle.std.proofs.lemmas.List.Elements.{All-head, All-tail, All-weaker}
use Rattle.rmt_bits.specs.Bits.{slice, deposit, bits_of_bytes}
use Rattle.rmt_bits.specs.declared.lane.Lane.{Lane}
use Rattle.rmt_bits.proofs.BitLaws.{slice-deposit_same, slice-deposit_above, slice-deposit_below}
use Rattle.rmt_bits.proofs.ByteLaws.{bits_of_bytes-add, bits_of_bytes-lt, bits_of_bytes_none}
use Rattle.rmt_ast.specs.Places.{lanes_of}
use Rattle.rmt_phv.specs.Places.{LiesInWord, AreApart}
use Rattle.rmt_config.specs.Agreement.{held_in, Holds}
use Rattle.rmt_ptcam.specs.Types.{Extract}
use Rattle.rmt_config.specs.declared.config.Extract.TheVariants.{Bits, One}
use Rattle.rmt_config.specs.LaneForm.{bits_of_lanes}
use Rattle.rmt_config.specs.Parser.{put, extracted}
use Rattle.rmt_ptcam.specs.Plain.{bits_from}
use Rattle.rmt_ptcam.proofs.PlainLaws.{bits_of_lanes-append, bits_of_lanes-reverse}
use Rattle.rmt_phv.proofs.LaneLaws.{fields_apart, lanes_all}
use Rattle.rmt_bits.proofs.PairLaws.{AllPairs-head, AllPairs-right, AllPairs-tail, AllPairs-left}

-- ---- one lane

-- a run of a word apart from a lane
abbrev pub IsAside : ℕ → ℕ → ℕ → Lane → Type 0
IsAside word at size l = (l.word ≢ word) ⊎ ((at + size ≤ l.low) ⊎ (l.low + l.len ≤ at))

module _ (v : List ℕ) (l : Lane) (x : ℕ) (long : length v ≡ 224) (lies : LiesInWord l) (fits : x < 2 ^ l.len) where
  pub put_reads : slice (slice_index (put v l x) l.word) l.low l.len ≡ x
  put_reads =
      let inside : l.word < length v = omega (arith, long, lies.exists) in
      ap (λ w. slice w l.low l.len) (get_or-set_same v l.word (deposit (slice_index v l.word) l.low l.len x) 0 inside)
      ∙ slice-deposit_same (slice_index v l.word) l.low l.len x fits

  in_word : (at size : ℕ) → (at + size ≤ l.low) ⊎ (l.low + l.len ≤ at) → slice (slice_index (put v l x) l.word) at size ≡ slice (slice_index v l.word) at size
  in_word at size aside =
      let inside : l.word < length v = omega (arith, long, lies.exists) in
      ap (λ w. slice w at size) (get_or-set_same v l.word (deposit (slice_index v l.word) l.low l.len x) 0 inside)
      ∙ elim aside [
        | inl below ↦ slice-deposit_below (slice_index v l.word) l.low l.len x at size fits below
        | inr above ↦ slice-deposit_above (slice_index v l.word) l.low l.len x at size fits above
      ]

  in_other : (word at size : ℕ) → l.word ≢ word → slice (slice_index (put v l x) word) at size ≡ slice (slice_index v word) at size
  in_other word at size other =
      ap (λ w. slice w at size) (get_or-set_other v l.word word (deposit (slice_index v l.word) l.low l.len x) 0 (λ e. other (sym e)))

  pub put_aside : (word at size : ℕ) → IsAside word at size l → slice (slice_index (put v l x) word) at size ≡ slice (slice_index v word) at size
  put_aside word at size aside = elim aside [
    | inl other ↦ in_other word at size other
    | inr apart ↦ elim (cases_eq l.word word) [
      | inl same ↦ subst (λ w. slice (slice_index (put v l x) w) at size ≡ slice (slice_index v w) at size) same (in_word at size apart)
      | inr other ↦ in_other word at size other
    ]
  ]

-- ---- the lanes of a field

-- lanes that hold what they held
pub held_same : (v w : List ℕ) (ls : List Lane) → All (λ (l : Lane). slice (slice_index w l.word) l.low l.len ≡ slice (slice_index v l.word) l.low l.len) ls → held_in w ls ≡ held_in v ls
held_same v w [] same = refl
held_same v w (l ∷ ls) same =
    ap (λ n. n + 2 ^ l.len * held_in w ls) (All-head (λ (m : Lane). slice (slice_index w m.word) m.low m.len ≡ slice (slice_index v m.word) m.low m.len) l ls same)
    ∙ ap (λ n. slice (slice_index v l.word) l.low l.len + 2 ^ l.len * n) (held_same v w ls (All-tail (λ (m : Lane). slice (slice_index w m.word) m.low m.len ≡ slice (slice_index v m.word) m.low m.len) l ls same))

-- a vector in which some lanes hold a value, and all else is as in another one
pub record IsPut (ls : List Lane) (value : ℕ) (v w : List ℕ) : Type 0 where
  pub whole : length w ≡ 224
  pub held : held_in w ls ≡ value
  pub others : (word at size : ℕ) → All (IsAside word at size) ls → slice (slice_index w word) at size ≡ slice (slice_index v word) at size

-- a bit is set
pub put_one : (ls : List Lane) (v window : List ℕ) → length v ≡ 224 → All LiesInWord ls → map (λ (l : Lane). l.len) ls ≡ 1 ∷ [] → IsPut ls 1 v (fold (extracted window) v (map One ls))
put_one [] v window long lie lens = absurd cc
put_one (l ∷ []) v window long lie lens =
    let one : l.len ≡ 1 = cc in
    let lies : LiesInWord l = All-head LiesInWord l [] lie in
    let fits : 1 < 2 ^ l.len = rw one (omega arith) in
    record {
      whole = length-set v l.word (deposit (slice_index v l.word) l.low l.len 1) ∙ long;
      held = ap (λ n. n + 2 ^ l.len * 0) (put_reads v l 1 long lies fits) ∙ (let e : 1 + 2 ^ l.len * 0 ≡ 1 = omega arith in e);
      others = λ word at size aside. put_aside v l 1 long lies fits word at size (All-head (IsAside word at size) l [] aside);
    }
put_one (l ∷ m ∷ ls) v window long lie lens = absurd cc

bits_from-append : (from : ℕ) (xs ys : List Lane) → bits_from from (xs ++ ys) ≡ bits_from from xs ++ bits_from (from + bits_of_lanes xs) ys
bits_from-append from [] ys = let e : from ≡ from + 0 = omega arith in ap (λ n. bits_from n ys) e
bits_from-append from (x ∷ xs) ys =
    let all = bits_of_lanes-append (x ∷ []) xs in
    let one : bits_of_lanes (x ∷ []) ≡ x.len = omega arith in
    let same : from + x.len + bits_of_lanes xs ≡ from + bits_of_lanes (x ∷ xs) = omega (arith, all, one) in
    ap (λ (es : List Extract). Bits from x ∷ es) (bits_from-append (from + x.len) xs ys)
    ∙ ap (λ n. Bits from x ∷ (bits_from (from + x.len) xs ++ bits_from n ys)) same

pub after_lanes : (window v : List ℕ) (from : ℕ) (xs ys : List Lane)
    → fold (extracted window) v (bits_from from (xs ++ ys)) ≡ fold (extracted window) (fold (extracted window) v (bits_from from xs)) (bits_from (from + bits_of_lanes xs) ys)
after_lanes window v from xs ys =
    ap (fold (extracted window) v) (bits_from-append from xs ys) ∙ fold-append (extracted window) v (bits_from from xs) (bits_from (from + bits_of_lanes xs) ys)

-- two lanes apart, as runs
pub aside_from : (a b : Lane) → AreApart a b → IsAside b.word b.low b.len a
aside_from a b apart = elim apart [
  | inl words ↦ inl words
  | inr places ↦ elim places [ inl before ↦ inr (inr before) | inr behind ↦ inr (inl behind) ]
]

-- bits are put, the high piece first
pub put_bits : (ls : List Lane) (v window : List ℕ) (from : ℕ) → length v ≡ 224 → All LiesInWord ls → AllPairs AreApart ls → from + bits_of_lanes ls ≤ 8 * length window
    → IsPut ls (bits_of_bytes window from (bits_of_lanes ls)) v (fold (extracted window) v (bits_from from (reverse ls)))
put_bits [] v window from long lie apart within = record { whole = long; held = sym (bits_of_bytes_none window from); others = λ word at size aside. refl }
put_bits (l ∷ ls) v window from long lie apart within =
    let lies : LiesInWord l = All-head LiesInWord l ls lie in
    let some = bits_of_lanes-append (l ∷ []) ls in
    let one : bits_of_lanes (l ∷ []) ≡ l.len = omega arith in
    let all : bits_of_lanes (l ∷ ls) ≡ bits_of_lanes ls + l.len = omega (arith, some, one) in
    let high : IsPut ls (bits_of_bytes window from (bits_of_lanes ls)) v (fold (extracted window) v (bits_from from (reverse ls))) =
    put_bits ls v window from long (All-tail LiesInWord l ls lie) (AllPairs-tail AreApart l ls apart) (omega (arith, within, all)) in
    let w : List ℕ = fold (extracted window) v (bits_from from (reverse ls)) in
    let x : ℕ = bits_of_bytes window (from + bits_of_lanes ls) l.len in
    let fits : x < 2 ^ l.len = bits_of_bytes-lt window (from + bits_of_lanes ls) l.len in
    let order : fold (extracted window) v (bits_from from (reverse (l ∷ ls))) ≡ put w l x =
    ap (λ (ms : List Lane). fold (extracted window) v (bits_from from ms)) (reverse-append (l ∷ []) ls) ∙ after_lanes window v from (reverse ls) (l ∷ [])
    ∙ ap (λ n. put w l (bits_of_bytes window (from + n) l.len)) (bits_of_lanes-reverse ls) in
    let kept : held_in (put w l x) ls ≡ held_in w ls =
    held_same w (put w l x) ls (All-weaker (AreApart l) (λ (m : Lane). slice (slice_index (put w l x) m.word) m.low m.len ≡ slice (slice_index w m.word) m.low m.len)
    (λ (m : Lane) aside. put_aside w l x high.whole lies fits m.word m.low m.len (aside_from l m aside)) ls (AllPairs-head AreApart l ls apart)) in
    let value : held_in (put w l x) (l ∷ ls) ≡ bits_of_bytes window from (bits_of_lanes (l ∷ ls)) =
    ap (λ n. n + 2 ^ l.len * held_in (put w l x) ls) (put_reads w l x high.whole lies fits) ∙ ap (λ n. x + 2 ^ l.len * n) (kept ∙ high.held)
    ∙ (let e : x + 2 ^ l.len * bits_of_bytes window from (bits_of_lanes ls) ≡ bits_of_bytes window from (bits_of_lanes ls) * 2 ^ l.len + x = omega arith in e)
    ∙ sym (bits_of_bytes-add window from (bits_of_lanes ls) l.len (omega (arith, within, all))) ∙ ap (bits_of_bytes window from) (sym all) in
    subst (IsPut (l ∷ ls) (bits_of_bytes window from (bits_of_lanes (l ∷ ls))) v) (sym order) (record {
      whole = length-set w l.word (deposit (slice_index w l.word) l.low l.len x) ∙ high.whole;
      held = value;
      others = λ word at size aside.
          put_aside w l x high.whole lies fits word at size (All-head (IsAside word at size) l ls aside) ∙ high.others word at size (All-tail (IsAside word at size) l ls aside);
    })

-- ---- the lanes of all fields

abbrev flat : List (List Lane) → List Lane
flat places = flat_map (λ (ls : List Lane). ls) places

pub lanes_apart : (places : List (List Lane)) (f : ℕ) → AllPairs AreApart (flat places) → AllPairs AreApart (lanes_of places f)
lanes_apart [] f apart = λ i j d lt below. absurd (omega (arith, below))
lanes_apart (ls ∷ places) zero apart = AllPairs-left AreApart ls (flat places) apart
lanes_apart (ls ∷ places) (suc f) apart = lanes_apart places f (AllPairs-right AreApart ls (flat places) apart)

aside_bit : (word bit : ℕ) (l : Lane) → (l.word ≢ word) ⊎ ((bit < l.low) ⊎ (l.low + l.len ≤ bit)) → IsAside word bit 1 l
aside_bit word bit l out = elim out [
  | inl words ↦ inl words
  | inr places ↦ elim places [ inl before ↦ inr (inl (omega (arith, before))) | inr behind ↦ inr (inr behind) ]
]

-- a field is put, and the state has its value
pub holds_put : (places : List (List Lane)) (s v w : List ℕ) (f value : ℕ) → AllPairs AreApart (flat places) → f < length s → Holds places s v → IsPut (lanes_of places f) value v w
    → Holds places (slice_set s f value) w
holds_put places s v w f value apart lt holds is = record {
  whole = is.whole;
  fields = λ g. elim (cases_eq f g) [
    | inl same ↦ subst (λ k. held_in w (lanes_of places k) ≡ slice_index (slice_set s f value) k) same (is.held ∙ sym (get_or-set_same s f value 0 lt))
    | inr other ↦
        held_same v w (lanes_of places g)
        (λ j e below. is.others (get_or (lanes_of places g) j e).word (get_or (lanes_of places g) j e).low (get_or (lanes_of places g) j e).len
        (λ i d l. aside_from (get_or (lanes_of places f) i d) (get_or (lanes_of places g) j e) (fields_apart places f g apart other i d l j e below)))
        ∙ holds.fields g ∙ sym (get_or-set_other s f g value 0 (λ e. other (sym e)))
  ];
  others = λ word bit free.
      is.others word bit 1
      (lanes_all (IsAside word bit 1) places f
      (All-weaker (λ (l : Lane). (l.word ≢ word) ⊎ ((bit < l.low) ⊎ (l.low + l.len ≤ bit))) (IsAside word bit 1) (λ (l : Lane) out. aside_bit word bit l out) (flat places) free))
      ∙ holds.others word bit free;
}
