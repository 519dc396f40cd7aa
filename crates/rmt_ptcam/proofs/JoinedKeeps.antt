-- The rows of a joined parser, and what joining gives.
use Rattle.std.proofs.Common.{◌≡◌, ◌≢◌, ◌&&◌, cond, eqb, nat_lt, Bool, true, false, ℕ, ◌+◌, ◌-◌, ◌*◌, ◌%◌, ◌^◌, ◌<◌, ◌≤◌, List, [], ◌∷◌, ◌++◌, get_or, length, map, Option, Some, None, refl, sym, ap, subst, ◌∙◌, arith}
use Rattle.std.specs.Prelude.{All, IfSome, nat_le, option_map, slice_get, unwrap_or}
use Rattle.std.specs.List.{list_all}
use Rattle.std.specs.List.Sorted.{IsNonDecreasingBy}
use Rattle.std.proofs.lemmas.Bool.{and_parts, and_from, lt-ltb, le-leb, ltb-true, leb-true, eqb-true, eqb-false}
use Rattle.std.proofs.lemmas.List.{get_or-take, get_or-drop, get_or-map, length-append, length-drop, length-map, length-set, length-take}
use Rattle.std.proofs.lemmas.List.Elements.{All-nil, All-cons, All-append, All-drop, All-head, All-map, All-set, All-tail, All-take, All-weaker}
use Rattle.std.proofs.lemmas.List.Folds.{list_all-append, list_all-map}
use Rattle.std.proofs.lemmas.Option.{get_or_from_slice_get, slice_get_within}
use Rattle.rmt_config.specs.Order.{rises_from}
use Rattle.rmt_config.specs.Parser.{tail_of}
use Rattle.rmt_ptcam.specs.Types.{ParserConfig, ParserState, ParserEntry, Next, Extract, TailOf}
use Rattle.rmt_config.specs.declared.config.Extract.TheVariants.{Bits, One}
use Rattle.rmt_config.specs.declared.config.Next.TheVariants as next
use Rattle.rmt_config.specs.LaneForm.{lane_is_formed}
use Rattle.rmt_config.specs.ParserForm.{extract_is_formed, lookups_of, next_is_formed, state_is_formed}
use Rattle.rmt_ptcam.specs.Joining.{KeepsForm, Row, entries_in, joined, moved, rows_of, widened_entry}
use Rattle.rmt_ptcam.specs.Words.{both, byte_at, entry_of_both, spread, spread_entry}
use Rattle.rmt_ptcam.proofs.TestLaws.{joined_is, widened_is}
use Rattle.rmt_ptcam.proofs.AddingLaws.{length_rows, row_of}
use Rattle.rmt_ptcam.proofs.FormLaws.{sorted-append, sorted-same}
use Rattle.rmt_ptcam.proofs.FormedRows.{IsFormed, IsRow, entries_of_rows, rows_are}
use Rattle.rmt_ptcam.proofs.TailForms.{IsRowTail, other_tail}
use Rattle.rmt_ptcam.proofs.JoinFacts.{MayJoin, RiseLow, are_joined, entry_compares, lookups_formed, rows_in_entries}
use Rattle.rmt_ptcam.proofs.JoinParts.{JoinParts, join_parts}
use Rattle.rmt_ptcam.proofs.JoinedForm.{made_keeps}
use Rattle.rmt_ptcam.proofs.JoinedParse.{formed_e, get_set_same, next_there, second_formed, second_own}
use Rattle.rmt_ptcam.proofs.LookupLaws.{Compares, byte_small, compares_at, compares_by}
use Rattle.rmt_ptcam.proofs.TogetherLaws.{both_compares, few_here, list_all_below, together_low, together_rises}
use Rattle.rmt_bits.proofs.ListLaws.{slice_get-set_other}

-- ---- extracts of a joined entry

wider_extract : (need more : ℕ) (x : Extract) → need ≤ more → extract_is_formed need x ≡ true → extract_is_formed more x ≡ true
wider_extract need more (One lane) le is = is
wider_extract need more (Bits from lane) le is =
    let a : ((nat_lt from 65536 && lane_is_formed lane) ≡ true) × (nat_le (from + lane.len) (8 * need) ≡ true) = and_parts (nat_lt from 65536 && lane_is_formed lane) (nat_le (from + lane.len) (8 * need)) is in
    let within : from + lane.len ≤ 8 * need = leb-true (from + lane.len) (8 * need) a.1 in
    and_from (nat_lt from 65536 && lane_is_formed lane) (nat_le (from + lane.len) (8 * more)) a.0 (le-leb (from + lane.len) (8 * more) (omega (arith, within, le)))

moved_extract : (bytes need more : ℕ) (x : Extract) → bytes + need ≤ more → more ≤ 128 → extract_is_formed need x ≡ true → extract_is_formed more (moved bytes x) ≡ true
moved_extract bytes need more (One lane) le few is = is
moved_extract bytes need more (Bits from lane) le few is =
    let a : ((nat_lt from 65536 && lane_is_formed lane) ≡ true) × (nat_le (from + lane.len) (8 * need) ≡ true) = and_parts (nat_lt from 65536 && lane_is_formed lane) (nat_le (from + lane.len) (8 * need)) is in
    let b : (nat_lt from 65536 ≡ true) × (lane_is_formed lane ≡ true) = and_parts (nat_lt from 65536) (lane_is_formed lane) a.0 in
    let within : from + lane.len ≤ 8 * need = leb-true (from + lane.len) (8 * need) a.1 in
    and_from (nat_lt (from + 8 * bytes) 65536 && lane_is_formed lane) (nat_le (from + 8 * bytes + lane.len) (8 * more))
    (and_from (nat_lt (from + 8 * bytes) 65536) (lane_is_formed lane) (lt-ltb (from + 8 * bytes) 65536 (omega (arith, within, le, few))) b.1)
    (le-leb (from + 8 * bytes + lane.len) (8 * more) (omega (arith, within, le)))

all_from : {X : Type 0} (p q : X → Bool) (xs : List X) → ((x : X) → p x ≡ true → q x ≡ true) → list_all p xs ≡ true → list_all q xs ≡ true
all_from p q [] each is = refl
all_from p q (x ∷ xs) each is =
    let parts : (p x ≡ true) × (list_all p xs ≡ true) = and_parts (p x) (list_all p xs) is in
    and_from (q x) (list_all q xs) (each x parts.0) (all_from p q xs each parts.1)

-- a next state that is behind a later one is behind an earlier one
earlier_next : (states first second : ℕ) (to : Next) → first < second → next_is_formed states second to ≡ true → next_is_formed states first to ≡ true
earlier_next states first second next.Accept lt is = refl
earlier_next states first second next.Reject lt is = refl
earlier_next states first second (next.State s) lt is =
    let a : ((nat_lt s states && nat_lt s 256) ≡ true) × (nat_lt second s ≡ true) = and_parts (nat_lt s states && nat_lt s 256) (nat_lt second s) is in
    let behind : second < s = ltb-true second s a.1 in
    and_from (nat_lt s states && nat_lt s 256) (nat_lt first s) a.0 (lt-ltb first s (omega (arith, behind, lt)))

-- the rows of a parser stand by state
pub sorted_rows : (parser : ParserConfig) → KeepsForm parser → IsNonDecreasingBy (λ (x : Row). x.entry.state) (rows_of parser)
sorted_rows parser keeps i j d le lt =
    let same : map (λ (x : Row). x.entry) (rows_of parser) ≡ parser.entries = entries_of_rows parser 0 parser.entries in
    let sorted : IsNonDecreasingBy (λ (x : ParserEntry). x.state) (map (λ (x : Row). x.entry) (rows_of parser)) = subst (λ (es : List ParserEntry). IsNonDecreasingBy (λ (x : ParserEntry). x.state) es) (sym same) keeps.fits.by_state in
    let long = length-map (rows_of parser) (λ (x : Row). x.entry) in
    let one = ap (λ (x : ParserEntry). x.state) (get_or-map (λ (x : Row). x.entry) (rows_of parser) i d d.entry (omega (arith, le, lt))) in
    let two = ap (λ (x : ParserEntry). x.state) (get_or-map (λ (x : Row). x.entry) (rows_of parser) j d d.entry lt) in
    let three = sorted i j d.entry le (omega (arith, long, lt)) in
    omega (arith, one, two, three)

-- ---- the rows of a joined parser

module _ (parser : ParserConfig) (keeps : KeepsForm parser) (at : ℕ) (e : ParserEntry) (m : ℕ) (there : slice_get parser.entries at ≡ Some e) (on : e.next ≡ next.State m) (may : MayJoin parser at e m) where
  abbrev n : ℕ
  n = e.state

  abbrev parts : JoinParts
  parts = join_parts parser at e m

  first : IsFormed parser.states e
  first = formed_e parser keeps at e m there on may

  as_many : length parts.states ≡ length parser.states
  as_many = length-set parser.states n (record { lookups = parts.to })

  own_lookups : lookups_of parts.states n ≡ length parts.to
  own_lookups = ap (λ (o : Option ParserState). unwrap_or (option_map (λ (s : ParserState). length s.lookups) o) 0) (get_set_same parser.states n (record { lookups = parts.to }) first.state_there)

  other_lookups : (s : ℕ) → s ≢ n → lookups_of parts.states s ≡ lookups_of parser.states s
  other_lookups s other = ap (λ (o : Option ParserState). unwrap_or (option_map (λ (x : ParserState). length x.lookups) o) 0) (slice_get-set_other parser.states n s (record { lookups = parts.to }) other)

  -- a row of another state
  kept_row : (x : Row) → x.entry.state ≢ n → IsRow parser.states x → IsRow parts.states x
  kept_row x other is = record {
    entry = record {
      state_there = subst (λ k. x.entry.state < k) (sym as_many) is.entry.state_there;
      state_small = is.entry.state_small;
      mask_small = is.entry.mask_small;
      masked = is.entry.masked;
      mask_within = ap (λ k. x.entry.mask % 2 ^ (8 * (4 - k))) (other_lookups x.entry.state other) ∙ is.entry.mask_within;
      need_small = is.entry.need_small;
      advance = is.entry.advance;
      next = subst (λ k. next_is_formed k x.entry.state x.entry.next ≡ true) (sym as_many) is.entry.next;
      few = is.entry.few;
      extracts = is.entry.extracts;
    };
    tail = is.tail;
  }

  -- a row of the state, over more lookups
  own_row : (x : Row) → x.entry.state ≡ n → IsRow parser.states x → IsRow parts.states (record x { entry = widened_entry parts.here parts.to x.entry })
  own_row x own is =
      let lists : RiseLow parts.here = lookups_formed parser.states n keeps.states in
      let few : length parts.here ≤ 4 = few_here parts.here e.advance parts.behind lists.rises lists.low may.few in
      let old : Compares parts.here x.entry.mask x.entry.value = entry_compares parser.states x.entry n is.entry own in
      let new : Compares parts.to (spread parts.here parts.to x.entry.mask) (spread parts.here parts.to x.entry.value) =
      compares_by (byte_at parts.here x.entry.mask) (byte_at parts.here x.entry.value) (byte_small parts.here x.entry.mask) (byte_small parts.here x.entry.value)
      (compares_at 0 parts.here x.entry.mask x.entry.value lists.rises few old) parts.to may.few in
      subst (λ (f : ParserEntry). IsRow parts.states (record x { entry = f })) (sym (widened_is parts.here parts.to x.entry)) (record {
        entry = record {
          state_there = subst (λ k. x.entry.state < k) (sym as_many) is.entry.state_there;
          state_small = is.entry.state_small;
          mask_small = new.mask.small;
          masked = new.within;
          mask_within = ap (λ k. spread parts.here parts.to x.entry.mask % 2 ^ (8 * (4 - k))) (ap (lookups_of parts.states) own ∙ own_lookups) ∙ new.mask.within;
          need_small = is.entry.need_small;
          advance = is.entry.advance;
          next = subst (λ k. next_is_formed k x.entry.state x.entry.next ≡ true) (sym as_many) is.entry.next;
          few = is.entry.few;
          extracts = is.entry.extracts;
        };
        tail = same_need x.tail is.tail;
      })
    where
      same_need : (o : Option TailOf) → IfSome o (IsRowTail x.entry) → IfSome o (IsRowTail (spread_entry parts.here parts.to x.entry))
      same_need None fits = tt
      same_need (Some t) fits = other_tail x.entry (spread_entry parts.here parts.to x.entry) t t.entry t.from fits.within fits.moves fits

  widened_row : (x : Row) → IsRow parser.states x → IsRow parts.states (parts.widen x)
  widened_row x is = by (eqb x.entry.state n) refl
    where
      by : (b : Bool) → eqb x.entry.state n ≡ b → IsRow parts.states (cond b (record x { entry = widened_entry parts.here parts.to x.entry }) x)
      by true own = own_row x (eqb-true x.entry.state n own) is
      by false other = kept_row x (eqb-false x.entry.state n other) is

  -- a joined row
  new_row : (y : Row) → y.entry.state ≡ m → IsRow parser.states y → (e.need + y.entry.need ≤ 128) × (length e.extracts + length y.entry.extracts ≤ 64) → IsRow parts.states (parts.join_row y)
  new_row y own is light =
      let f : ParserEntry = y.entry in
      let words = are_joined parser at e f m keeps may first is.entry own in
      let new : Compares parts.to (both parts.here e.advance parts.behind e.mask f.mask) (both parts.here e.advance parts.behind e.value f.value) = both_compares parts.here e.advance parts.behind e.mask e.value f.mask f.value words in
      let later : n < m = ltb-true n m (next_there parser keeps at e m there on may).1 in
      let need : e.need + f.need ≤ 128 = light.0 in
      let first_within = first.advance in
      let second_within = is.entry.advance in
      subst (λ (g : ParserEntry). IsRow parts.states (record (parts.join_row y) { entry = g })) (sym (joined_is parts.here parts.behind e f)) (record {
        entry = record {
          state_there = subst (λ k. n < k) (sym as_many) first.state_there;
          state_small = first.state_small;
          mask_small = new.mask.small;
          masked = new.within;
          mask_within = ap (λ k. both parts.here e.advance parts.behind e.mask f.mask % 2 ^ (8 * (4 - k))) own_lookups ∙ new.mask.within;
          need_small = omega (arith, need);
          advance = omega (arith, first_within, second_within);
          next = earlier_next (length parts.states) n m f.next later (subst (λ k. next_is_formed k m f.next ≡ true) (sym as_many) (subst (λ s. next_is_formed (length parser.states) s f.next ≡ true) own is.entry.next));
          few = let long = length-append e.extracts (map (moved e.advance) f.extracts) in let some = length-map f.extracts (moved e.advance) in let all = light.1 in omega (arith, long, some, all);
          extracts =
              list_all-append (extract_is_formed (e.need + f.need)) e.extracts (map (moved e.advance) f.extracts)
              ∙ and_from (list_all (extract_is_formed (e.need + f.need)) e.extracts) (list_all (extract_is_formed (e.need + f.need)) (map (moved e.advance) f.extracts))
              (all_from (extract_is_formed e.need) (extract_is_formed (e.need + f.need)) e.extracts (λ x h. wider_extract e.need (e.need + f.need) x (omega arith) h) first.extracts)
              (list_all-map (extract_is_formed (e.need + f.need)) (moved e.advance) f.extracts
              ∙ all_from (extract_is_formed f.need) (λ x. extract_is_formed (e.need + f.need) (moved e.advance x)) f.extracts
              (λ x h. moved_extract e.advance f.need (e.need + f.need) x (omega (arith, first_within)) need h) is.entry.extracts);
        };
        tail = by y.tail is.tail;
      })
    where
      by : (o : Option TailOf) → IfSome o (IsRowTail y.entry) → IfSome (option_map (λ (t : TailOf). record t { from = t.from + 8 * e.advance }) o) (IsRowTail (entry_of_both parts.here parts.behind e y.entry))
      by None fits = tt
      by (Some t) fits =
          other_tail y.entry (entry_of_both parts.here parts.behind e y.entry) t t.entry (t.from + 8 * e.advance) (let a = fits.within in let b = first.advance in omega (arith, a, b))
          (let a = fits.moves in let b = may.whole in omega (arith, a, b)) fits

  second_light : All (λ (y : Row). (e.need + y.entry.need ≤ 128) × (length e.extracts + length y.entry.extracts ≤ 64)) parts.second
  second_light =
      let P : ParserEntry → Type 0 = λ f. (e.need + f.need ≤ 128) × (length e.extracts + length f.extracts ≤ 64) in
      All_back P parts.second (subst (λ (es : List ParserEntry). All P es) (sym (rows_in_entries parser m 0 parser.entries)) may.light)
    where
      All_back : (P : ParserEntry → Type 0) (xs : List Row) → All P (map (λ (x : Row). x.entry) xs) → All (λ (x : Row). P x.entry) xs
      All_back P [] each = All-nil (λ (x : Row). P x.entry)
      All_back P (x ∷ xs) each = All-cons (λ (x : Row). P x.entry) x xs (All-head P x.entry (map (λ (y : Row). y.entry) xs) each) (All_back P xs (All-tail P x.entry (map (λ (y : Row). y.entry) xs) each))

  pub rows_formed : All (IsRow parts.states) parts.rows
  rows_formed =
      let all : All (IsRow parser.states) (rows_of parser) = rows_are parser keeps in
      let wide : (xs : List Row) → All (IsRow parser.states) xs → All (IsRow parts.states) (map parts.widen xs) =
      λ xs each. All-map (IsRow parts.states) parts.widen xs (All-weaker (IsRow parser.states) (λ (x : Row). IsRow parts.states (parts.widen x)) widened_row xs each) in
      All-append (IsRow parts.states) (map parts.widen parts.front) (map parts.join_row parts.second ++ map parts.widen parts.back) (wide parts.front (All-take (IsRow parser.states) at (rows_of parser) all))
      (All-append (IsRow parts.states) (map parts.join_row parts.second) (map parts.widen parts.back)
      (All-map (IsRow parts.states) parts.join_row parts.second (λ k d lt.
      new_row (get_or parts.second k d) (second_own parser keeps at e m there on may k d lt) (second_formed parser keeps at e m there on may k d lt) (second_light k d lt)))
      (wide parts.back (All-drop (IsRow parser.states) (at + 1) (rows_of parser) all)))

  -- ---- in order

  abbrev state_of : Row → ℕ
  state_of x = x.entry.state

  widen_state : (x : Row) → state_of (parts.widen x) ≡ state_of x
  widen_state x = by (eqb x.entry.state n)
    where
      by : (b : Bool) → state_of (cond b (record x { entry = widened_entry parts.here parts.to x.entry }) x) ≡ state_of x
      by true = refl
      by false = refl

  sorted_widen : (xs : List Row) → IsNonDecreasingBy state_of xs → IsNonDecreasingBy state_of (map parts.widen xs)
  sorted_widen xs sorted i j d le lt =
      let long = length-map xs parts.widen in
      let inside : j < length xs = omega (arith, long, lt) in
      let one : state_of (get_or (map parts.widen xs) i d) ≡ state_of (get_or xs i d) = ap state_of (get_or-map parts.widen xs i d d (omega (arith, le, inside))) ∙ widen_state (get_or xs i d) in
      let two : state_of (get_or (map parts.widen xs) j d) ≡ state_of (get_or xs j d) = ap state_of (get_or-map parts.widen xs j d d inside) ∙ widen_state (get_or xs j d) in
      let three = sorted i j d le inside in
      omega (arith, one, two, three)

  sorted_all : IsNonDecreasingBy state_of (rows_of parser)
  sorted_all = sorted_rows parser keeps

  at_own : (d : Row) → (state_of (get_or (rows_of parser) at d) ≡ n) × (at < length (rows_of parser))
  at_own d =
      let found : slice_get (rows_of parser) at ≡ Some (record { entry = e; tail = tail_of parser at }) = row_of parser at e there in
      (ap state_of (get_or_from_slice_get (rows_of parser) at (record { entry = e; tail = tail_of parser at }) d found), slice_get_within (rows_of parser) at (record { entry = e; tail = tail_of parser at }) found)

  sorted_front : IsNonDecreasingBy state_of parts.front
  sorted_front i j d le lt =
      let long = length-take at (rows_of parser) in
      let one = ap state_of (get_or-take at (rows_of parser) i d (omega (arith, long, le, lt))) in
      let two = ap state_of (get_or-take at (rows_of parser) j d (omega (arith, long, lt))) in
      let three = sorted_all i j d le (omega (arith, long, lt)) in
      omega (arith, one, two, three)

  sorted_back : IsNonDecreasingBy state_of parts.back
  sorted_back i j d le lt =
      let long = length-drop (at + 1) (rows_of parser) in
      let one = ap state_of (get_or-drop (at + 1) (rows_of parser) i d) in
      let two = ap state_of (get_or-drop (at + 1) (rows_of parser) j d) in
      let three = sorted_all (at + 1 + i) (at + 1 + j) d (omega (arith, le)) (omega (arith, long, lt)) in
      omega (arith, one, two, three)

  front_low : All (λ (x : Row). state_of x ≤ n) parts.front
  front_low k d lt =
      let long = length-take at (rows_of parser) in
      let own = at_own d in
      let one = ap state_of (get_or-take at (rows_of parser) k d (omega (arith, long, lt))) in
      let three = sorted_all k at d (omega (arith, long, lt)) own.1 in
      omega (arith, one, three, own.0)

  back_high : All (λ (x : Row). n ≤ state_of x) parts.back
  back_high k d lt =
      let long = length-drop (at + 1) (rows_of parser) in
      let own = at_own d in
      let two = ap state_of (get_or-drop (at + 1) (rows_of parser) k d) in
      let three = sorted_all at (at + 1 + k) d (omega arith) (omega (arith, long, lt)) in
      omega (arith, two, three, own.0)

  widened_low : All (λ (x : Row). state_of x ≤ n) (map parts.widen parts.front)
  widened_low = All-map (λ (x : Row). state_of x ≤ n) parts.widen parts.front (λ k d lt. subst (λ s. s ≤ n) (sym (widen_state (get_or parts.front k d))) (front_low k d lt))

  widened_high : All (λ (x : Row). n ≤ state_of x) (map parts.widen parts.back)
  widened_high = All-map (λ (x : Row). n ≤ state_of x) parts.widen parts.back (λ k d lt. subst (λ s. n ≤ s) (sym (widen_state (get_or parts.back k d))) (back_high k d lt))

  joined_own : All (λ (x : Row). state_of x ≡ n) (map parts.join_row parts.second)
  joined_own = All-map (λ (x : Row). state_of x ≡ n) parts.join_row parts.second (λ k d lt. refl)

  rows_sorted : IsNonDecreasingBy state_of parts.rows
  rows_sorted =
      sorted-append state_of (map parts.widen parts.front) (map parts.join_row parts.second ++ map parts.widen parts.back) n widened_low
      (All-append (λ (x : Row). n ≤ state_of x) (map parts.join_row parts.second) (map parts.widen parts.back) (All-weaker (λ (x : Row). state_of x ≡ n) (λ (x : Row). n ≤ state_of x) (λ (x : Row) same. omega (arith, same)) (map parts.join_row parts.second) joined_own) widened_high)
      (sorted_widen parts.front sorted_front)
      (sorted-append state_of (map parts.join_row parts.second) (map parts.widen parts.back) n (All-weaker (λ (x : Row). state_of x ≡ n) (λ (x : Row). state_of x ≤ n) (λ (x : Row) same. omega (arith, same)) (map parts.join_row parts.second) joined_own) widened_high
      (sorted-same state_of (map parts.join_row parts.second) n joined_own) (sorted_widen parts.back sorted_back))

  pub rows_count : length parts.rows + 1 ≡ length parser.entries + length (entries_in m parser.entries)
  rows_count =
      let a = length-append (map parts.widen parts.front) (map parts.join_row parts.second ++ map parts.widen parts.back) in
      let b = length-append (map parts.join_row parts.second) (map parts.widen parts.back) in
      let c = length-map parts.front parts.widen in
      let d = length-map parts.second parts.join_row in
      let f = length-map parts.back parts.widen in
      let g = length-take at (rows_of parser) in
      let h = length-drop (at + 1) (rows_of parser) in
      let i = length_rows parser in
      let j = slice_get_within parser.entries at e there in
      let k : length parts.second ≡ length (entries_in m parser.entries) = sym (length-map parts.second (λ (x : Row). x.entry)) ∙ ap length (rows_in_entries parser m 0 parser.entries) in
      omega (arith, a, b, c, d, f, g, h, i, j, k)

  states_formed : All (λ s. state_is_formed s ≡ true) parts.states
  states_formed =
      All-set (λ s. state_is_formed s ≡ true) parser.states n (record { lookups = parts.to })
      (and_from (rises_from 0 parts.to) (list_all (λ o. nat_lt o 128) parts.to) (together_rises parts.here parts.behind e.advance)
      (list_all_below parts.to (together_low parts.here parts.behind e.advance))) keeps.states

  pub joined_keeps : KeepsForm (joined parser at e m)
  joined_keeps =
      let count = rows_count in
      let room = may.room in
      let many = as_many in
      let some = keeps.some in
      let few = keeps.few_states in
      made_keeps parts.states parts.rows (omega (arith, many, some)) (omega (arith, many, few)) (omega (arith, count, room)) states_formed rows_formed rows_sorted
