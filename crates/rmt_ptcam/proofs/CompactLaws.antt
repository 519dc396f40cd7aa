-- A parser without the states that can't be met parses alike.
use Rattle.std.proofs.Common.{◌≡◌, ◌&&◌, cond, eqb, nat_lt, Bool, true, false, ℕ, zero, suc, ◌+◌, ◌-◌, ◌*◌, ◌%◌, ◌^◌, ◌<◌, ◌≤◌, List, [], ◌∷◌, ◌++◌, get_or, length, map, find, take, drop, fold, Option, Some, None, refl, sym, ap, subst, ◌∙◌, inl, inr, arith}
use Rattle.std.specs.Prelude.{◌||◌, All, IfSome, bit_and, option_map, slice_get, unwrap_or}
use Rattle.std.specs.List.{filter, range_with_len}
use Rattle.std.specs.List.Sorted.{IsNonDecreasingBy}
use Rattle.std.proofs.lemmas.Bool.{cases_order, and_parts, and_from, lt-ltb, ltb-true, eqb-true, eq-eqb, ne_eqb, or_cases, or_left, or_right, false_from_ne_true}
use Rattle.std.proofs.lemmas.List.{get_or-drop, get_or-map, length-append, length-drop, length-map}
use Rattle.std.proofs.lemmas.List.FromFn.{length-range_with_len}
use Rattle.std.proofs.lemmas.List.Elements.{All-nil, All-cons, All-filter, All-head, All-map, All-tail, filter-append, filter_passes}
use Rattle.std.proofs.lemmas.List.Folds.{list_any-append}
use Rattle.std.proofs.lemmas.List.Kept.{IsNonDecreasingBy-filter}
use Rattle.std.proofs.lemmas.List.Sums.{fold-append}
use Rattle.std.proofs.lemmas.Option.{get_or_from_slice_get, slice_get-get_or, slice_get-map, slice_get_within}
use Rattle.rmt_bits.proofs.AllLaws.{All-find}
use Rattle.rmt_bits.proofs.FunctionLaws.{funext}
use Rattle.rmt_bits.proofs.ListLaws.{range_more, find-passes, filter-short}
use Rattle.rmt_bits.specs.Members.{is_among}
use Rattle.rmt_ptcam.specs.Types.{ParserConfig, ParserState, ParserEntry, Next, TailOf}
use Rattle.rmt_config.specs.declared.config.Next.TheVariants as next
use Rattle.rmt_config.specs.Parser.{Parse, Reached, Short, begin, behind, follow, parse_from, past_tail, value_at}
use Rattle.rmt_config.specs.ParserForm.{lookups_of, next_is_formed, state_is_formed}
use Rattle.rmt_ptcam.specs.Adding.{Adds}
use Rattle.rmt_ptcam.specs.Joining.{IsGood, KeepsForm, ParsesAlike, Row, parser_of, rows_of, tails_in}
use Rattle.rmt_ptcam.specs.Steps.{parse_within}
use Rattle.rmt_ptcam.specs.Clustering.{compact, is_met, met_states, number_in, renamed, renamed_next, states_kept, with_next}
use Rattle.rmt_ptcam.proofs.AddingLaws.{length_rows}
use Rattle.rmt_ptcam.proofs.FormedRows.{IsFormed, IsRow, entries_of_rows, formed_parts, rows_are, split_at}
use Rattle.rmt_ptcam.proofs.TailForms.{IsRowTail, other_tail}
use Rattle.rmt_ptcam.proofs.JoinedForm.{made_keeps}
use Rattle.rmt_ptcam.proofs.JoinedKeeps.{sorted_rows}
use Rattle.rmt_ptcam.proofs.JoinedParse.{find_map, one_more_state}
use Rattle.rmt_ptcam.proofs.RowLaws.{hits, row_step, taken_made, taken_row}

-- ---- the states that are met

-- the state that is gone to
abbrev pub state_behind : Next → List ℕ
state_behind next.Accept = []
state_behind next.Reject = []
state_behind (next.State s) = s ∷ []

or_none : (b : Bool) → b ≡ (b || false)
or_none true = refl
or_none false = refl

-- then the states are met that were, and the one that is gone to
pub among_next : (met : List ℕ) (to : Next) (s : ℕ) → is_among (with_next met to) s ≡ (is_among met s || is_among (state_behind to) s)
among_next met next.Accept s = or_none (is_among met s)
among_next met next.Reject s = or_none (is_among met s)
among_next met (next.State t) s = by (is_among met t) refl
  where
    new : (b : Bool) → eqb t s ≡ b → is_among met t ≡ true → is_among met s ≡ (is_among met s || (eqb t s || false))
    new true same own =
        let is : is_among met s ≡ true = ap (is_among met) (sym (eqb-true t s same)) ∙ own in
        is ∙ sym (or_left (is_among met s) (eqb t s || false) is)
    new false other own = or_none (is_among met s) ∙ ap (λ (b : Bool). is_among met s || (b || false)) (sym other)

    by : (b : Bool) → is_among met t ≡ b → is_among (cond b met (met ++ t ∷ [])) s ≡ (is_among met s || (eqb t s || false))
    by true own = new (eqb t s) refl own
    by false none = list_any-append (λ y. eqb y s) met (t ∷ [])

abbrev meet : List ℕ → ParserEntry → List ℕ
meet met e = cond (is_among met e.state) (with_next met e.next) met

-- a met state stays met
stays_one : (met : List ℕ) (e : ParserEntry) (s : ℕ) → is_among met s ≡ true → is_among (meet met e) s ≡ true
stays_one met e s is = by (is_among met e.state)
  where
    by : (b : Bool) → is_among (cond b (with_next met e.next) met) s ≡ true
    by true = among_next met e.next s ∙ or_left (is_among met s) (is_among (state_behind e.next) s) is
    by false = is

stays : (es : List ParserEntry) (met : List ℕ) (s : ℕ) → is_among met s ≡ true → is_among (fold meet met es) s ≡ true
stays [] met s is = is
stays (e ∷ es) met s is = stays es (meet met e) s (stays_one met e s is)

-- an entry that goes to a later state
abbrev GoesLater : ParserEntry → Type 0
GoesLater e = (t : ℕ) → e.next ≡ next.State t → e.state < t

behind_is : (to : Next) (s : ℕ) → is_among (state_behind to) s ≡ true → to ≡ next.State s
behind_is next.Accept s is = absurd cc
behind_is next.Reject s is = absurd cc
behind_is (next.State t) s is = elim (or_cases (eqb t s) false is) [
  | inl same ↦ ap next.State (eqb-true t s same)
  | inr none ↦ absurd cc
]

-- entries of this state and later ones don't meet it
met_before : (es : List ParserEntry) (met : List ℕ) (s : ℕ) → All (λ (e : ParserEntry). (s ≤ e.state) × GoesLater e) es → is_among (fold meet met es) s ≡ true → is_among met s ≡ true
met_before [] met s later is = is
met_before (e ∷ es) met s later is =
    let here : (s ≤ e.state) × GoesLater e = All-head (λ (x : ParserEntry). (s ≤ x.state) × GoesLater x) e es later in
    by (is_among met e.state) here (met_before es (meet met e) s (All-tail (λ (x : ParserEntry). (s ≤ x.state) × GoesLater x) e es later) is)
  where
    by : (b : Bool) → (s ≤ e.state) × GoesLater e → is_among (cond b (with_next met e.next) met) s ≡ true → is_among met s ≡ true
    by false here found = found
    by true here found = elim (or_cases (is_among met s) (is_among (state_behind e.next) s) (sym (among_next met e.next s) ∙ found)) [
      | inl own ↦ own
      | inr new ↦ (let lt = here.1 s (behind_is e.next s new) in let le = here.0 in absurd (omega (arith, lt, le)))
    ]

-- where an entry of a met state goes is met
met_next : (front back : List ParserEntry) (e : ParserEntry) (met : List ℕ) (t : ℕ) → All (λ (x : ParserEntry). (e.state ≤ x.state) × GoesLater x) (e ∷ back) → e.next ≡ next.State t
    → is_among (fold meet met (front ++ e ∷ back)) e.state ≡ true → is_among (fold meet met (front ++ e ∷ back)) t ≡ true
met_next front back e met t later goes is =
    let all : fold meet met (front ++ e ∷ back) ≡ fold meet (fold meet met front) (e ∷ back) = fold-append meet met front (e ∷ back) in
    let before : List ℕ = fold meet met front in
    let own : is_among before e.state ≡ true = met_before (e ∷ back) before e.state later (sym (ap (λ (ms : List ℕ). is_among ms e.state) all) ∙ is) in
    let here : is_among (meet before e) t ≡ true =
    ap (λ (b : Bool). is_among (cond b (with_next before e.next) before) t) own
    ∙ among_next before e.next t
    ∙ or_right (is_among before t) (is_among (state_behind e.next) t) (ap (λ (x : Next). is_among (state_behind x) t) goes ∙ or_left (eqb t t) false (eq-eqb t t refl)) in
    ap (λ (ms : List ℕ). is_among ms t) all ∙ stays back (meet before e) t here

-- ---- new numbers

module _ (met : ℕ → Bool) where
  number_more : (a n : ℕ) → number_in met a ≤ number_in met (a + n)
  number_more a zero = let e : a ≡ a + 0 = omega arith in subst (λ b. number_in met a ≤ number_in met b) e (omega arith)
  number_more a (suc n) =
      let rest = number_more a n in
      let one : a + suc n ≡ a + n + 1 = omega arith in
      let more : number_in met (a + n + 1) ≡ number_in met (a + n) + length (filter met ((0 + (a + n)) ∷ [])) =
      ap (λ (xs : List ℕ). length (filter met xs)) (range_more 0 (a + n)) ∙ ap length (filter-append met (range_with_len 0 (a + n)) ((0 + (a + n)) ∷ []))
      ∙ length-append (filter met (range_with_len 0 (a + n))) (filter met ((0 + (a + n)) ∷ [])) in
      let same : number_in met (a + suc n) ≡ number_in met (a + n + 1) = ap (number_in met) one in
      omega (arith, rest, more, same)

  -- a state that passes has a number less than each later one
  pub number_less : (a b : ℕ) → met a ≡ true → a < b → number_in met a < number_in met b
  number_less a b passes lt =
      let zero_more : 0 + a ≡ a = omega arith in
      let here : met (0 + a) ≡ true = ap met zero_more ∙ passes in
      let one : length (filter met ((0 + a) ∷ [])) ≡ 1 = ap (λ (c : Bool). length (cond c ((0 + a) ∷ []) [])) here in
      let next : number_in met (a + 1) ≡ number_in met a + length (filter met ((0 + a) ∷ [])) =
      ap (λ (xs : List ℕ). length (filter met xs)) (range_more 0 a) ∙ ap length (filter-append met (range_with_len 0 a) ((0 + a) ∷ []))
      ∙ length-append (filter met (range_with_len 0 a)) (filter met ((0 + a) ∷ [])) in
      let rest = number_more (a + 1) (b - (a + 1)) in
      let end : a + 1 + (b - (a + 1)) ≡ b = omega (arith, lt) in
      let same = ap (number_in met) end in
      omega (arith, one, next, rest, same)

  pub number_small : (a : ℕ) → number_in met a ≤ a
  number_small a = let short = filter-short met (range_with_len 0 a) in let long = length-range_with_len 0 a in omega (arith, short, long)

  pub number_rises : (a b : ℕ) → a ≤ b → number_in met a ≤ number_in met b
  number_rises a b le = let e : a + (b - a) ≡ b = omega (arith, le) in subst (λ c. number_in met a ≤ number_in met c) e (number_more a (b - a))

  -- so numbers tell states apart
  pub number_tells : (a b : ℕ) → met a ≡ true → met b ≡ true → eqb (number_in met a) (number_in met b) ≡ eqb a b
  number_tells a b one two = elim (cases_order a b) [
    | inl same ↦ eq-eqb (number_in met a) (number_in met b) (ap (number_in met) same) ∙ sym (eq-eqb a b same)
    | inr apart ↦ elim apart [
      | inl before ↦ (let lt = number_less a b one before in
          ne_eqb (number_in met a) (number_in met b) (λ e. omega (arith, lt, e)) ∙ sym (ne_eqb a b (λ e. omega (arith, before, e))))
      | inr behind ↦ (let lt = number_less b a two behind in
          ne_eqb (number_in met a) (number_in met b) (λ e. omega (arith, lt, e)) ∙ sym (ne_eqb a b (λ e. omega (arith, behind, e))))
    ]
  ]

  -- the state with a number
  kept_from : (ss : List ParserState) (n k : ℕ) → met (n + k) ≡ true → slice_get (states_kept met n ss) (length (filter met (range_with_len n k))) ≡ slice_get ss k
  kept_from [] n k passes = refl
  kept_from (s ∷ ss) n zero passes = let e : n + 0 ≡ n = omega arith in ap (λ (b : Bool). slice_get (cond b (s ∷ states_kept met (n + 1) ss) (states_kept met (n + 1) ss)) 0) (ap met (sym e) ∙ passes)
  kept_from (s ∷ ss) n (suc k) passes =
      by (met n) (kept_from ss (n + 1) k (let e : n + 1 + k ≡ n + suc k = omega arith in ap met e ∙ passes))
    where
      by : (b : Bool) → slice_get (states_kept met (n + 1) ss) (length (filter met (range_with_len (n + 1) k))) ≡ slice_get ss k
          → slice_get (cond b (s ∷ states_kept met (n + 1) ss) (states_kept met (n + 1) ss)) (length (cond b (n ∷ filter met (range_with_len (n + 1) k)) (filter met (range_with_len (n + 1) k)))) ≡ slice_get ss k
      by true rest = rest
      by false rest = rest

  pub kept_at : (ss : List ParserState) (s : ℕ) → met s ≡ true → slice_get (states_kept met 0 ss) (number_in met s) ≡ slice_get ss s
  kept_at ss s passes = let e : 0 + s ≡ s = omega arith in kept_from ss 0 s (ap met e ∙ passes)

  length_from : (ss : List ParserState) (n : ℕ) → length (states_kept met n ss) ≡ length (filter met (range_with_len n (length ss)))
  length_from [] n = refl
  length_from (s ∷ ss) n = by (met n) (length_from ss (n + 1))
    where
      by : (b : Bool) → length (states_kept met (n + 1) ss) ≡ length (filter met (range_with_len (n + 1) (length ss)))
          → length (cond b (s ∷ states_kept met (n + 1) ss) (states_kept met (n + 1) ss)) ≡ length (cond b (n ∷ filter met (range_with_len (n + 1) (length ss))) (filter met (range_with_len (n + 1) (length ss))))
      by true rest = ap suc rest
      by false rest = rest

  pub length_kept : (ss : List ParserState) → length (states_kept met 0 ss) ≡ number_in met (length ss)
  length_kept ss = length_from ss 0

  all_kept : (P : ParserState → Type 0) (ss : List ParserState) (n : ℕ) → All P ss → All P (states_kept met n ss)
  all_kept P [] n each = All-nil P
  all_kept P (s ∷ ss) n each = by (met n) (All-head P s ss each) (all_kept P ss (n + 1) (All-tail P s ss each))
    where
      by : (b : Bool) → P s → All P (states_kept met (n + 1) ss) → All P (cond b (s ∷ states_kept met (n + 1) ss) (states_kept met (n + 1) ss))
      by true here rest = All-cons P s (states_kept met (n + 1) ss) here rest
      by false here rest = rest

-- a search among items that pass a weaker test
find_filtered : {X : Type 0} (p q : X → Bool) (xs : List X) → ((x : X) → p x ≡ true → q x ≡ true) → find p (filter q xs) ≡ find p xs
find_filtered p q [] weaker = refl
find_filtered p q (x ∷ xs) weaker = by (q x) refl (find_filtered p q xs weaker)
  where
    by : (b : Bool) → q x ≡ b → find p (filter q xs) ≡ find p xs → find p (cond b (x ∷ filter q xs) (filter q xs)) ≡ cond (p x) (Some x) (find p xs)
    by true is rest = ap (λ (o : Option _). cond (p x) (Some x) o) rest
    by false is rest =
        rest ∙ sym (ap (λ (b : Bool). cond b (Some x) (find p xs)) (false_from_ne_true (p x) (λ passes. (let yes : true ≡ false = sym (weaker x passes) ∙ is in absurd cc))))

-- ---- the compact parser

module _ (parser : ParserConfig) (keeps : KeepsForm parser) where
  abbrev met : ℕ → Bool
  met = is_met parser

  abbrev number : ℕ → ℕ
  number = number_in met

  abbrev kept : List ParserState
  kept = states_kept met 0 parser.states

  abbrev is_kept : Row → Bool
  is_kept x = met x.entry.state

  abbrev own : List Row
  own = filter is_kept (rows_of parser)

  abbrev rename : Row → Row
  rename = renamed met

  abbrev rows : List Row
  rows = map rename own

  formed : All (IsRow parser.states) (rows_of parser)
  formed = rows_are parser keeps

  goes_later : (e : ParserEntry) → IsFormed parser.states e → GoesLater e
  goes_later e is t on =
      let to : next_is_formed (length parser.states) e.state (next.State t) ≡ true = subst (λ (x : Next). next_is_formed (length parser.states) e.state x ≡ true) on is.next in
      ltb-true e.state t (and_parts (nat_lt t (length parser.states) && nat_lt t 256) (nat_lt e.state t) to).1

  pub first_met : met 0 ≡ true
  first_met = stays parser.entries (0 ∷ []) 0 refl

  -- a state that a met one goes to is met
  next_met : (i : ℕ) (e : ParserEntry) (t : ℕ) → slice_get parser.entries i ≡ Some e → met e.state ≡ true → e.next ≡ next.State t → met t ≡ true
  next_met i e t there is on =
      let split : parser.entries ≡ take i parser.entries ++ e ∷ drop (i + 1) parser.entries = split_at parser.entries i e there in
      let later : All (λ (x : ParserEntry). (e.state ≤ x.state) × GoesLater x) (e ∷ drop (i + 1) parser.entries) =
      λ k d lt. (later_state k d lt, goes_later (get_or (e ∷ drop (i + 1) parser.entries) k d) (later_formed k d lt)) in
      ap (λ (es : List ParserEntry). is_among (met_states es) t) split
      ∙ met_next (take i parser.entries) (drop (i + 1) parser.entries) e (0 ∷ []) t later on (sym (ap (λ (es : List ParserEntry). is_among (met_states es) e.state) split) ∙ is)
    where
      inside : i < length parser.entries
      inside = slice_get_within parser.entries i e there

      tail_at : (k : ℕ) (d : ParserEntry) → get_or (e ∷ drop (i + 1) parser.entries) k d ≡ get_or parser.entries (i + k) d
      tail_at zero d = let z : i ≡ i + 0 = omega arith in sym (get_or_from_slice_get parser.entries i e d there) ∙ ap (λ m. get_or parser.entries m d) z
      tail_at (suc k) d = let z : i + 1 + k ≡ i + suc k = omega arith in get_or-drop (i + 1) parser.entries k d ∙ ap (λ m. get_or parser.entries m d) z

      later_formed : (k : ℕ) (d : ParserEntry) → k < length (e ∷ drop (i + 1) parser.entries) → IsFormed parser.states (get_or (e ∷ drop (i + 1) parser.entries) k d)
      later_formed k d lt =
          let long = length-drop (i + 1) parser.entries in
          subst (IsFormed parser.states) (sym (tail_at k d)) (formed_parts parser.states (get_or parser.entries (i + k) d) (keeps.entries (i + k) d (omega (arith, long, lt, inside))))

      later_state : (k : ℕ) (d : ParserEntry) → k < length (e ∷ drop (i + 1) parser.entries) → e.state ≤ (get_or (e ∷ drop (i + 1) parser.entries) k d).state
      later_state k d lt =
          let long = length-drop (i + 1) parser.entries in
          let by = keeps.fits.by_state i (i + k) d (omega arith) (omega (arith, long, lt, inside)) in
          let here = ap (λ (x : ParserEntry). x.state) (get_or_from_slice_get parser.entries i e d there) in
          let far = ap (λ (x : ParserEntry). x.state) (tail_at k d) in
          omega (arith, by, here, far)

  -- of each row
  row_next : All (λ (x : Row). (t : ℕ) → met x.entry.state ≡ true → x.entry.next ≡ next.State t → met t ≡ true) (rows_of parser)
  row_next k d lt t is on =
      let long = length_rows parser in
      let x : Row = get_or (rows_of parser) k d in
      let same : map (λ (y : Row). y.entry) (rows_of parser) ≡ parser.entries = entries_of_rows parser 0 parser.entries in
      let there : slice_get parser.entries k ≡ Some x.entry =
      sym (ap (λ (es : List ParserEntry). slice_get es k) same) ∙ slice_get-map (λ (y : Row). y.entry) (rows_of parser) k ∙ ap (option_map (λ (y : Row). y.entry)) (slice_get-get_or (rows_of parser) k d lt) in
      next_met k x.entry t there is on

  own_formed : All (IsRow parser.states) own
  own_formed = All-filter is_kept (IsRow parser.states) (rows_of parser) formed

  own_met : All (λ (x : Row). met x.entry.state ≡ true) own
  own_met = filter_passes is_kept (rows_of parser)

  own_next : All (λ (x : Row). (t : ℕ) → met x.entry.state ≡ true → x.entry.next ≡ next.State t → met t ≡ true) own
  own_next = All-filter is_kept (λ (x : Row). (t : ℕ) → met x.entry.state ≡ true → x.entry.next ≡ next.State t → met t ≡ true) (rows_of parser) row_next

  -- ---- the rules of form

  renamed_formed : (to : Next) (s : ℕ) → met s ≡ true → ((t : ℕ) → to ≡ next.State t → met t ≡ true) → next_is_formed (length parser.states) s to ≡ true → next_is_formed (length kept) (number s) (renamed_next met to) ≡ true
  renamed_formed next.Accept s is on formed = refl
  renamed_formed next.Reject s is on formed = refl
  renamed_formed (next.State t) s is on formed =
      let parts : ((nat_lt t (length parser.states) && nat_lt t 256) ≡ true) × (nat_lt s t ≡ true) = and_parts (nat_lt t (length parser.states) && nat_lt t 256) (nat_lt s t) formed in
      let low : (nat_lt t (length parser.states) ≡ true) × (nat_lt t 256 ≡ true) = and_parts (nat_lt t (length parser.states)) (nat_lt t 256) parts.0 in
      let a : number t < number (length parser.states) = number_less met t (length parser.states) (on t refl) (ltb-true t (length parser.states) low.0) in
      let b = length_kept met parser.states in
      let c = number_small met t in
      let d : t < 256 = ltb-true t 256 low.1 in
      let e : number s < number t = number_less met s t is (ltb-true s t parts.1) in
      and_from (nat_lt (number t) (length kept) && nat_lt (number t) 256) (nat_lt (number s) (number t))
      (and_from (nat_lt (number t) (length kept)) (nat_lt (number t) 256) (lt-ltb (number t) (length kept) (omega (arith, a, b))) (lt-ltb (number t) 256 (omega (arith, c, d)))) (lt-ltb (number s) (number t) e)

  renamed_row : (x : Row) → met x.entry.state ≡ true → ((t : ℕ) → x.entry.next ≡ next.State t → met t ≡ true) → IsRow parser.states x → IsRow kept (rename x)
  renamed_row x is on good =
      let s : ℕ = x.entry.state in
      let a : number s < number (length parser.states) = number_less met s (length parser.states) is good.entry.state_there in
      let b = length_kept met parser.states in
      let c = number_small met s in
      let d = good.entry.state_small in
      let same : lookups_of kept (number s) ≡ lookups_of parser.states s = ap (λ (o : Option ParserState). unwrap_or (option_map (λ (y : ParserState). length y.lookups) o) 0) (kept_at met parser.states s is) in
      record {
        entry = record {
          state_there = omega (arith, a, b);
          state_small = omega (arith, c, d);
          mask_small = good.entry.mask_small;
          masked = good.entry.masked;
          mask_within = ap (λ k. x.entry.mask % 2 ^ (8 * (4 - k))) same ∙ good.entry.mask_within;
          need_small = good.entry.need_small;
          advance = good.entry.advance;
          next = renamed_formed x.entry.next s is on good.entry.next;
          few = good.entry.few;
          extracts = good.entry.extracts;
        };
        tail = by x.tail good.tail;
      }
    where
      by : (o : Option TailOf) → IfSome o (IsRowTail x.entry) → IfSome o (IsRowTail (rename x).entry)
      by None fits = tt
      by (Some t) fits = other_tail x.entry (rename x).entry t t.entry t.from fits.within fits.moves fits

  rows_formed : All (IsRow kept) rows
  rows_formed = All-map (IsRow kept) rename own (λ k d lt. renamed_row (get_or own k d) (own_met k d lt) (λ t on. own_next k d lt t (own_met k d lt) on) (own_formed k d lt))

  abbrev state_of : Row → ℕ
  state_of x = x.entry.state

  rows_sorted : IsNonDecreasingBy state_of rows
  rows_sorted i j d le lt =
      let long = length-map own rename in
      let sorted : IsNonDecreasingBy state_of own = IsNonDecreasingBy-filter state_of is_kept (rows_of parser) (sorted_rows parser keeps) in
      let inside : j < length own = omega (arith, long, lt) in
      let one = ap state_of (get_or-map rename own i d d (omega (arith, le, inside))) in
      let two = ap state_of (get_or-map rename own j d d inside) in
      let three = number_rises met (state_of (get_or own i d)) (state_of (get_or own j d)) (sorted i j d le inside) in
      omega (arith, one, two, three)

  pub compact_keeps : KeepsForm (compact parser)
  compact_keeps =
      let a = length-map own rename in
      let b = filter-short is_kept (rows_of parser) in
      let c = length_rows parser in
      let d = keeps.few in
      let many = length_kept met parser.states in
      let first = number_less met 0 (length parser.states) first_met keeps.some in
      let most = number_small met (length parser.states) in
      let few = keeps.few_states in
      made_keeps kept rows (omega (arith, many, first)) (omega (arith, many, most, few)) (omega (arith, a, b, c, d)) (all_kept met (λ s. state_is_formed s ≡ true) parser.states 0 keeps.states) rows_formed rows_sorted

  -- ---- the same parse

  module _ (frame : List ℕ) where
    found_same : (s value : ℕ) → met s ≡ true → find (hits (number s) value) rows ≡ option_map rename (find (hits s value) (rows_of parser))
    found_same s value is =
        find_map (hits (number s) value) (hits s value) rename own
        (λ k d lt. ap (λ (b : Bool). b && eqb (bit_and value (get_or own k d).entry.mask) (get_or own k d).entry.value) (number_tells met (get_or own k d).entry.state s (own_met k d lt) is))
        ∙ ap (option_map rename) (find_filtered (hits s value) is_kept (rows_of parser) (λ x passes.
        ap met (eqb-true x.entry.state s (and_parts (eqb x.entry.state s) (eqb (bit_and value x.entry.mask) x.entry.value) passes).0) ∙ is))

    follow_renamed : (goes others : ℕ → Reached → Parse) (to : Next) → ((t : ℕ) → to ≡ next.State t → (r : Reached) → goes (number t) r ≡ others t r) → follow goes (renamed_next met to) ≡ follow others to
    follow_renamed goes others next.Accept same = refl
    follow_renamed goes others next.Reject same = refl
    follow_renamed goes others (next.State t) same = funext (goes (number t)) (others t) (same t refl)

    row_renamed : (goes others : ℕ → Reached → Parse) (s value : ℕ) (r : Reached) (o : Option Row) → met s ≡ true → find (hits s value) (rows_of parser) ≡ o
        → ((t : ℕ) (q : Reached) → met t ≡ true → goes (number t) q ≡ others t q) → row_step goes frame (option_map rename o) r ≡ row_step others frame o r
    row_renamed goes others s value r None is found same = refl
    row_renamed goes others s value r (Some x) is found same =
        let e : ParserEntry = x.entry in
        let passes : hits s value x ≡ true = find-passes (hits s value) (rows_of parser) x found in
        let at : e.state ≡ s = eqb-true e.state s (and_parts (eqb e.state s) (eqb (bit_and value e.mask) e.value) passes).0 in
        let on : (t : ℕ) → met e.state ≡ true → e.next ≡ next.State t → met t ≡ true =
        All-find (λ (y : Row). (t : ℕ) → met y.entry.state ≡ true → y.entry.next ≡ next.State t → met t ≡ true) (hits s value) (rows_of parser) x row_next found in
        let window : List ℕ = take e.need (drop r.at frame) in
        ap (λ (g : Reached → Parse). cond (nat_lt (length frame) (r.at + e.need)) Short (past_tail g window (length frame - (r.at + e.need)) x.tail (behind window e r)))
        (follow_renamed goes others e.next (λ t goes_on q. same t q (on t (ap met at ∙ is) goes_on)))

    compact_from : (k s : ℕ) (r : Reached) → met s ≡ true → parse_from k (compact parser) frame (number s) r ≡ parse_from k parser frame s r
    compact_from zero s r is = refl
    compact_from (suc k) s r is =
        let value : ℕ = value_at frame r.at (slice_get parser.states s) in
        let goes : ℕ → Reached → Parse = parse_from k (compact parser) frame in
        taken_made goes frame (number s) (value_at frame r.at (slice_get kept (number s))) r kept rows
        ∙ ap (λ (o : Option ParserState). row_step goes frame (find (hits (number s) (value_at frame r.at o)) rows) r) (kept_at met parser.states s is)
        ∙ ap (λ (o : Option Row). row_step goes frame o r) (found_same s value is)
        ∙ row_renamed goes (parse_from k parser frame) s value r (find (hits s value) (rows_of parser)) is refl (λ t q passes. compact_from k t q passes)
        ∙ sym (taken_row parser (parse_from k parser frame) frame s value r)

    -- cut off after so many states
    pub compact_within : (rest : Parse) (k s : ℕ) (r : Reached) → met s ≡ true → parse_within rest k (compact parser) frame (number s) r ≡ parse_within rest k parser frame s r
    compact_within rest zero s r is = refl
    compact_within rest (suc k) s r is =
        let value : ℕ = value_at frame r.at (slice_get parser.states s) in
        let goes : ℕ → Reached → Parse = parse_within rest k (compact parser) frame in
        taken_made goes frame (number s) (value_at frame r.at (slice_get kept (number s))) r kept rows
        ∙ ap (λ (o : Option ParserState). row_step goes frame (find (hits (number s) (value_at frame r.at o)) rows) r) (kept_at met parser.states s is)
        ∙ ap (λ (o : Option Row). row_step goes frame o r) (found_same s value is)
        ∙ row_renamed goes (parse_within rest k parser frame) s value r (find (hits s value) (rows_of parser)) is refl (λ t q passes. compact_within rest k t q passes)
        ∙ sym (taken_row parser (parse_within rest k parser frame) frame s value r)

    more_states : (j k : ℕ) (r : Reached) → 0 < length kept → length kept ≤ k → parse_from k (compact parser) frame 0 r ≡ parse_from (k + j) (compact parser) frame 0 r
    more_states zero k r some enough = let e : k ≡ k + 0 = omega arith in ap (λ n. parse_from n (compact parser) frame 0 r) e
    more_states (suc j) k r some enough =
        let e : suc (k + j) ≡ k + suc j = omega arith in
        more_states j k r some enough ∙ one_more_state (compact parser) compact_keeps frame (k + j) 0 r some (omega (arith, enough)) ∙ ap (λ n. parse_from n (compact parser) frame 0 r) e

  pub compact_alike : 0 < length parser.states → ParsesAlike parser (compact parser)
  compact_alike some frame small =
      let long = length_kept met parser.states in
      let first : number 0 < number (length parser.states) = number_less met 0 (length parser.states) first_met some in
      let few = number_small met (length parser.states) in
      let all : length kept + (length parser.states - length kept) ≡ length parser.states = omega (arith, long, few) in
      more_states frame (length parser.states - length kept) (length kept) begin (omega (arith, first, long)) (omega arith)
      ∙ ap (λ n. parse_from n (compact parser) frame 0 begin) all ∙ compact_from frame (length parser.states) 0 begin first_met

-- one state more
pub number_next : (met : ℕ → Bool) (n : ℕ) → number_in met (n + 1) ≡ number_in met n + cond (met n) 1 0
number_next met n =
    let zero_more : 0 + n ≡ n = omega arith in
    ap (λ (xs : List ℕ). length (filter met xs)) (range_more 0 n) ∙ ap length (filter-append met (range_with_len 0 n) ((0 + n) ∷ []))
    ∙ length-append (filter met (range_with_len 0 n)) (filter met ((0 + n) ∷ [])) ∙ ap (λ k. number_in met n + length (filter met (k ∷ []))) zero_more ∙ ap (λ k. number_in met n + k) (by (met n))
  where
    by : (b : Bool) → length (cond b (n ∷ []) []) ≡ cond b 1 0
    by true = refl
    by false = refl

-- a compact parser, part by part
pub compact_added : (parser : ParserConfig) (met : List ℕ) (states : List ParserState) (zs es : List ParserEntry) (ys ts : List TailOf) → met ≡ met_states parser.entries → states ≡ states_kept (is_among met) 0 parser.states → zs ≡ [] → ys ≡ []
    → Adds (map (renamed (is_among met)) (filter (λ (x : Row). is_among met x.entry.state) (rows_of parser))) zs es ys ts → ◌≡◌ {A = ParserConfig} (record { states = states; entries = es; tails = ts }) (compact parser)
compact_added parser met states zs es ys ts is_met is_states no_entries no_tails added =
    let rows : List Row = map (renamed (is_among met)) (filter (λ (x : Row). is_among met x.entry.state) (rows_of parser)) in
    let one : es ≡ map (λ (x : Row). x.entry) rows = added.entries ∙ ap (λ (l : List ParserEntry). l ++ map (λ (x : Row). x.entry) rows) no_entries in
    let two : ts ≡ tails_in 0 rows = added.tails ∙ ap (λ (l : List TailOf). l ++ tails_in (length zs) rows) no_tails ∙ ap (λ (l : List ParserEntry). tails_in (length l) rows) no_entries in
    ap (λ (l : List ParserState). record { states = l; entries = es; tails = ts }) is_states
    ∙ ap (λ (l : List ParserEntry). record { states = states_kept (is_among met) 0 parser.states; entries = l; tails = ts }) one
    ∙ ap (λ (l : List TailOf). record { states = states_kept (is_among met) 0 parser.states; entries = map (λ (x : Row). x.entry) rows; tails = l }) two
    ∙ ap (λ (ms : List ℕ). parser_of (states_kept (is_among ms) 0 parser.states) (map (renamed (is_among ms)) (filter (λ (x : Row). is_among ms x.entry.state) (rows_of parser)))) is_met

pub compact_good : (parser : ParserConfig) → KeepsForm parser → 0 < length parser.states → IsGood parser (compact parser)
compact_good parser keeps some = record { alike = compact_alike parser keeps some; keeps = compact_keeps parser keeps }
