-- A joined parser ends on every frame as the one that it was made of.
use Rattle.std.proofs.Common.{◌≡◌, ◌≢◌, ◌&&◌, cond, eqb, nat_lt, Bool, true, false, ℕ, zero, suc, ◌+◌, ◌<◌, ◌≤◌, List, [], ◌∷◌, ◌++◌, get_or, length, map, find, take, drop, Option, Some, None, refl, sym, ap, subst, ◌∙◌, inl, inr, arith}
use Rattle.std.specs.Prelude.{All, bit_and, option_map, slice_get, slice_index, slice_set}
use Rattle.std.specs.Option.{option_or}
use Rattle.std.proofs.lemmas.Bool.{cases_lt, cases_eq, eq-eqb, eqb-true, and_parts, and_left, ltb-true, ne_eqb}
use Rattle.std.proofs.lemmas.List.{length-set, get_or_past}
use Rattle.std.proofs.lemmas.List.Folds.{find-append}
use Rattle.std.proofs.lemmas.List.Elements.{All-head, All-tail, All-take, All-drop, All-filter, All-weaker, All-map}
use Rattle.std.proofs.lemmas.List.Elements.{filter_passes}
use Rattle.rmt_bits.proofs.AllLaws.{All-find, All-slice_get}
use Rattle.rmt_ptcam.specs.Types.{ParserConfig, ParserState, ParserEntry, Next}
use Rattle.rmt_config.specs.declared.config.Next.TheVariants as next
use Rattle.rmt_config.specs.Parser.{Parse, Reached, Short, begin, behind, follow, lookup_value, parse_from, tail_of, value_at}
use Rattle.rmt_config.specs.ParserForm.{next_is_formed}
use Rattle.rmt_ptcam.specs.Joining.{Row, KeepsForm, ParsesAlike, ends_open, joined, rows_of, widened_entry}
use Rattle.rmt_ptcam.specs.Words.{both}
use Rattle.rmt_ptcam.proofs.TestLaws.{joined_is, widened_is}
use Rattle.rmt_ptcam.proofs.FormedRows.{IsFormed, IsRow, row_at, rows_are, split_at}
use Rattle.rmt_ptcam.proofs.JoinFacts.{MayJoin, are_joined, entry_compares, find_in, found_open, lookups_formed, rows_in_entries, value_is}
use Rattle.rmt_ptcam.proofs.JoinLaws.{two_steps}
use Rattle.rmt_ptcam.proofs.JoinParts.{JoinParts, join_parts}
use Rattle.rmt_ptcam.proofs.LookupLaws.{looked_at, test_widened}
use Rattle.rmt_ptcam.proofs.RowLaws.{follow_later, hits, row_step, step_same, taken_made, taken_row}
use Rattle.rmt_ptcam.proofs.TogetherLaws.{own_here, few_here, test_joined}
use Rattle.rmt_bits.proofs.ListLaws.{find-none, slice_get-set_other, find-passes}

-- ---- lists

pub get_set_same : {X : Type 0} (xs : List X) (i : ℕ) (x : X) → i < length xs → slice_get (slice_set xs i x) i ≡ Some x
get_set_same [] i x lt = absurd (omega (arith, lt))
get_set_same (y ∷ ys) zero x lt = refl
get_set_same (y ∷ ys) (suc i) x lt = get_set_same ys i x (omega (arith, lt))

-- a search in changed items
pub find_map : {X Y : Type 0} (p : Y → Bool) (q : X → Bool) (f : X → Y) (xs : List X) → All (λ x. p (f x) ≡ q x) xs → find p (map f xs) ≡ option_map f (find q xs)
find_map p q f [] same = refl
find_map p q f (x ∷ xs) same = by (p (f x)) (q x) (All-head (λ y. p (f y) ≡ q y) x xs same) (find_map p q f xs (All-tail (λ y. p (f y) ≡ q y) x xs same))
  where
    by : (a b : Bool) → a ≡ b → find p (map f xs) ≡ option_map f (find q xs) → cond a (Some (f x)) (find p (map f xs)) ≡ option_map f (cond b (Some x) (find q xs))
    by true true e rest = refl
    by true false e rest = absurd cc
    by false true e rest = absurd cc
    by false false e rest = rest

-- every byte of a frame is small, past its end too
pub frame_small : (frame : List ℕ) → All (λ b. b < 256) frame → (i : ℕ) → slice_index frame i < 256
frame_small frame small i = elim (cases_lt i (length frame)) [
  | inl inside ↦ small i 0 inside
  | inr past ↦ let none : slice_index frame i ≡ 0 = get_or_past frame i 0 past in omega (arith, none)
]

-- ---- how many states are met

-- with as many states to come as there are, one more makes no difference
module _ (parser : ParserConfig) (keeps : KeepsForm parser) (frame : List ℕ) where
  pub found_row : (state value : ℕ) (x : Row) → find (hits state value) (rows_of parser) ≡ Some x → (next_is_formed (length parser.states) state x.entry.next ≡ true)
  found_row state value x found =
      let is : IsRow parser.states x = All-find (IsRow parser.states) (hits state value) (rows_of parser) x (rows_are parser keeps) found in
      let own : x.entry.state ≡ state = eqb-true x.entry.state state (and_parts (eqb x.entry.state state) (eqb (bit_and value x.entry.mask) x.entry.value) (find-passes (hits state value) (rows_of parser) x found)).0 in
      subst (λ s. next_is_formed (length parser.states) s x.entry.next ≡ true) own is.entry.next

  -- the row that is found, where what is behind it goes on alike
  pub row_later : (goes others : ℕ → Reached → Parse) (state value : ℕ) (r : Reached) (o : Option Row) → find (hits state value) (rows_of parser) ≡ o
      → ((s : ℕ) (r : Reached) → state < s → s < length parser.states → goes s r ≡ others s r) → row_step goes frame o r ≡ row_step others frame o r
  row_later goes others state value r None found later = refl
  row_later goes others state value r (Some x) found later =
      step_same goes others frame x.tail x.entry r (follow_later goes others (length parser.states) state x.entry.next (found_row state value x found) later)

  pub one_more_state : (k state : ℕ) (r : Reached) → state < length parser.states → length parser.states ≤ state + k → parse_from k parser frame state r ≡ parse_from (suc k) parser frame state r
  one_more_state zero state r lt enough = absurd (omega (arith, lt, enough))
  one_more_state (suc k) state r lt enough =
      let value : ℕ = value_at frame r.at (slice_get parser.states state) in
      let found : Option Row = find (hits state value) (rows_of parser) in
      taken_row parser (parse_from k parser frame) frame state value r
      ∙ row_later (parse_from k parser frame) (parse_from (suc k) parser frame) state value r found refl (λ s q behind there. one_more_state k s q there (omega (arith, enough, behind)))
      ∙ sym (taken_row parser (parse_from (suc k) parser frame) frame state value r)

-- ---- the joined parser

module _ (parser : ParserConfig) (keeps : KeepsForm parser) (at : ℕ) (e : ParserEntry) (m : ℕ) (there : slice_get parser.entries at ≡ Some e) (on : e.next ≡ next.State m) (may : MayJoin parser at e m) where
  abbrev n : ℕ
  n = e.state

  abbrev parts : JoinParts
  parts = join_parts parser at e m

  abbrev own_row : Row
  own_row = record { entry = e; tail = None }

  formed_rows : All (IsRow parser.states) (rows_of parser)
  formed_rows = rows_are parser keeps

  row_there : slice_get (rows_of parser) at ≡ Some own_row
  row_there =
      let same : 0 + at ≡ at = omega arith in
      row_at parser 0 at parser.entries e there ∙ ap (λ k. Some (record { entry = e; tail = tail_of parser k })) same ∙ ap (λ o. Some (record { entry = e; tail = o })) may.untailed

  pub rows_split : rows_of parser ≡ parts.front ++ own_row ∷ parts.back
  rows_split = split_at (rows_of parser) at own_row row_there

  pub formed_e : IsFormed parser.states e
  formed_e = (All-slice_get (IsRow parser.states) (rows_of parser) at own_row formed_rows row_there).entry

  pub next_there : (nat_lt m (length parser.states) ≡ true) × (nat_lt n m ≡ true)
  next_there =
      let formed : next_is_formed (length parser.states) n (next.State m) ≡ true = subst (λ (x : Next). next_is_formed (length parser.states) n x ≡ true) on formed_e.next in
      let parts : ((nat_lt m (length parser.states) && nat_lt m 256) ≡ true) × (nat_lt n m ≡ true) = and_parts (nat_lt m (length parser.states) && nat_lt m 256) (nat_lt n m) formed in
      ((and_parts (nat_lt m (length parser.states)) (nat_lt m 256) parts.0).0, parts.1)

  -- ---- the rows at a state of a frame

  -- of a row only what it compares changes
  widen_step : (goes : ℕ → Reached → Parse) (frame : List ℕ) (r : Reached) (o : Option Row) → row_step goes frame (option_map parts.widen o) r ≡ row_step goes frame o r
  widen_step goes frame r None = refl
  widen_step goes frame r (Some x) = by (eqb x.entry.state n)
    where
      by : (b : Bool) → row_step goes frame (Some (cond b (record x { entry = widened_entry parts.here parts.to x.entry }) x)) r ≡ row_step goes frame (Some x) r
      by true = refl
      by false = refl

  pub second_formed : All (IsRow parser.states) parts.second
  second_formed = All-filter (λ (x : Row). eqb x.entry.state m) (IsRow parser.states) (rows_of parser) formed_rows

  pub second_own : All (λ (y : Row). y.entry.state ≡ m) parts.second
  second_own =
      All-weaker (λ (y : Row). eqb y.entry.state m ≡ true) (λ (y : Row). y.entry.state ≡ m) (λ (y : Row) is. eqb-true y.entry.state m is) parts.second
      (filter_passes (λ (x : Row). eqb x.entry.state m) (rows_of parser))

  -- rows of another state
  module _ (state value : ℕ) (other : state ≢ n) where
    not_own : eqb n state ≡ false
    not_own = ne_eqb n state (λ same. other (sym same))

    widen_other : (x : Row) → hits state value (parts.widen x) ≡ hits state value x
    widen_other x = by (eqb x.entry.state n) refl
      where
        by : (b : Bool) → eqb x.entry.state n ≡ b → hits state value (cond b (record x { entry = widened_entry parts.here parts.to x.entry }) x) ≡ hits state value x
        by true is =
            let own : x.entry.state ≡ n = eqb-true x.entry.state n is in
            let not : eqb x.entry.state state ≡ false = ne_eqb x.entry.state state (λ same. other (sym same ∙ own)) in
            and_left (eqb x.entry.state state) (eqb (bit_and value (widened_entry parts.here parts.to x.entry).mask) (widened_entry parts.here parts.to x.entry).value) not
            ∙ sym (and_left (eqb x.entry.state state) (eqb (bit_and value x.entry.mask) x.entry.value) not)
        by false is = refl

    found_other : find (hits state value) parts.rows ≡ option_or (option_map parts.widen (find (hits state value) parts.front)) (option_map parts.widen (find (hits state value) parts.back))
    found_other =
        let p : Row → Bool = hits state value in
        find-append p (map parts.widen parts.front) (map parts.join_row parts.second ++ map parts.widen parts.back)
        ∙ ap (λ (o : Option Row). option_or (find p (map parts.widen parts.front)) o) (find-append p (map parts.join_row parts.second) (map parts.widen parts.back))
        ∙ ap (λ (o : Option Row). option_or (find p (map parts.widen parts.front)) (option_or o (find p (map parts.widen parts.back))))
        (find-none p (map parts.join_row parts.second) (All-map (λ (x : Row). p x ≡ false) parts.join_row parts.second
        (λ k d lt. and_left (eqb n state) _ not_own)))
        ∙ ap (λ (o : Option Row). option_or o (find p (map parts.widen parts.back))) (find_map p p parts.widen parts.front (λ k d lt. widen_other (get_or parts.front k d)))
        ∙ ap (λ (o : Option Row). option_or (option_map parts.widen (find p parts.front)) o) (find_map p p parts.widen parts.back (λ k d lt. widen_other (get_or parts.back k d)))

    found_before : find (hits state value) (rows_of parser) ≡ option_or (find (hits state value) parts.front) (find (hits state value) parts.back)
    found_before =
        let p : Row → Bool = hits state value in
        ap (λ (xs : List Row). find p xs) rows_split ∙ find-append p parts.front (own_row ∷ parts.back)
        ∙ ap (λ (b : Bool). option_or (find p parts.front) (cond b (Some own_row) (find p parts.back))) (and_left (eqb n state) (eqb (bit_and value e.mask) e.value) not_own)

    pub step_other : (goes : ℕ → Reached → Parse) (frame : List ℕ) (r : Reached) → row_step goes frame (find (hits state value) parts.rows) r ≡ row_step goes frame (find (hits state value) (rows_of parser)) r
    step_other goes frame r =
        ap (λ (o : Option Row). row_step goes frame o r) found_other ∙ by (find (hits state value) parts.front) ∙ sym (ap (λ (o : Option Row). row_step goes frame o r) found_before)
      where
        by : (o : Option Row) → row_step goes frame (option_or (option_map parts.widen o) (option_map parts.widen (find (hits state value) parts.back))) r ≡ row_step goes frame (option_or o (find (hits state value) parts.back)) r
        by None = widen_step goes frame r (find (hits state value) parts.back)
        by (Some x) = widen_step goes frame r (Some x)

  -- rows of the entry's own state
  module _ (frame : List ℕ) (small : All (λ b. b < 256) frame) (r : Reached) where
    abbrev read : ℕ → ℕ
    read k = slice_index frame (r.at + k)

    abbrev read_behind : ℕ → ℕ
    read_behind k = slice_index frame (r.at + e.advance + k)

    abbrev value : ℕ
    value = value_at frame r.at (slice_get parser.states n)

    abbrev new_value : ℕ
    new_value = lookup_value frame r.at (record { lookups = parts.to })

    abbrev next_value : ℕ
    next_value = value_at frame (r.at + e.advance) (slice_get parser.states m)

    read_small : (o : ℕ) → read o < 256
    read_small o = frame_small frame small (r.at + o)

    widen_hit : (x : Row) → IsRow parser.states x → hits n new_value (parts.widen x) ≡ hits n value x
    widen_hit x formed = by (eqb x.entry.state n) refl
      where
        by : (b : Bool) → eqb x.entry.state n ≡ b → hits n new_value (cond b (record x { entry = widened_entry parts.here parts.to x.entry }) x) ≡ hits n value x
        by true is =
            let own : x.entry.state ≡ n = eqb-true x.entry.state n is in
            let lists = lookups_formed parser.states n keeps.states in
            let compares = entry_compares parser.states x.entry n formed.entry own in
            ap (λ (f : ParserEntry). hits n new_value (record x { entry = f })) (widened_is parts.here parts.to x.entry)
            ∙ ap (λ (b : Bool). eqb x.entry.state n && b)
            (test_widened read read_small 0 parts.here parts.to x.entry.mask x.entry.value lists.rises (few_here parts.here e.advance parts.behind lists.rises lists.low may.few) may.few (own_here parts.here parts.behind e.advance lists.low) compares.mask compares.value
            ∙ ap (λ v. eqb (bit_and v x.entry.mask) x.entry.value) (sym (value_is frame r.at parser.states n)))
        by false is = and_left (eqb x.entry.state n) (eqb (bit_and new_value x.entry.mask) x.entry.value) is ∙ sym (and_left (eqb x.entry.state n) (eqb (bit_and value x.entry.mask) x.entry.value) is)

    join_hit : (y : Row) → IsRow parser.states y → y.entry.state ≡ m → hits n new_value (parts.join_row y) ≡ (hits n value own_row && hits m next_value y)
    join_hit y formed own =
        let f : ParserEntry = y.entry in
        let joins = are_joined parser at e f m keeps may formed_e formed.entry own in
        let mine : Bool = eqb (bit_and new_value (both parts.here e.advance parts.behind e.mask f.mask)) (both parts.here e.advance parts.behind e.value f.value) in
        ap (λ (g : ParserEntry). hits n new_value (record (parts.join_row y) { entry = g })) (joined_is parts.here parts.behind e f) ∙ ap (λ (b : Bool). b && mine) (eq-eqb n n refl)
        ∙ test_joined parts.here e.advance parts.behind e.mask e.value f.mask f.value joins read read_behind read_small
        (λ o. (let same : r.at + e.advance + o ≡ r.at + (o + e.advance) = omega arith in ap (slice_index frame) same))
        ∙ ap (λ v. eqb (bit_and v e.mask) e.value && eqb (bit_and (looked_at read_behind parts.behind) f.mask) f.value) (sym (value_is frame r.at parser.states n))
        ∙ ap (λ v. eqb (bit_and value e.mask) e.value && eqb (bit_and v f.mask) f.value) (sym (value_is frame (r.at + e.advance) parser.states m))
        ∙ ap (λ (b : Bool). (b && eqb (bit_and value e.mask) e.value) && eqb (bit_and next_value f.mask) f.value) (sym (eq-eqb n n refl))
        ∙ ap (λ (b : Bool). (eqb n n && eqb (bit_and value e.mask) e.value) && (b && eqb (bit_and next_value f.mask) f.value)) (sym (eq-eqb f.state m own))

    abbrev in_front : Option Row
    in_front = find (hits n value) parts.front

    abbrev in_back : Option Row
    in_back = find (hits n value) parts.back

    abbrev in_second : Option Row
    in_second = find (hits m next_value) parts.second

    found_second : find (hits n new_value) (map parts.join_row parts.second) ≡ cond (hits n value own_row) (option_map parts.join_row in_second) None
    found_second = by (hits n value own_row) (λ k d lt. join_hit (get_or parts.second k d) (second_formed k d lt) (second_own k d lt))
      where
        by : (b : Bool) → All (λ (y : Row). hits n new_value (parts.join_row y) ≡ (b && hits m next_value y)) parts.second → find (hits n new_value) (map parts.join_row parts.second) ≡ cond b (option_map parts.join_row in_second) None
        by true same = find_map (hits n new_value) (hits m next_value) parts.join_row parts.second same
        by false same = find-none (hits n new_value) (map parts.join_row parts.second) (All-map (λ (x : Row). hits n new_value x ≡ false) parts.join_row parts.second same)

    found_new : find (hits n new_value) parts.rows ≡ option_or (option_map parts.widen in_front) (option_or (cond (hits n value own_row) (option_map parts.join_row in_second) None) (option_map parts.widen in_back))
    found_new =
        let p : Row → Bool = hits n new_value in
        let q : Row → Bool = hits n value in
        find-append p (map parts.widen parts.front) (map parts.join_row parts.second ++ map parts.widen parts.back)
        ∙ ap (λ (o : Option Row). option_or (find p (map parts.widen parts.front)) o) (find-append p (map parts.join_row parts.second) (map parts.widen parts.back))
        ∙ ap (λ (o : Option Row). option_or (find p (map parts.widen parts.front)) (option_or o (find p (map parts.widen parts.back)))) found_second
        ∙ ap (λ (o : Option Row). option_or o (option_or (cond (hits n value own_row) (option_map parts.join_row in_second) None) (find p (map parts.widen parts.back))))
        (find_map p q parts.widen parts.front (λ k d lt. widen_hit (get_or parts.front k d) (All-take (IsRow parser.states) at (rows_of parser) formed_rows k d lt)))
        ∙ ap (λ (o : Option Row). option_or (option_map parts.widen in_front) (option_or (cond (hits n value own_row) (option_map parts.join_row in_second) None) o))
        (find_map p q parts.widen parts.back (λ k d lt. widen_hit (get_or parts.back k d) (All-drop (IsRow parser.states) (at + 1) (rows_of parser) formed_rows k d lt)))

    found_old : find (hits n value) (rows_of parser) ≡ option_or in_front (cond (hits n value own_row) (Some own_row) in_back)
    found_old = ap (λ (xs : List Row). find (hits n value) xs) rows_split ∙ find-append (hits n value) parts.front (own_row ∷ parts.back)

    second_found : (y : Row) × (in_second ≡ Some y)
    second_found =
        found_open parser.states m next_value parts.second (subst (λ (es : List ParserEntry). ends_open es ≡ true) (sym (rows_in_entries parser m 0 parser.entries)) may.ends) second_formed second_own

    -- the joined entry and its first part
    step_joined : (goes others : ℕ → Reached → Parse) (later : Reached → Parse)
        → ((s : ℕ) (q : Reached) → m < s → s < length parser.states → goes s q ≡ others s q)
        → ((q : Reached) → q.at ≡ r.at + e.advance → later q ≡ row_step others frame in_second q)
        → row_step goes frame (option_map parts.join_row in_second) r ≡ cond (nat_lt (length frame) (r.at + e.need)) Short (later (behind (take e.need (drop r.at frame)) e r))
    step_joined goes others later same next =
        let y : Row = second_found.0 in
        let found : in_second ≡ Some y = second_found.1 in
        let formed : IsRow parser.states y = All-find (IsRow parser.states) (hits m next_value) parts.second y second_formed found in
        let own : y.entry.state ≡ m = All-find (λ (z : Row). z.entry.state ≡ m) (hits m next_value) parts.second y second_own found in
        let on_formed : next_is_formed (length parser.states) m y.entry.next ≡ true = subst (λ s. next_is_formed (length parser.states) s y.entry.next ≡ true) own formed.entry.next in
        let between : Reached = behind (take e.need (drop r.at frame)) e r in
        ap (λ (o : Option Row). row_step goes frame (option_map parts.join_row o) r) found
        ∙ two_steps parts.here parts.behind parser.states e y formed_e formed may.whole frame small r goes others (follow_later goes others (length parser.states) m y.entry.next on_formed same)
        ∙ ap (λ (p : Parse). cond (nat_lt (length frame) (r.at + e.need)) Short p) (sym (next between refl ∙ ap (λ (o : Option Row). row_step others frame o between) found))

    -- the rows of the state, where the joined entry is as its two parts
    pub own_rows : (goes others : ℕ → Reached → Parse) → row_step goes frame (find (hits n value) (rows_of parser)) r ≡ row_step others frame (find (hits n value) (rows_of parser)) r
        → (find (hits n value) (rows_of parser) ≡ Some own_row → cond (nat_lt (length frame) (r.at + e.need)) Short (row_step goes frame in_second (behind (take e.need (drop r.at frame)) e r)) ≡ row_step others frame (Some own_row) r)
        → row_step goes frame (find (hits n new_value) parts.rows) r ≡ row_step others frame (find (hits n value) (rows_of parser)) r
    own_rows goes others same joined_same = ap (λ (o : Option Row). row_step goes frame o r) found_new ∙ by in_front (hits n value own_row) found_old
      where
        by : (f : Option Row) (b : Bool) → find (hits n value) (rows_of parser) ≡ option_or f (cond b (Some own_row) in_back)
            → row_step goes frame (option_or (option_map parts.widen f) (option_or (cond b (option_map parts.join_row in_second) None) (option_map parts.widen in_back))) r ≡ row_step others frame (find (hits n value) (rows_of parser)) r
        by (Some x) b found = widen_step goes frame r (Some x) ∙ sym (ap (λ (o : Option Row). row_step goes frame o r) found) ∙ same
        by None true found =
            ap (λ (o : Option Row). row_step goes frame (option_or (option_map parts.join_row o) (option_map parts.widen in_back)) r) second_found.1
            ∙ sym (ap (λ (o : Option Row). row_step goes frame (option_map parts.join_row o) r) second_found.1)
            ∙ step_joined goes goes (λ q. row_step goes frame in_second q) (λ s q behind_m below. refl) (λ q at_next. refl)
            ∙ joined_same found ∙ sym (ap (λ (o : Option Row). row_step others frame o r) found)
        by None false found = widen_step goes frame r in_back ∙ sym (ap (λ (o : Option Row). row_step goes frame o r) found) ∙ same

    -- the rows of the state, where later states go on alike
    step_own : (k : ℕ) (goes : ℕ → Reached → Parse) → n < length parser.states → length parser.states ≤ n + suc k
        → ((s : ℕ) (q : Reached) → n < s → s < length parser.states → goes s q ≡ parse_from k parser frame s q)
        → row_step goes frame (find (hits n new_value) parts.rows) r ≡ row_step (parse_from k parser frame) frame (find (hits n value) (rows_of parser)) r
    step_own zero goes lt enough later =
        let m_there : m < length parser.states = ltb-true m (length parser.states) next_there.0 in
        let m_later : n < m = ltb-true n m next_there.1 in
        absurd (omega (arith, m_there, m_later, enough))
    step_own (suc k) goes lt enough later =
        ap (λ (o : Option Row). row_step goes frame o r) found_new
        ∙ by in_front (hits n value own_row) found_old
        ∙ sym (ap (λ (o : Option Row). row_step (parse_from (suc k) parser frame) frame o r) found_old)
      where
        next_same : (q : Reached) → q.at ≡ r.at + e.advance → parse_from (suc k) parser frame m q ≡ row_step (parse_from k parser frame) frame in_second q
        next_same q at_next =
            taken_row parser (parse_from k parser frame) frame m (value_at frame q.at (slice_get parser.states m)) q
            ∙ ap (λ a. row_step (parse_from k parser frame) frame (find (hits m (value_at frame a (slice_get parser.states m))) (rows_of parser)) q) at_next
            ∙ ap (λ (o : Option Row). row_step (parse_from k parser frame) frame o q) (sym (find_in m next_value (rows_of parser)))

        by : (f : Option Row) (b : Bool) → find (hits n value) (rows_of parser) ≡ option_or f (cond b (Some own_row) in_back)
            → row_step goes frame (option_or (option_map parts.widen f) (option_or (cond b (option_map parts.join_row in_second) None) (option_map parts.widen in_back))) r
            ≡ row_step (parse_from (suc k) parser frame) frame (option_or f (cond b (Some own_row) in_back)) r
        by (Some x) b found = widen_step goes frame r (Some x) ∙ row_later parser keeps frame goes (parse_from (suc k) parser frame) n value r (Some x) found later
        by None true found =
            let y : Row = second_found.0 in
            let m_later : n < m = ltb-true n m next_there.1 in
            let same : (s : ℕ) (q : Reached) → m < s → s < length parser.states → goes s q ≡ parse_from k parser frame s q =
            λ s q behind there. later s q (omega (arith, m_later, behind)) there ∙ sym (one_more_state parser keeps frame k s q there (omega (arith, enough, m_later, behind))) in
            ap (λ (o : Option Row). row_step goes frame (option_or (option_map parts.join_row o) (option_map parts.widen in_back)) r) second_found.1
            ∙ sym (ap (λ (o : Option Row). row_step goes frame (option_map parts.join_row o) r) second_found.1)
            ∙ step_joined goes (parse_from k parser frame) (parse_from (suc k) parser frame m) same next_same
            ∙ sym (ap (λ (x : Next). cond (nat_lt (length frame) (r.at + e.need)) Short (follow (parse_from (suc k) parser frame) x (behind (take e.need (drop r.at frame)) e r))) on)
        by None false found = widen_step goes frame r in_back ∙ row_later parser keeps frame goes (parse_from (suc k) parser frame) n value r in_back found later

  -- ---- the whole parse

  joined_from : (frame : List ℕ) → All (λ b. b < 256) frame → (k state : ℕ) (r : Reached) → state < length parser.states → length parser.states ≤ state + k
      → parse_from k (joined parser at e m) frame state r ≡ parse_from k parser frame state r
  joined_from frame small zero state r lt enough = absurd (omega (arith, lt, enough))
  joined_from frame small (suc k) state r lt enough =
      let goes : ℕ → Reached → Parse = parse_from k (joined parser at e m) frame in
      let later : (s : ℕ) (q : Reached) → state < s → s < length parser.states → goes s q ≡ parse_from k parser frame s q = λ s q behind there. joined_from frame small k s q there (omega (arith, enough, behind)) in
      let new_value_at : ℕ = value_at frame r.at (slice_get parts.states state) in
      let value_here : ℕ = value_at frame r.at (slice_get parser.states state) in
      taken_made goes frame state new_value_at r parts.states parts.rows
      ∙ elim (cases_eq state n) [
        | inl same ↦
            subst (λ s. (s < length parser.states) → (length parser.states ≤ s + suc k) → ((t : ℕ) (q : Reached) → s < t → t < length parser.states → goes t q ≡ parse_from k parser frame t q)
            → row_step goes frame (find (hits s (value_at frame r.at (slice_get parts.states s))) parts.rows) r ≡ row_step (parse_from k parser frame) frame (find (hits s (value_at frame r.at (slice_get parser.states s))) (rows_of parser)) r) (sym same)
            (λ there room on_later.
            ap (λ (o : Option ParserState). row_step goes frame (find (hits n (value_at frame r.at o)) parts.rows) r) (get_set_same parser.states n (record { lookups = parts.to }) there)
            ∙ step_own frame small r k goes there room on_later)
            lt enough later
        | inr other ↦
            ap (λ (o : Option ParserState). row_step goes frame (find (hits state (value_at frame r.at o)) parts.rows) r) (slice_get-set_other parser.states n state (record { lookups = parts.to }) other)
            ∙ step_other state value_here other goes frame r
            ∙ row_later parser keeps frame goes (parse_from k parser frame) state value_here r (find (hits state value_here) (rows_of parser)) refl later
      ]
      ∙ sym (taken_row parser (parse_from k parser frame) frame state value_here r)

  pub joined_alike : ParsesAlike parser (joined parser at e m)
  joined_alike frame small =
      let some : n < length parser.states = formed_e.state_there in
      ap (λ k. parse_from k (joined parser at e m) frame 0 begin) (length-set parser.states n (record { lookups = parts.to }))
      ∙ joined_from frame small (length parser.states) 0 begin (omega (arith, some)) (omega arith)
