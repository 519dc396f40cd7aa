-- The plain and the clustered parser keep the rules of form, and their tails are of the program's headers.
use Rattle.std.proofs.Common.{◌≡◌, ◌&&◌, nat_lt, eqb, ℕ, zero, suc, ◌+◌, ◌*◌, ◌<◌, ◌≤◌, Bool, true, List, [], ◌∷◌, Option, Some, None, get_or, length, map, refl, arith}
use Rattle.std.specs.Prelude.{All, IfSome, nat_le, option_map, slice_get}
use Rattle.std.specs.List.{filter, list_all, range_with_len}
use Rattle.std.specs.List.Sorted.{IsNonDecreasingBy}
use Rattle.std.proofs.lemmas.Bool.{and_parts, and_from, le-leb, leb-true, lt-ltb, ltb-true}
use Rattle.std.proofs.lemmas.List.Elements.{All-append, All-cons, All-filter, All-head, All-map, All-nil, All-tail, All-weaker}
use Rattle.std.proofs.lemmas.List.Sums.{list_all-from_AllPass}
use Rattle.rmt_bits.specs.declared.lane.Lane.{Lane}
use Rattle.rmt_bits.proofs.AllLaws.{All-find, All-from_test}
use Rattle.rmt_ast.specs.WellFormed.{IsProgram}
use Rattle.rmt_phv.specs.Places.{KeepsApart}
use Rattle.rmt_config.specs.Order.{never_falls_from, rises_from}
use Rattle.rmt_config.specs.Parser.{tail_of}
use Rattle.rmt_config.specs.ParserForm.{entries_are_formed, entry_is_formed, parser_is_formed, state_is_formed, states_are_formed}
use Rattle.rmt_config.specs.TailForm.{is_tail_of, tails_are_formed}
use Rattle.rmt_ptcam.specs.Types.{Program, Header, Tail, ParserConfig, ParserEntry, TailOf}
use Rattle.rmt_ptcam.specs.Clustering.{all_joined, clustered, compact, is_met, renamed}
use Rattle.rmt_ptcam.specs.Fitting.{IsEntry, IsTailOf}
use Rattle.rmt_ptcam.specs.Joining.{KeepsForm, Row, joined_row, lookups_at, numbered, rows_from, rows_in, rows_of, tails_in}
use Rattle.rmt_ptcam.specs.Needs.{entry_count, refusal}
use Rattle.rmt_ptcam.specs.Plain.{plain, tail_at, tails_for, tails_from}
use Rattle.rmt_ptcam.proofs.CompactLaws.{compact_keeps}
use Rattle.rmt_ptcam.proofs.FormedRows.{formed_parts}
use Rattle.rmt_ptcam.proofs.JoinFacts.{may_join}
use Rattle.rmt_ptcam.proofs.JoinedForm.{formed_entry}
use Rattle.rmt_ptcam.proofs.JoinedKeeps.{joined_keeps}
use Rattle.rmt_ptcam.proofs.JoinsHold.{StaysUnderJoins, joins_hold, rows_hold, rows_joined}
use Rattle.rmt_ptcam.proofs.PlainForm.{plain_keeps}
use Rattle.rmt_ptcam.proofs.TailForms.{rises_sorted, tail_runs}

-- ---- the rules of form, part by part and as one

module _ {X : Type 0} (f : X → ℕ) where
  falls_least : (least : ℕ) (xs : List X) → never_falls_from least (map f xs) ≡ true → (i : ℕ) (d : X) → i < length xs → least ≤ f (get_or xs i d)
  falls_least least [] is i d lt = absurd (omega (arith, lt))
  falls_least least (x ∷ xs) is zero d lt = leb-true least (f x) (and_parts (nat_le least (f x)) (never_falls_from (f x) (map f xs)) is).0
  falls_least least (x ∷ xs) is (suc i) d lt =
      let parts = and_parts (nat_le least (f x)) (never_falls_from (f x) (map f xs)) is in
      let first : least ≤ f x = leb-true least (f x) parts.0 in
      let rest : f x ≤ f (get_or xs i d) = falls_least (f x) xs parts.1 i d (omega (arith, lt)) in
      omega (arith, first, rest)

  falls_sorted : (least : ℕ) (xs : List X) → never_falls_from least (map f xs) ≡ true → IsNonDecreasingBy f xs
  falls_sorted least [] is i j d le lt = absurd (omega (arith, lt))
  falls_sorted least (x ∷ xs) is zero zero d le lt = omega arith
  falls_sorted least (x ∷ xs) is zero (suc j) d le lt = falls_least (f x) xs (and_parts (nat_le least (f x)) (never_falls_from (f x) (map f xs)) is).1 j d (omega (arith, lt))
  falls_sorted least (x ∷ xs) is (suc i) zero d le lt = absurd (omega (arith, le))
  falls_sorted least (x ∷ xs) is (suc i) (suc j) d le lt = falls_sorted (f x) xs (and_parts (nat_le least (f x)) (never_falls_from (f x) (map f xs)) is).1 i j d (omega (arith, le)) (omega (arith, lt))

  sorted_falls : (least : ℕ) (xs : List X) → IsNonDecreasingBy f xs → All (λ x. least ≤ f x) xs → never_falls_from least (map f xs) ≡ true
  sorted_falls least [] sorted all = refl
  sorted_falls least (x ∷ xs) sorted all =
      and_from (nat_le least (f x)) (never_falls_from (f x) (map f xs)) (le-leb least (f x) (All-head (λ y. least ≤ f y) x xs all))
      (sorted_falls (f x) xs (λ i j d le lt. sorted (suc i) (suc j) d (omega (arith, le)) (omega (arith, lt))) (λ k d lt. sorted 0 (suc k) d (omega arith) (omega (arith, lt))))

module _ (parser : ParserConfig) where
  abbrev is_tail : TailOf → Bool
  is_tail t = is_tail_of t (slice_get parser.entries t.entry)

  pub keeps_formed : KeepsForm parser → parser_is_formed parser ≡ true
  keeps_formed keeps =
      let some = keeps.some in
      let states : states_are_formed parser.states ≡ true =
      and_from _ _ (and_from _ _ (le-leb 1 (length parser.states) (omega (arith, some))) (lt-ltb (length parser.states) 65536 keeps.few_states)) (list_all-from_AllPass state_is_formed parser.states keeps.states) in
      let entries : entries_are_formed parser ≡ true =
      and_from _ _ (and_from _ _ (lt-ltb (length parser.entries) 65536 keeps.few) (list_all-from_AllPass (entry_is_formed parser.states) parser.entries keeps.entries))
      (sorted_falls (λ (e : ParserEntry). e.state) 0 parser.entries keeps.fits.by_state (λ k d lt. omega arith)) in
      let tails : tails_are_formed parser ≡ true =
      and_from _ _ (and_from _ _ keeps.rises (lt-ltb (length parser.tails) 65536 keeps.few_tails)) (list_all-from_AllPass is_tail parser.tails keeps.tails) in
      and_from _ _ (and_from _ _ states entries) tails

  pub formed_keeps : parser_is_formed parser ≡ true → KeepsForm parser
  formed_keeps is =
      let falls : Bool = never_falls_from 0 (map (λ (e : ParserEntry). e.state) parser.entries) in
      let rise : Bool = rises_from 0 (map (λ (t : TailOf). t.entry) parser.tails) in
      let a = and_parts (states_are_formed parser.states && entries_are_formed parser) (tails_are_formed parser) is in
      let b = and_parts (states_are_formed parser.states) (entries_are_formed parser) a.0 in
      let c = and_parts (nat_le 1 (length parser.states) && nat_lt (length parser.states) 65536) (list_all state_is_formed parser.states) b.0 in
      let d = and_parts (nat_le 1 (length parser.states)) (nat_lt (length parser.states) 65536) c.0 in
      let f = and_parts (nat_lt (length parser.entries) 65536 && list_all (entry_is_formed parser.states) parser.entries) falls b.1 in
      let g = and_parts (nat_lt (length parser.entries) 65536) (list_all (entry_is_formed parser.states) parser.entries) f.0 in
      let h = and_parts (rise && nat_lt (length parser.tails) 65536) (list_all is_tail parser.tails) a.1 in
      let i = and_parts rise (nat_lt (length parser.tails) 65536) h.0 in
      let one = leb-true 1 (length parser.states) d.0 in
      let entries : All (λ e. entry_is_formed parser.states e ≡ true) parser.entries = All-from_test (λ e. entry_is_formed parser.states e ≡ true) (entry_is_formed parser.states) (λ e own. own) parser.entries g.1 in
      let tails : All (λ t. is_tail t ≡ true) parser.tails = All-from_test (λ t. is_tail t ≡ true) is_tail (λ t own. own) parser.tails h.1 in
      record {
        some = omega (arith, one);
        few_states = ltb-true (length parser.states) 65536 d.1;
        few = ltb-true (length parser.entries) 65536 g.0;
        states = All-from_test (λ s. state_is_formed s ≡ true) state_is_formed (λ s own. own) parser.states c.1;
        entries = entries;
        few_tails = ltb-true (length parser.tails) 65536 i.1;
        rises = i.0;
        tails = tails;
        fits = record {
          by_state = falls_sorted (λ (e : ParserEntry). e.state) 0 parser.entries f.1;
          entries = All-weaker (λ e. entry_is_formed parser.states e ≡ true) IsEntry (λ e own. formed_entry parser.states e (formed_parts parser.states e own)) parser.entries entries;
          by_entry = rises_sorted (λ (t : TailOf). t.entry) 0 parser.tails i.0;
          tails = All-weaker (λ t. is_tail t ≡ true) (IsTailOf parser) (tail_runs parser) parser.tails tails;
        };
      }

-- what is formed stays so under joins
pub join_keeps : StaysUnderJoins KeepsForm
join_keeps parser at e m there on can keeps = joined_keeps parser keeps at e m there on (may_join parser at e m can)

-- ---- the headers of tails

module _ (count : ℕ) where
  -- tails of the first so many headers
  abbrev pub IsLow : TailOf → Type 0
  IsLow t = t.header < count

  abbrev pub AreLow : ParserConfig → Type 0
  AreLow parser = All IsLow parser.tails

  abbrev IsLowRow : Row → Type 0
  IsLowRow x = IfSome x.tail IsLow

  numbered_low : (n : ℕ) (o : Option TailOf) → IfSome o IsLow → All IsLow (numbered n o)
  numbered_low n None low = All-nil IsLow
  numbered_low n (Some t) low = All-cons IsLow (record t { entry = n }) [] low (All-nil IsLow)

  tails_low : (n : ℕ) (rows : List Row) → All IsLowRow rows → All IsLow (tails_in n rows)
  tails_low n [] all = All-nil IsLow
  tails_low n (x ∷ xs) all =
      All-append IsLow (numbered n x.tail) (tails_in (n + 1) xs) (numbered_low n x.tail (All-head IsLowRow x xs all)) (tails_low (n + 1) xs (All-tail IsLowRow x xs all))

  found_low : (parser : ParserConfig) (n : ℕ) (o : Option TailOf) → AreLow parser → tail_of parser n ≡ o → IfSome o IsLow
  found_low parser n None low is = tt
  found_low parser n (Some t) low is = All-find IsLow (λ (x : TailOf). eqb x.entry n) parser.tails t low is

  rows_low : (parser : ParserConfig) → AreLow parser → (n : ℕ) (es : List ParserEntry) → All IsLowRow (rows_from parser n es)
  rows_low parser low n [] = All-nil IsLowRow
  rows_low parser low n (e ∷ es) =
      All-cons IsLowRow (record { entry = e; tail = tail_of parser n }) (rows_from parser (n + 1) es) (found_low parser n (tail_of parser n) low refl) (rows_low parser low (n + 1) es)

  moved_low : (bytes : ℕ) (o : Option TailOf) → IfSome o IsLow → IfSome (option_map (λ (t : TailOf). record t { from = t.from + 8 * bytes }) o) IsLow
  moved_low bytes None low = tt
  moved_low bytes (Some t) low = low

  pub join_low : StaysUnderJoins AreLow
  join_low parser at e m there on can low =
      let here = lookups_at parser.states e.state in
      let behind = lookups_at parser.states m in
      let all : All IsLowRow (rows_of parser) = rows_low parser low 0 parser.entries in
      let own : All IsLowRow (map (joined_row here behind e) (rows_in m (rows_of parser))) =
      All-map IsLowRow (joined_row here behind e) (rows_in m (rows_of parser))
      (λ k d lt. moved_low e.advance (get_or (rows_in m (rows_of parser)) k d).tail (All-filter (λ (x : Row). eqb x.entry.state m) IsLowRow (rows_of parser) all k d lt)) in
      tails_low 0 (rows_joined parser at e m) (rows_hold IsLowRow (λ from to x is. is) parser at e m all own)

  pub compact_low : (parser : ParserConfig) → AreLow parser → AreLow (compact parser)
  compact_low parser low =
      let met : Row → Bool = λ x. is_met parser x.entry.state in
      tails_low 0 (map (renamed (is_met parser)) (filter met (rows_of parser)))
      (All-map IsLowRow (renamed (is_met parser)) (filter met (rows_of parser)) (All-filter met IsLowRow (rows_of parser) (rows_low parser low 0 parser.entries)))

  header_low : (p : Program) (n a : ℕ) (h : Header) (o : Option Tail) → n < count → All IsLow (tails_for p n h a o)
  header_low p n a h None lt = All-nil IsLow
  header_low p n a h (Some t) lt = All-map IsLow (tail_at p n h t) (range_with_len a (entry_count h)) (λ k d inside. lt)

  pub plain_low : (p : Program) (n a : ℕ) (hs : List Header) → n + length hs ≤ count → All IsLow (tails_from p n a hs)
  plain_low p n a [] le = All-nil IsLow
  plain_low p n a (h ∷ hs) le =
      All-append IsLow (tails_for p n h a h.tail) (tails_from p (n + 1) (a + entry_count h) hs) (header_low p n a h h.tail (omega (arith, le)))
      (plain_low p (n + 1) (a + entry_count h) hs (omega (arith, le)))

  pub low_all : (ts : List TailOf) → All IsLow ts → list_all (λ (t : TailOf). nat_lt t.header count) ts ≡ true
  low_all [] low = refl
  low_all (t ∷ ts) low =
      and_from (nat_lt t.header count) (list_all (λ (x : TailOf). nat_lt x.header count) ts) (lt-ltb t.header count (All-head IsLow t ts low)) (low_all ts (All-tail IsLow t ts low))

-- each tail of the plain parser, and of the clustered one, is of a header of the program
pub plain_headers : (p : Program) (places : List (List Lane)) → list_all (λ (t : TailOf). nat_lt t.header (length p.headers)) (plain p places).tails ≡ true
plain_headers p places = low_all (length p.headers) (plain p places).tails (plain_low (length p.headers) p 0 0 p.headers (omega arith))

-- ---- the parsers of a program that isn't refused

module _ (p : Program) (places : List (List Lane)) (program : IsProgram p) (apart : KeepsApart p places) (fits : refusal p ≡ None) where
  pub plain_formed : parser_is_formed (plain p places) ≡ true
  plain_formed = keeps_formed (plain p places) (plain_keeps p places program apart fits)

  pub clustered_keeps : KeepsForm (clustered p places)
  clustered_keeps = compact_keeps (all_joined p (plain p places)) (joins_hold KeepsForm join_keeps p (plain p places) (plain_keeps p places program apart fits))

  pub clustered_formed : parser_is_formed (clustered p places) ≡ true
  clustered_formed = keeps_formed (clustered p places) clustered_keeps

  pub clustered_headers : list_all (λ (t : TailOf). nat_lt t.header (length p.headers)) (clustered p places).tails ≡ true
  clustered_headers =
      low_all (length p.headers) (clustered p places).tails
      (compact_low (length p.headers) (all_joined p (plain p places)) (joins_hold (AreLow (length p.headers)) (join_low (length p.headers)) p (plain p places) (plain_low (length p.headers) p 0 0 p.headers (omega arith))))
