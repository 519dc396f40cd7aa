-- A joined parser keeps the rules of form.
use Rattle.std.proofs.Common.{◌≡◌, true, ℕ, ◌+◌, ◌<◌, ◌≤◌, List, [], ◌∷◌, ◌++◌, get_or, length, map, Option, Some, None, refl, sym, ap, subst, ◌∙◌, append_assoc, arith}
use Rattle.std.specs.Prelude.{All, IfSome, nat_le, option_map, slice_get}
use Rattle.std.specs.List.Sorted.{IsNonDecreasingBy}
use Rattle.std.proofs.lemmas.Bool.{and_from, le-leb}
use Rattle.std.proofs.lemmas.List.{get_or-map, length-append, length-map}
use Rattle.std.proofs.lemmas.List.Elements.{All-nil, All-cons, All-append, All-head, All-map, All-tail, All-weaker}
use Rattle.rmt_bits.proofs.AllLaws.{All-from_test}
use Rattle.std.proofs.lemmas.Option.{slice_get-map}
use Rattle.rmt_bits.proofs.ListLaws.{slice_get-end}
use Rattle.rmt_ptcam.specs.Types.{ParserState, ParserEntry, TailOf}
use Rattle.rmt_config.specs.Order.{rises_from}
use Rattle.rmt_config.specs.TailForm.{is_tail_of}
use Rattle.rmt_config.specs.ParserForm.{entry_is_formed, extract_is_formed, state_is_formed}
use Rattle.rmt_ptcam.specs.Fitting.{IsEntry, IsTailOf}
use Rattle.rmt_ptcam.specs.Joining.{KeepsForm, Row, numbered, parser_of, tails_in}
use Rattle.rmt_ptcam.proofs.FormedRows.{IsFormed, IsRow, formed_from}
use Rattle.rmt_ptcam.proofs.TailForms.{IsRowTail, rises_before, rises_sorted, tail_from, tail_runs}

-- ---- a parser that is made of rows

abbrev entry_of_row : Row → ParserEntry
entry_of_row x = x.entry

pub formed_entry : (states : List ParserState) (e : ParserEntry) → IsFormed states e → IsEntry e
formed_entry states e is = record { advance = is.advance; extracts = All-from_test (λ x. extract_is_formed e.need x ≡ true) (extract_is_formed e.need) (λ x h. h) e.extracts is.extracts }

sorted_map : (rows : List Row) → IsNonDecreasingBy (λ (x : Row). x.entry.state) rows → IsNonDecreasingBy (λ (e : ParserEntry). e.state) (map entry_of_row rows)
sorted_map rows sorted i j d le lt =
    let long = length-map rows entry_of_row in
    let inside : j < length rows = omega (arith, long, lt) in
    let own : Row = record { entry = d; tail = None } in
    let one : get_or (map entry_of_row rows) i d ≡ (get_or rows i own).entry = get_or-map entry_of_row rows i own d (omega (arith, le, inside)) in
    let two : get_or (map entry_of_row rows) j d ≡ (get_or rows j own).entry = get_or-map entry_of_row rows j own d inside in
    subst (λ (e : ParserEntry). e.state ≤ (get_or (map entry_of_row rows) j d).state) (sym one)
    (subst (λ (e : ParserEntry). (get_or rows i own).entry.state ≤ e.state) (sym two) (sorted i j own le inside))

-- tails of rows rise
tails_rise : (n : ℕ) (rows : List Row) → rises_from n (map (λ (t : TailOf). t.entry) (tails_in n rows)) ≡ true
tails_rise n [] = refl
tails_rise n (x ∷ xs) = by x.tail (tails_rise (n + 1) xs)
  where
    by : (o : Option TailOf) → rises_from (n + 1) (map (λ (t : TailOf). t.entry) (tails_in (n + 1) xs)) ≡ true → rises_from n (map (λ (t : TailOf). t.entry) (numbered n o ++ tails_in (n + 1) xs)) ≡ true
    by None rest = rises_before n (n + 1) (map (λ (t : TailOf). t.entry) (tails_in (n + 1) xs)) (omega arith) rest
    by (Some t) rest = and_from (nat_le n n) (rises_from (n + 1) (map (λ (u : TailOf). u.entry) (tails_in (n + 1) xs))) (le-leb n n (omega arith)) rest

-- they are no more than the rows
tails_few : (n : ℕ) (rows : List Row) → length (tails_in n rows) ≤ length rows
tails_few n [] = omega arith
tails_few n (x ∷ xs) = by x.tail (tails_few (n + 1) xs)
  where
    by : (o : Option TailOf) → length (tails_in (n + 1) xs) ≤ length xs → length (numbered n o ++ tails_in (n + 1) xs) ≤ length (x ∷ xs)
    by None rest = omega (arith, rest)
    by (Some t) rest = omega (arith, rest)

module _ (states : List ParserState) (rows : List Row) where
  abbrev IsTail : TailOf → Type 0
  IsTail t = is_tail_of t (slice_get (map entry_of_row rows) t.entry) ≡ true

  tails_formed : (front back : List Row) (n : ℕ) → rows ≡ front ++ back → length front ≡ n → All (IsRow states) back → All IsTail (tails_in n back)
  tails_formed front [] n all long formed = All-nil IsTail
  tails_formed front (x ∷ back) n all long formed =
      let more = length-append front (x ∷ []) in
      let at : n ≡ length front + 0 = omega (arith, long) in
      let there : slice_get (map entry_of_row rows) n ≡ Some x.entry =
      slice_get-map entry_of_row rows n ∙ ap (λ (xs : List Row). option_map entry_of_row (slice_get xs n)) all
      ∙ ap (λ k. option_map entry_of_row (slice_get (front ++ x ∷ back) k)) at ∙ ap (option_map entry_of_row) (slice_get-end front (x ∷ back) 0) in
      All-append IsTail (numbered n x.tail) (tails_in (n + 1) back) (first x.tail (All-head (IsRow states) x back formed).tail there)
      (tails_formed (front ++ x ∷ []) back (n + 1) (all ∙ sym (append_assoc front (x ∷ []) back)) (omega (arith, more, long)) (All-tail (IsRow states) x back formed))
    where
      first : (o : Option TailOf) → IfSome o (IsRowTail x.entry) → slice_get (map entry_of_row rows) n ≡ Some x.entry → All IsTail (numbered n o)
      first None fits there = All-nil IsTail
      first (Some t) fits there =
          All-cons IsTail (record t { entry = n }) [] (subst (λ (o : Option ParserEntry). is_tail_of (record t { entry = n }) o ≡ true) (sym there) (tail_from x.entry t fits)) (All-nil IsTail)

  pub made_keeps : 0 < length states → length states < 65536 → length rows < 65536 → All (λ s. state_is_formed s ≡ true) states → All (IsRow states) rows → IsNonDecreasingBy (λ (x : Row). x.entry.state) rows
      → KeepsForm (parser_of states rows)
  made_keeps some few_states few formed_states formed sorted =
      let tails : All IsTail (tails_in 0 rows) = tails_formed [] rows 0 refl refl formed in
      record {
        some = some;
        few_states = few_states;
        few = let long = length-map rows entry_of_row in omega (arith, long, few);
        states = formed_states;
        entries =
            All-map (λ e. entry_is_formed states e ≡ true) entry_of_row rows
            (All-weaker (IsRow states) (λ (x : Row). entry_is_formed states x.entry ≡ true) (λ (x : Row) is. formed_from states x.entry is.entry) rows formed);
        few_tails = let short = tails_few 0 rows in omega (arith, short, few);
        rises = tails_rise 0 rows;
        tails = tails;
        fits = record {
          by_state = sorted_map rows sorted;
          entries = All-map IsEntry entry_of_row rows (All-weaker (IsRow states) (λ (x : Row). IsEntry x.entry) (λ (x : Row) is. formed_entry states x.entry is.entry) rows formed);
          by_entry = rises_sorted (λ (t : TailOf). t.entry) 0 (tails_in 0 rows) (tails_rise 0 rows);
          tails = All-weaker IsTail (IsTailOf (parser_of states rows)) (tail_runs (parser_of states rows)) (tails_in 0 rows) tails;
        };
      }
