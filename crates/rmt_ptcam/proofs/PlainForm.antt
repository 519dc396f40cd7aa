-- The plain parser keeps the rules of form.
use Rattle.std.proofs.Common.{◌≡◌, ◌&&◌, cond, nat_lt, Bool, true, false, ℕ, zero, suc, ◌+◌, ◌-◌, ◌*◌, ◌%◌, ◌^◌, ◌<◌, ◌≤◌, List, [], ◌∷◌, get_or, length, map, reverse, Option, Some, None, refl, sym, ap, subst, ◌∙◌, arith}
use Rattle.std.specs.Prelude.{All, bit_and, option_map, slice_get, unwrap_or}
use Rattle.std.specs.List.{AllZip, list_all, range_with_len, sum_by}
use Rattle.std.proofs.lemmas.Bool.{and_from, lt-ltb, ltb-false}
use Rattle.std.proofs.lemmas.List.{length-append, length-map, length-reverse}
use Rattle.std.proofs.lemmas.List.Elements.{All-nil, All-cons, All-append, All-contains, All-filter, All-map}
use Rattle.std.proofs.lemmas.List.Sums.{sum_by-cons, list_all-from_AllPass}
use Rattle.std.proofs.lemmas.Option.{same_Some, slice_get-get_or, slice_get-map, slice_get_within}
use Rattle.rmt_bits.specs.Bits.{slice}
use Rattle.rmt_bits.specs.declared.lane.Lane.{Lane}
use Rattle.rmt_bits.proofs.AllLaws.{All-range}
use Rattle.rmt_bits.proofs.BitLaws.{slice-and, slice-lt}
use Rattle.rmt_ptcam.specs.Types.{Program, Header, Case, Test, Target, ParserState}
use Rattle.rmt_ast.specs.declared.program.Target.TheVariants as target
use Rattle.rmt_ast.specs.Places.{lanes_of}
use Rattle.rmt_ast.specs.State.{width_of}
use Rattle.rmt_ast.specs.WellFormed.{AreTests, IsCase, IsHeader, IsProgram, IsTarget}
use Rattle.rmt_phv.specs.Packing.{pieces}
use Rattle.rmt_phv.specs.Places.{KeepsApart, high_first}
use Rattle.rmt_config.specs.declared.config.Extract.TheVariants.{One}
use Rattle.rmt_config.specs.Order.{rises_from}
use Rattle.rmt_config.specs.ParserForm.{entry_is_formed, extract_is_formed, lookups_of as lookups_in_state, next_is_formed, state_is_formed}
use Rattle.rmt_ptcam.specs.declared.fault.ParserFault.TheVariants.{LookupWide, StepWide}
use Rattle.rmt_ptcam.specs.Joining.{KeepsForm}
use Rattle.rmt_ptcam.specs.Needs.{extract_count, first_fault, full_fault, header_fault, is_looked_up, lookups_of, refusal}
use Rattle.rmt_ptcam.specs.Plain.{bits_from, entries_from, entries_of, entry_of_case, entry_to, extracts_of, looked_up, next_of, plain, state_of}
use Rattle.rmt_ptcam.proofs.AgreementLaws.{few_lookups}
use Rattle.rmt_ptcam.proofs.BitRunLaws.{bit_from_slice, same_on_runs}
use Rattle.rmt_ptcam.proofs.CaseLaws.{CaseParts, byte_of, case_parts, case_reads, looked_up_shown, masks_fit, shown, values_fit}
use Rattle.rmt_ptcam.proofs.FormedRows.{formed_from}
use Rattle.rmt_ptcam.proofs.FormLaws.{header_formed, plain_few, plain_is_parser, plain_rises, plain_tails_formed}
use Rattle.rmt_ptcam.proofs.LookupLaws.{Compares, IsOver, agrees_from, word_over}
use Rattle.rmt_ptcam.proofs.NeedLaws.{fits_in}
use Rattle.rmt_ptcam.proofs.PlainLaws.{length-entries_from}
use Rattle.rmt_ptcam.proofs.TogetherLaws.{list_all_below, rises_filtered}
use Rattle.rmt_bits.proofs.OptionLaws.{option_or-none_left, option_or-none_right}
use Rattle.rmt_phv.proofs.LaneLaws.{lanes_count}

-- ---- what a case compares

value_runs : (p : Program) (low : ℕ → ℕ) (mask value : ℕ) (fs : List ℕ) (ts : List Test) → AreTests p fs ts → AllZip (λ f x. slice mask (low f) (width_of p f) ≡ x) fs (map (λ (t : Test). t.mask) ts)
    → AllZip (λ f x. slice value (low f) (width_of p f) ≡ x) fs (map (λ (t : Test). t.value) ts) → All (λ f. slice (bit_and value mask) (low f) (width_of p f) ≡ slice value (low f) (width_of p f)) fs
value_runs p low mask value [] ts tests masks values = All-nil (λ f. slice (bit_and value mask) (low f) (width_of p f) ≡ slice value (low f) (width_of p f))
value_runs p low mask value (f ∷ fs) [] tests masks values = absurd tests
value_runs p low mask value (f ∷ fs) (t ∷ ts) tests masks values =
    All-cons (λ g. slice (bit_and value mask) (low g) (width_of p g) ≡ slice value (low g) (width_of p g)) f fs
    (slice-and value mask (low f) (width_of p f) ∙ ap (bit_and (slice value (low f) (width_of p f))) masks.0 ∙ ap (λ x. bit_and x t.mask) values.0 ∙ tests.0.value_is_masked ∙ sym values.0)
    (value_runs p low mask value fs ts tests.1 masks.1 values.1)

module _ (p : Program) (n : ℕ) (h : Header) (is : IsHeader p n h) (few : length (lookups_of p h) ≤ 4) (ts : List Test) (tests : AreTests p h.select ts) where
  abbrev case : CaseParts
  case = case_parts p h ts

  -- the values have no bit outside the masks
  value_masked : bit_and case.value case.mask ≡ case.value
  value_masked =
      let each : All (λ f. slice (bit_and case.value case.mask) (case.low f) (width_of p f) ≡ slice case.value (case.low f) (width_of p f)) h.select =
      value_runs p case.low case.mask case.value h.select ts tests (case_reads p n h is case.masks (masks_fit p h.select ts tests)) (case_reads p n h is case.values (values_fit p h.select ts tests)) in
      same_on_runs case.low (width_of p) case.value h.select case.masks case.values (masks_fit p h.select ts tests) (values_fit p h.select ts tests) (λ i f bit.
      bit_from_slice (bit_and case.value case.mask) case.value (case.low f) (width_of p f) i
      (All-contains (λ g. slice (bit_and case.value case.mask) (case.low g) (width_of p g) ≡ slice case.value (case.low g) (width_of p g)) h.select f each bit.own) bit.from bit.below)

  small : (x o : ℕ) → byte_of h.bytes x o < 256
  small x o = slice-lt x (8 * (h.bytes - 1 - o)) 8

  case_compares : Compares (lookups_of p h) (looked_up p h case.masks) (looked_up p h case.values)
  case_compares = record {
    mask = subst (IsOver (lookups_of p h)) (sym (looked_up_shown p h case.masks)) (word_over (byte_of h.bytes case.mask) (small case.mask) (lookups_of p h) few);
    value = subst (IsOver (lookups_of p h)) (sym (looked_up_shown p h case.values)) (word_over (byte_of h.bytes case.value) (small case.value) (lookups_of p h) few);
    within =
        ap (λ x. bit_and x (looked_up p h case.masks)) (looked_up_shown p h case.values) ∙ ap (bit_and (shown p h case.value)) (looked_up_shown p h case.masks)
        ∙ agrees_from (byte_of h.bytes case.value) (byte_of h.bytes case.mask) (byte_of h.bytes case.value) (small case.value) (small case.mask) (small case.value) (lookups_of p h) few
        (λ k d lt.
        let at : ℕ = 8 * (h.bytes - 1 - get_or (lookups_of p h) k d) in
        sym (slice-and case.value case.mask at 8) ∙ ap (λ x. slice x at 8) value_masked)
        ∙ sym (looked_up_shown p h case.values);
  }

-- ---- how many extracts

length-bits_from : (from : ℕ) (ls : List Lane) → length (bits_from from ls) ≡ length ls
length-bits_from from [] = refl
length-bits_from from (l ∷ ls) = ap suc (length-bits_from (from + l.len) ls)

-- as many lanes as pieces
pub fields_count : (p : Program) (places : List (List Lane)) (fs : List ℕ) → KeepsApart p places → length (high_first places fs) ≡ sum_by (λ f. length (pieces (width_of p f))) fs
fields_count p places [] keeps = refl
fields_count p places (f ∷ fs) keeps =
    let here = lanes_count p places f keeps.cut in
    let rest = fields_count p places fs keeps in
    let long = length-append (reverse (lanes_of places f)) (high_first places fs) in
    let turned = length-reverse (lanes_of places f) in
    let all = sum_by-cons (λ g. length (pieces (width_of p g))) f fs in
    omega (arith, here, rest, long, turned, all)

pub extracts_count : (p : Program) (places : List (List Lane)) (n : ℕ) (h : Header) → KeepsApart p places → IsHeader p n h → length (extracts_of places h) ≡ extract_count p h
extracts_count p places n h keeps is =
    let a = length-append (map One (lanes_of places h.valid)) (bits_from 0 (high_first places h.fields)) in
    let b = length-map (lanes_of places h.valid) One in
    let c : length (lanes_of places h.valid) ≡ 1 = lanes_count p places h.valid keeps.cut ∙ ap (λ w. length (pieces w)) is.valid in
    let d = length-bits_from 0 (high_first places h.fields) in
    let f = fields_count p places h.fields keeps in
    omega (arith, a, b, c, d, f)

few_of_one : (p : Program) (n : ℕ) (h : Header) → header_fault p n h ≡ None → extract_count p h ≤ 64
few_of_one p n h e = by (nat_lt 4 (length (lookups_of p h))) (nat_lt 64 (extract_count p h)) refl e
  where
    by : (a b : Bool) → nat_lt 64 (extract_count p h) ≡ b → cond a (Some (LookupWide n (length (lookups_of p h)))) (cond (nat_lt 64 (extract_count p h)) (Some (StepWide n (extract_count p h))) None) ≡ None → extract_count p h ≤ 64
    by true b is e = absurd cc
    by false true is e = (let none : cond true (Some (StepWide n (extract_count p h))) None ≡ None = sym (ap (λ (c : Bool). cond c (Some (StepWide n (extract_count p h))) None) is) ∙ e in absurd cc)
    by false false is e = ltb-false 64 (extract_count p h) is

few_of_all : (p : Program) (n i : ℕ) (hs : List Header) (h : Header) → first_fault p n hs ≡ None → slice_get hs i ≡ Some h → extract_count p h ≤ 64
few_of_all p n i [] h none is = absurd cc
few_of_all p n zero (g ∷ hs) h none is = subst (λ (x : Header). extract_count p x ≤ 64) (same_Some g h is) (few_of_one p n g (option_or-none_left (header_fault p n g) (first_fault p (n + 1) hs) none))
few_of_all p n (suc i) (g ∷ hs) h none is = few_of_all p (n + 1) i hs h (option_or-none_right (header_fault p n g) (first_fault p (n + 1) hs) none) is

pub few_extracts : (p : Program) (n : ℕ) (h : Header) → refusal p ≡ None → slice_get p.headers n ≡ Some h → extract_count p h ≤ 64
few_extracts p n h fits is = few_of_all p 0 n p.headers h (option_or-none_left (first_fault p 0 p.headers) (full_fault p) fits) is

-- ---- entries

next_formed : (p : Program) (n : ℕ) (t : Target) → length p.headers ≤ 64 → IsTarget p n t → next_is_formed (length p.headers) n (next_of t) ≡ true
next_formed p n target.Accept few is = refl
next_formed p n target.Reject few is = refl
next_formed p n (target.Node m) few is =
    let later = is.0 in
    let there = is.1 in
    and_from (nat_lt m (length p.headers) && nat_lt m 256) (nat_lt n m) (and_from (nat_lt m (length p.headers)) (nat_lt m 256) (lt-ltb m (length p.headers) there) (lt-ltb m 256 (omega (arith, there, few)))) (lt-ltb n m later)

module _ (p : Program) (places : List (List Lane)) (good : IsProgram p) (keeps : KeepsApart p places) (fits : refusal p ≡ None) where
  abbrev states : List ParserState
  states = map (state_of p) p.headers

  as_many : length states ≡ length p.headers
  as_many = length-map p.headers (state_of p)

  entry_formed : (n : ℕ) (h : Header) (value mask : ℕ) (t : Target) → slice_get p.headers n ≡ Some h → IsTarget p n t → Compares (lookups_of p h) mask value → entry_is_formed states (entry_to places n h value mask t) ≡ true
  entry_formed n h value mask t found to compares =
      let is : IsHeader p n h = good.headers n h found in
      let inside = slice_get_within p.headers n h found in
      let few = good.counts.headers in
      let bytes = is.is_not_long in
      let looks : lookups_in_state states n ≡ length (lookups_of p h) =
      ap (λ (o : Option ParserState). unwrap_or (option_map (λ (s : ParserState). length s.lookups) o) 0) (slice_get-map (state_of p) p.headers n ∙ ap (option_map (state_of p)) found) in
      let count = extracts_count p places n h keeps is in
      let light = few_extracts p n h fits found in
      formed_from states (entry_to places n h value mask t) (record {
        state_there = omega (arith, inside, as_many);
        state_small = omega (arith, inside, few);
        mask_small = compares.mask.small;
        masked = compares.within;
        mask_within = ap (λ k. mask % 2 ^ (8 * (4 - k))) looks ∙ compares.mask.within;
        need_small = omega (arith, bytes);
        advance = omega arith;
        next = subst (λ k. next_is_formed k n (next_of t) ≡ true) (sym as_many) (next_formed p n t few to);
        few = omega (arith, count, light);
        extracts = list_all-from_AllPass (extract_is_formed h.bytes) (extracts_of places h) (header_formed p places n h keeps is);
      })

  header_entries : (n : ℕ) (h : Header) → slice_get p.headers n ≡ Some h → All (λ e. entry_is_formed states e ≡ true) (entries_of p places n h)
  header_entries n h found =
      let is : IsHeader p n h = good.headers n h found in
      let few = few_lookups p n h fits found in
      let none : Compares (lookups_of p h) 0 0 = record { mask = over_none (8 * (4 - length (lookups_of p h))); value = over_none (8 * (4 - length (lookups_of p h))); within = refl } in
      All-append (λ e. entry_is_formed states e ≡ true) (map (entry_of_case p places n h) h.cases) (entry_to places n h 0 0 h.other ∷ [])
      (All-map (λ e. entry_is_formed states e ≡ true) (entry_of_case p places n h) h.cases (λ k d lt.
      let c : Case = get_or h.cases k d in
      let case : IsCase p n h.select c = is.cases k d lt in
      entry_formed n h (looked_up p h (map (λ (t : Test). t.value) c.tests)) (looked_up p h (map (λ (t : Test). t.mask) c.tests)) c.target found case.target (case_compares p n h is few c.tests case.tests)))
      (All-cons (λ e. entry_is_formed states e ≡ true) (entry_to places n h 0 0 h.other) [] (entry_formed n h 0 0 h.other found is.other none) (All-nil (λ e. entry_is_formed states e ≡ true)))
    where
      over_none : (k : ℕ) → IsOver (lookups_of p h) 0
      over_none k = record { small = omega arith; within = zero_mod (8 * (4 - length (lookups_of p h))) }
        where
          zero_mod : (m : ℕ) → 0 % 2 ^ m ≡ 0
          zero_mod m = omega arith

  all_entries : (n : ℕ) (hs : List Header) → ((k : ℕ) (h : Header) → slice_get hs k ≡ Some h → All (λ e. entry_is_formed states e ≡ true) (entries_of p places (n + k) h)) → All (λ e. entry_is_formed states e ≡ true) (entries_from p places n hs)
  all_entries n [] each = All-nil (λ e. entry_is_formed states e ≡ true)
  all_entries n (h ∷ hs) each =
      let zero_more : n + 0 ≡ n = omega arith in
      All-append (λ e. entry_is_formed states e ≡ true) (entries_of p places n h) (entries_from p places (n + 1) hs)
      (subst (λ m. All (λ e. entry_is_formed states e ≡ true) (entries_of p places m h)) zero_more (each 0 h refl))
      (all_entries (n + 1) hs (λ k g is.
      let one_more : n + suc k ≡ n + 1 + k = omega arith in
      subst (λ m. All (λ e. entry_is_formed states e ≡ true) (entries_of p places m g)) one_more (each (suc k) g is)))

  states_formed : All (λ s. state_is_formed s ≡ true) states
  states_formed = All-map (λ s. state_is_formed s ≡ true) (state_of p) p.headers (λ k d lt.
      let h : Header = get_or p.headers k d in
      let is : IsHeader p k h = good.headers k h (slice_get-get_or p.headers k d lt) in
      let bytes = is.is_not_long in
      and_from (rises_from 0 (lookups_of p h)) (list_all (λ o. nat_lt o 128) (lookups_of p h)) (rises_filtered (is_looked_up p h) 0 h.bytes)
      (list_all_below (lookups_of p h) (All-filter (is_looked_up p h) (λ o. o < 128) (range_with_len 0 h.bytes) (All-range (λ o. o < 128) 0 h.bytes (λ o below. omega (arith, below, bytes))))))

  pub plain_keeps : KeepsForm (plain p places)
  plain_keeps = record {
    some = let some = good.counts.a_header in omega (arith, as_many, some);
    few_states = let most = good.counts.headers in omega (arith, as_many, most);
    few_tails = let short = plain_few p 0 0 p.headers in let all = fits_in p fits in omega (arith, short, all);
    rises = plain_rises p 0 0 p.headers;
    tails = plain_tails_formed p places good keeps;
    few = let long = length-entries_from p places 0 p.headers in let all = fits_in p fits in omega (arith, long, all);
    states = states_formed;
    entries = all_entries 0 p.headers (λ k h is. let same : 0 + k ≡ k = omega arith in subst (λ m. All (λ e. entry_is_formed states e ≡ true) (entries_of p places m h)) (sym same) (header_entries k h is));
    fits = plain_is_parser p places good keeps;
  }
