-- The plain parser agrees with the walk of the parse graph.
use Rattle.std.proofs.Common.{◌≡◌, ◌≢◌, ◌&&◌, cond, eqb, nat_lt, Bool, true, false, ℕ, zero, suc, ◌+◌, ◌-◌, ◌*◌, ◌^◌, ◌<◌, ◌≤◌, List, [], ◌∷◌, get_or, length, map, reverse, fold, find, take, drop, replicate, Option, Some, None, refl, sym, ap, subst, ◌∙◌, inl, inr, arith}
use Rattle.std.specs.Prelude.{All, Contains, bit_and, option_map, slice_get, slice_index, slice_index_or, slice_set, unwrap_or}
use Rattle.std.proofs.lemmas.Bool.{cases_eq, cases_lt, eq-eqb, lt-ltb, le-ltb, ltb-false}
use Rattle.std.proofs.lemmas.List.{length-drop, length-map, length-replicate, length-set, length-take-le, get_or-take, get_or-drop, get_or_past, get_or-set_same, get_or-set_other, set-set, set_comm}
use Rattle.std.proofs.lemmas.List.Sums.{fold-append}
use Rattle.std.proofs.lemmas.List.Elements.{All-head, All-tail, All-contains, All-weaker, All-take, All-drop}
use Rattle.std.proofs.lemmas.Nat.{pow_pos}
use Rattle.std.proofs.lemmas.Option.{slice_get-map, same_Some}
use Rattle.rmt_bits.specs.Bits.{slice, number_of, bits_of_bytes}
use Rattle.rmt_bits.specs.declared.lane.Lane.{Lane}
use Rattle.rmt_bits.proofs.AllLaws.{All-find}
use Rattle.rmt_bits.proofs.ByteLaws.{AreBytes}
use Rattle.rmt_bits.proofs.ListLaws.{slice_get-item}
use Rattle.rmt_bits.proofs.WordLaws.{get_or-zeros, get_or-same}
use Rattle.rmt_ptcam.specs.Types.{Program, Header, Tail, Case, Test, Target, ParserConfig, ParserState, ParserEntry, TailOf}
use Rattle.rmt_ast.specs.declared.program.Target.TheVariants as target
use Rattle.rmt_ast.specs.Places.{lanes_of}
use Rattle.rmt_ast.specs.State.{width_of, set_fields, start}
use Rattle.rmt_ast.specs.Walk.{Walk, walk, walk_from, with_header, target_of, all_pass}
use Rattle.rmt_ast.specs.Walk as walks
use Rattle.rmt_ast.specs.WellFormed.{IsProgram, IsHeader, IsCase, IsTail, IsTarget, bits_of}
use Rattle.rmt_phv.specs.Packing.{pieces}
use Rattle.rmt_phv.specs.Places.{KeepsApart, high_first}
use Rattle.rmt_config.specs.Agreement.{held_in, Holds, HasReached, EndsAs, AgreesWith}
use Rattle.rmt_config.specs.ChipRun.{tail_bytes}
use Rattle.rmt_config.specs.declared.config.Extract.TheVariants.{One}
use Rattle.rmt_config.specs.declared.tails.TailAt.{TailAt}
use Rattle.rmt_config.specs.LaneForm.{bits_of_lanes}
use Rattle.rmt_config.specs.Parser.{Parse, Reached, Short, Reject, parse, parse_from, begin, behind, behind_tail, extracted, follow, lookup_value, no_tail, past_length, past_tail, step, tail_length, taken, value_at, entry_of}
use Rattle.rmt_ptcam.specs.declared.fault.ParserFault.TheVariants.{LookupWide, StepWide}
use Rattle.rmt_ptcam.specs.Steps.{parse_within, walk_within}
use Rattle.rmt_ptcam.specs.Needs.{place_in, lookups_of, extract_count, header_fault, first_fault, full_fault, refusal}
use Rattle.rmt_ptcam.specs.Plain.{bits_from, extracts_of, state_of, next_of, entry_to, entry_of_case, tail_at, looked_up, plain}
use Rattle.rmt_ptcam.proofs.PlainLaws.{bits_of-cons, bits_of_lanes-reverse}
use Rattle.rmt_ptcam.proofs.FormLaws.{tail_of_header}
use Rattle.rmt_ptcam.proofs.ByteRunLaws.{byte_at}
use Rattle.rmt_ptcam.proofs.CaseLaws.{low_of, shown, shown_from, HasSelected, case_passes}
use Rattle.rmt_ptcam.proofs.HoldLaws.{IsPut, put_one, put_bits, after_lanes, holds_put, lanes_apart}
use Rattle.rmt_ptcam.proofs.EntryLaws.{agrees, taken_target, IsMet, met}
use Rattle.rmt_ptcam.proofs.FieldLaws.{OwnsFields, owns_fields, length-set_fields, set_fields_after, set_fields_reads}
use Rattle.rmt_bits.proofs.OptionLaws.{option_or-none_left, option_or-none_right}
use Rattle.rmt_phv.proofs.LaneLaws.{lanes_cut, lanes_lie, lanes_width}
use Rattle.rmt_bits.proofs.FindLaws.{find-alike}

-- ---- a program that is not refused

few_of_header : (p : Program) (n : ℕ) (h : Header) → header_fault p n h ≡ None → length (lookups_of p h) ≤ 4
few_of_header p n h e = by (nat_lt 4 (length (lookups_of p h))) refl e
  where
    by : (b : Bool) → nat_lt 4 (length (lookups_of p h)) ≡ b → cond b (Some (LookupWide n (length (lookups_of p h)))) (cond (nat_lt 64 (extract_count p h)) (Some (StepWide n (extract_count p h))) None) ≡ None → length (lookups_of p h) ≤ 4
    by true is e = absurd cc
    by false is e = ltb-false 4 (length (lookups_of p h)) is

few_of_headers : (p : Program) (n i : ℕ) (hs : List Header) (h : Header) → first_fault p n hs ≡ None → slice_get hs i ≡ Some h → length (lookups_of p h) ≤ 4
few_of_headers p n i [] h none is = absurd cc
few_of_headers p n zero (g ∷ hs) h none is =
    subst (λ (x : Header). length (lookups_of p x) ≤ 4) (same_Some g h is) (few_of_header p n g (option_or-none_left (header_fault p n g) (first_fault p (n + 1) hs) none))
few_of_headers p n (suc i) (g ∷ hs) h none is = few_of_headers p (n + 1) i hs h (option_or-none_right (header_fault p n g) (first_fault p (n + 1) hs) none) is

-- no header of such a program looks at more than four bytes
pub few_lookups : (p : Program) (n : ℕ) (h : Header) → refusal p ≡ None → slice_get p.headers n ≡ Some h → length (lookups_of p h) ≤ 4
few_lookups p n h fits is = few_of_headers p 0 n p.headers h (option_or-none_left (first_fault p 0 p.headers) (full_fault p) fits) is

-- ---- the vector behind a header

module _ (p : Program) (places : List (List Lane)) (keeps : KeepsApart p places) (window : List ℕ) where
  -- the fields, one after another
  fields_held : (fs : List ℕ) (s v : List ℕ) (from : ℕ) → All (λ f. f < length s) fs → from + bits_of p fs ≡ 8 * length window → Holds places s v
      → Holds places (set_fields p fs (number_of window) s) (fold (extracted window) v (bits_from from (high_first places fs)))
  fields_held [] s v from there total holds = holds
  fields_held (f ∷ fs) s v from there total holds =
      let lanes : List Lane = lanes_of places f in
      let bits : bits_of_lanes lanes ≡ width_of p f = lanes_width p places f keeps.cut in
      let turned : bits_of_lanes (reverse lanes) ≡ width_of p f = bits_of_lanes-reverse lanes ∙ bits in
      let all = bits_of-cons p f fs in
      let low : 8 * length window - (from + width_of p f) ≡ bits_of p fs = omega (arith, all, total) in
      let value : ℕ = slice (number_of window) (bits_of p fs) (width_of p f) in
      let is_value : bits_of_bytes window from (bits_of_lanes lanes) ≡ value = ap (bits_of_bytes window from) bits ∙ ap (λ k. slice (number_of window) k (width_of p f)) low in
      let w : List ℕ = fold (extracted window) v (bits_from from (reverse lanes)) in
      let is_put : IsPut lanes value v w =
      subst (λ x. IsPut lanes x v w) is_value
      (put_bits lanes v window from holds.whole (lanes_lie p places f keeps) (lanes_apart places f keeps.no_overlap) (omega (arith, bits, all, total))) in
      let here : Holds places (slice_set s f value) w = holds_put places s v w f value keeps.no_overlap (All-head (λ g. g < length s) f fs there) holds is_put in
      let rest : Holds places (set_fields p fs (number_of window) (slice_set s f value)) (fold (extracted window) w (bits_from (from + width_of p f) (high_first places fs))) =
      fields_held fs (slice_set s f value) w (from + width_of p f)
      (subst (λ k. All (λ g. g < k) fs) (sym (length-set s f value)) (All-tail (λ g. g < length s) f fs there)) (omega (arith, all, total)) here in
      let order : fold (extracted window) v (bits_from from (high_first places (f ∷ fs))) ≡ fold (extracted window) w (bits_from (from + width_of p f) (high_first places fs)) =
      after_lanes window v from (reverse lanes) (high_first places fs) ∙ ap (λ k. fold (extracted window) w (bits_from (from + k) (high_first places fs))) turned in
      subst (Holds places (set_fields p fs (number_of window) (slice_set s f value))) (sym order) rest

  -- valid, and then the fields
  header_held : (n : ℕ) (h : Header) (frame : List ℕ) (at : ℕ) (s v : List ℕ) → IsHeader p n h → OwnsFields p h → window ≡ take h.bytes (drop at frame) → length window ≡ h.bytes → length s ≡ length p.fields
      → Holds places (slice_set s 0 0) v → Holds places (slice_set (with_header p h frame at s) 0 0) (fold (extracted window) v (extracts_of places h))
  header_held n h frame at s v is owns cut long all holds =
      let lanes : List Lane = lanes_of places h.valid in
      let s0 : List ℕ = slice_set s 0 0 in
      let long0 : length s0 ≡ length p.fields = length-set s 0 0 ∙ all in
      let s1 : List ℕ = slice_set s0 h.valid 1 in
      let long1 : length s1 ≡ length p.fields = length-set s0 h.valid 1 ∙ long0 in
      let v1 : List ℕ = fold (extracted window) v (map One lanes) in
      let set_one : IsPut lanes 1 v v1 = put_one lanes v window holds.whole (lanes_lie p places h.valid keeps) (lanes_cut p places h.valid keeps.cut ∙ ap pieces is.valid) in
      let here : Holds places s1 v1 = holds_put places s0 v v1 h.valid 1 keeps.no_overlap (subst (λ k. h.valid < k) (sym long0) owns.valid_in) holds set_one in
      let total : 0 + bits_of p h.fields ≡ 8 * length window = omega (arith, is.whole_bytes, long) in
      let fields = fields_held h.fields s1 v1 0 (subst (λ k. All (λ f. f < k) h.fields) (sym long1) owns.there) total here in
      let n0 : ℕ = number_of window in
      let not_valid : All (λ f. h.valid ≢ f) h.fields = All-weaker (λ f. h.valid < f) (λ f. h.valid ≢ f) (λ f lt e. omega (arith, lt, e)) h.fields owns.low in
      let low = owns.valid_low in
      let not_port : All (λ f. 0 ≢ f) h.fields = All-weaker (λ f. h.valid < f) (λ f. 0 ≢ f) (λ f lt e. omega (arith, lt, e)) h.fields owns.low in
      let apart : 0 ≢ h.valid = λ e. omega (arith, low, e) in
      let states : set_fields p h.fields n0 s1 ≡ slice_set (with_header p h frame at s) 0 0 =
      set_fields_after p h.fields n0 s0 h.valid 1 not_valid
      ∙ ap (λ (x : List ℕ). slice_set x h.valid 1) (set_fields_after p h.fields n0 s 0 0 not_port)
      ∙ set_comm (set_fields p h.fields n0 s) 0 h.valid 0 1 apart
      ∙ ap (λ (x : List ℕ). slice_set (slice_set (set_fields p h.fields (number_of x) s) h.valid 1) 0 0) cut in
      let order : fold (extracted window) v (extracts_of places h) ≡ fold (extracted window) v1 (bits_from 0 (high_first places h.fields)) =
      fold-append (extracted window) v (map One lanes) (bits_from 0 (high_first places h.fields)) in
      subst (Holds places (slice_set (with_header p h frame at s) 0 0)) (sym order)
      (subst (λ (x : List ℕ). Holds places x (fold (extracted window) v1 (bits_from 0 (high_first places h.fields)))) states fields)

-- ---- one header

-- the bytes of a header
pub window_bytes : (frame : List ℕ) (at bytes : ℕ) → All (λ b. b < 256) frame → AreBytes (take bytes (drop at frame))
window_bytes frame at bytes small i = elim (cases_lt i (length (take bytes (drop at frame)))) [
  | inl inside ↦ All-take (λ b. b < 256) bytes (drop at frame) (All-drop (λ b. b < 256) at frame small) i 0 inside
  | inr past ↦ let none : get_or (take bytes (drop at frame)) i 0 ≡ 0 = get_or_past (take bytes (drop at frame)) i 0 past in omega (arith, none)
]

pub length_window : (frame : List ℕ) (at bytes : ℕ) → at + bytes ≤ length frame → length (take bytes (drop at frame)) ≡ bytes
length_window frame at bytes within = let left = length-drop at frame in length-take-le bytes (drop at frame) (omega (arith, left, within))

module _ (p : Program) (n : ℕ) (h : Header) (is : IsHeader p n h) (owns : OwnsFields p h) (frame : List ℕ) (small : All (λ b. b < 256) frame) (at : ℕ) (inside : at + h.bytes ≤ length frame) where
  abbrev number : ℕ
  number = number_of (take h.bytes (drop at frame))

  -- a field of the header has its bits of the header's bytes
  field_read : (s : List ℕ) (f : ℕ) → length s ≡ length p.fields → Contains h.fields f → slice_index (with_header p h frame at s) f ≡ slice number (low_of p h f) (width_of p f)
  field_read s f long own =
      let other : f ≢ h.valid = λ e. (let lt = All-contains (λ g. h.valid < g) h.fields f owns.low own in omega (arith, lt, e)) in
      get_or-set_other (set_fields p h.fields number s) h.valid f 1 0 other
      ∙ set_fields_reads p h.fields number s f owns.once (subst (λ k. All (λ g. g < k) h.fields) (sym long) owns.there) own
      ∙ ap (λ k. slice number (k - (place_in p h.fields f + width_of p f)) (width_of p f)) is.whole_bytes

  -- the lookup bytes are those of the header
  lookup_shown : lookup_value frame at (state_of p h) ≡ shown p h number
  lookup_shown = shown_from p h number (λ o. slice_index frame (at + o)) (λ o lt.
      sym (get_or-drop at frame o 0) ∙ sym (get_or-take h.bytes (drop at frame) o 0 lt)
      ∙ byte_at (take h.bytes (drop at frame)) h.bytes o (window_bytes frame at h.bytes small) (length_window frame at h.bytes inside) lt)

  -- so the first case whose entry agrees is the first one that matches
  same_target : (places : List (List Lane)) (s : List ℕ) → length s ≡ length p.fields → length (lookups_of p h) ≤ 4
      → taken_target p places n h (lookup_value frame at (state_of p h)) h.cases ≡ target_of h (with_header p h frame at s)
  same_target places s long few =
      let behind : List ℕ = with_header p h frame at s in
      let looked : ℕ = lookup_value frame at (state_of p h) in
      let selected : HasSelected p h number behind = All-weaker (Contains h.fields) (λ f. slice_index behind f ≡ slice number (low_of p h f) (width_of p f)) (λ f own. field_read s f long own) h.select is.selects_own in
      ap (λ (o : Option Case). unwrap_or (option_map (λ (c : Case). c.target) o) h.other)
      (find-alike (λ c. agrees n looked (entry_of_case p places n h c)) (λ c. all_pass c.tests h.select behind) h.cases
      (All-weaker (IsCase p n h.select) (λ (c : Case). agrees n looked (entry_of_case p places n h c) ≡ all_pass c.tests h.select behind)
      (λ (c : Case) good.
      let values : ℕ = looked_up p h (map (λ (t : Test). t.value) c.tests) in
      let masks : ℕ = looked_up p h (map (λ (t : Test). t.mask) c.tests) in
      ap (λ (b : Bool). b && eqb (bit_and looked masks) values) (eq-eqb n n refl) ∙ ap (λ k. eqb (bit_and k masks) values) lookup_shown
      ∙ case_passes p n h is few number behind selected c.tests good.tests)
      h.cases is.cases))

-- a target of a header leads on to a later one
target_there : (p : Program) (n : ℕ) (h : Header) (t : Case → Bool) → IsHeader p n h → IsTarget p n (unwrap_or (option_map (λ (c : Case). c.target) (find t h.cases)) h.other)
target_there p n h t is = by (find t h.cases) refl
  where
    by : (o : Option Case) → find t h.cases ≡ o → IsTarget p n (unwrap_or (option_map (λ (c : Case). c.target) o) h.other)
    by None none = is.other
    by (Some c) found = (All-find (IsCase p n h.select) t h.cases c is.cases found).target

-- ---- the parse and the walk, side by side

-- a parse has come as far as a walk, and both have room for all
pub record AreInStep (p : Program) (places : List (List Lane)) (frame : List ℕ) (r : Reached) (w : walks.Reached) : Type 0 where
  reached : HasReached places frame r w
  fields : length w.state ≡ length p.fields
  room : length r.tails ≡ 64
  headers : length w.tails ≡ length p.headers

-- an end of each, by what they are equal to
ends_same : (places : List (List Lane)) (frame : List ℕ) (x y : Parse) (u v : Walk) → x ≡ y → u ≡ v → EndsAs places frame y v → EndsAs places frame x u
ends_same places frame x y u v xy uv ends = subst (λ (z : Parse). EndsAs places frame z u) (sym xy) (subst (EndsAs places frame y) (sym uv) ends)

module _ (p : Program) (places : List (List Lane)) (frame : List ℕ) (goes : ℕ → Reached → Parse) (next : ℕ → walks.Reached → Walk)
    (later : (m : ℕ) (r : Reached) (w : walks.Reached) → m < length p.headers → AreInStep p places frame r w → EndsAs places frame (goes m r) (next m w)) where
  -- to where a target leads
  follow_same : (n : ℕ) (t : Target) (r : Reached) (w : walks.Reached) → IsTarget p n t → AreInStep p places frame r w
      → EndsAs places frame (follow goes (next_of t) r) (walks.follow (λ m. next m w) t w)
  follow_same n target.Accept r w is step = (w, refl, step.reached)
  follow_same n target.Reject r w is step = refl
  follow_same n (target.Node m) r w is step = later m r w is.1 step

  -- behind a tail
  tail_step : (n len : ℕ) (r : Reached) (w : walks.Reached) → n < length p.headers → length p.headers ≤ 64 → AreInStep p places frame r w
      → AreInStep p places frame (behind_tail n len r) (walks.behind_tail frame n len w)
  tail_step n len r w lt few step =
      let at = step.reached.at in
      let here : TailAt = record { place = r.at; len = len } in
      let there : List ℕ = take len (drop w.at frame) in
      let room : n < length r.tails = omega (arith, lt, few, step.room) in
      let own : n < length w.tails = omega (arith, lt, step.headers) in
      record {
        reached = record {
          at = omega (arith, at);
          state = step.reached.state;
          tails = λ m. elim (cases_eq n m) [
            | inl same ↦
                subst (λ k. tail_bytes frame (slice_index_or (slice_set r.tails n here) k no_tail) ≡ slice_index_or (slice_set w.tails n there) k []) same
                (ap (tail_bytes frame) (get_or-set_same r.tails n here no_tail room) ∙ ap (λ k. take len (drop k frame)) at ∙ sym (get_or-set_same w.tails n there [] own))
            | inr other ↦
                ap (tail_bytes frame) (get_or-set_other r.tails n m here no_tail (λ e. other (sym e))) ∙ step.reached.tails m ∙ sym (get_or-set_other w.tails n m there [] (λ e. other (sym e)))
          ];
        };
        fields = step.fields;
        room = length-set r.tails n here ∙ step.room;
        headers = length-set w.tails n there ∙ step.headers;
      }

  -- past a tail that a field of the walk's state tells, where so many bytes are left
  tail_same : (n : ℕ) (h : Header) (o : Option Tail) (entry : ℕ) (window : List ℕ) (to : Target) (r : Reached) (w : walks.Reached) (left : ℕ) → n < length p.headers → length p.headers ≤ 64
      → IsTarget p n to → to ≡ target_of h w.state → AreInStep p places frame r w
      → ((t : Tail) → o ≡ Some t → bits_of_bytes window (place_in p h.fields t.field) (width_of p t.field) ≡ slice_index w.state t.field)
      → r.at + left ≡ length frame
      → EndsAs places frame (past_tail (follow goes (next_of to)) window left (option_map (λ t. tail_at p n h t entry) o) r) (walks.past_tail (λ b. walks.follow (λ m. next m b) (target_of h b.state) b) frame n o w)
  tail_same n h None entry window to r w left lt few is same step told size =
      subst (λ (t : Target). EndsAs places frame (follow goes (next_of to) r) (walks.follow (λ m. next m w) t w)) same (follow_same n to r w is step)
  tail_same n h (Some t) entry window to r w left lt few is same step told size =
      let g : Reached → Parse = follow goes (next_of to) in
      let on : walks.Reached → Walk = λ b. walks.follow (λ m. next m b) (target_of h b.state) b in
      let x : ℕ = slice_index w.state t.field in
      let len : ℕ = x * t.unit - t.base in
      let at = step.reached.at in
      let read : past_tail g window left (Some (tail_at p n h t entry)) r ≡ past_length g left n (tail_length x t.unit t.base) r =
      ap (λ y. past_length g left n (tail_length y t.unit t.base) r) (told t refl) in
      let rest : Walk = cond (nat_lt (length frame) (w.at + len)) walks.Short (on (walks.behind_tail frame n len w)) in
      elim (cases_lt (x * t.unit) t.base) [
        | inl negative ↦
            ends_same places frame (past_tail g window left (Some (tail_at p n h t entry)) r) Reject (walks.past_tail on frame n (Some t) w) walks.Reject
            (read ∙ ap (λ (b : Bool). past_length g left n (cond b None (Some len)) r) (lt-ltb (x * t.unit) t.base negative))
            (ap (λ (b : Bool). cond b walks.Reject rest) (lt-ltb (x * t.unit) t.base negative)) refl
        | inr enough ↦
            let told_parse : past_tail g window left (Some (tail_at p n h t entry)) r ≡ cond (nat_lt left len) Short (g (behind_tail n len r)) =
            read ∙ ap (λ (b : Bool). past_length g left n (cond b None (Some len)) r) (le-ltb (x * t.unit) t.base enough) in
            let told_walk : walks.past_tail on frame n (Some t) w ≡ rest = ap (λ (b : Bool). cond b walks.Reject rest) (le-ltb (x * t.unit) t.base enough) in
            elim (cases_lt left len) [
              | inl cut ↦
                  ends_same places frame (past_tail g window left (Some (tail_at p n h t entry)) r) Short (walks.past_tail on frame n (Some t) w) walks.Short
                  (told_parse ∙ ap (λ (b : Bool). cond b Short (g (behind_tail n len r))) (lt-ltb left len cut))
                  (told_walk ∙ ap (λ (b : Bool). cond b walks.Short (on (walks.behind_tail frame n len w))) (lt-ltb (length frame) (w.at + len) (omega (arith, size, at, cut)))) refl
              | inr whole ↦
                  ends_same places frame (past_tail g window left (Some (tail_at p n h t entry)) r) (g (behind_tail n len r)) (walks.past_tail on frame n (Some t) w) (on (walks.behind_tail frame n len w))
                  (told_parse ∙ ap (λ (b : Bool). cond b Short (g (behind_tail n len r))) (le-ltb left len whole))
                  (told_walk ∙ ap (λ (b : Bool). cond b walks.Short (on (walks.behind_tail frame n len w))) (le-ltb (length frame) (w.at + len) (omega (arith, size, at, whole))))
                  (subst (λ (u : Target). EndsAs places frame (g (behind_tail n len r)) (walks.follow (λ m. next m (walks.behind_tail frame n len w)) u (walks.behind_tail frame n len w))) same
                  (follow_same n to (behind_tail n len r) (walks.behind_tail frame n len w) is (tail_step n len r w lt few step)))
            ]
      ]

  -- one header, by the entry that the parser takes
  header_same : IsProgram p → KeepsApart p places → refusal p ≡ None → All (λ b. b < 256) frame → (n : ℕ) (h : Header) (r : Reached) (w : walks.Reached) (entry value mask : ℕ) (to : Target) → slice_get p.headers n ≡ Some h → n < length p.headers
      → to ≡ taken_target p places n h (lookup_value frame r.at (state_of p h)) h.cases → AreInStep p places frame r w
      → EndsAs places frame (step goes frame (option_map (λ t. tail_at p n h t entry) h.tail) (Some (entry_to places n h value mask to)) r) (walks.step next p frame n (Some h) w)
  header_same good keeps fits small n h r w entry value mask to found lt chosen in_step =
      let e : ParserEntry = entry_to places n h value mask to in
      let at = in_step.reached.at in
      let window : List ℕ = take h.bytes (drop r.at frame) in
      let left : ℕ = length frame - (r.at + h.bytes) in
      let tail : Option TailOf = option_map (λ t. tail_at p n h t entry) h.tail in
      let on : walks.Reached → Walk = λ b. walks.follow (λ m. next m b) (target_of h b.state) b in
      let then_parse : Parse = past_tail (follow goes (next_of to)) window left tail (behind window e r) in
      let then_walk : Walk = walks.past_tail on frame n h.tail (walks.behind p h frame w) in
      elim (cases_lt (length frame) (r.at + h.bytes)) [
        | inl cut ↦
            ends_same places frame (step goes frame tail (Some e) r) Short (walks.step next p frame n (Some h) w) walks.Short
            (ap (λ (b : Bool). cond b Short then_parse) (lt-ltb (length frame) (r.at + h.bytes) cut))
            (ap (λ (b : Bool). cond b walks.Short then_walk) (lt-ltb (length frame) (w.at + h.bytes) (omega (arith, at, cut)))) refl
        | inr whole ↦
            let this : IsHeader p n h = good.headers n h found in
            let owns : OwnsFields p h = owns_fields p n h good.fields found in
            let few : length (lookups_of p h) ≤ 4 = few_lookups p n h fits found in
            let long : length window ≡ h.bytes = length_window frame r.at h.bytes whole in
            let moved : with_header p h frame r.at w.state ≡ with_header p h frame w.at w.state = ap (λ k. with_header p h frame k w.state) at in
            let same : to ≡ target_of h (with_header p h frame w.at w.state) =
            chosen ∙ same_target p n h this owns frame small r.at whole places w.state in_step.fields few ∙ ap (target_of h) moved in
            let is_target : IsTarget p n to =
            subst (IsTarget p n) (sym chosen) (target_there p n h (λ c. agrees n (lookup_value frame r.at (state_of p h)) (entry_of_case p places n h c)) this) in
            let held : Holds places (slice_set (with_header p h frame r.at w.state) 0 0) (fold (extracted window) r.vector (extracts_of places h)) =
            header_held p places keeps window n h frame r.at w.state r.vector this owns refl long in_step.fields in_step.reached.state in
            let behind_both : AreInStep p places frame (behind window e r) (walks.behind p h frame w) =
            record {
              reached = record {
                at = omega (arith, at);
                state = subst (λ (s : List ℕ). Holds places (slice_set s 0 0) (fold (extracted window) r.vector (extracts_of places h))) moved held;
                tails = in_step.reached.tails;
              };
              fields = length-set (set_fields p h.fields (number_of (take h.bytes (drop w.at frame))) w.state) h.valid 1 ∙ length-set_fields p h.fields (number_of (take h.bytes (drop w.at frame))) w.state ∙ in_step.fields;
              room = in_step.room;
              headers = in_step.headers;
            } in
            ends_same places frame (step goes frame tail (Some e) r) then_parse (walks.step next p frame n (Some h) w) then_walk
            (ap (λ (b : Bool). cond b Short then_parse) (le-ltb (length frame) (r.at + h.bytes) whole))
            (ap (λ (b : Bool). cond b walks.Short then_walk) (le-ltb (length frame) (w.at + h.bytes) (omega (arith, at, whole))))
            (tail_same n h h.tail entry window to (behind window e r) (walks.behind p h frame w) left lt good.counts.headers is_target same behind_both
            (λ t is_tail.
            let its : IsTail p h.fields t = tail_of_header p h t h.tail is_tail this.tail in
            ap (λ k. slice (number_of window) (8 * k - (place_in p h.fields t.field + width_of p t.field)) (width_of p t.field)) long
            ∙ sym (field_read p n h this owns frame small r.at whole w.state t.field in_step.fields its.own)
            ∙ ap (λ (s : List ℕ). slice_index s t.field) moved)
            (omega (arith, whole)))
      ]

  -- one state of the parser, and one header of the walk
  state_same : IsProgram p → KeepsApart p places → refusal p ≡ None → All (λ b. b < 256) frame → (n : ℕ) (r : Reached) (w : walks.Reached) → n < length p.headers → AreInStep p places frame r w
      → EndsAs places frame (taken goes (plain p places) frame (entry_of (plain p places) n (value_at frame r.at (slice_get (plain p places).states n))) r) (walks.step next p frame n (slice_get p.headers n) w)
  state_same good keeps fits small n r w lt in_step =
      let parser : ParserConfig = plain p places in
      let item = slice_get-item p.headers n lt in
      let h : Header = item.0 in
      let found : slice_get p.headers n ≡ Some h = item.1 in
      let looked : ℕ = lookup_value frame r.at (state_of p h) in
      let state : slice_get parser.states n ≡ Some (state_of p h) = slice_get-map (state_of p) p.headers n ∙ ap (option_map (state_of p)) found in
      let m : IsMet p places n h looked = met p places n h looked found in
      let tail : Option TailOf = option_map (λ t. tail_at p n h t m.number) h.tail in
      ends_same places frame (taken goes parser frame (entry_of parser n (value_at frame r.at (slice_get parser.states n))) r) (step goes frame tail (Some (entry_to places n h m.value m.mask m.target)) r) (walks.step next p frame n (slice_get p.headers n) w) (walks.step next p frame n (Some h) w)
      (ap (λ (o : Option ParserState). taken goes parser frame (entry_of parser n (value_at frame r.at o)) r) state
      ∙ ap (λ (o : Option ℕ). taken goes parser frame o r) m.taken
      ∙ ap (λ (o : Option TailOf). step goes frame o (slice_get parser.entries m.number) r) m.told
      ∙ ap (λ (o : Option ParserEntry). step goes frame tail o r) m.there)
      (ap (λ (o : Option Header). walks.step next p frame n o w) found)
      (header_same good keeps fits small n h r w m.number m.value m.mask m.target found lt m.to in_step)

-- ---- all headers

module _ (p : Program) (places : List (List Lane)) (good : IsProgram p) (keeps : KeepsApart p places) (fits : refusal p ≡ None) (frame : List ℕ) (small : All (λ b. b < 256) frame) where
  -- from a header on
  same_from : (k n : ℕ) (r : Reached) (w : walks.Reached) → n < length p.headers → AreInStep p places frame r w → EndsAs places frame (parse_from k (plain p places) frame n r) (walk_from k p frame n w)
  same_from zero n r w lt in_step = refl
  same_from (suc k) n r w lt in_step =
      state_same p places frame (parse_from k (plain p places) frame) (walk_from k p frame) (λ j x y below both. same_from k j x y below both) good keeps fits small n r w lt in_step

  -- the same where both are cut off after so many
  pub same_within : (rest : Parse) (other : Walk) → EndsAs places frame rest other → (k n : ℕ) (r : Reached) (w : walks.Reached) → n < length p.headers → AreInStep p places frame r w
      → EndsAs places frame (parse_within rest k (plain p places) frame n r) (walk_within other k p frame n w)
  same_within rest other ends zero n r w lt in_step = ends
  same_within rest other ends (suc k) n r w lt in_step =
      state_same p places frame (parse_within rest k (plain p places) frame) (walk_within other k p frame) (λ j x y below both. same_within rest other ends k j x y below both) good keeps fits small n r w lt in_step

-- ---- the start

held_zero : (v : List ℕ) (ls : List Lane) → ((w : ℕ) → slice_index v w ≡ 0) → held_in v ls ≡ 0
held_zero v [] zeros = refl
held_zero v (l ∷ ls) zeros =
    ap (λ n. slice n l.low l.len + 2 ^ l.len * held_in v ls) (zeros l.word) ∙ ap (λ n. slice 0 l.low l.len + 2 ^ l.len * n) (held_zero v ls zeros) ∙ none l.low l.len
  where
    none : (low len : ℕ) → slice 0 low len + 2 ^ len * 0 ≡ 0
    none low len = let pos = pow_pos len in omega arith

-- nothing is read but the port, to which no word stands yet
start_zero : (p : Program) (port f : ℕ) → slice_index (slice_set (start p port) 0 0) f ≡ 0
start_zero p port f =
    ap (λ (s : List ℕ). slice_index s f) (set-set (replicate (length p.fields) 0) 0 port 0) ∙ elim (cases_eq f 0) [
      | inl same ↦ subst (λ k. slice_index (slice_set (replicate (length p.fields) 0) 0 0) k ≡ 0) (sym same) (first (length p.fields))
      | inr other ↦ get_or-set_other (replicate (length p.fields) 0) 0 f 0 0 other ∙ get_or-same (length p.fields) f 0
    ]
  where
    first : (n : ℕ) → slice_index (slice_set (replicate n 0) 0 0) 0 ≡ 0
    first zero = refl
    first (suc n) = refl

start_holds : (p : Program) (places : List (List Lane)) (port : ℕ) (v : List ℕ) → length v ≡ 224 → ((w : ℕ) → slice_index v w ≡ 0) → Holds places (slice_set (start p port) 0 0) v
start_holds p places port v long zeros = record {
  whole = long;
  fields = λ f. held_zero v (lanes_of places f) zeros ∙ sym (start_zero p port f);
  others = λ word bit free. ap (λ n. slice n bit 1) (zeros word) ∙ no_bit bit;
}
  where
    no_bit : (bit : ℕ) → slice 0 bit 1 ≡ 0
    no_bit bit = omega arith

pub start_step : (p : Program) (places : List (List Lane)) (frame : List ℕ) (port : ℕ) → AreInStep p places frame begin (walks.begin p port)
start_step p places frame port = record {
  reached = record {
    at = refl;
    state = start_holds p places port (replicate 224 0) (length-replicate {A = ℕ} 224 0) (λ w. get_or-zeros 224 w 0);
    tails = λ n. ap (tail_bytes frame) (get_or-same 64 n no_tail) ∙ sym (get_or-same (length p.headers) n []);
  };
  fields = length-set (replicate (length p.fields) 0) 0 port ∙ length-replicate {A = ℕ} (length p.fields) 0;
  room = length-replicate {A = TailAt} 64 no_tail;
  headers = length-replicate {A = List ℕ} (length p.headers) [];
}

-- for every frame and every port
pub plain_agrees : (p : Program) (places : List (List Lane)) → IsProgram p → KeepsApart p places → refusal p ≡ None → AgreesWith (plain p places) places p
plain_agrees p places good keeps fits port frame small =
    ends_same places frame (parse (plain p places) frame) (parse_from (length p.headers) (plain p places) frame 0 begin) (walk p port frame) (walk p port frame)
    (ap (λ k. parse_from k (plain p places) frame 0 begin) (length-map p.headers (state_of p))) refl
    (same_from p places good keeps fits frame small (length p.headers) 0 begin (walks.begin p port) (omega (arith, good.counts.a_header)) (start_step p places frame port))
