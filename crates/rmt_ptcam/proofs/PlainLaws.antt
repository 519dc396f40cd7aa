-- The plain parser, part by part.
use Rattle.std.proofs.Common.{◌≡◌, ◌≢◌, ℕ, zero, suc, ◌+◌, ◌-◌, ◌<◌, ◌≤◌, Bool, true, false, cond, List, [], ◌∷◌, ◌++◌, get_or, length, take, drop, map, reverse, replicate, fold, None, refl, sym, ap, subst, ◌∙◌, append_assoc, inl, inr, arith}
use Rattle.std.specs.Prelude.{slice_index, slice_index_or, Contains}
use Rattle.std.specs.List.{range_with_len, zip, filter}
use Rattle.std.proofs.lemmas.List.{at_drop_more, at_drop_all, take_all, take_more, drop_all, reverse-append, length-append, length-map, map-append, append-nil}
use Rattle.std.proofs.lemmas.List.Concat.{flat_map-cons}
use Rattle.std.proofs.lemmas.List.Sums.{sum_by-cons, sum_by-append, sum_by-drop_more, sum-map}
use Rattle.std.proofs.lemmas.Bool.Decides.{eqb_tells}
use Rattle.rmt_bits.specs.Bits.{number_of, bytes_of}
use Rattle.rmt_bits.specs.declared.lane.Lane.{Lane}
use Rattle.rmt_bits.proofs.ListLaws.{filter-range_more, range-next}
use Rattle.rmt_ast.specs.declared.program.Target.TheVariants as target
use Rattle.rmt_ptcam.specs.Types.{Program, Header, Tail, Target, Test, ParserConfig, ParserState, ParserEntry, Extract, TailOf}
use Rattle.rmt_ast.specs.State.{width_of}
use Rattle.rmt_ast.specs.WellFormed.{AreTests, IsTarget, IsTest, bits_of}
use Rattle.rmt_phv.specs.Places.{high_first}
use Rattle.rmt_config.specs.declared.config.Extract.TheVariants.{Bits}
use Rattle.rmt_config.specs.LaneForm.{bits_of_lanes}
use Rattle.rmt_config.specs.Parser.{lookup_value}
use Rattle.rmt_ptcam.specs.Needs.{place_in, entry_count, entries_in, refusal}
use Rattle.rmt_phv.specs.Places.{KeepsApart}
use Rattle.rmt_ast.specs.Places.{lanes_of}
use Rattle.rmt_ptcam.specs.Plain.{IsNear, bits_from, with_field, state_of, looked_up, tail_at, tails_for, tails_from, entry_of_case, entry_to, entries_of, entries_from, plain}
use Rattle.rmt_ptcam.proofs.NeedLaws.{fits_in}
use Rattle.rmt_phv.proofs.LaneLaws.{lanes_width}
use Rattle.rmt_bits.proofs.ByteLaws.{number_of-zeros}

-- ---- places in headers

pub bits_of-cons : (p : Program) (g : ℕ) (gs : List ℕ) → bits_of p (g ∷ gs) ≡ width_of p g + bits_of p gs
bits_of-cons p g gs = sum_by-cons (λ (n : ℕ). n) (width_of p g) (map (width_of p) gs)

pub contains_tail : (g : ℕ) (gs : List ℕ) (f k : ℕ) → g ≢ f → k < length (g ∷ gs) → slice_index_or (g ∷ gs) k f ≡ f → Contains gs f
contains_tail g gs f zero other lt is = absurd (other is)
contains_tail g gs f (suc k) other lt is = (k, omega (arith, lt), is)

-- a field of a header lies in the header's bits
pub place_within : (p : Program) (fs : List ℕ) (f : ℕ) → Contains fs f → place_in p fs f + width_of p f ≤ bits_of p fs
place_within p [] f h = absurd (omega (arith, h.1))
place_within p (g ∷ gs) f h =
    let all = bits_of-cons p g gs in
    elim (eqb_tells g f) [
      | inl (is, same) ↦
          let place : place_in p (g ∷ gs) f ≡ 0 = ap (λ (b : Bool). cond b 0 (width_of p g + place_in p gs f)) is in
          let width : width_of p g ≡ width_of p f = ap (width_of p) same in
          omega (arith, all, place, width)
      | inr (is, other) ↦
          let place : place_in p (g ∷ gs) f ≡ width_of p g + place_in p gs f = ap (λ (b : Bool). cond b 0 (width_of p g + place_in p gs f)) is in
          let rest = place_within p gs f (contains_tail g gs f h.0 other h.1 h.2) in
          omega (arith, all, place, rest)
    ]

-- ---- tests of a case

pub test_at : (p : Program) (fs : List ℕ) (ts : List Test) (i : ℕ) (d : Test) → AreTests p fs ts → i < length ts → IsTest (width_of p (slice_index fs i)) (get_or ts i d)
test_at p [] [] i d h lt = absurd (omega (arith, lt))
test_at p [] (t ∷ ts) i d h lt = absurd h
test_at p (f ∷ fs) [] i d h lt = absurd h
test_at p (f ∷ fs) (t ∷ ts) zero d h lt = h.0
test_at p (f ∷ fs) (t ∷ ts) (suc i) d h lt = test_at p fs ts i d h.1 (omega (arith, lt))

pub as_many : (p : Program) (fs : List ℕ) (ts : List Test) → AreTests p fs ts → length fs ≡ length ts
as_many p [] [] h = refl
as_many p [] (t ∷ ts) h = absurd h
as_many p (f ∷ fs) [] h = absurd h
as_many p (f ∷ fs) (t ∷ ts) h = let rest = as_many p fs ts h.1 in omega (arith, rest)

module _ (F : ℕ → ℕ × ℕ → ℕ) (g : Test → ℕ) (fs : List ℕ) (ts : List Test) (i : ℕ) where
  -- a fold over fields and tests, one step on and at the end
  pub fold_more : (n m : ℕ) (d : Test) → i < length fs → i < length ts → m ≡ F n (slice_index fs i, g (get_or ts i d))
      → fold F m (zip (drop (i + 1) fs) (map g (drop (i + 1) ts))) ≡ fold F n (zip (drop i fs) (map g (drop i ts)))
  fold_more n m d a b is =
      ap (λ (k : ℕ). fold F k (zip (drop (i + 1) fs) (map g (drop (i + 1) ts)))) is
      ∙ sym (at_drop_more (λ (xs : List ℕ). fold F n (zip xs (map g (drop i ts)))) fs i 0 a
      ∙ at_drop_more (λ (ys : List Test). fold F n (zip (slice_index fs i ∷ drop (i + 1) fs) (map g ys))) ts i d b)

  pub fold_end : (n : ℕ) → length fs ≤ i → fold F n (zip (drop i fs) (map g (drop i ts))) ≡ n
  fold_end n le = at_drop_all (λ (xs : List ℕ). fold F n (zip xs (map g (drop i ts)))) fs i le

-- the lookup bytes of a header that was written into bytes
pub looked_up_is : (p : Program) (h : Header) (xs bytes : List ℕ) (state : ParserState) (result : ℕ) → length bytes ≡ h.bytes → state ≡ state_of p h
    → number_of bytes ≡ fold (with_field p h) (number_of (replicate h.bytes 0)) (zip h.select xs) → result ≡ lookup_value (bytes_of (length bytes) (number_of bytes)) 0 state → result ≡ looked_up p h xs
looked_up_is p h xs bytes state result long is_state number is =
    let from_zero : number_of bytes ≡ fold (with_field p h) 0 (zip h.select xs) = number ∙ ap (λ n. fold (with_field p h) n (zip h.select xs)) (number_of-zeros h.bytes) in
    is ∙ ap (λ n. lookup_value (bytes_of n (number_of bytes)) 0 state) long ∙ ap (λ n. lookup_value (bytes_of h.bytes n) 0 state) from_zero
    ∙ ap (λ (s : ParserState). lookup_value (bytes_of h.bytes (fold (with_field p h) 0 (zip h.select xs))) 0 s) is_state

-- ---- pieces

pub bits_of_lanes-append : (xs ys : List Lane) → bits_of_lanes (xs ++ ys) ≡ bits_of_lanes xs + bits_of_lanes ys
bits_of_lanes-append xs ys =
    let f : Lane → ℕ = λ (l : Lane). l.len in
    let all = sum-map f (xs ++ ys) in
    let one = sum-map f xs in
    let two = sum-map f ys in
    let parts = sum_by-append f xs ys in
    omega (arith, all, one, two, parts)

pub bits_of_lanes-reverse : (xs : List Lane) → bits_of_lanes (reverse xs) ≡ bits_of_lanes xs
bits_of_lanes-reverse [] = refl
bits_of_lanes-reverse (x ∷ xs) =
    let one : bits_of_lanes (reverse (x ∷ xs)) ≡ bits_of_lanes (reverse xs) + bits_of_lanes (x ∷ []) = ap bits_of_lanes (reverse-append (x ∷ []) xs) ∙ bits_of_lanes-append (reverse xs) (x ∷ []) in
    let two : bits_of_lanes (x ∷ xs) ≡ bits_of_lanes (x ∷ []) + bits_of_lanes xs = bits_of_lanes-append (x ∷ []) xs in
    let rest = bits_of_lanes-reverse xs in
    omega (arith, one, two, rest)

-- the next piece from the low end
module _ (lanes : List Lane) (left : ℕ) (d : Lane) (lt : left < length lanes) where
  bits_more : bits_of_lanes (take (left + 1) lanes) ≡ bits_of_lanes (take left lanes) + (get_or lanes left d).len
  bits_more =
      let lane : Lane = get_or lanes left d in
      let one : bits_of_lanes (lane ∷ []) ≡ lane.len = omega arith in
      ap bits_of_lanes (take_more lanes left d lt) ∙ bits_of_lanes-append (take left lanes) (lane ∷ []) ∙ ap (λ n. bits_of_lanes (take left lanes) + n) one

  piece_more : (extracts start : List Extract) (next from : ℕ)
      → ((rest : List Lane) → extracts ++ bits_from next (reverse (take (left + 1) lanes) ++ rest) ≡ start ++ bits_from from (reverse lanes ++ rest))
      → (rest : List Lane) → (extracts ++ Bits next (get_or lanes left d) ∷ []) ++ bits_from (next + (get_or lanes left d).len) (reverse (take left lanes) ++ rest) ≡ start ++ bits_from from (reverse lanes ++ rest)
  piece_more extracts start next from so_far rest =
      let lane : Lane = get_or lanes left d in
      let turned : reverse (take (left + 1) lanes) ≡ lane ∷ reverse (take left lanes) = ap reverse (take_more lanes left d lt) ∙ reverse-append (take left lanes) (lane ∷ []) in
      append_assoc extracts (Bits next lane ∷ []) (bits_from (next + lane.len) (reverse (take left lanes) ++ rest))
      ∙ sym (ap (λ (r : List Lane). extracts ++ bits_from next (r ++ rest)) turned) ∙ so_far rest

-- what holds once the pieces above the lowest ones are pushed
pub record ArePushed (lanes : List Lane) (left : ℕ) (extracts start : List Extract) (next from total : ℕ) : Type 0 where
  pub bits : next + bits_of_lanes (take left lanes) ≡ total
  pub pushed : (rest : List Lane) → extracts ++ bits_from next (reverse (take left lanes) ++ rest) ≡ start ++ bits_from from (reverse lanes ++ rest)

pub piece_step : (lanes : List Lane) (left : ℕ) (d : Lane) (extracts more start : List Extract) (next from len total : ℕ) → 0 < left → left ≤ length lanes
    → more ≡ extracts ++ Bits next (get_or lanes (left - 1) d) ∷ [] → len ≡ (get_or lanes (left - 1) d).len
    → next + bits_of_lanes (take left lanes) ≡ total
    → ((rest : List Lane) → extracts ++ bits_from next (reverse (take left lanes) ++ rest) ≡ start ++ bits_from from (reverse lanes ++ rest))
    → ArePushed lanes (left - 1) more start (next + len) from total
piece_step lanes left d extracts more start next from len total some within is_more is_len bits pushed =
    let same : left ≡ left - 1 + 1 = omega arith in
    let lt : left - 1 < length lanes = omega arith in
    let grown = bits_more lanes (left - 1) d lt in
    let before : next + bits_of_lanes (take (left - 1 + 1) lanes) ≡ total = subst (λ n. next + bits_of_lanes (take n lanes) ≡ total) same bits in
    let so_far : (rest : List Lane) → extracts ++ bits_from next (reverse (take (left - 1 + 1) lanes) ++ rest) ≡ start ++ bits_from from (reverse lanes ++ rest) =
    λ rest. subst (λ n. extracts ++ bits_from next (reverse (take n lanes) ++ rest) ≡ start ++ bits_from from (reverse lanes ++ rest)) same (pushed rest) in
    record {
      bits = omega (arith, grown, before, is_len);
      pushed = λ rest.
          ap (λ (xs : List Extract). xs ++ bits_from (next + len) (reverse (take (left - 1) lanes) ++ rest)) is_more
          ∙ ap (λ n. (extracts ++ Bits next (get_or lanes (left - 1) d) ∷ []) ++ bits_from (next + n) (reverse (take (left - 1) lanes) ++ rest)) is_len
          ∙ piece_more lanes (left - 1) d lt extracts start next from so_far rest;
    }

-- the lanes of the fields from one on
pub lanes_in_order-drop : (places : List (List Lane)) (fs : List ℕ) (i : ℕ) → i < length fs
    → high_first places (drop i fs) ≡ reverse (lanes_of places (slice_index fs i)) ++ high_first places (drop (i + 1) fs)
lanes_in_order-drop places fs i lt = at_drop_more (high_first places) fs i 0 lt ∙ flat_map-cons (λ f. reverse (lanes_of places f)) (slice_index fs i) (drop (i + 1) fs)

pub lane_bits-drop : (places : List (List Lane)) (fs : List ℕ) (i : ℕ) → i < length fs
    → bits_of_lanes (high_first places (drop i fs)) ≡ bits_of_lanes (lanes_of places (slice_index fs i)) + bits_of_lanes (high_first places (drop (i + 1) fs))
lane_bits-drop places fs i lt =
    ap bits_of_lanes (lanes_in_order-drop places fs i lt)
    ∙ bits_of_lanes-append (reverse (lanes_of places (slice_index fs i))) (high_first places (drop (i + 1) fs))
    ∙ ap (λ n. n + bits_of_lanes (high_first places (drop (i + 1) fs))) (bits_of_lanes-reverse (lanes_of places (slice_index fs i)))

-- ---- tails and states

pub filter_here : (t : ℕ → Bool) (n : ℕ) (so_far next : List ℕ) → so_far ≡ filter t (range_with_len 0 n) → t n ≡ true → next ≡ so_far ++ n ∷ [] → next ≡ filter t (range_with_len 0 (n + 1))
filter_here t n so_far next is passes pushed =
    pushed ∙ ap (λ (xs : List ℕ). xs ++ n ∷ []) is ∙ sym (filter-range_more t n ∙ ap (λ (b : Bool). filter t (range_with_len 0 n) ++ cond b (n ∷ []) []) passes)

pub filter_not : (t : ℕ → Bool) (n : ℕ) (so_far : List ℕ) → so_far ≡ filter t (range_with_len 0 n) → t n ≡ false → so_far ≡ filter t (range_with_len 0 (n + 1))
filter_not t n so_far is fails =
    is ∙ sym (filter-range_more t n ∙ ap (λ (b : Bool). filter t (range_with_len 0 n) ++ cond b (n ∷ []) []) fails ∙ append-nil (filter t (range_with_len 0 n)))

-- how many entries there are
pub length-entries_from : (p : Program) (places : List (List Lane)) (n : ℕ) (hs : List Header) → length (entries_from p places n hs) ≡ entries_in hs
length-entries_from p places n [] = refl
length-entries_from p places n (h ∷ hs) =
    let here : length (entries_of p places n h) ≡ entry_count h = length-append (map _ h.cases) _ ∙ ap (λ k. k + 1) (length-map h.cases _) in
    let rest = length-entries_from p places (n + 1) hs in
    let all = length-append (entries_of p places n h) (entries_from p places (n + 1) hs) in
    let sums = sum_by-cons entry_count h hs in
    omega (arith, here, rest, all, sums)

-- one more tail
pub tail_more : (p : Program) (n : ℕ) (h : Header) (t : Tail) (first entry from len : ℕ) (start so_far next : List TailOf) → first ≤ entry → from ≡ place_in p h.fields t.field → len ≡ width_of p t.field
    → so_far ≡ start ++ map (tail_at p n h t) (range_with_len first (entry - first))
    → next ≡ so_far ++ record { entry = entry; header = n; from = from; len = len; unit = t.unit; base = t.base } ∷ []
    → next ≡ start ++ map (tail_at p n h t) (range_with_len first (entry + 1 - first))
tail_more p n h t first entry from len start so_far next le place width is pushed =
    let numbers : List ℕ = range_with_len first (entry - first) in
    let one : record { entry = entry; header = n; from = from; len = len; unit = t.unit; base = t.base } ≡ tail_at p n h t entry = rw (place, width) refl in
    let grown : map (tail_at p n h t) (range_with_len first (entry + 1 - first)) ≡ map (tail_at p n h t) numbers ++ tail_at p n h t entry ∷ [] =
    ap (map (tail_at p n h t)) (range-next first entry le) ∙ map-append (tail_at p n h t) numbers (entry ∷ []) in
    pushed ∙ ap (λ (x : TailOf). so_far ++ x ∷ []) one ∙ ap (λ (xs : List TailOf). xs ++ tail_at p n h t entry ∷ []) is
    ∙ append_assoc start (map (tail_at p n h t) numbers) (tail_at p n h t entry ∷ [])
    ∙ sym (ap (λ (xs : List TailOf). start ++ xs) grown)

-- ---- headers

-- the headers that targets go to have states
pub near : (p : Program) (n : ℕ) (t : Target) → length p.headers ≤ 64 → IsTarget p n t → IsNear t
near p n target.Accept few is = tt
near p n target.Reject few is = tt
near p n (target.Node m) few is = omega (arith, few, is.1)

-- what holds of the parts of the parser that stand before the headers from number n on
pub record AreBuilt (p : Program) (places : List (List Lane)) (n : ℕ) (states : List ParserState) (entries : List ParserEntry) (tails : List TailOf) : Type 0 where
  pub states_so_far : states ++ map (state_of p) (drop n p.headers) ≡ (plain p places).states
  pub entries_so_far : entries ++ entries_from p places n (drop n p.headers) ≡ (plain p places).entries
  pub tails_so_far : tails ++ tails_from p n (length entries) (drop n p.headers) ≡ (plain p places).tails

-- the entries of a header have room
pub few_entries : (p : Program) (places : List (List Lane)) (n : ℕ) (h : Header) (entries : List ParserEntry) → n < length p.headers → h ≡ get_or p.headers n h → refusal p ≡ None
    → entries ++ entries_from p places n (drop n p.headers) ≡ (plain p places).entries → length entries + entry_count h ≤ 256
few_entries p places n h entries lt is fits so_far =
    let all : length (entries ++ entries_from p places n (drop n p.headers)) ≡ entries_in p.headers = ap length so_far ∙ length-entries_from p places 0 p.headers in
    let parts = length-append entries (entries_from p places n (drop n p.headers)) in
    let left : length (entries_from p places n (drop n p.headers)) ≡ entries_in (drop n p.headers) = length-entries_from p places n (drop n p.headers) in
    let next : entries_in (drop n p.headers) ≡ entry_count h + entries_in (drop (n + 1) p.headers) =
    sum_by-drop_more entry_count p.headers n h lt ∙ ap (λ (x : Header). entry_count x + entries_in (drop (n + 1) p.headers)) (sym is) in
    let few = fits_in p fits in
    omega (arith, all, parts, left, next, few)

-- the next header
pub built_more : (p : Program) (places : List (List Lane)) (n : ℕ) (h : Header) (before after : ParserConfig) → n < length p.headers → h ≡ get_or p.headers n h
    → after.states ≡ before.states ++ state_of p h ∷ [] → after.entries ≡ before.entries ++ entries_of p places n h → after.tails ≡ before.tails ++ tails_for p n h (length before.entries) h.tail
    → AreBuilt p places n before.states before.entries before.tails → AreBuilt p places (n + 1) after.states after.entries after.tails
built_more p places n h before after lt is states entries tails built =
    let left : drop n p.headers ≡ h ∷ drop (n + 1) p.headers = at_drop_more (λ (hs : List Header). hs) p.headers n h lt ∙ ap (λ (x : Header). x ∷ drop (n + 1) p.headers) (sym is) in
    let hs : List Header = drop (n + 1) p.headers in
    let own = length-append (map (entry_of_case p places n h) h.cases) (entry_to places n h 0 0 h.other ∷ []) in
    let cases = length-map h.cases (entry_of_case p places n h) in
    let all = ap length entries ∙ length-append before.entries (entries_of p places n h) in
    let long : length after.entries ≡ length before.entries + entry_count h = omega (arith, own, cases, all) in
    record {
      states_so_far =
          ap (λ (ss : List ParserState). ss ++ map (state_of p) hs) states ∙ append_assoc before.states (state_of p h ∷ []) (map (state_of p) hs)
          ∙ ap (λ (gs : List Header). before.states ++ map (state_of p) gs) (sym left) ∙ built.states_so_far;
      entries_so_far =
          ap (λ (es : List ParserEntry). es ++ entries_from p places (n + 1) hs) entries ∙ append_assoc before.entries (entries_of p places n h) (entries_from p places (n + 1) hs)
          ∙ ap (λ (gs : List Header). before.entries ++ entries_from p places n gs) (sym left) ∙ built.entries_so_far;
      tails_so_far =
          ap (λ (ts : List TailOf). ts ++ tails_from p (n + 1) (length after.entries) hs) tails
          ∙ ap (λ k. (before.tails ++ tails_for p n h (length before.entries) h.tail) ++ tails_from p (n + 1) k hs) long
          ∙ append_assoc before.tails (tails_for p n h (length before.entries) h.tail) (tails_from p (n + 1) (length before.entries + entry_count h) hs)
          ∙ ap (λ (gs : List Header). before.tails ++ tails_from p n (length before.entries) gs) (sym left) ∙ built.tails_so_far;
    }

-- no header is left
pub built_all : (p : Program) (places : List (List Lane)) (n : ℕ) (states : List ParserState) (entries : List ParserEntry) (tails : List TailOf) → length p.headers ≤ n
    → AreBuilt p places n states entries tails → (let made : ParserConfig = record { states = states; entries = entries; tails = tails } in made) ≡ plain p places
built_all p places n states entries tails le built =
    let none : drop n p.headers ≡ [] = drop_all n p.headers le in
    let one : states ≡ (plain p places).states = sym (append-nil states) ∙ sym (ap (λ (hs : List Header). states ++ map (state_of p) hs) none) ∙ built.states_so_far in
    let two : entries ≡ (plain p places).entries = sym (append-nil entries) ∙ sym (ap (λ (hs : List Header). entries ++ entries_from p places n hs) none) ∙ built.entries_so_far in
    let three : tails ≡ (plain p places).tails = sym (append-nil tails) ∙ sym (ap (λ (hs : List Header). tails ++ tails_from p n (length entries) hs) none) ∙ built.tails_so_far in
    rw (one, two, three) refl

-- ---- lanes as wide as fields

-- so the lanes of fields have their bits
pub lanes_bits : (p : Program) (places : List (List Lane)) (fs : List ℕ) → KeepsApart p places → bits_of_lanes (high_first places fs) ≡ bits_of p fs
lanes_bits p places [] keeps = refl
lanes_bits p places (f ∷ fs) keeps =
    let parts = ap bits_of_lanes (flat_map-cons (λ g. reverse (lanes_of places g)) f fs) ∙ bits_of_lanes-append (reverse (lanes_of places f)) (high_first places fs) in
    let turned = bits_of_lanes-reverse (lanes_of places f) in
    let here = lanes_width p places f keeps.cut in
    let rest = lanes_bits p places fs keeps in
    let all = bits_of-cons p f fs in
    omega (arith, parts, turned, here, rest, all)

-- ---- pieces as a loop sees them

pub start_pushed : (lanes : List Lane) (extracts : List Extract) (from : ℕ) → ArePushed lanes (length lanes) extracts extracts from from (from + bits_of_lanes lanes)
start_pushed lanes extracts from =
    let all : take (length lanes) lanes ≡ lanes = take_all (length lanes) lanes (omega arith) in
    record {
      bits = ap (λ (ls : List Lane). from + bits_of_lanes ls) all;
      pushed = λ rest. ap (λ (ls : List Lane). extracts ++ bits_from from (reverse ls ++ rest)) all;
    }

pub next_fits : (lanes : List Lane) (left : ℕ) (d : Lane) (extracts start : List Extract) (next from total len : ℕ) → 0 < left → left ≤ length lanes → len ≡ (get_or lanes (left - 1) d).len
    → ArePushed lanes left extracts start next from total → next + len ≤ total
next_fits lanes left d extracts start next from total len some within is pushed =
    let same : left ≡ left - 1 + 1 = omega arith in
    let grown = bits_more lanes (left - 1) d (let lt : left - 1 < length lanes = omega arith in lt) in
    let before : next + bits_of_lanes (take (left - 1 + 1) lanes) ≡ total = subst (λ n. next + bits_of_lanes (take n lanes) ≡ total) same pushed.bits in
    omega (arith, grown, before, is)

pub end_pushed : (lanes : List Lane) (left : ℕ) (extracts start : List Extract) (next from total : ℕ) → left ≤ 0 → ArePushed lanes left extracts start next from total
    → (rest : List Lane) → extracts ++ bits_from next rest ≡ start ++ bits_from from (reverse lanes ++ rest)
end_pushed lanes left extracts start next from total le pushed rest =
    let none : left ≡ 0 = omega (arith, le) in
    subst (λ n. extracts ++ bits_from next (reverse (take n lanes) ++ rest) ≡ start ++ bits_from from (reverse lanes ++ rest)) none (pushed.pushed rest)

pub end_bits : (lanes : List Lane) (left : ℕ) (extracts start : List Extract) (next from total : ℕ) → left ≤ 0 → ArePushed lanes left extracts start next from total → next ≡ total
end_bits lanes left extracts start next from total le pushed =
    let none : left ≡ 0 = omega (arith, le) in
    let empty : next + bits_of_lanes (take 0 lanes) ≡ total = subst (λ n. next + bits_of_lanes (take n lanes) ≡ total) none pushed.bits in
    let no_bits : bits_of_lanes (take 0 lanes) ≡ 0 = refl in
    omega (arith, empty, no_bits)
