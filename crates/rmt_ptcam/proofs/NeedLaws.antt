-- Fields of headers one behind another, and what is counted of them.
use Rattle.std.proofs.Common.{◌||◌, ◌≡◌, ◌≢◌, ℕ, ◌+◌, ◌/◌, ◌%◌, ◌<◌, ◌≤◌, Bool, true, false, cond, eqb, nat_lt, min, List, [], ◌∷◌, ◌++◌, get_or, length, drop, replicate, Option, Some, None, Ok, refl, sym, ap, subst, ◌∙◌, inl, inr, arith}
use Rattle.std.specs.Prelude.{sum_by, slice_get, slice_index}
use Rattle.std.specs.Option.{option_or}
use Rattle.std.specs.List.{filter, list_any, range_with_len}
use Rattle.std.proofs.lemmas.List.{at_drop_more, at_drop_all, length-append, length-replicate, append-nil}
use Rattle.std.proofs.lemmas.List.Sums.{sum-map, sum_by-le-sum_by}
use Rattle.std.proofs.lemmas.Bool.{eq-eqb, ltb-false, ne_eqb}
use Rattle.std.proofs.lemmas.Bool.Decides.{eqb_tells}
use Rattle.rmt_bits.proofs.ListLaws.{filter-range_more}
use Rattle.rmt_ptcam.specs.Types.{Program, Header}
use Rattle.rmt_ast.specs.State.{width_of}
use Rattle.rmt_ast.specs.WellFormed.{IsProgram, bits_of}
use Rattle.rmt_phv.specs.Packing.{pieces}
use Rattle.rmt_ptcam.specs.declared.fault.ParserFault.{ParserFault}
use Rattle.rmt_ptcam.specs.declared.fault.ParserFault.TheVariants.{ParserFull}
use Rattle.rmt_ptcam.specs.Needs.{place_in, entries_in, first_fault, full_fault, header_fault, refusal, unless}
use Rattle.rmt_bits.proofs.OptionLaws.{option_or-none_right}

-- a header of the program has at most 512 bits
pub header_short : (p : Program) (n : ℕ) (h : Header) → IsProgram p → slice_get p.headers n ≡ Some h → bits_of p h.fields ≤ 512
header_short p n h good is = let this = good.headers n h is in omega (arith, this.whole_bytes, this.is_not_long)

-- a field stands where it is first met
pub place_found : (p : Program) (fs : List ℕ) (f i : ℕ) → i < length fs → slice_index fs i ≡ f → place_in p (drop i fs) f ≡ 0
place_found p fs f i lt is =
    at_drop_more (λ (gs : List ℕ). place_in p gs f) fs i 0 lt
    ∙ ap (λ (b : Bool). cond b 0 (width_of p (slice_index fs i) + place_in p (drop (i + 1) fs) f)) (eq-eqb (slice_index fs i) f is)

pub place_further : (p : Program) (fs : List ℕ) (f i : ℕ) → i < length fs → slice_index fs i ≢ f → place_in p (drop i fs) f ≡ width_of p (slice_index fs i) + place_in p (drop (i + 1) fs) f
place_further p fs f i lt other =
    at_drop_more (λ (gs : List ℕ). place_in p gs f) fs i 0 lt
    ∙ ap (λ (b : Bool). cond b 0 (width_of p (slice_index fs i) + place_in p (drop (i + 1) fs) f)) (ne_eqb (slice_index fs i) f other)

pub place_past : (p : Program) (fs : List ℕ) (f i : ℕ) → length fs ≤ i → place_in p (drop i fs) f ≡ 0
place_past p fs f i le = at_drop_all (λ (gs : List ℕ). place_in p gs f) fs i le

-- whether one of the items from one on passes
pub any_here : (t : ℕ → Bool) (xs : List ℕ) (i : ℕ) → i < length xs → t (slice_index xs i) ≡ true → list_any t (drop i xs) ≡ true
any_here t xs i lt passes = at_drop_more (list_any t) xs i 0 lt ∙ ap (λ (b : Bool). b || list_any t (drop (i + 1) xs)) passes

pub any_later : (t : ℕ → Bool) (xs : List ℕ) (i : ℕ) → i < length xs → t (slice_index xs i) ≡ false → list_any t (drop i xs) ≡ list_any t (drop (i + 1) xs)
any_later t xs i lt fails = at_drop_more (list_any t) xs i 0 lt ∙ ap (λ (b : Bool). b || list_any t (drop (i + 1) xs)) fails

pub any_end : (t : ℕ → Bool) (xs : List ℕ) (i : ℕ) → length xs ≤ i → list_any t (drop i xs) ≡ false
any_end t xs i le = at_drop_all (list_any t) xs i le

-- how many these are
pub counted_here : (t : ℕ → Bool) (n count : ℕ) → count ≡ length (filter t (range_with_len 0 n)) → t n ≡ true → count + 1 ≡ length (filter t (range_with_len 0 (n + 1)))
counted_here t n count is passes =
    ap (λ k. k + 1) is ∙ sym (ap length (filter-range_more t n ∙ ap (λ (b : Bool). filter t (range_with_len 0 n) ++ cond b (n ∷ []) []) passes) ∙ length-append (filter t (range_with_len 0 n)) (n ∷ []))

pub counted_not : (t : ℕ → Bool) (n count : ℕ) → count ≡ length (filter t (range_with_len 0 n)) → t n ≡ false → count ≡ length (filter t (range_with_len 0 (n + 1)))
counted_not t n count is fails =
    is ∙ sym (ap length (filter-range_more t n ∙ ap (λ (b : Bool). filter t (range_with_len 0 n) ++ cond b (n ∷ []) []) fails ∙ append-nil (filter t (range_with_len 0 n))))

-- how many pieces a width has
pub pieces_count : (w : ℕ) → length (pieces w) ≡ (w + 31) / 32
pieces_count w = length-append (replicate (w / 32) 32) _ ∙ ap (λ n. n + length (cond (eqb (w % 32) 0) [] (w % 32 ∷ []))) (length-replicate {A = ℕ} (w / 32) 32) ∙ elim (eqb_tells (w % 32) 0) [
  | inl (is, e) ↦ rw is (omega arith)
  | inr (is, e) ↦ rw is (omega arith)
]

-- fields have at most as many pieces as bits
pub few_pieces : (p : Program) (fs : List ℕ) → sum_by (λ f. length (pieces (width_of p f))) fs ≤ bits_of p fs
few_pieces p fs =
    let each : (f : ℕ) → length (pieces (width_of p f)) ≤ width_of p f = λ f. let n = pieces_count (width_of p f) in omega (arith, n) in
    subst (λ n. sum_by (λ f. length (pieces (width_of p f))) fs ≤ n) (sym (sum-map (width_of p) fs)) (sum_by-le-sum_by (λ f. length (pieces (width_of p f))) (width_of p) fs each)

pub unless_ok : {X : Type 0} (o : Option ParserFault) (x y : X) → unless o x ≡ Ok y → o ≡ None
unless_ok None x y e = refl
unless_ok (Some f) x y e = absurd cc

-- the next header of a program, as a loop sees it
pub headers_more : (p : Program) (n : ℕ) (h : Header) (seen : List Header) → seen ≡ p.headers → n < length seen → h ≡ get_or seen n h
    → first_fault p n (drop n p.headers) ≡ option_or (header_fault p n h) (first_fault p (n + 1) (drop (n + 1) p.headers))
headers_more p n h seen same lt is =
    let there : n < length p.headers = subst (λ (hs : List Header). n < length hs) same lt in
    let item : get_or p.headers n h ≡ h = sym (is ∙ ap (λ (hs : List Header). get_or hs n h) same) in
    at_drop_more (first_fault p n) p.headers n h there ∙ ap (λ (x : Header). first_fault p n (x ∷ drop (n + 1) p.headers)) item

pub fits_in : (p : Program) → refusal p ≡ None → entries_in p.headers ≤ 256
fits_in p e = by (nat_lt 256 (entries_in p.headers)) refl (option_or-none_right (first_fault p 0 p.headers) (full_fault p) e)
  where
    by : (b : Bool) → nat_lt 256 (entries_in p.headers) ≡ b → cond b (Some (ParserFull (min (entries_in p.headers) 4294967295))) None ≡ None → entries_in p.headers ≤ 256
    by true is e = absurd cc
    by false is e = ltb-false 256 (entries_in p.headers) is
