-- The tests of bytes that an entry makes, against its words of 32 bits.
use Rattle.std.proofs.Common.{◌≡◌, cond, eqb, nat_lt, Bool, true, false, ℕ, ◌+◌, ◌-◌, ◌<◌, ◌≤◌, List, [], ◌∷◌, ◌++◌, map, refl, sym, ap, ◌∙◌, inl, inr, arith}
use Rattle.std.specs.Prelude.{◌||◌, ◌&&◌, nat_le, unwrap_or, find, Some}
use Rattle.std.specs.List.{filter, list_all, range_with_len, zip}
use Rattle.std.proofs.Math.Path.{fun_ext}
use Rattle.std.proofs.lemmas.Bool.{cases_lt, eq-eqb, ne_eqb, lt-ltb, le-ltb, le-leb, lt-leb, eqb-true, ltb-true}
use Rattle.std.proofs.lemmas.List.Folds.{list_any-append}
use Rattle.rmt_bits.specs.Bits.{bytes_of}
use Rattle.rmt_bits.proofs.OptionLaws.{same_Bool}
use Rattle.rmt_bits.specs.Members.{is_among}
use Rattle.rmt_config.specs.Parser.{high_bytes}
use Rattle.rmt_ptcam.specs.Types.{ParserEntry}
use Rattle.rmt_ptcam.specs.ByteTests.{ByteTest, joined_tests, moved_test, test_at, test_for, tests_of}
use Rattle.rmt_ptcam.specs.Joining.{compares_before, joined_entry, together, widened_entry}
use Rattle.rmt_ptcam.specs.Words.{byte_at, byte_of_both, entry_of_both, first_byte, other_bytes, spread_entry}

-- ---- the bytes of a word

-- the byte among some that stands beside an offset
abbrev byte_in : List ℕ → List ℕ → ℕ → ℕ
byte_in [] bytes o = 0
byte_in (l ∷ ls) [] o = 0
byte_in (l ∷ ls) (b ∷ bytes) o = cond (eqb l o) b (byte_in ls bytes o)

same_cond : (b : Bool) (x y u v : ℕ) → x ≡ u → y ≡ v → cond b x y ≡ cond b u v
same_cond true x y u v p q = p
same_cond false x y u v p q = q

zero_byte : (ls : List ℕ) (o : ℕ) → byte_at ls 0 o ≡ 0
zero_byte [] o = refl
zero_byte (l ∷ ls) o = by (eqb l o) (zero_byte ls o)
  where
    by : (b : Bool) → byte_at ls 0 o ≡ 0 → cond b 0 (byte_at ls 0 o) ≡ 0
    by true rest = refl
    by false rest = rest

-- bytes that a word has, from the highest on
abbrev AreOf : List ℕ → ℕ → Type 0
AreOf [] w = w ≡ 0
AreOf (b ∷ bytes) w = (first_byte w ≡ b) × AreOf bytes (other_bytes w)

word_in : (ls bytes : List ℕ) (w o : ℕ) → AreOf bytes w → byte_at ls w o ≡ byte_in ls bytes o
word_in [] bytes w o are = refl
word_in (l ∷ ls) [] w o are = ap (λ v. byte_at (l ∷ ls) v o) are ∙ zero_byte (l ∷ ls) o
word_in (l ∷ ls) (b ∷ bytes) w o are = same_cond (eqb l o) (first_byte w) (byte_at ls (other_bytes w) o) b (byte_in ls bytes o) are.0 (word_in ls bytes (other_bytes w) o are.1)

four_are : (w : ℕ) → AreOf (bytes_of 4 w) w
four_are w = (omega arith, (omega arith, (omega arith, (omega arith, omega arith))))

word_at : (ls : List ℕ) (w o : ℕ) → byte_at ls w o ≡ byte_in ls (bytes_of 4 w) o
word_at ls w o = word_in ls (bytes_of 4 w) w o (four_are w)

-- ---- the test of a byte

abbrev none_at : ℕ → ByteTest
none_at o = record { offset = o; value = 0; mask = 0 }

abbrev chosen : Bool → ByteTest → List ByteTest → ℕ → ByteTest
chosen b t ts o = unwrap_or (cond b (Some t) (find (λ (u : ByteTest). eqb u.offset o) ts)) (none_at o)

-- the value or the mask of the test of a byte
module _ (part : ByteTest → ℕ) (own : ℕ × ℕ → ℕ) (none : (o : ℕ) → part (none_at o) ≡ 0) (told : (l : ℕ) (x : ℕ × ℕ) → part (test_at (l, x)) ≡ own x) where
  part_in : (ls : List ℕ) (bytes : List (ℕ × ℕ)) (o : ℕ) → part (test_for (map test_at (zip ls bytes)) o) ≡ byte_in ls (map own bytes) o
  part_in [] bytes o = none o
  part_in (l ∷ ls) [] o = none o
  part_in (l ∷ ls) (x ∷ bytes) o = by (eqb l o) (part_in ls bytes o)
    where
      by : (b : Bool) → part (test_for (map test_at (zip ls bytes)) o) ≡ byte_in ls (map own bytes) o
          → part (chosen b (test_at (l, x)) (map test_at (zip ls bytes)) o) ≡ cond b (own x) (byte_in ls (map own bytes) o)
      by true rest = told l x
      by false rest = rest

-- the tests of an entry have the bytes of its words
pub value_at_test : (ls : List ℕ) (e : ParserEntry) (o : ℕ) → (test_for (tests_of ls e) o).value ≡ byte_at ls e.value o
value_at_test ls e o = part_in (λ (t : ByteTest). t.value) (λ x. x.0) (λ k. refl) (λ l x. refl) ls (zip (bytes_of 4 e.value) (bytes_of 4 e.mask)) o ∙ sym (word_at ls e.value o)

pub mask_at_test : (ls : List ℕ) (e : ParserEntry) (o : ℕ) → (test_for (tests_of ls e) o).mask ≡ byte_at ls e.mask o
mask_at_test ls e o = part_in (λ (t : ByteTest). t.mask) (λ x. x.1) (λ k. refl) (λ l x. refl) ls (zip (bytes_of 4 e.value) (bytes_of 4 e.mask)) o ∙ sym (word_at ls e.mask o)

-- ---- tests of two entries

same_eq : (l bytes o : ℕ) → bytes ≤ o → eqb (l + bytes) o ≡ eqb l (o - bytes)
same_eq l bytes o le =
    same_Bool (eqb (l + bytes) o) (eqb l (o - bytes))
    (λ is. (let e : l + bytes ≡ o = eqb-true (l + bytes) o is in eq-eqb l (o - bytes) (omega (arith, e))))
    (λ is. (let e : l ≡ o - bytes = eqb-true l (o - bytes) is in eq-eqb (l + bytes) o (omega (arith, e, le))))

module _ (bytes : ℕ) where
  abbrev later : ByteTest → ByteTest
  later = moved_test bytes

  abbrev early : ByteTest → Bool
  early t = nat_lt t.offset bytes

  -- none of the second has an offset before
  none_before : (ts : List ByteTest) (o : ℕ) → o < bytes → test_for (map later ts) o ≡ none_at o
  none_before [] o lt = refl
  none_before (t ∷ ts) o lt = ap (λ (b : Bool). chosen b (later t) (map later ts) o) (ne_eqb (t.offset + bytes) o (λ e. omega (arith, e, lt))) ∙ none_before ts o lt

  second_moved : (ts : List ByteTest) (o : ℕ) → bytes ≤ o → test_for (map later ts) o ≡ later (test_for ts (o - bytes))
  second_moved [] o le = let back : o ≡ o - bytes + bytes = omega (arith, le) in ap none_at back
  second_moved (t ∷ ts) o le = ap (λ (b : Bool). chosen b (later t) (map later ts) o) (same_eq t.offset bytes o le) ∙ by (eqb t.offset (o - bytes)) (second_moved ts o le)
    where
      by : (b : Bool) → test_for (map later ts) o ≡ later (test_for ts (o - bytes)) → chosen b (later t) (map later ts) o ≡ later (chosen b t ts (o - bytes))
      by true rest = refl
      by false rest = rest

  kept_first : (t : ByteTest) (ts second : List ByteTest) (o : ℕ) (c : Bool) → early t ≡ c
      → test_for (joined_tests bytes (t ∷ ts) second) o ≡ test_for (cond c (t ∷ filter early ts) (filter early ts) ++ map later second) o
  kept_first t ts second o c is = ap (λ (b : Bool). test_for (cond b (t ∷ filter early ts) (filter early ts) ++ map later second) o) is

  front_test : (first second : List ByteTest) (o : ℕ) → o < bytes → test_for (joined_tests bytes first second) o ≡ test_for first o
  front_test [] second o lt = none_before second o lt
  front_test (t ∷ ts) second o lt = by (eqb t.offset o) refl (early t) refl (front_test ts second o lt)
    where
      by : (b : Bool) → eqb t.offset o ≡ b → (c : Bool) → early t ≡ c → test_for (joined_tests bytes ts second) o ≡ test_for ts o
          → test_for (joined_tests bytes (t ∷ ts) second) o ≡ test_for (t ∷ ts) o
      by true on c is rest =
          let same : t.offset ≡ o = eqb-true t.offset o on in
          kept_first t ts second o true (lt-ltb t.offset bytes (omega (arith, same, lt)))
          ∙ ap (λ (b : Bool). chosen b t (joined_tests bytes ts second) o) on ∙ sym (ap (λ (b : Bool). chosen b t ts o) on)
      by false on true is rest =
          kept_first t ts second o true is ∙ ap (λ (b : Bool). chosen b t (joined_tests bytes ts second) o) on ∙ rest ∙ sym (ap (λ (b : Bool). chosen b t ts o) on)
      by false on false is rest = kept_first t ts second o false is ∙ rest ∙ sym (ap (λ (b : Bool). chosen b t ts o) on)

  back_test : (first second : List ByteTest) (o : ℕ) → bytes ≤ o → test_for (joined_tests bytes first second) o ≡ later (test_for second (o - bytes))
  back_test [] second o le = second_moved second o le
  back_test (t ∷ ts) second o le = by (early t) refl (back_test ts second o le)
    where
      by : (c : Bool) → early t ≡ c → test_for (joined_tests bytes ts second) o ≡ later (test_for second (o - bytes))
          → test_for (joined_tests bytes (t ∷ ts) second) o ≡ later (test_for second (o - bytes))
      by true is rest =
          let lt : t.offset < bytes = ltb-true t.offset bytes is in
          kept_first t ts second o true is ∙ ap (λ (b : Bool). chosen b t (joined_tests bytes ts second) o) (ne_eqb t.offset o (λ e. omega (arith, e, lt, le))) ∙ rest
      by false is rest = kept_first t ts second o false is ∙ rest

module _ (here there : List ℕ) (e f : ParserEntry) where
  abbrev tests : List ByteTest
  tests = joined_tests e.advance (tests_of here e) (tests_of there f)

  part_of_both : (part : ByteTest → ℕ) (word : ParserEntry → ℕ) → ((ls : List ℕ) (x : ParserEntry) (o : ℕ) → part (test_for (tests_of ls x) o) ≡ byte_at ls (word x) o)
      → ((t : ByteTest) → part (later e.advance t) ≡ part t) → (o : ℕ) → part (test_for tests o) ≡ byte_of_both here e.advance there (word e) (word f) o
  part_of_both part word at_test kept o = elim (cases_lt o e.advance) [
    | inl lt ↦
        ap part (front_test e.advance (tests_of here e) (tests_of there f) o lt) ∙ at_test here e o
        ∙ sym (ap (λ (b : Bool). cond b (byte_at here (word e) o) (byte_at there (word f) (o - e.advance))) (lt-ltb o e.advance lt))
    | inr le ↦
        ap part (back_test e.advance (tests_of here e) (tests_of there f) o le) ∙ kept (test_for (tests_of there f) (o - e.advance)) ∙ at_test there f (o - e.advance)
        ∙ sym (ap (λ (b : Bool). cond b (byte_at here (word e) o) (byte_at there (word f) (o - e.advance))) (le-ltb o e.advance le))
  ]

  value_of_both : (o : ℕ) → (test_for tests o).value ≡ byte_of_both here e.advance there e.value f.value o
  value_of_both = part_of_both (λ (t : ByteTest). t.value) (λ (x : ParserEntry). x.value) value_at_test (λ t. refl)

  mask_of_both : (o : ℕ) → (test_for tests o).mask ≡ byte_of_both here e.advance there e.mask f.mask o
  mask_of_both = part_of_both (λ (t : ByteTest). t.mask) (λ (x : ParserEntry). x.mask) mask_at_test (λ t. refl)

-- ---- entries by their words

-- bytes over lookups as a word
abbrev word_of : List ℕ → (ℕ → ℕ) → ℕ
word_of ls byte = high_bytes (map byte ls)

pub widened_is : (from to : List ℕ) (e : ParserEntry) → widened_entry from to e ≡ spread_entry from to e
widened_is from to e =
    ap (λ (byte : ℕ → ℕ). record e { value = word_of to byte; mask = word_of to (λ o. (test_for (tests_of from e) o).mask) }) (fun_ext (λ o. value_at_test from e o))
    ∙ ap (λ (byte : ℕ → ℕ). record e { value = word_of to (byte_at from e.value); mask = word_of to byte }) (fun_ext (λ o. mask_at_test from e o))

pub joined_is : (here there : List ℕ) (e f : ParserEntry) → joined_entry here there e f ≡ entry_of_both here there e f
joined_is here there e f =
    let to : List ℕ = together here e.advance there in
    ap (λ (byte : ℕ → ℕ). record (joined_entry here there e f) { value = word_of to byte }) (fun_ext (value_of_both here there e f))
    ∙ ap (λ (byte : ℕ → ℕ). record (entry_of_both here there e f) { mask = word_of to byte }) (fun_ext (mask_of_both here there e f))

pub compares_is : (here : List ℕ) (e : ParserEntry) → compares_before here e ≡ list_all (λ o. nat_lt o e.advance || (eqb (byte_at here e.mask o) 0)) here
compares_is here e =
    ap (λ (byte : ℕ → ℕ). list_all (λ o. nat_lt o e.advance || eqb (byte o) 0) here) (fun_ext (λ o. mask_at_test here e o))

-- ---- lookups

among_before : (bytes : ℕ) (ls : List ℕ) (o : ℕ) → o < bytes → is_among (map (λ l. l + bytes) ls) o ≡ false
among_before bytes [] o lt = refl
among_before bytes (l ∷ ls) o lt = ap (λ (b : Bool). b || is_among (map (λ x. x + bytes) ls) o) (ne_eqb (l + bytes) o (λ e. omega (arith, e, lt))) ∙ among_before bytes ls o lt

among_behind : (bytes : ℕ) (ls : List ℕ) (o : ℕ) → bytes ≤ o → is_among (map (λ l. l + bytes) ls) o ≡ is_among ls (o - bytes)
among_behind bytes [] o le = refl
among_behind bytes (l ∷ ls) o le =
    ap (λ (b : Bool). b || is_among (map (λ x. x + bytes) ls) o) (same_eq l bytes o le) ∙ ap (λ (b : Bool). eqb l (o - bytes) || b) (among_behind bytes ls o le)

among_moved : (bytes : ℕ) (ls : List ℕ) (o : ℕ) → is_among (map (λ l. l + bytes) ls) o ≡ (nat_le bytes o && is_among ls (o - bytes))
among_moved bytes ls o = elim (cases_lt o bytes) [
  | inl lt ↦ among_before bytes ls o lt ∙ sym (ap (λ (b : Bool). b && is_among ls (o - bytes)) (lt-leb bytes o lt))
  | inr le ↦ among_behind bytes ls o le ∙ sym (ap (λ (b : Bool). b && is_among ls (o - bytes)) (le-leb bytes o le))
]

-- the lookups together, offset by offset
pub together_is : (here : List ℕ) (bytes : ℕ) (there : List ℕ) → together here bytes there ≡ filter (λ o. is_among here o || (nat_le bytes o && is_among there (o - bytes))) (range_with_len 0 128)
unfolding together
together_is here bytes there =
    ap (λ (p : ℕ → Bool). filter p (range_with_len 0 128))
    (fun_ext (λ o. list_any-append (λ l. eqb l o) here (map (λ l. l + bytes) there) ∙ ap (λ (b : Bool). is_among here o || b) (among_moved bytes there o)))
