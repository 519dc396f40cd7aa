-- An entry matches a state exactly where the state's key, as one number, agrees with the entry's tests as one on their mask.
use Rattle.std.proofs.Common.{◌≡◌, ℕ, ◌+◌, ◌*◌, ◌^◌, ◌%◌, ◌/◌, ◌<◌, true, ◌&&◌, ◌==◌, List, [], ◌∷◌, sum, map, refl, sym, ap, ◌∙◌, arith}
use Rattle.std.specs.Prelude.{All, bit_and, slice_index}
use Rattle.std.specs.List.{AllZip}
use Rattle.std.proofs.Math.Nat.{mod-eq_of_lt}
use Rattle.std.proofs.lemmas.Bool.{and_parts, eqb-true, eq-eqb}
use Rattle.std.proofs.lemmas.List.Elements.{All-head, All-tail}
use Rattle.std.proofs.lemmas.List.Sums.{sum_by-cons}
use Rattle.std.proofs.lemmas.Nat.{and_block, and_le_l, and_mask, div-mul-add, mod-mul-add, mul-add-lt, pow-add}
use Rattle.rmt_refine.specs.Types.{Program, Test}
use Rattle.rmt_ast.specs.State.{joined, passes, width_of}
use Rattle.rmt_ast.specs.Walk.{all_pass}
use Rattle.rmt_ast.specs.WellFormed.{IsTest}
use Rattle.rmt_ast.specs.EntryLists.{IsWhole, IsPrefix}
use Rattle.rmt_config.specs.Rooms.{tests_as_one}
use Rattle.rmt_bits.proofs.OptionLaws.{same_Bool}

-- ---- sizes

-- the key's fields fit their widths
abbrev pub FieldsFit : Program → List ℕ → List ℕ → Type 0
FieldsFit p s key = All (λ f. slice_index s f < 2 ^ width_of p f) key

two_lt : (x r w ws more : ℕ) → more ≡ w + ws → x < 2 ^ w → r < 2 ^ ws → x * 2 ^ ws + r < 2 ^ more
two_lt x r w ws more e hx hr =
    rw (e, pow-add 2 w ws) (omega (arith, mul-add-lt x (2 ^ ws) r (2 ^ w) hx hr))

pub joined-lt : (p : Program) (s key : List ℕ) → FieldsFit p s key → joined p key s < 2 ^ sum (map (width_of p) key)
joined-lt p s [] h = omega arith
joined-lt p s (f ∷ fs) h =
    two_lt (slice_index s f) (joined p fs s) (width_of p f) (sum (map (width_of p) fs)) _ (sum_by-cons (λ n. n) (width_of p f) (map (width_of p) fs))
    (All-head (λ g. slice_index s g < 2 ^ width_of p g) f fs h) (joined-lt p s fs (All-tail (λ g. slice_index s g < 2 ^ width_of p g) f fs h))

tests-lt : (part : Test → ℕ) → ((w : ℕ) (t : Test) → IsTest w t → part t < 2 ^ w) → (ws : List ℕ) (ts : List Test) → AllZip IsTest ws ts → tests_as_one part ws ts < 2 ^ sum ws
tests-lt part fits [] ts h = omega arith
tests-lt part fits (w ∷ ws) [] h = absurd h
tests-lt part fits (w ∷ ws) (t ∷ ts) h =
    two_lt (part t) (tests_as_one part ws ts) w (sum ws) _ (sum_by-cons (λ n. n) w ws) (fits w t h.0) (tests-lt part fits ws ts h.1)

-- ---- two numbers put together from parts are equal where the parts are

pub block_eq : (a b r s k : ℕ) → r < 2 ^ k → s < 2 ^ k → (a * 2 ^ k + r == b * 2 ^ k + s) ≡ ((a == b) && (r == s))
block_eq a b r s k hr hs =
    same_Bool (a * 2 ^ k + r == b * 2 ^ k + s) ((a == b) && (r == s))
    (λ h.
    let e = eqb-true (a * 2 ^ k + r) (b * 2 ^ k + s) h in
    let high : a ≡ b = sym (div-mul-add a (2 ^ k) r hr) ∙ ap (λ n. n / 2 ^ k) e ∙ div-mul-add b (2 ^ k) s hs in
    let low : r ≡ s = sym (mod-mul-add a (2 ^ k) r hr) ∙ ap (λ n. n % 2 ^ k) e ∙ mod-mul-add b (2 ^ k) s hs in
    rw (eq-eqb a b high, eq-eqb r s low) refl)
    (λ h.
    let both = and_parts (a == b) (r == s) h in
    let high : a ≡ b = eqb-true a b both.0 in
    let low : r ≡ s = eqb-true r s both.1 in
    eq-eqb (a * 2 ^ k + r) (b * 2 ^ k + s) (ap (λ n. n * 2 ^ k + r) high ∙ ap (λ n. b * 2 ^ k + n) low))

-- ---- the law

pub key_agrees : (p : Program) (s key : List ℕ) (ts : List Test) → FieldsFit p s key → AllZip IsTest (map (width_of p) key) ts
    → (bit_and (joined p key s) (tests_as_one (λ t. t.mask) (map (width_of p) key) ts) == tests_as_one (λ t. t.value) (map (width_of p) key) ts) ≡ all_pass ts key s
key_agrees p s [] [] fit h = refl
key_agrees p s [] (t ∷ ts) fit h = absurd h
key_agrees p s (f ∷ fs) [] fit h = absurd h
key_agrees p s (f ∷ fs) (t ∷ ts) fit h =
    let ws = map (width_of p) fs in
    let x = slice_index s f in
    let fit_tail = All-tail (λ g. slice_index s g < 2 ^ width_of p g) f fs fit in
    let rest = joined p fs s in
    let masks = tests_as_one (λ u. u.mask) ws ts in
    let values = tests_as_one (λ u. u.value) ws ts in
    let rest-lt : rest < 2 ^ sum ws = joined-lt p s fs fit_tail in
    let masks-lt : masks < 2 ^ sum ws = tests-lt (λ u. u.mask) (λ w u is. is.mask_fits) ws ts h.1 in
    let values-lt : values < 2 ^ sum ws = tests-lt (λ u. u.value) (λ w u is. is.value_fits) ws ts h.1 in
    let seen-lt : bit_and rest masks < 2 ^ sum ws = omega (arith, and_le_l rest masks, rest-lt) in
    ap (λ n. n == t.value * 2 ^ sum ws + values) (and_block (sum ws) x t.mask rest masks rest-lt masks-lt)
    ∙ block_eq (bit_and x t.mask) t.value (bit_and rest masks) values (sum ws) seen-lt values-lt
    ∙ ap (λ b. (bit_and x t.mask == t.value) && b) (key_agrees p s fs ts fit_tail h.1)
    ∙ ap (λ n. (bit_and x t.mask == n) && all_pass ts fs s) (sym h.0.value_is_masked)

-- ---- tests that pass

-- what a test that passes sees is its value
seen : (w x : ℕ) (t : Test) → IsTest w t → passes t x ≡ true → bit_and x t.mask ≡ t.value
seen w x t is pass = eqb-true (bit_and x t.mask) (bit_and t.value t.mask) pass ∙ is.value_is_masked

whole_value : (w x : ℕ) (t : Test) → x < 2 ^ w → IsTest w t → IsWhole w t → passes t x ≡ true → x ≡ t.value
whole_value w x t fit is whole pass =
    sym (mod-eq_of_lt fit) ∙ sym (and_mask x w) ∙ ap (λ m. bit_and x m) (sym whole) ∙ seen w x t is pass

-- the key of an entry of whole masks that matches is its value
pub whole_key : (p : Program) (s key : List ℕ) (ts : List Test) → FieldsFit p s key → AllZip IsTest (map (width_of p) key) ts
    → AllZip IsWhole (map (width_of p) key) ts → all_pass ts key s ≡ true → joined p key s ≡ tests_as_one (λ t. t.value) (map (width_of p) key) ts
whole_key p s [] ts fit is whole pass = refl
whole_key p s (f ∷ fs) [] fit is whole pass = absurd is
whole_key p s (f ∷ fs) (t ∷ ts) fit is whole pass =
    let both = and_parts (passes t (slice_index s f)) (all_pass ts fs s) pass in
    let k = sum (map (width_of p) fs) in
    let here = whole_value (width_of p f) (slice_index s f) t (All-head (λ g. slice_index s g < 2 ^ width_of p g) f fs fit) is.0 whole.0 both.0 in
    let later = whole_key p s fs ts (All-tail (λ g. slice_index s g < 2 ^ width_of p g) f fs fit) is.1 whole.1 both.1 in
    ap (λ n. n * 2 ^ k + joined p fs s) here ∙ ap (λ n. t.value * 2 ^ k + n) later

same_test : (t u : Test) → t.value ≡ u.value → t.mask ≡ u.mask → t ≡ u
same_test t u value mask = λ i. record { value = value i; mask = mask i }

-- tests of the same masks that all pass are the same
pub same_tests : (p : Program) (s key : List ℕ) (M : ℕ → Test → Type 0) → ((w : ℕ) (t u : Test) → M w t → M w u → t.mask ≡ u.mask)
    → (ts us : List Test) → AllZip IsTest (map (width_of p) key) ts → AllZip IsTest (map (width_of p) key) us
    → AllZip M (map (width_of p) key) ts → AllZip M (map (width_of p) key) us → all_pass ts key s ≡ true → all_pass us key s ≡ true → ts ≡ us
same_tests p s [] M masks [] [] it iu mt mu pt pu = refl
same_tests p s [] M masks [] (u ∷ us) it iu mt mu pt pu = absurd iu
same_tests p s [] M masks (t ∷ ts) us it iu mt mu pt pu = absurd it
same_tests p s (f ∷ fs) M masks [] us it iu mt mu pt pu = absurd it
same_tests p s (f ∷ fs) M masks (t ∷ ts) [] it iu mt mu pt pu = absurd iu
same_tests p s (f ∷ fs) M masks (t ∷ ts) (u ∷ us) it iu mt mu pt pu =
    let x = slice_index s f in
    let both_t = and_parts (passes t x) (all_pass ts fs s) pt in
    let both_u = and_parts (passes u x) (all_pass us fs s) pu in
    let mask = masks (width_of p f) t u mt.0 mu.0 in
    let value : t.value ≡ u.value =
    sym (seen (width_of p f) x t it.0 both_t.0) ∙ ap (λ m. bit_and x m) mask ∙ seen (width_of p f) x u iu.0 both_u.0 in
    ap (λ v. v ∷ ts) (same_test t u value mask) ∙ ap (λ vs. u ∷ vs) (same_tests p s fs M masks ts us it.1 iu.1 mt.1 mu.1 both_t.1 both_u.1)

pub whole_masks : (w : ℕ) (t u : Test) → IsWhole w t → IsWhole w u → t.mask ≡ u.mask
whole_masks w t u ht hu = ht ∙ sym hu

pub prefix_masks : (rank w : ℕ) (t u : Test) → IsPrefix rank w t → IsPrefix rank w u → t.mask ≡ u.mask
prefix_masks rank w t u ht hu = ht.1 ∙ sym hu.1
