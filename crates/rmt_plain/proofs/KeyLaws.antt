-- An entry matches where the masked key is what it wants.
use Rattle.std.proofs.Common.{◌≡◌, ℕ, ◌≤◌, ◌++◌, min, append-nil, true, bit_and, List, [], ◌∷◌, length, get_or, drop, refl, sym, ap, ◌∙◌, arith}
use Rattle.std.specs.Prelude.{All, slice_index}
use Rattle.std.specs.List.{AllZip}
use Rattle.std.proofs.lemmas.Bool.{and_parts, and_from, eq-eqb, eqb-true}
use Rattle.std.proofs.lemmas.List.{length-drop}
use Rattle.std.proofs.lemmas.List.Elements.{All-head, All-tail, All-cons}
use Rattle.rmt_ast.specs.declared.program.Test.{Test}
use Rattle.rmt_ast.specs.Walk.{all_pass}
use Rattle.rmt_ast.specs.WellFormed.{IsTest}
use Rattle.rmt_plain.specs.Grouping.{masks_of, values_of, masked}

-- the value of a test has no bit outside the mask
abbrev pub IsMasked : Test → Type 0
IsMasked t = bit_and t.value t.mask ≡ t.value

-- one test for each field of a key, each masked
pub record FitsKey (key : List ℕ) (ts : List Test) : Type 0 where
  pub one_each : length ts ≡ length key
  pub masked_each : All IsMasked ts

passed : (ts : List Test) (key s : List ℕ) → length ts ≡ length key → All IsMasked ts → all_pass ts key s ≡ true → masked (masks_of ts) key s ≡ values_of ts
passed [] key s size all h = refl
passed (t ∷ ts) [] s size all h = absurd (omega arith)
passed (t ∷ ts) (f ∷ fs) s size all h =
    let parts = and_parts _ (all_pass ts fs s) h in
    let here : bit_and (slice_index s f) t.mask ≡ t.value = eqb-true _ _ parts.0 ∙ All-head IsMasked t ts all in
    let rest : masked (masks_of ts) fs s ≡ values_of ts = passed ts fs s (omega arith) (All-tail IsMasked t ts all) parts.1 in
    ap (λ (v : ℕ). v ∷ masked (masks_of ts) fs s) here ∙ ap (λ (vs : List ℕ). t.value ∷ vs) rest

wanted : (ts : List Test) (key s : List ℕ) → length ts ≡ length key → All IsMasked ts → masked (masks_of ts) key s ≡ values_of ts → all_pass ts key s ≡ true
wanted [] key s size all h = refl
wanted (t ∷ ts) [] s size all h = absurd (omega arith)
wanted (t ∷ ts) (f ∷ fs) s size all h =
    let here : bit_and (slice_index s f) t.mask ≡ t.value = ap (λ (vs : List ℕ). get_or vs 0 0) h in
    let rest : masked (masks_of ts) fs s ≡ values_of ts = ap (λ (vs : List ℕ). drop 1 vs) h in
    and_from _ (all_pass ts fs s) (eq-eqb _ _ (here ∙ sym (All-head IsMasked t ts all))) (wanted ts fs s (omega arith) (All-tail IsMasked t ts all) rest)

pub masked-passed : (ts : List Test) (key s : List ℕ) → FitsKey key ts → all_pass ts key s ≡ true → masked (masks_of ts) key s ≡ values_of ts
masked-passed ts key s fits h = passed ts key s fits.one_each fits.masked_each h

pub passed-masked : (ts : List Test) (key s : List ℕ) → FitsKey key ts → masked (masks_of ts) key s ≡ values_of ts → all_pass ts key s ≡ true
passed-masked ts key s fits h = wanted ts key s fits.one_each fits.masked_each h

all_zip-length : (ws : List ℕ) (ts : List Test) → AllZip IsTest ws ts → length ts ≡ length ws
all_zip-length [] [] h = refl
all_zip-length [] (t ∷ ts) h = absurd h
all_zip-length (w ∷ ws) [] h = absurd h
all_zip-length (w ∷ ws) (t ∷ ts) h = let rest = all_zip-length ws ts h.1 in omega arith

all_zip-masked : (ws : List ℕ) (ts : List Test) → AllZip IsTest ws ts → All IsMasked ts
all_zip-masked [] [] h = λ k d lt. absurd (omega arith)
all_zip-masked [] (t ∷ ts) h = absurd h
all_zip-masked (w ∷ ws) [] h = absurd h
all_zip-masked (w ∷ ws) (t ∷ ts) h = All-cons IsMasked t ts h.0.value_is_masked (all_zip-masked ws ts h.1)

pub fits_key : (ws key : List ℕ) (ts : List Test) → length ws ≡ length key → AllZip IsTest ws ts → FitsKey key ts
fits_key ws key ts size h = record { one_each = all_zip-length ws ts h ∙ size; masked_each = all_zip-masked ws ts h }

masked-none : (ms fs s : List ℕ) → min (length ms) (length fs) ≡ 0 → masked ms fs s ≡ []
masked-none [] fs s h = refl
masked-none (m ∷ ms) [] s h = refl
masked-none (m ∷ ms) (f ∷ fs) s h = absurd (omega arith)

-- behind the last mask or field nothing is left
pub masked-ended : (done ms fs s : List ℕ) (i : ℕ) → min (length ms) (length fs) ≤ i → done ++ masked (drop i ms) (drop i fs) s ≡ done
masked-ended done ms fs s i h =
    let a = length-drop i ms in
    let b = length-drop i fs in
    ap (λ (vs : List ℕ). done ++ vs) (masked-none (drop i ms) (drop i fs) s (omega arith)) ∙ append-nil done
