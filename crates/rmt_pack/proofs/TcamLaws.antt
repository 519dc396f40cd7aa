-- Lemmas on ternary keys.
use Rattle.std.proofs.Common.{◌≡◌, ℕ, zero, suc, ◌+◌, ◌-◌, ◌*◌, ◌/◌, ◌%◌, ◌^◌, ◌<◌, ◌≤◌, List, [], ◌∷◌, ◌++◌, ◌↔◌, Result, Ok, Err, length, map, drop, refl, ap, sym, ◌∙◌, subst, arith, length-append}
use Rattle.std.specs.Prelude.{IfOk, bit_and, sum, slice_index}
use Rattle.std.specs.List.{AllZip}
use Rattle.std.proofs.lemmas.Nat.{pow-add, mod-pow-add, shl_whole, shr_high, mod_low, and_block, and_le_l}
use Rattle.std.proofs.lemmas.List.Elements.{All-push}
use Rattle.std.proofs.lemmas.List.Sums.{sum_by-cons}
use Rattle.std.proofs.lemmas.Bool.{eqb-true, eq-eqb}
use Rattle.std.proofs.Math.Nat.{pow-le-pow_right, mod-eq_of_lt}
use Rattle.rmt_bits.proofs.BitLaws.{parts-lt}
use Rattle.rmt_config.specs.Cells.{Blocks, unit_row}
use Rattle.rmt_pack.specs.declared.tcam.Bits.{Bits}
use Rattle.rmt_ast.specs.declared.program.Test.{Test}
use Rattle.rmt_pack.specs.declared.tcam.TcamWord.{TcamWord}
use Rattle.rmt_ast.specs.WellFormed.{Fits, IsTest}
use Rattle.rmt_config.specs.Rooms.{side_by_side}
use Rattle.rmt_pack.specs.Tcam.{joined_words, Holds, IsWords, FillsRow, MatchesKey, Passes}

-- a word more stands above the others
pub joined_words-push : (ws : List ℕ) (w : ℕ) → joined_words (ws ++ w ∷ []) ≡ joined_words ws + w * 2 ^ (40 * length ws)
joined_words-push [] w = omega arith
joined_words-push (x ∷ ws) w =
    let more : 40 * suc (length ws) ≡ 40 + 40 * length ws = omega arith in
    let power : 2 ^ (40 * suc (length ws)) ≡ 2 ^ 40 * 2 ^ (40 * length ws) = ap (λ (k : ℕ). 2 ^ k) more ∙ pow-add 2 40 (40 * length ws) in
    let above : w * 2 ^ (40 * suc (length ws)) ≡ w * (2 ^ 40 * 2 ^ (40 * length ws)) = ap (λ (k : ℕ). w * k) power in
    omega (arith, joined_words-push ws w, above)

-- a row of blocks side by side is its words as one number
pub unit_row-words : (held : Blocks) (row : ℕ) (blocks : List ℕ) → unit_row 40 held row blocks ≡ joined_words (map (λ b. held b row) blocks)
unit_row-words held row [] = refl
unit_row-words held row (b ∷ bs) = ap (λ (n : ℕ). held b row + 2 ^ 40 * n) (unit_row-words held row bs)

-- ---- gathering bits

-- a piece above some bits
pub piece-lt : (rest piece filled len : ℕ) → rest < 2 ^ filled → piece < 2 ^ len → rest + piece * 2 ^ filled < 2 ^ (filled + len)
piece-lt rest piece filled len low high =
    let size : filled + len - filled ≡ len = omega arith in
    let above : piece < 2 ^ (filled + len - filled) = subst (λ (k : ℕ). piece < 2 ^ k) (sym size) high in
    omega (arith, parts-lt piece rest filled (filled + len) (omega arith) above low)

-- it fits a number of 64 bits
pub piece-whole : (piece filled len : ℕ) → piece < 2 ^ len → filled + len ≤ 40 → piece * 2 ^ filled % 2 ^ 64 ≡ piece * 2 ^ filled
piece-whole piece filled len high room = shl_whole piece len filled 64 high (omega arith)

pub piece-small : (rest piece filled len : ℕ) → rest < 2 ^ filled → piece < 2 ^ len → filled + len ≤ 40 → rest + piece * 2 ^ filled < 2 ^ 40
piece-small rest piece filled len low high room =
    let wide : 2 ^ (filled + len) ≤ 2 ^ 40 = pow-le-pow_right (omega arith) room in omega (arith, piece-lt rest piece filled len low high)

gathered : (front words rest piece filled n bits : ℕ) → front + rest * 2 ^ (40 * words) ≡ n → 40 * words + filled ≡ bits
    → front + (rest + piece * 2 ^ filled) * 2 ^ (40 * words) ≡ piece * 2 ^ bits + n
gathered front words rest piece filled n bits value count =
    let at : bits ≡ filled + 40 * words = omega arith in
    let power : 2 ^ bits ≡ 2 ^ filled * 2 ^ (40 * words) = ap (λ (k : ℕ). 2 ^ k) at ∙ pow-add 2 filled (40 * words) in
    let out : piece * 2 ^ bits ≡ piece * (2 ^ filled * 2 ^ (40 * words)) = ap (λ (k : ℕ). piece * k) power in
    let parted : (rest + piece * 2 ^ filled) * 2 ^ (40 * words) ≡ rest * 2 ^ (40 * words) + piece * (2 ^ filled * 2 ^ (40 * words)) = omega arith in
    omega arith

-- a piece that leaves room in the word
pub add-rest : (b : Bits) (piece len rest n bits : ℕ) → piece < 2 ^ len → b.filled + len ≤ 40 → (b.filled + len ≡ 40 → ⊥) → rest ≡ b.rest + piece * 2 ^ b.filled
    → Holds b n bits → Holds (record { words = b.words; rest = rest; filled = b.filled + len }) (piece * 2 ^ bits + n) (bits + len)
add-rest b piece len rest n bits high room less rest_is holds = record {
  value = ap (λ (r : ℕ). joined_words b.words + r * 2 ^ (40 * length b.words)) rest_is ∙ gathered (joined_words b.words) (length b.words) b.rest piece b.filled n bits holds.value holds.count;
  count = omega (arith, holds.count);
  rest = subst (λ (r : ℕ). r < 2 ^ (b.filled + len)) (sym rest_is) (piece-lt b.rest piece b.filled len holds.rest high);
  filled = omega arith;
  words = holds.words;
}

-- a piece that fills the word
pub add-word : (b : Bits) (piece len rest n bits : ℕ) (words : List ℕ) → piece < 2 ^ len → b.filled + len ≡ 40 → rest ≡ b.rest + piece * 2 ^ b.filled → words ≡ b.words ++ rest ∷ []
    → Holds b n bits → Holds (record { words = words; rest = 0; filled = 0 }) (piece * 2 ^ bits + n) (bits + len)
add-word b piece len rest n bits words high full rest_is words_is holds =
    let all : b.rest + piece * 2 ^ b.filled < 2 ^ 40 = subst (λ (k : ℕ). b.rest + piece * 2 ^ b.filled < 2 ^ k) full (piece-lt b.rest piece b.filled len holds.rest high) in
    let value = gathered (joined_words b.words) (length b.words) b.rest piece b.filled n bits holds.value holds.count in
    let push = joined_words-push b.words rest in
    let same : rest * 2 ^ (40 * length b.words) ≡ (b.rest + piece * 2 ^ b.filled) * 2 ^ (40 * length b.words) = ap (λ (r : ℕ). r * 2 ^ (40 * length b.words)) rest_is in
    subst (λ (ws : List ℕ). Holds (record { words = ws; rest = 0; filled = 0 }) (piece * 2 ^ bits + n) (bits + len)) (sym words_is) (record {
      value = omega (arith, value, push, same);
      count = omega (arith, holds.count, length-append b.words (rest ∷ []));
      rest = omega arith;
      filled = omega arith;
      words = All-push (λ w. w < 2 ^ 40) b.words rest holds.words (subst (λ (r : ℕ). r < 2 ^ 40) (sym rest_is) all);
    })

-- the number so far with a piece of the value more
pub add-step : (b : Bits) (value above done len n count : ℕ) → above ≡ value / 2 ^ done
    → Holds b (above % 2 ^ len * 2 ^ (count + done) + (value % 2 ^ done * 2 ^ count + n)) (count + done + len)
    → Holds b (value % 2 ^ (done + len) * 2 ^ count + n) (count + (done + len))
add-step b value above done len n count above_is holds =
    let piece : ℕ = above % 2 ^ len in
    let piece_is : piece ≡ value / 2 ^ done % 2 ^ len = ap (λ (x : ℕ). x % 2 ^ len) above_is in
    let order : done + len ≡ len + done = omega arith in
    let parted : value % 2 ^ (done + len) ≡ value / 2 ^ done % 2 ^ len * 2 ^ done + value % 2 ^ done =
    ap (λ (k : ℕ). value % 2 ^ k) order ∙ mod-pow-add value len done in
    let power : 2 ^ (count + done) ≡ 2 ^ count * 2 ^ done = pow-add 2 count done in
    let sizes : count + done + len ≡ count + (done + len) = omega arith in
    subst (Holds b (value % 2 ^ (done + len) * 2 ^ count + n)) sizes
    (subst (λ (m : ℕ). Holds b m (count + done + len))
    (regroup piece (value / 2 ^ done % 2 ^ len) (2 ^ done) (2 ^ count) (2 ^ (count + done)) (value % 2 ^ done) (value % 2 ^ (done + len)) n piece_is power parted) holds)
  where
    regroup : (piece same low high both under all n : ℕ) → piece ≡ same → both ≡ high * low → all ≡ same * low + under
        → piece * both + (under * high + n) ≡ all * high + n
    regroup piece same low high both under all n piece_is both_is all_is =
        ap (λ (x : ℕ). x * both + (under * high + n)) piece_is
        ∙ (ap (λ (x : ℕ). same * x + (under * high + n)) both_is
        ∙ ((let e : same * (high * low) + (under * high + n) ≡ (same * low + under) * high + n = omega arith in e)
        ∙ ap (λ (x : ℕ). x * high + n) (sym all_is)))

pub words-full : (b : Bits) (words : List ℕ) → b.filled ≡ 0 → words ≡ b.words → (n bits : ℕ) → Holds b n bits → IsWords words n bits
words-full b words none is n bits holds =
    let empty : b.rest < 2 ^ 0 = subst (λ (k : ℕ). b.rest < 2 ^ k) none holds.rest in
    let zero_rest : b.rest ≡ 0 = omega arith in
    let gone : b.rest * 2 ^ (40 * length b.words) ≡ 0 * 2 ^ (40 * length b.words) = ap (λ (r : ℕ). r * 2 ^ (40 * length b.words)) zero_rest in
    subst (λ (ws : List ℕ). IsWords ws n bits) (sym is) (record {
      value = omega (arith, holds.value, gone);
      count = omega (arith, holds.count, none);
      each = holds.words;
    })

pub words-more : (b : Bits) (words : List ℕ) → 0 < b.filled → words ≡ b.words ++ b.rest ∷ [] → (n bits : ℕ) → Holds b n bits → IsWords words n bits
words-more b words some is n bits holds =
    let few : b.filled ≤ 40 = omega (arith, holds.filled) in
    let wide : 2 ^ b.filled ≤ 2 ^ 40 = pow-le-pow_right (omega arith) few in
    subst (λ (ws : List ℕ). IsWords ws n bits) (sym is) (record {
      value = omega (arith, holds.value, joined_words-push b.words b.rest);
      count = omega (arith, holds.count, holds.filled, length-append b.words (b.rest ∷ []));
      each = All-push (λ w. w < 2 ^ 40) b.words b.rest holds.words (omega (arith, holds.rest, wide));
    })

-- ---- keys and tests

abbrev pub values_of : List Test → List ℕ
values_of tests = map (λ (t : Test). t.value) tests

abbrev pub masks_of : List Test → List ℕ
masks_of tests = map (λ (t : Test). t.mask) tests

pub values-fit : (widths : List ℕ) (tests : List Test) → AllZip IsTest widths tests → AllZip Fits widths (values_of tests)
values-fit [] [] all = tt
values-fit [] (t ∷ ts) all = absurd all
values-fit (w ∷ ws) [] all = absurd all
values-fit (w ∷ ws) (t ∷ ts) all = (all.0.value_fits, values-fit ws ts all.1)

pub masks-fit : (widths : List ℕ) (tests : List Test) → AllZip IsTest widths tests → AllZip Fits widths (masks_of tests)
masks-fit [] [] all = tt
masks-fit [] (t ∷ ts) all = absurd all
masks-fit (w ∷ ws) [] all = absurd all
masks-fit (w ∷ ws) (t ∷ ts) all = (all.0.mask_fits, masks-fit ws ts all.1)

-- values that fit their widths have no more bits together
pub side_by_side-lt : (widths values : List ℕ) → AllZip Fits widths values → side_by_side widths values < 2 ^ sum widths
side_by_side-lt [] vs all = omega arith
side_by_side-lt (w ∷ ws) [] all = absurd all
side_by_side-lt (w ∷ ws) (v ∷ vs) all =
    let both : sum (w ∷ ws) ≡ w + sum ws = sum_by-cons (λ x. x) w ws in
    let rest = side_by_side-lt ws vs all.1 in
    let size : w + sum ws - sum ws ≡ w = omega arith in
    subst (λ (k : ℕ). v * 2 ^ sum ws + side_by_side ws vs < 2 ^ k) (sym both)
    (parts-lt v (side_by_side ws vs) (sum ws) (w + sum ws) (omega arith) (subst (λ (k : ℕ). v < 2 ^ k) (sym size) all.0) rest)

-- numbers of two parts are equal where both parts are
parts-same : (a b r s k : ℕ) → r < 2 ^ k → s < 2 ^ k → a * 2 ^ k + r ≡ b * 2 ^ k + s → (a ≡ b) × (r ≡ s)
parts-same a b r s k low other same = (
  sym (shr_high a k r low) ∙ (ap (λ (n : ℕ). n / 2 ^ k) same ∙ shr_high b k s other),
  sym (mod_low a k r low) ∙ (ap (λ (n : ℕ). n % 2 ^ k) same ∙ mod_low b k s other),
)

pub matches : (widths : List ℕ) (tests : List Test) (values : List ℕ) → AllZip IsTest widths tests → AllZip Fits widths values
    → (bit_and (side_by_side widths values) (side_by_side widths (masks_of tests)) ≡ side_by_side widths (values_of tests)) → AllZip Passes tests values
matches [] [] [] all fit same = tt
matches [] [] (v ∷ vs) all fit same = absurd fit
matches [] (t ∷ ts) vs all fit same = absurd all
matches (w ∷ ws) [] vs all fit same = absurd all
matches (w ∷ ws) (t ∷ ts) [] all fit same = absurd fit
matches (w ∷ ws) (t ∷ ts) (v ∷ vs) all fit same =
    let low = side_by_side-lt ws vs fit.1 in
    let both = and_block (sum ws) v t.mask (side_by_side ws vs) (side_by_side ws (masks_of ts)) low (side_by_side-lt ws (masks_of ts) (masks-fit ws ts all.1)) in
    let less : bit_and (side_by_side ws vs) (side_by_side ws (masks_of ts)) < 2 ^ sum ws = omega (arith, low, and_le_l (side_by_side ws vs) (side_by_side ws (masks_of ts))) in
    let parts = parts-same (bit_and v t.mask) t.value (bit_and (side_by_side ws vs) (side_by_side ws (masks_of ts))) (side_by_side ws (values_of ts)) (sum ws) less
    (side_by_side-lt ws (values_of ts) (values-fit ws ts all.1)) (sym both ∙ same) in
    (eq-eqb (bit_and v t.mask) (bit_and t.value t.mask) (parts.0 ∙ sym all.0.value_is_masked), matches ws ts vs all.1 fit.1 parts.1)

pub matched : (widths : List ℕ) (tests : List Test) (values : List ℕ) → AllZip IsTest widths tests → AllZip Fits widths values
    → AllZip Passes tests values → bit_and (side_by_side widths values) (side_by_side widths (masks_of tests)) ≡ side_by_side widths (values_of tests)
matched [] ts vs all fit pass = refl
matched (w ∷ ws) [] vs all fit pass = absurd all
matched (w ∷ ws) (t ∷ ts) [] all fit pass = absurd fit
matched (w ∷ ws) (t ∷ ts) (v ∷ vs) all fit pass =
    let both = and_block (sum ws) v t.mask (side_by_side ws vs) (side_by_side ws (masks_of ts)) (side_by_side-lt ws vs fit.1) (side_by_side-lt ws (masks_of ts) (masks-fit ws ts all.1)) in
    let first : bit_and v t.mask ≡ t.value = eqb-true (bit_and v t.mask) (bit_and t.value t.mask) pass.0 ∙ all.0.value_is_masked in
    both
    ∙ (ap (λ (x : ℕ). x * 2 ^ sum ws + bit_and (side_by_side ws vs) (side_by_side ws (masks_of ts))) first
    ∙ ap (λ (x : ℕ). t.value * 2 ^ sum ws + x) (matched ws ts vs all.1 fit.1 pass.1))

-- ---- from the last number to the first

pub side-drop : (ws vs : List ℕ) (i : ℕ) → i < length ws → i < length vs
    → side_by_side (drop i ws) (drop i vs) ≡ slice_index vs i * 2 ^ sum (drop (suc i) ws) + side_by_side (drop (suc i) ws) (drop (suc i) vs)
side-drop [] vs i there also = absurd (omega arith)
side-drop (w ∷ ws) [] i there also = absurd (omega arith)
side-drop (w ∷ ws) (v ∷ vs) zero there also = refl
side-drop (w ∷ ws) (v ∷ vs) (suc i) there also = side-drop ws vs i (omega arith) (omega arith)

pub sum-drop : (ws : List ℕ) (i : ℕ) → i < length ws → sum (drop i ws) ≡ sum (drop (suc i) ws) + slice_index ws i
sum-drop [] i there = absurd (omega arith)
sum-drop (w ∷ ws) zero there = omega (arith, sum_by-cons (λ x. x) w ws)
sum-drop (w ∷ ws) (suc i) there = sum-drop ws i (omega arith)

-- one number more
pub gather-next : (b : Bits) (ws vs : List ℕ) (at i : ℕ) → at ≡ suc i → i < length ws → i < length vs
    → Holds b (slice_index vs i * 2 ^ sum (drop at ws) + side_by_side (drop at ws) (drop at vs)) (sum (drop at ws) + slice_index ws i)
    → Holds b (side_by_side (drop i ws) (drop i vs)) (sum (drop i ws))
gather-next b ws vs at i at_is there also holds =
    subst (Holds b (side_by_side (drop i ws) (drop i vs))) (sym (sum-drop ws i there))
    (subst (λ (n : ℕ). Holds b n (sum (drop (suc i) ws) + slice_index ws i)) (sym (side-drop ws vs i there also))
    (subst (λ (k : ℕ). Holds b (slice_index vs i * 2 ^ sum (drop k ws) + side_by_side (drop k ws) (drop k vs)) (sum (drop k ws) + slice_index ws i)) at_is holds))

pub words_of_all : {E : Type 0} (r : Result (List ℕ) E) (b : Bits) (n bits : ℕ) → IfOk r (λ words. (m count : ℕ) → Holds b m count → IsWords words m count) → Holds b n bits
    → IfOk r (λ words. IsWords words n bits)
words_of_all (Ok words) b n bits all holds = all n bits holds
words_of_all (Err e) b n bits all holds = tt

-- all bits of a value
pub add-whole : (b : Bits) (value bits n count : ℕ) → value < 2 ^ bits → Holds b (value % 2 ^ bits * 2 ^ count + n) (count + bits) → Holds b (value * 2 ^ count + n) (count + bits)
add-whole b value bits n count fits holds =
    let whole : value % 2 ^ bits ≡ value = mod-eq_of_lt fits in subst (λ (v : ℕ). Holds b (v * 2 ^ count + n) (count + bits)) whole holds

pub fills : (words : List ℕ) (n : ℕ) → joined_words words ≡ n → FillsRow words n
fills words n is = λ held row blocks same. unit_row-words held row blocks ∙ (ap joined_words same ∙ is)

-- a row that has the values and masks of tests matches a key where they do
pub row-matches : (widths : List ℕ) (tests : List Test) (row : List TcamWord) → AllZip IsTest widths tests
    → joined_words (map (λ (w : TcamWord). w.value) row) ≡ side_by_side widths (values_of tests) → joined_words (map (λ (w : TcamWord). w.mask) row) ≡ side_by_side widths (masks_of tests)
    → (key : List ℕ) → AllZip Fits widths key → MatchesKey row (side_by_side widths key) ↔ AllZip Passes tests key
row-matches widths tests row all value mask key fit = (
  λ same. matches widths tests key all fit (ap (bit_and (side_by_side widths key)) (sym mask) ∙ (same ∙ value)),
  λ pass. ap (bit_and (side_by_side widths key)) mask ∙ (matched widths tests key all fit pass ∙ sym value),
)
