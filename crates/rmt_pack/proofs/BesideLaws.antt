-- Tests and arguments of entries side by side, as one number: where each has its place, and the steps that put one more.
use Rattle.std.proofs.Common.{◌≡◌, Bool, true, false, ℕ, zero, suc, ◌+◌, ◌-◌, ◌*◌, ◌/◌, ◌%◌, ◌^◌, ◌<◌, ◌≤◌, List, [], ◌∷◌, ◌++◌, length, get_or, take, drop, refl, sym, ap, ◌∙◌, subst, arith}
use Rattle.std.specs.Prelude.{slice_index, sum}
use Rattle.std.specs.List.{AllZip}
use Rattle.std.proofs.lemmas.List.{length-take-le, take_all, take_more}
use Rattle.std.proofs.lemmas.List.Elements.{AllZip-get_or, length_all_zip}
use Rattle.std.proofs.lemmas.List.Sums.{sum_by-cons, sum_by-take-le, sum_by_more, sum_by_push}
use Rattle.std.proofs.lemmas.Nat.{div_below, pow-add, pow_pos, rows}
use Rattle.std.proofs.lemmas.Slice.Zip.{AllZip-long}
use Rattle.std.proofs.Math.Nat.{mod-eq_of_lt, pow-le-pow_right}
use Rattle.rmt_bits.specs.Bits.{deposit}
use Rattle.rmt_bits.proofs.BitLaws.{deposit-multiple, parts-lt}
use Rattle.rmt_ast.specs.EntryLists.{IsWhole}
use Rattle.rmt_ast.specs.WellFormed.{Fits, IsTest}
use Rattle.rmt_config.specs.Rooms.{args_as_one, mask_or_value, tests_as_one}
use Rattle.rmt_ast.specs.declared.program.Test.{Test}
use Rattle.rmt_pack.proofs.TcamLaws.{sum-drop}

-- ---- places

-- the place of a number is within the whole
pub place_fits : (ws : List ℕ) (i w first from whole : ℕ) → i < length ws → from ≡ first + sum (take i ws) → first + sum ws ≡ whole → from + get_or ws i w ≤ whole
place_fits ws i w first from whole lt place room =
    let more = sum_by_more (λ x. x) ws i w lt in
    let most = sum_by-take-le (λ x. x) ws (i + 1) in
    omega (arith, more, most, place, room)

-- and where the place of the next one begins
pub next_place : (ws : List ℕ) (i w first from : ℕ) → i < length ws → from ≡ first + sum (take i ws) → from + get_or ws i w ≡ first + sum (take (i + 1) ws)
next_place ws i w first from lt place = let more = sum_by_more (λ x. x) ws i w lt in omega (arith, more, place)

-- ---- tests, the first one highest

-- the mask and the value of a test fit its width
pub part_fits : (mask : Bool) (w : ℕ) (t : Test) → IsTest w t → mask_or_value mask t < 2 ^ w
part_fits true w t fit = fit.mask_fits
part_fits false w t fit = fit.value_fits

module _ (part : Test → ℕ) where
  abbrev values : List ℕ → List Test → ℕ
  values ws ts = tests_as_one part ws ts

  values_push : (ws : List ℕ) (ts : List Test) (w : ℕ) (t : Test) → length ws ≡ length ts → values (ws ++ w ∷ []) (ts ++ t ∷ []) ≡ values ws ts * 2 ^ w + part t
  values_push [] [] w t same = let one : 2 ^ 0 ≡ 1 = refl in omega arith
  values_push [] (u ∷ ts) w t same = absurd (omega (arith, same))
  values_push (v ∷ ws) [] w t same = absurd (omega (arith, same))
  values_push (v ∷ ws) (u ∷ ts) w t same =
      let rest = values_push ws ts w t (omega (arith, same)) in
      let size : sum (ws ++ w ∷ []) ≡ sum ws + w = sum_by_push (λ x. x) ws w in
      let power : 2 ^ sum (ws ++ w ∷ []) ≡ 2 ^ sum ws * 2 ^ w = ap (λ n. 2 ^ n) size ∙ pow-add 2 (sum ws) w in
      spread (part u) (2 ^ sum (ws ++ w ∷ [])) (2 ^ sum ws) (2 ^ w) (values ws ts) (values (ws ++ w ∷ []) (ts ++ t ∷ [])) (part t) power rest
    where
      spread : (x a b m n k y : ℕ) → a ≡ b * m → k ≡ n * m + y → x * a + k ≡ (x * b + n) * m + y
      spread x a b m n k y e f = rw (e, f) (omega arith)

  values_more : (ws : List ℕ) (ts : List Test) (i : ℕ) (w : ℕ) (t : Test) → i < length ws → i < length ts
      → values (take (i + 1) ws) (take (i + 1) ts) ≡ values (take i ws) (take i ts) * 2 ^ get_or ws i w + part (get_or ts i t)
  values_more ws ts i w t in_ws in_ts =
      let one = length-take-le i ws (omega (arith, in_ws)) in
      let two = length-take-le i ts (omega (arith, in_ts)) in
      ap (λ xs. values xs (take (i + 1) ts)) (take_more ws i w in_ws) ∙ ap (values (take i ws ++ get_or ws i w ∷ [])) (take_more ts i t in_ts)
      ∙ values_push (take i ws) (take i ts) (get_or ws i w) (get_or ts i t) (omega (arith, one, two))

  -- a part of each test fits its width
  pub test_below : ((w : ℕ) (t : Test) → IsTest w t → part t < 2 ^ w) → (ws : List ℕ) (ts : List Test) (i w : ℕ) (t : Test) → AllZip IsTest ws ts → i < length ts → (i < length ws) × (part (get_or ts i t) < 2 ^ get_or ws i w)
  test_below fits [] [] i w t zip lt = absurd (omega (arith, lt))
  test_below fits [] (u ∷ ts) i w t zip lt = absurd zip
  test_below fits (v ∷ ws) [] i w t zip lt = absurd zip
  test_below fits (v ∷ ws) (u ∷ ts) zero w t zip lt = (omega arith, fits v u zip.0)
  test_below fits (v ∷ ws) (u ∷ ts) (suc i) w t zip lt = let r = test_below fits ws ts i w t zip.1 (omega (arith, lt)) in let within = r.0 in (omega (arith, within), r.1)

  -- the step of the loop at one test
  pub key_step : (ws : List ℕ) (ts : List Test) (i w : ℕ) (t : Test) (n n' from whole : ℕ) → i < length ws → i < length ts → from + get_or ws i w ≤ whole
      → n ≡ values (take i ws) (take i ts) * 2 ^ (whole - from) → n' ≡ deposit n (whole - (from + get_or ws i w)) (get_or ws i w) (part (get_or ts i t))
      → n' ≡ values (take (i + 1) ws) (take (i + 1) ts) * 2 ^ (whole - (from + get_or ws i w))
  key_step ws ts i w t n n' from whole in_ws in_ts room was is =
      let v = get_or ws i w in
      let a = part (get_or ts i t) in
      let pos = whole - (from + v) in
      let size : whole - from ≡ pos + v = omega (arith, room) in
      let old : n ≡ values (take i ws) (take i ts) * 2 ^ (pos + v) = was ∙ ap (λ k. values (take i ws) (take i ts) * 2 ^ k) size in
      is ∙ ap (λ k. deposit k pos v a) old ∙ deposit-multiple (values (take i ws) (take i ts)) pos v a ∙ ap (λ k. k * 2 ^ pos) (sym (values_more ws ts i w t in_ws in_ts))

  -- at the end all tests stand
  pub key_end : (ws : List ℕ) (ts : List Test) (i n first from whole : ℕ) → AllZip IsTest ws ts → length ts ≤ i → from ≡ first + sum (take i ws) → first + sum ws ≡ whole
      → n ≡ values (take i ws) (take i ts) * 2 ^ (whole - from) → n ≡ values ws ts
  key_end ws ts i n first from whole zip end place room is =
      let long = AllZip-long IsTest ws ts zip in
      let all_ws : take i ws ≡ ws = take_all i ws (omega (arith, end, long)) in
      let all_ts : take i ts ≡ ts = take_all i ts end in
      let sum_is : sum (take i ws) ≡ sum ws = ap sum all_ws in
      let none : whole - from ≡ 0 = omega (arith, place, room, sum_is) in
      let one : values ws ts * 2 ^ 0 ≡ values ws ts = omega arith in
      is ∙ ap (λ k. values (take i ws) (take i ts) * 2 ^ k) none ∙ ap (λ xs. values xs (take i ts) * 2 ^ 0) all_ws ∙ ap (λ xs. values ws xs * 2 ^ 0) all_ts ∙ one

-- ---- arguments, the first one lowest

-- values that fit have no more bits together
pub args-lt : (ws vs : List ℕ) → AllZip Fits ws vs → args_as_one ws vs < 2 ^ sum ws
args-lt [] vs fit = omega arith
args-lt (w ∷ ws) [] fit = absurd fit
args-lt (w ∷ ws) (v ∷ vs) fit =
    let rest = args-lt ws vs fit.1 in
    let size : 2 ^ sum (w ∷ ws) ≡ 2 ^ w * 2 ^ sum ws = ap (λ (n : ℕ). 2 ^ n) (sum_by-cons (λ x. x) w ws) ∙ pow-add 2 w (sum ws) in
    below v (args_as_one ws vs) (2 ^ w) (2 ^ sum ws) (2 ^ sum (w ∷ ws)) fit.0 rest size
  where
    below : (a b m n k : ℕ) → a < m → b < n → k ≡ m * n → a + m * b < k
    below a b m n k la lb e = grind (arith, rows)

-- a number is put above the others
deposit-behind : (v pos w a : ℕ) → v < 2 ^ pos → deposit v pos w a ≡ v + a * 2 ^ pos
deposit-behind v pos w a lt =
    let wide : 2 ^ pos ≤ 2 ^ (pos + w) = pow-le-pow_right (omega arith) (omega arith) in
    let none : v / 2 ^ (pos + w) ≡ 0 = let few = div_below v (2 ^ (pos + w)) 1 (pow_pos (pos + w)) (omega (arith, lt, wide)) in omega (arith, few) in
    let gone : v / 2 ^ (pos + w) * 2 ^ (pos + w) ≡ 0 * 2 ^ (pos + w) = ap (λ n. n * 2 ^ (pos + w)) none in
    let low : v % 2 ^ pos ≡ v = mod-eq_of_lt lt in
    omega (arith, gone, low)

-- it keeps the bits of both
args-small : (v pos w a : ℕ) → v < 2 ^ pos → a < 2 ^ w → deposit v pos w a < 2 ^ (pos + w)
args-small v pos w a lv la =
    let size : pos + w - pos ≡ w = omega arith in
    let lt = parts-lt a v pos (pos + w) (omega arith) (subst (λ n. a < 2 ^ n) (sym size) la) lv in
    let e = deposit-behind v pos w a lv in
    omega (arith, lt, e)

-- what was to come above is still to come
args-value : (v pos w a rest whole : ℕ) → v < 2 ^ pos → v + 2 ^ pos * (a + 2 ^ w * rest) ≡ whole → deposit v pos w a + 2 ^ (pos + w) * rest ≡ whole
args-value v pos w a rest whole lv e =
    let one = deposit-behind v pos w a lv in
    let power : 2 ^ (pos + w) * rest ≡ 2 ^ pos * 2 ^ w * rest = ap (λ n. n * rest) (pow-add 2 pos w) in
    let spread : 2 ^ pos * (a + 2 ^ w * rest) ≡ a * 2 ^ pos + 2 ^ pos * 2 ^ w * rest = omega arith in
    omega (arith, one, power, spread, e)

args-drop : (ws vs : List ℕ) (i : ℕ) → i < length ws → i < length vs
    → args_as_one (drop i ws) (drop i vs) ≡ slice_index vs i + 2 ^ slice_index ws i * args_as_one (drop (suc i) ws) (drop (suc i) vs)
args-drop [] vs i there also = absurd (omega arith)
args-drop (w ∷ ws) [] i there also = absurd (omega arith)
args-drop (w ∷ ws) (v ∷ vs) zero there also = refl
args-drop (w ∷ ws) (v ∷ vs) (suc i) there also = args-drop ws vs i (omega arith) (omega arith)

-- the step of the loop at one argument
pub args-step : (n n' whole above total : ℕ) (ws vs : List ℕ) (at : ℕ) → at < length ws → AllZip Fits ws vs
    → sum (drop at ws) ≤ above → above ≤ whole → n < 2 ^ (whole - above) → n + 2 ^ (whole - above) * args_as_one (drop at ws) (drop at vs) ≡ total
    → n' ≡ deposit n (whole - (above - get_or ws at 0 + get_or ws at 0)) (get_or ws at 0) (get_or vs at 0)
    → (sum (drop (at + 1) ws) ≤ above - get_or ws at 0) × (n' < 2 ^ (whole - (above - get_or ws at 0)))
    × (n' + 2 ^ (whole - (above - get_or ws at 0)) * args_as_one (drop (at + 1) ws) (drop (at + 1) vs) ≡ total)
args-step n n' whole above total ws vs at there fit room within small value is =
    let w = get_or ws at 0 in
    let a = get_or vs at 0 in
    let also : at < length vs = let e = length_all_zip Fits ws vs fit in omega (arith, e, there) in
    let lt : a < 2 ^ w = AllZip-get_or Fits ws vs at 0 0 fit there in
    let parts : sum (drop at ws) ≡ sum (drop (suc at) ws) + w = sum-drop ws at there in
    let next : args_as_one (drop at ws) (drop at vs) ≡ a + 2 ^ w * args_as_one (drop (suc at) ws) (drop (suc at) vs) = args-drop ws vs at there also in
    let pos = whole - above in
    let here : whole - (above - w + w) ≡ pos = omega (arith, room, parts, within) in
    let behind : whole - (above - w) ≡ pos + w = omega (arith, room, parts, within) in
    let more : at + 1 ≡ suc at = omega arith in
    let n'_is : n' ≡ deposit n pos w a = is ∙ ap (λ k. deposit n k w a) here in
    let value' : n + 2 ^ pos * (a + 2 ^ w * args_as_one (drop (suc at) ws) (drop (suc at) vs)) ≡ total = ap (λ k. n + 2 ^ pos * k) (sym next) ∙ value in
    subst (λ k. (sum (drop k ws) ≤ above - w) × (n' < 2 ^ (whole - (above - w))) × (n' + 2 ^ (whole - (above - w)) * args_as_one (drop k ws) (drop k vs) ≡ total)) (sym more)
    (subst (λ k. (sum (drop (suc at) ws) ≤ above - w) × (n' < 2 ^ k) × (n' + 2 ^ k * args_as_one (drop (suc at) ws) (drop (suc at) vs) ≡ total)) (sym behind) (
      omega (arith, room, parts),
      subst (λ m. m < 2 ^ (pos + w)) (sym n'_is) (args-small n pos w a small lt),
      ap (λ m. m + 2 ^ (pos + w) * args_as_one (drop (suc at) ws) (drop (suc at) vs)) n'_is ∙ args-value n pos w a (args_as_one (drop (suc at) ws) (drop (suc at) vs)) total small value',
    ))

-- ---- masks

-- masks of all bits are a mask of all bits
pub whole_mask : (ws : List ℕ) (ts : List Test) → AllZip IsWhole ws ts → tests_as_one (λ test. test.mask) ws ts ≡ 2 ^ sum ws - 1
whole_mask [] [] all = refl
whole_mask [] (t ∷ ts) all = absurd all
whole_mask (w ∷ ws) [] all = absurd all
whole_mask (w ∷ ws) (t ∷ ts) all =
    let size : 2 ^ sum (w ∷ ws) ≡ 2 ^ w * 2 ^ sum ws = ap (λ (n : ℕ). 2 ^ n) (sum_by-cons (λ x. x) w ws) ∙ pow-add 2 w (sum ws) in
    ap (λ n. n * 2 ^ sum ws + tests_as_one (λ test. test.mask) ws ts) all.0
    ∙ ap (λ n. (2 ^ w - 1) * 2 ^ sum ws + n) (whole_mask ws ts all.1)
    ∙ joined (2 ^ w) (2 ^ sum ws) (pow_pos w) (pow_pos (sum ws)) ∙ ap (λ n. n - 1) (sym size)
  where
    joined : (a b : ℕ) → 0 < a → 0 < b → (a - 1) * b + (b - 1) ≡ a * b - 1
    joined (suc a) (suc b) la lb =
        let one : suc a - 1 ≡ a = omega arith in
        let two : suc b - 1 ≡ b = omega arith in
        let spread : suc a * suc b ≡ a * suc b + suc b = omega arith in
        ap (λ n. n * suc b + (suc b - 1)) one ∙ omega (arith, spread)
    joined (suc a) zero la lb = absurd (omega (arith, lb))
    joined zero b la lb = absurd (omega (arith, la))
