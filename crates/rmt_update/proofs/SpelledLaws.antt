-- The mask and the data of an entry spell it.
use Rattle.std.proofs.Common.{◌≡◌, ℕ, ◌+◌, ◌-◌, ◌*◌, ◌^◌, ◌<◌, ◌≤◌, Bool, true, false, List, [], ◌∷◌, map, refl, ap, ◌∙◌, arith}
use Rattle.std.specs.Prelude.{sum}
use Rattle.std.specs.List.{AllZip}
use Rattle.std.proofs.lemmas.List.Sums.{sum_by-cons}
use Rattle.std.proofs.Math.Pow.{high_ones, ones_lt, pow_mono}
use Rattle.rmt_ast.specs.declared.program.Test.{Test}
use Rattle.rmt_ast.specs.EntryLists.{IsWhole}
use Rattle.rmt_ast.specs.WellFormed.{Fits, IsTest}
use Rattle.rmt_config.specs.NamesForm.{args_of_data}
use Rattle.rmt_config.specs.Rooms.{args_as_one, tests_as_one}
use Rattle.rmt_pack.proofs.TcamLaws.{masks-fit, side_by_side-lt, values-fit}
use Rattle.rmt_pack.proofs.ContentLaws.{has_arguments}
use Rattle.rmt_pack.proofs.SpelledFieldLaws.{args_spelled}
use Rattle.rmt_config.specs.Rooms.{mask_or_value}

-- numbers side by side are below the power of their widths
pub tests-lt : (m : Bool) (ws : List ℕ) (ts : List Test) → AllZip IsTest ws ts → tests_as_one (mask_or_value m) ws ts < 2 ^ sum ws
tests-lt true ws ts all = side_by_side-lt ws (map (mask_or_value true) ts) (masks-fit ws ts all)
tests-lt false ws ts all = side_by_side-lt ws (map (mask_or_value false) ts) (values-fit ws ts all)

-- the masks of whole tests are one whole mask
pub whole-mask : (ws : List ℕ) (ts : List Test) → AllZip IsWhole ws ts → tests_as_one (mask_or_value true) ws ts ≡ 2 ^ sum ws - 1
whole-mask [] [] all = refl
whole-mask [] (t ∷ ts) all = absurd all
whole-mask (w ∷ ws) [] all = absurd all
whole-mask (w ∷ ws) (t ∷ ts) all =
    let k = sum ws in
    let rest = tests_as_one (mask_or_value true) ws ts in
    let ones : t.mask * 2 ^ k + rest ≡ (2 ^ w - 1) * 2 ^ k + (2 ^ k - 1) = ap (λ n. n * 2 ^ k + rest) all.0 ∙ ap (λ n. (2 ^ w - 1) * 2 ^ k + n) (whole-mask ws ts all.1) in
    let size : 2 ^ sum (w ∷ ws) ≡ 2 ^ (w + k) = ap (λ n. 2 ^ n) (sum_by-cons (λ x. x) w ws) in
    let high = high_ones w k in
    let le : 2 ^ k ≤ 2 ^ (w + k) = pow_mono (let l : k ≤ w + k = omega arith in l) in
    let some = ones_lt k in
    ones ∙ omega (arith, size, high, le, some)

-- data spells the arguments that were put into it
pub args-spelled : (ws vs : List ℕ) → AllZip Fits ws vs → args_of_data ws (args_as_one ws vs) ≡ vs
args-spelled ws vs fit = args_spelled ws vs (args_as_one ws vs) fit (has_arguments ws vs fit)
