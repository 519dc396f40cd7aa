-- What a cell holds of an entry that a commit puts there is the entry.
use Rattle.std.proofs.Common.{◌≡◌, ℕ, zero, suc, ◌+◌, ◌*◌, ◌/◌, ◌%◌, ◌^◌, ◌<◌, List, [], ◌∷◌, take, sum, Some, sym, ap, subst, ◌∙◌, arith}
use Rattle.std.specs.Prelude.{slice_get, slice_index}
use Rattle.std.specs.List.{AllZip}
use Rattle.std.proofs.lemmas.List.Sums.{sum_by-cons}
use Rattle.std.proofs.lemmas.Nat.{mod_low, shr-shr, shr_high}
use Rattle.std.proofs.lemmas.Option.{none-some, same_Some}
use Rattle.rmt_bits.specs.Bits.{slice}
use Rattle.rmt_ast.specs.WellFormed.{Fits}
use Rattle.rmt_config.specs.Effects.{HasArguments}
use Rattle.rmt_config.specs.Rooms.{args_as_one}

-- each argument stands at its place
args_at : (ws vs : List ℕ) (i width : ℕ) → AllZip Fits ws vs → slice_get ws i ≡ Some width → slice (args_as_one ws vs) (sum (take i ws)) width ≡ slice_index vs i
args_at [] vs i width fit at = absurd (none-some width at)
args_at (w ∷ ws) [] i width fit at = absurd fit
args_at (w ∷ ws) (v ∷ vs) zero width fit at =
    let same : w ≡ width = same_Some w width at in
    subst (λ n. slice (v + 2 ^ w * args_as_one ws vs) 0 n ≡ v) same (first v (args_as_one ws vs) w fit.0)
  where
    first : (a b w : ℕ) → a < 2 ^ w → (a + 2 ^ w * b) / 2 ^ 0 % 2 ^ w ≡ a
    first a b w lt =
        let turned : a + 2 ^ w * b ≡ b * 2 ^ w + a = omega arith in
        let whole : (a + 2 ^ w * b) / 2 ^ 0 ≡ a + 2 ^ w * b = omega arith in
        ap (λ n. n % 2 ^ w) (whole ∙ turned) ∙ mod_low b w a lt
args_at (w ∷ ws) (v ∷ vs) (suc i) width fit at =
    let size : sum (w ∷ take i ws) ≡ w + sum (take i ws) = sum_by-cons (λ x. x) w (take i ws) in
    let turned : v + 2 ^ w * args_as_one ws vs ≡ args_as_one ws vs * 2 ^ w + v = omega arith in
    let high : (v + 2 ^ w * args_as_one ws vs) / 2 ^ w ≡ args_as_one ws vs = ap (λ n. n / 2 ^ w) turned ∙ shr_high (args_as_one ws vs) w v fit.0 in
    ap (λ n. slice (v + 2 ^ w * args_as_one ws vs) n width) size
    ∙ ap (λ n. n % 2 ^ width) (sym (shr-shr (v + 2 ^ w * args_as_one ws vs) w (sum (take i ws))) ∙ ap (λ n. n / 2 ^ sum (take i ws)) high)
    ∙ args_at ws vs i width fit.1 at

pub has_arguments : (ws vs : List ℕ) → AllZip Fits ws vs → HasArguments ws vs (args_as_one ws vs)
has_arguments ws vs fit i width at = args_at ws vs i width fit at
