-- The age at which packets leave: at most 384, and 12 cycles or more behind the start of each stage.
use Rattle.std.proofs.Common.{◌≡◌, ℕ, ◌+◌, ◌-◌, ◌<◌, ◌≤◌, List, [], ◌∷◌, length, ap, ⊎_elim, arith}
use Rattle.std.proofs.lemmas.Bool.{cases_lt}
use Rattle.rmt_chip.specs.Types.{Stage}
use Rattle.rmt_config.specs.ChipRun.{latency_of}
use Rattle.rmt_config.proofs.RunLaws.{latency_last}
use Rattle.rmt_chip.specs.Runnable.{start_of, StagesFit}
use Rattle.rmt_chip.proofs.LifeLaws.{Rise, start_of-get}

pub latency-le : (stages : List Stage) → StagesFit stages → latency_of stages ≤ 384
latency-le [] fit = omega arith
latency-le (s ∷ rest) fit =
    let stages : List Stage = s ∷ rest in
    let inside : length stages - 1 < length stages = omega arith in
    let e = latency_last stages s (omega arith) in
    let at = start_of-get stages (length stages - 1) s inside in
    let last : start_of stages (length stages - 1) ≤ 372 = fit.last (length stages - 1) inside in
    omega arith

pub start-le : (stages : List Stage) → Rise stages → (k : ℕ) → k < length stages → start_of stages k + 12 ≤ latency_of stages
start-le [] rise k inside = absurd (omega (arith, inside))
start-le (s ∷ rest) rise k inside =
    let stages : List Stage = s ∷ rest in
    let n = length stages - 1 in
    let last : n < length stages = omega arith in
    let e = latency_last stages s (omega arith) in
    let at = start_of-get stages n s last in
    ⊎_elim
    (λ (h : k < n). let less : start_of stages k < start_of stages n = rise k n h last in omega arith)
    (λ (h : n ≤ k).
    let same : k ≡ n = omega arith in
    let alike = ap (start_of stages) same in
    omega arith)
    (cases_lt k n)
