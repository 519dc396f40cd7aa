use Rattle.std.proofs.Common.{◌≤◌, ◌<◌, ◌^◌, ap, sym, ◌∙◌, Option, ℕ, get_or, arith}
use Rattle.rmt_chip.specs.Types.{UnitGuard}
use Rattle.rmt_config.specs.Life.{guarded}
use Rattle.rmt_chip.proofs.DecidingLaws.{high_test}
use Rattle.rmt_chip.proofs.outcomes.is_guarded.Goals as goal
use Rattle.rmt_bits.proofs.BitLaws.{no_bit-above}

pub returns-else-outcome-lt16 : goal.returns-else-outcome-lt16
returns-else-outcome-lt16 c =
    let outcomes = c.args.outcomes.now in
    let g = c.in-Some.guard in
    let same = ap (λ (i : ℕ). get_or outcomes i 0) c.from.ensures in
    let high : 16 ≤ get_or outcomes g.parent 0 = omega arith in
    let mask : g.mask < 2 ^ 16 = omega arith in
    high_test (get_or outcomes c.from.result 0) c.if-outcome-lt16.false
    ∙ sym (ap (λ (o : Option UnitGuard). guarded o outcomes) c.in-Some.is ∙ no_bit-above g.mask (get_or outcomes g.parent 0) mask high)
