use Rattle.std.proofs.Common.{refl, ◌∙◌}
use Rattle.rmt_chip.specs.PacketsInFlight.{numbers_after}
use Rattle.rmt_chip.proofs.StandsLaws.{took_counting}
use Rattle.rmt_chip.proofs.chip.Chip.reserve.Goals as goal

pub returns-in_err-reserve-clause-stands : goal.returns-in_err-reserve-clause-stands
returns-in_err-reserve-clause-stands c = λ config inputs stands.
    took_counting config (numbers_after config inputs) (numbers_after config inputs) inputs c.args.self.now _ refl refl refl refl refl refl refl refl (λ later was. c.reserve.ensures.counts ∙ was) stands

pub returns-clause-stands : goal.returns-clause-stands
returns-clause-stands c = λ config inputs stands.
    took_counting config (numbers_after config inputs) (numbers_after config inputs) inputs c.args.self.now _ refl refl refl refl refl refl refl refl (λ later was. c.reserve.ensures.counts ∙ was) stands
