use Rattle.std.proofs.Common.{refl}
use Rattle.rmt_config.specs.RunInputs.{Turns}
use Rattle.rmt_chip.specs.PacketsInFlight.{numbers_after}
use Rattle.rmt_chip.proofs.StandsLaws.{stands_committed}
use Rattle.rmt_chip.proofs.chip.Chip.clock_commit.Goals as goal

pub returns-clause-stands : goal.returns-clause-stands
returns-clause-stands c = λ config inputs stands.
    stands_committed config inputs c.args.seed c.turn-answer.new.self _ (c.turn-answer.ensures.goes config (numbers_after config inputs) inputs (Turns c.args.seed) refl stands).0 refl refl refl refl refl refl refl refl refl

pub returns-clause-answers : goal.returns-clause-answers
returns-clause-answers c = λ config inputs stands. (c.turn-answer.ensures.goes config (numbers_after config inputs) inputs (Turns c.args.seed) refl stands).1
