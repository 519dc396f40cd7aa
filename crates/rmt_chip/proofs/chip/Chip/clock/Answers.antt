use Rattle.rmt_chip.specs.Inputs.{input_of}
use Rattle.rmt_config.specs.RunInputs.{input_of as input_with}
use Rattle.rmt_chip.specs.PacketsInFlight.{numbers_after}
use Rattle.rmt_chip.proofs.StandsLaws.{packet_back, stands_clocked}
use Rattle.rmt_chip.proofs.chip.Chip.clock.Goals as goal

pub returns-clause-stands : goal.returns-clause-stands
returns-clause-stands c = λ config inputs stands.
    let packet = input_of c.args.frame in
    stands_clocked config inputs packet c.turn.new.self (c.turn.ensures.goes config (numbers_after config inputs) inputs (input_with packet) (packet_back packet) stands).0

pub returns-clause-answers : goal.returns-clause-answers
returns-clause-answers c = λ config inputs stands.
    let packet = input_of c.args.frame in
    (c.turn.ensures.goes config (numbers_after config inputs) inputs (input_with packet) (packet_back packet) stands).1
