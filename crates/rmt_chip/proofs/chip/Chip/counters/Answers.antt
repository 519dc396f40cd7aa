use Rattle.std.proofs.Common.{List, [], ap, ◌∙◌}
use Rattle.std.proofs.lemmas.List.{append-nil}
use Rattle.rmt_bits.specs.Counts.{counts}
use Rattle.rmt_config.specs.RunInputs.{Input, hits_from}
use Rattle.rmt_chip.specs.PacketsInFlight.{numbers_after}
use Rattle.rmt_chip.proofs.chip.Chip.counters.Goals as goal

pub returns : goal.returns
returns c = λ config inputs stands.
    (stands.in_flight []).counters_are ∙ ap (λ (run : List Input). counts (numbers_after config inputs) (hits_from config run 0 inputs)) (append-nil inputs)
