use Rattle.std.proofs.Common.{◌∙◌}
use Rattle.rmt_plain.proofs.StandsLaws.{counts_alone}
use Rattle.rmt_plain.proofs.plain.Plain.counters.Goals as goal

pub returns-clause-packets : goal.returns-clause-packets
returns-clause-packets c = λ p lists packets stands. stands.counters_are ∙ counts_alone p lists packets
