use Rattle.std.proofs.Common.{◌≡◌, drop, map}
use Rattle.rmt_config.specs.Types.{ParserEntry}
use Rattle.rmt_config.specs.Order.{never_falls_from}
use Rattle.rmt_config.proofs.form.parser.stand_by_state.Given as goal

abbrev pub invariant-loop-entry : goal.invariant-loop-entry
invariant-loop-entry l = never_falls_from l.least (map (λ (e : ParserEntry). e.state) (drop l.entry-index l.entries)) ≡ never_falls_from 0 (map (λ (e : ParserEntry). e.state) l.entries)
