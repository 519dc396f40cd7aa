-- The units so far are known, and the rules say of those that come what they say of all.
use Rattle.std.proofs.Common.{◌+◌, ◌++◌, map, drop}
use Rattle.rmt_config.specs.TableForm.{placed_from, tables_are_formed}
use Rattle.rmt_config.proofs.TableLaws.{Reached}
use Rattle.rmt_config.proofs.form.tables.tables_fit.Given as goal

abbrev pub invariant-loop-number : goal.invariant-loop-number
invariant-loop-number l = Reached l.nodes (placed_from l.number (drop l.number l.stages)) (tables_are_formed l.config)

abbrev pub invariant-loop-unit : goal.invariant-loop-unit
invariant-loop-unit l =
    Reached l.nodes (map (λ unit. record { stage = l.number; unit = unit }) (drop l.unit-index l.unit-items) ++ placed_from (l.number + 1) (drop (l.number + 1) l.stages)) (tables_are_formed l.config)
