use Rattle.std.proofs.Common.{◌≡◌, drop}
use Rattle.std.specs.List.{list_all}
use Rattle.rmt_config.specs.Types.{Stage}
use Rattle.rmt_config.specs.NamesForm.{is_named}
use Rattle.rmt_config.proofs.form.names.tables.stages_are_named.Given as goal

abbrev pub invariant-loop-stage : goal.invariant-loop-stage
invariant-loop-stage l =
    list_all (λ (stage : Stage). list_all (is_named l.names) stage.units) (drop l.stage-index l.stages) ≡ list_all (λ (stage : Stage). list_all (is_named l.names) stage.units) l.stages
