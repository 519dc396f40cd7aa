use Rattle.std.proofs.Common.{◌≡◌, ◌++◌, take}
use Rattle.std.specs.List.{flat_map}
use Rattle.rmt_config.specs.CellForm.{numbers_of_stage}
use Rattle.rmt_config.proofs.form.numbers.put_stages_numbers.Given as goal

abbrev pub invariant-loop-stage : goal.invariant-loop-stage
invariant-loop-stage l = l.numbers.items ≡ l.fn.numbers.items ++ flat_map numbers_of_stage (take l.stage-index l.stages)
