use Rattle.std.proofs.Common.{◌≡◌, drop}
use Rattle.rmt_config.specs.TableForm.{same_lanes}
use Rattle.rmt_config.proofs.form.tables.lanes_agree.Given as goal

abbrev pub invariant-loop-at : goal.invariant-loop-at
invariant-loop-at l = same_lanes (drop l.at l.a) (drop l.at l.b) ≡ same_lanes l.a l.b
