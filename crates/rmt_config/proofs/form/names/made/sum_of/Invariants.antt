use Rattle.std.proofs.Common.{◌≡◌, ◌≤◌, ◌*◌, take}
use Rattle.std.specs.Prelude.{sum}
use Rattle.rmt_config.proofs.form.names.made.sum_of.Given as goal

abbrev pub invariant-loop-width : goal.invariant-loop-width
invariant-loop-width l = record { value : l.total ≡ sum (take l.width-index l.widths); small : l.total ≤ 255 * l.width-index }
