use Rattle.std.proofs.Common.{◌≡◌, take}
use Rattle.std.specs.List.{filter}
use Rattle.rmt_config.specs.Marks.{is_marked}
use Rattle.rmt_config.proofs.form.names.repeats.marked.Given as goal

abbrev pub invariant-loop-number : goal.invariant-loop-number
invariant-loop-number l = l.found.items ≡ filter (is_marked l.words) (take l.number-index l.numbers)
