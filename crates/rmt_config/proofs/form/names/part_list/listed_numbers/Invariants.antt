use Rattle.std.proofs.Common.{◌≡◌, ◌++◌, drop}
use Rattle.rmt_config.specs.PartsTold.{parts_at, listed_numbers}
use Rattle.rmt_config.proofs.form.names.part_list.listed_numbers.Given as goal

abbrev pub invariant-loop-part : goal.invariant-loop-part
invariant-loop-part l = l.numbers.items ++ listed_numbers (parts_at (drop l.part-index l.parts)) ≡ listed_numbers (parts_at l.parts)
