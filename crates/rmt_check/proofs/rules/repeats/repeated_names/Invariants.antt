use Rattle.std.proofs.Common.{◌≡◌, map, take}
use Rattle.rmt_check.proofs.SeenNames.{told_ident}
use Rattle.rmt_check.proofs.rules.repeats.repeated_names.Given as goal

abbrev pub invariant-loop-item : goal.invariant-loop-item
invariant-loop-item g l = map told_ident l.marks.items ≡ map g.T.Labelled.ident_of (take l.item-index l.items)
