use Rattle.std.proofs.Common.{take}
use Rattle.rmt_ast.specs.NameList.{HasNumbers}
use Rattle.rmt_check.specs.StoredFields.{all_codes, stored}
use Rattle.rmt_check.proofs.names.fields.add_places.Given as goal

abbrev pub invariant-loop-place : goal.invariant-loop-place
invariant-loop-place l = HasNumbers stored l.numbers.entries (all_codes (take l.place l.fields))
