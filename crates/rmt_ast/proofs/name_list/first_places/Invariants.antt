use Rattle.std.proofs.Common.{take}
use Rattle.rmt_ast.specs.NameList.{HasNumbers, bytes_of, seen}
use Rattle.rmt_ast.proofs.name_list.first_places.Given as goal

abbrev pub invariant-loop-place : goal.invariant-loop-place
invariant-loop-place l = HasNumbers bytes_of l.numbers.entries (seen (take l.place l.names))
