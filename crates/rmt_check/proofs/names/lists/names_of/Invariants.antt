use Rattle.std.proofs.Common.{◌≡◌, map, take}
use Rattle.rmt_ast.specs.NameList.{seen}
use Rattle.rmt_check.proofs.names.lists.names_of.Given as goal

abbrev pub invariant-loop-part : goal.invariant-loop-part
invariant-loop-part g l = seen l.names.items ≡ map (λ x. (g.T.Labelled.ident_of x).name) (take l.part-index l.parts)
