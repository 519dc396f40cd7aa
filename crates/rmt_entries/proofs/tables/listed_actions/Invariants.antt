use Rattle.std.proofs.Common.{◌≡◌, ◌++◌, drop, map}
use Rattle.rmt_ast.specs.EntryLists.{params_of}
use Rattle.rmt_ast.specs.NameList.{seen}
use Rattle.rmt_ast.specs.Naming.{name_of_action}
use Rattle.rmt_entries.proofs.tables.listed_actions.Given as goal

-- the names and the widths so far, and then the others
abbrev pub invariant-loop-action : goal.invariant-loop-action
invariant-loop-action l = record {
  names : seen l.names.items ++ map (name_of_action l.program) (drop l.action-index l.actions) ≡ map (name_of_action l.program) l.actions;
  params : seen l.params.items ++ map (params_of l.program) (drop l.action-index l.actions) ≡ map (params_of l.program) l.actions;
}
