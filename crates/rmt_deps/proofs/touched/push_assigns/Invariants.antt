use Rattle.std.proofs.Common.{◌≡◌, ◌++◌, map, take}
use Rattle.std.specs.List.{flat_map}
use Rattle.rmt_ast.specs.declared.program.Assign.{Assign}
use Rattle.rmt_deps.specs.Edges.{expr_fields}
use Rattle.rmt_deps.proofs.touched.push_assigns.Given as goal

-- what the assignments so far read and write
abbrev pub invariant-loop-assign : goal.invariant-loop-assign
invariant-loop-assign l = record {
  reads : l.reads ≡ l.initial.reads ++ flat_map (λ (x : Assign). expr_fields x.expr) (take l.assign-index l.assigns);
  writes : l.writes ≡ l.initial.writes ++ map (λ (x : Assign). x.dest) (take l.assign-index l.assigns);
}
