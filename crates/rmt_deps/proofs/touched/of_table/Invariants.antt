use Rattle.std.proofs.Common.{◌≡◌, ◌∷◌, take}
use Rattle.std.specs.List.{flat_map}
use Rattle.rmt_phv.specs.Places.{written_by}
use Rattle.rmt_deps.specs.Edges.{read_by, of_action}
use Rattle.rmt_deps.proofs.touched.of_table.Given as goal

-- the key so far
abbrev pub invariant-loop-field : goal.invariant-loop-field
invariant-loop-field l = l.keys ≡ take l.field-index l.field-items

-- what the default and the actions so far read and write
abbrev pub invariant-loop-action : goal.invariant-loop-action
invariant-loop-action l = record {
  reads : l.reads ≡ flat_map (of_action l.program read_by) (l.table.default ∷ take l.action-index l.action-items);
  writes : l.writes ≡ flat_map (of_action l.program written_by) (l.table.default ∷ take l.action-index l.action-items);
}
