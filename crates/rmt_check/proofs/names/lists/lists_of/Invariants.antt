use Rattle.std.proofs.Common.{◌≡◌, take}
use Rattle.rmt_check.specs.StoredFields.{list_names}
use Rattle.rmt_check.proofs.names.lists.lists_of.Given as goal

abbrev pub invariant-loop-table : goal.invariant-loop-table
invariant-loop-table l = l.lists ≡ list_names (take l.table-index l.tables)
