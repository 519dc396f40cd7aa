use Rattle.std.proofs.Common.{◌≡◌, ◌++◌, drop}
use Rattle.rmt_check.specs.Names.{declared_fields}
use Rattle.rmt_check.specs.StoredFields.{owner_at}
use Rattle.rmt_check.proofs.names.fields.add_declared.Given as goal

abbrev pub invariant-loop-field : goal.invariant-loop-field
invariant-loop-field l =
    l.fields ++ declared_fields (owner_at l.owner) l.owner_name (drop l.field-index l.declared)
    ≡ l.fn.fields ++ declared_fields (owner_at l.owner) l.owner_name l.declared
