-- By what changed cells are put in order: stage, unit and cell.
use Rattle.std.specs.Prelude.{ℕ}
use Rattle.std.specs.Ordering.{nat_cmp, ordering_then}
use Rattle.std.specs.declared.cmp.Ordering.{Ordering}
use Rattle.rmt_config.specs.declared.cell_write.CellWrite.{CellWrite}

-- the key of a changed cell: its stage, its unit, and its number
abbrev pub ChangeKey : Type 0
ChangeKey = (ℕ × ℕ) × ℕ

abbrev pub change_key : CellWrite → ChangeKey
change_key w = ((w.stage, w.unit), w.cell)

-- the order of keys
abbrev pub key_cmp : ChangeKey → ChangeKey → Ordering
key_cmp a b = ordering_then (ordering_then (nat_cmp a.0.0 b.0.0) (nat_cmp a.0.1 b.0.1)) (nat_cmp a.1 b.1)
