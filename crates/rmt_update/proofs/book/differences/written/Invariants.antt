use Rattle.std.proofs.Common.{◌≡◌, map}
use Rattle.std.specs.Prelude.{vec_capacity}
use Rattle.rmt_update.specs.declared.book.changing.CellChange.{CellChange}
use Rattle.rmt_update.specs.Changing.{ChangeKey}
use Rattle.rmt_update.proofs.book.differences.written.Given as goal

-- those so far are put to the others, and there is room for all
abbrev pub invariant-loop-change : goal.invariant-loop-change
invariant-loop-change l = record {
  writes : l.writes.items ≡ map (λ (x : ChangeKey × CellChange). x.1.write) l.yielded;
  room : vec_capacity l.writes ≡ vec_capacity l.initial.writes;
}
