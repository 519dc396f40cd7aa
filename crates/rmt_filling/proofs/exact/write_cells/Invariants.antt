use Rattle.std.proofs.Common.{◌≡◌, ℕ, ◌++◌, take}
use Rattle.std.specs.Prelude.{Contains}
use Rattle.rmt_pack.specs.Rows.{blocks_of}
use Rattle.rmt_filling.specs.Holding.{ExactSo}
use Rattle.rmt_filling.proofs.exact.write_cells.Given as goal

-- the entries so far
abbrev pub invariant-loop-stand : goal.invariant-loop-stand
invariant-loop-stand l = record {
  holds : ExactSo l.part.program.now l.part.table.now l.part.entries.now l.part.first (blocks_of l.sram) l.shape (take l.stand-index l.part.stands.now);
  others : (b r : ℕ) → (Contains (l.shape.keys ++ l.shape.records) b → ⊥) → blocks_of l.sram b r ≡ blocks_of l.fn.sram b r;
}
