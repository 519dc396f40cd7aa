use Rattle.std.proofs.Common.{◌≡◌, ℕ, ◌++◌, subst}
use Rattle.std.specs.Prelude.{Contains}
use Rattle.rmt_pack.specs.declared.shape.Shape.{Shape}
use Rattle.rmt_pack.specs.Rows.{blocks_of}
use Rattle.rmt_filling.proofs.exact.write_exact_part.Goals as goal

pub returns-clause-others : goal.returns-clause-others
returns-clause-others c =
    subst (λ (s : Shape). (b r : ℕ) → (Contains (s.keys ++ s.records) b → ⊥) → blocks_of c.write_cells.new.sram b r ≡ blocks_of c.args.sram.now b r) c.in_ok-shape.ensures
    c.in_ok-write_cells.ensures.others
