use Rattle.std.proofs.Common.{◌≡◌, ℕ, List, subst}
use Rattle.std.specs.Prelude.{Contains}
use Rattle.rmt_pack.specs.declared.shape.Shape.{Shape}
use Rattle.rmt_pack.specs.Rows.{blocks_of}
use Rattle.rmt_filling.specs.Listing.{masks_of, values_of}
use Rattle.rmt_filling.proofs.ternary.write_ternary_part.Goals as goal

pub returns-clause-others : goal.returns-clause-others
returns-clause-others c =
    subst (λ (s : Shape). (b r : ℕ) → (Contains s.records b → ⊥) → blocks_of c.write_rows.new.sram b r ≡ blocks_of c.args.sram.now b r) c.in_ok-shape.ensures c.in_ok-write_rows.ensures.others

pub returns-clause-other_values : goal.returns-clause-other_values
returns-clause-other_values c =
    subst (λ (ks : List ℕ). (b r : ℕ) → (Contains ks b → ⊥) → values_of c.write_rows.new.tcam b r ≡ values_of c.args.tcam.now b r) c.as_slice-keys.ensures c.in_ok-write_rows.ensures.other_values

pub returns-clause-other_masks : goal.returns-clause-other_masks
returns-clause-other_masks c =
    subst (λ (ks : List ℕ). (b r : ℕ) → (Contains ks b → ⊥) → masks_of c.write_rows.new.tcam b r ≡ masks_of c.args.tcam.now b r) c.as_slice-keys.ensures c.in_ok-write_rows.ensures.other_masks
