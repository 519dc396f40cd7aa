use Rattle.std.proofs.Common.{◌≡◌, ℕ, ◌+◌, ◌*◌, List, ◌∷◌, ◌++◌, [], refl, sym, subst, ◌∙◌, arith}
use Rattle.rmt_filling.specs.Types.{SramRow}
use Rattle.rmt_pack.specs.Rows.{blocks_of}
use Rattle.rmt_filling.specs.Listing.{IsSramListed, IsSramRow}
use Rattle.rmt_filling.proofs.ListedLaws.{sram-push, sram-skip}
use Rattle.rmt_filling.proofs.listing.push_sram.Goals as goal
use Rattle.rmt_filling.proofs.listing.push_sram.Goals.{then-bits-ne0+in_ok-push, else-bits-ne0}

pub loop-row-preserved : goal.loop-row-preserved
loop-row-preserved c =
    let held = blocks_of c.args.rows.now in
    let row = c.loop-row.row in
    let at = 1024 * c.args.block + row in
    let next : at + 1 ≡ 1024 * c.args.block + (row + 1) = omega arith in
    let y : SramRow = record { block = c.args.block; row = row; bits = c.row-bits.result } in
    elim c.if-bits-ne0.branch as (λ _. IsSramListed held (1024 * c.args.block + (row + 1)) c.if-bits-ne0.told) [
      | then-bits-ne0+in_ok-push w ↦
          let told : c.if-bits-ne0.told ≡ c.loop-row.told ++ y ∷ [] = w.told-is ∙ w.in_ok-push.ensures.ok in
          let is : IsSramRow held y = record { row = omega arith; bits = c.row-bits.ensures.within; some = w.if-bits-ne0.true; there = c.row-bits.ensures.value } in
          subst (λ (n : ℕ). IsSramListed held n c.if-bits-ne0.told) next
          (subst (λ (xs : List SramRow). IsSramListed held (at + 1) xs) (sym told) (sram-push held at c.loop-row.told y c.loop-row.invariant is refl))
      | else-bits-ne0 w ↦
          let told : c.if-bits-ne0.told ≡ c.loop-row.told = w.told-is in
          subst (λ (n : ℕ). IsSramListed held n c.if-bits-ne0.told) next
          (subst (λ (xs : List SramRow). IsSramListed held (at + 1) xs) (sym told) (sram-skip held c.args.block row c.loop-row.told c.loop-row.invariant (omega arith) (sym c.row-bits.ensures.value ∙ w.if-bits-ne0.false)))
    ]
