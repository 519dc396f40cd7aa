use Rattle.std.proofs.Common.{◌≡◌, ℕ, ◌+◌, ◌*◌, List, ◌∷◌, ◌++◌, [], refl, sym, subst, ◌∙◌, arith}
use Rattle.std.proofs.lemmas.Nat.{and_le_r}
use Rattle.rmt_filling.specs.Types.{TcamRow}
use Rattle.rmt_filling.specs.Listing.{IsTcamListed, IsTcamRow, values_of, masks_of}
use Rattle.rmt_filling.proofs.ListedLaws.{tcam-push, tcam-skip}
use Rattle.rmt_filling.proofs.listing.push_tcam.Goals as goal
use Rattle.rmt_filling.proofs.listing.push_tcam.Goals.{then-word-ne0+in_ok-push, else-word-ne0}

pub loop-row-preserved : goal.loop-row-preserved
loop-row-preserved c =
    let values = values_of c.args.rows.now in
    let masks = masks_of c.args.rows.now in
    let row = c.loop-row.row in
    let at = 2048 * c.args.block + row in
    let next : at + 1 ≡ 2048 * c.args.block + (row + 1) = omega arith in
    let word = c.row-word.result in
    let y : TcamRow = record { block = c.args.block; row = row; value = word.value; mask = word.mask } in
    elim c.if-word-ne0.branch as (λ _. IsTcamListed values masks (2048 * c.args.block + (row + 1)) c.if-word-ne0.told) [
      | then-word-ne0+in_ok-push w ↦
          let told : c.if-word-ne0.told ≡ c.loop-row.told ++ y ∷ [] = w.told-is ∙ w.in_ok-push.ensures.ok in
          let is : IsTcamRow values masks y = record {
            row = omega arith;
            value = c.row-word.ensures.value_within;
            mask = c.row-word.ensures.mask_within;
            some = w.if-word-ne0.true;
            masked = c.row-word.ensures.masked;
            there = c.row-word.ensures.mask;
          } in
          subst (λ (n : ℕ). IsTcamListed values masks n c.if-word-ne0.told) next
          (subst (λ (xs : List TcamRow). IsTcamListed values masks (at + 1) xs) (sym told)
          (tcam-push values masks at c.loop-row.told y c.loop-row.invariant is c.row-word.ensures.value refl))
      | else-word-ne0 w ↦
          let none : word.mask ≡ 0 = w.if-word-ne0.false in
          let least : word.value ≡ 0 =
          omega (arith, and_le_r word.value word.mask, c.row-word.ensures.masked, none) in
          let told : c.if-word-ne0.told ≡ c.loop-row.told = w.told-is in
          subst (λ (n : ℕ). IsTcamListed values masks n c.if-word-ne0.told) next
          (subst (λ (xs : List TcamRow). IsTcamListed values masks (at + 1) xs) (sym told)
          (tcam-skip values masks c.args.block row c.loop-row.told c.loop-row.invariant (omega arith) (sym c.row-word.ensures.value ∙ least) (sym c.row-word.ensures.mask ∙ none)))
    ]
