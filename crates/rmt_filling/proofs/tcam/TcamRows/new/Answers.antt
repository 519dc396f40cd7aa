use Rattle.std.proofs.Common.{◌≡◌, ◌∙◌, ℕ, List, ◌^◌, ◌<◌, get_or, sym, ap, subst, arith}
use Rattle.std.specs.Prelude.{All, bit_and}
use Rattle.std.proofs.lemmas.Grind.{get_or_default_zero}
use Rattle.rmt_filling.specs.Listing.{values_of, masks_of}
use Rattle.rmt_filling.proofs.GridLaws.{row_in-none}
use Rattle.rmt_filling.proofs.tcam.TcamRows.new.Goals as goal

pub returns-clause-values : goal.returns-clause-values
unfolding values_of
returns-clause-values c block row = row_in-none 2048 c.in_ok-values.values.items block row (λ k. c.in_ok-values.ensures.zero k)

pub returns-clause-masks : goal.returns-clause-masks
unfolding masks_of
returns-clause-masks c block row = row_in-none 2048 c.in_ok-masks.masks.items block row (λ k. c.in_ok-masks.ensures.zero k)

-- numbers that are all 0 are small
small : (xs : List ℕ) → ((k : ℕ) → get_or xs k 0 ≡ 0) → All (λ v. v < 2 ^ 40) xs
small xs zero k d lt = subst (λ v. v < 2 ^ 40) (sym (get_or_default_zero xs k d lt ∙ zero k)) (omega arith)

pub invariant_of-result : goal.invariant_of-result
invariant_of-result c =
    let values = c.in_ok-values.ensures in
    let masks = c.in_ok-masks.ensures in
    record {
      values_whole = values.len;
      masks_whole = masks.len;
      values_within = small c.in_ok-values.values.items values.zero;
      masks_within = small c.in_ok-masks.masks.items masks.zero;
      masked = λ k. ap (λ v. bit_and v (get_or c.in_ok-masks.masks.items k 0)) (values.zero k) ∙ ap (bit_and 0) (masks.zero k) ∙ sym (values.zero k);
    }
