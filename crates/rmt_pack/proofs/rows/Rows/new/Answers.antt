use Rattle.std.proofs.Common.{◌^◌, ◌<◌, sym, ◌∙◌, subst}
use Rattle.std.proofs.lemmas.List.{get_or_default}
use Rattle.std.proofs.lemmas.Nat.{pow_pos}
use Rattle.rmt_pack.specs.Rows.{blocks_of}
use Rattle.rmt_pack.proofs.RowLaws.{row_at-none}
use Rattle.rmt_pack.proofs.rows.Rows.new.Goals as goal

pub invariant_of-result : goal.invariant_of-result
invariant_of-result c = record {
  whole = c.in_ok-bits.ensures.len;
  within = λ k d lt. subst (λ n. n < 2 ^ 112) (sym (get_or_default c.in_ok-bits.bits.items k d 0 lt ∙ c.in_ok-bits.ensures.zero k)) (pow_pos 112);
}

pub returns : goal.returns
unfolding blocks_of
returns c block row = row_at-none c.in_ok-bits.bits.items block row (λ k. c.in_ok-bits.ensures.zero k)
