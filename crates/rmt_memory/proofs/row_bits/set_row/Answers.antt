use Rattle.std.proofs.Common.{◌≡◌, ◌+◌, ◌*◌, ◌%◌, ◌<◌, ◌≤◌, ◌==◌, sym, ap, ◌∙◌, arith, inl, inr}
use Rattle.std.specs.Prelude.{bit_and}
use Rattle.std.proofs.lemmas.Bool.{cases_lt}
use Rattle.std.proofs.lemmas.Nat.{mul-le}
use Rattle.rmt_bits.specs.Grouping.{Compared}
use Rattle.rmt_memory.specs.Slicing.{nibble, leaves, bit_if, bit_in}
use Rattle.rmt_memory.proofs.SliceLaws.{leaves-is}
use Rattle.rmt_memory.proofs.row_bits.set_row.Goals as goal

pub set_nibble-requires-clause-within : goal.set_nibble-requires-clause-within
set_nibble-requires-clause-within c =
    let w = c.args.width in
    let most : (16 * c.loop-at.at + 16) * w ≤ (160 * c.args.words + 3) * w =
    mul-le (16 * c.loop-at.at + 16) w (160 * c.args.words + 3) w (omega arith) (omega arith) in
    omega (arith, most, c.loop-at.invariant.size, c.requires.all)

pub loop-at-preserved : goal.loop-at-preserved
loop-at-preserved c =
    let w = c.args.width in
    let row = c.args.row in
    let n = c.loop-at.at in
    let e : Compared = record { masks = c.args.masks.now; values = c.args.values.now } in
    record {
      size = c.set_nibble.ensures.size ∙ c.loop-at.invariant.size;
      leaves = λ v lt.
          elim (cases_lt v (16 * n)) as (λ _. bit_in c.set_nibble.new.bits w v row ≡ bit_if (leaves e v)) [
            | inl less ↦ c.set_nibble.ensures.others v row c.requires.row (λ low high. absurd (omega (arith, low, less))) ∙ c.loop-at.invariant.leaves v less
            | inr more ↦
                let x = v % 16 in
                let split : 16 * n + x ≡ v = omega (arith, more, lt) in
                let small : x < 16 = omega arith in
                ap (λ m. bit_in c.set_nibble.new.bits w m row) (sym split)
                ∙ c.set_nibble.ensures.set x small
                ∙ ap (λ m. bit_if (bit_and x m == c.nibble-value.result)) c.nibble-mask.ensures.value
                ∙ ap (λ m. bit_if (bit_and x (nibble c.args.masks.now n) == m)) c.nibble-value.ensures.value
                ∙ ap bit_if (sym (leaves-is e n x small))
                ∙ ap (λ m. bit_if (leaves e m)) split
          ];
      others = λ v r inside ne. c.set_nibble.ensures.others v r inside (λ low high. ne) ∙ c.loop-at.invariant.others v r inside ne;
    }
